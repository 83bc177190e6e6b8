-- A locator of two terms, at the one position p where its value is zero: its second coefficient is X p times the first.
--
-- Proved: the position by logarithms (one_place); what stands there is the walk's answer, where p is below n
-- (one_found) and where it is not (one_none).
use Rattle.std.specs.Prelude.{ℕ, suc, ◌+◌, ◌-◌, ◌≤◌, ◌<◌, ◌%◌, ◌≡◌, ◌≢◌, set, replicate}
use Rattle.std.proofs.Common.{sym, ap, ap₂, ◌∙◌, add-one, arith}
use Rattle.field.specs.declared.Gf.{Gf}
use Rattle.field.specs.Field.{F, 𝟎, 𝟏, α, ◌⊕◌, ◌⊙◌, inv, val, log, ⊕_self, ⊕-equal, zero-⊕, ⊙-ring}
use Rattle.field.proofs.Field.{⊙_cancel}
use Rattle.field.specs.Field.{⊙-one, one-⊙, ⊙_comm, pow-zero, pow-one, pow-add}
use Rattle.field.proofs.Field.{mul-inv, inv_mul, inv_unique}
use Rattle.field.proofs.Field.{pow-log, log_lt, power_inj, power_mod}
use Rattle.field.proofs.Inverse.{log_inverse}
use Rattle.series.specs.Series.{Series, O, O-at}
use Rattle.series.specs.Shift.{cut-none, cut_unique}
use Rattle.series.specs.Degree.{below}
use Rattle.series.specs.Value.{value, value_none, value-last, odd, odd_yes, odd_no}
use Rattle.series.specs.Array.{Filled, filled_none, filled_more}
use Rattle.series.specs.Word.{weight, weight-O, weight_cong, weight-take}
use Rattle.settling.specs.Locator.{X, W, X-W}
use Rattle.settling.specs.Candidate.{candidate, candidate-other, hits, hits-root, hits-other}
use Rattle.settle.specs.CandidateLocated.{Met, candidate-at}

pub log-small : (x : F) (i : ℕ) → i ≡ log x → i < 255
log-small x i e = omega (arith, log_lt x)

by_logs : (a b : F) → a ≢ 𝟎 → b ≢ 𝟎 → X ((log b + (255 - log a)) % 255) ⊙ a ≡ b
by_logs a b h k =
    ap (λ t. t ⊙ a) (power_mod _ ∙ pow-add α (log b) (255 - log a) ∙ ap₂ ◌⊙◌ (pow-log b k) (log_inverse a h))
    ∙ (let e : b ⊙ inv a ⊙ a ≡ b ⊙ (inv a ⊙ a) = simp ⊙-ring in e)
    ∙ ap (λ t. b ⊙ t) (inv_mul a h)
    ∙ ⊙-one b

pub one_place : (a b : F) (i j : ℕ) → a ≢ 𝟎 → b ≢ 𝟎 → i ≡ log a → j ≡ log b → X ((j + (255 - i)) % 255) ⊙ a ≡ b
one_place a b i j h k e d = ap₂ (λ s t. X ((t + (255 - s)) % 255) ⊙ a) e d ∙ by_logs a b h k

two-terms : (f : Series) (w : F) → value 2 f w ≡ f 0 ⊕ f 1 ⊙ w
two-terms f w = value-last 1 f w ∙ ap₂ (λ s t. s ⊕ f 1 ⊙ t) first (pow-one w)
  where
    first : value 1 f w ≡ f 0
    first = value-last 0 f w ∙ rw (value_none, pow-zero) (zero-⊕ _ ∙ ⊙-one _)

module _ (Λ Ω : Series) (p : ℕ) (small : p < 255) (nonzero : Λ 0 ≢ 𝟎) (place : X p ⊙ Λ 0 ≡ Λ 1) where
  second : Λ 1 ⊙ W p ≡ Λ 0
  second =
      ap (λ t. t ⊙ W p) (sym place)
      ∙ (let e : X p ⊙ Λ 0 ⊙ W p ≡ X p ⊙ W p ⊙ Λ 0 = simp ⊙-ring in e)
      ∙ rw X-W (⊙_comm 𝟏 (Λ 0) ∙ ⊙-one (Λ 0))

  root : value 2 Λ (W p) ≡ 𝟎
  root = two-terms Λ (W p) ∙ ap (λ t. Λ 0 ⊕ t) second ∙ ⊕_self (Λ 0)

  bottom : value 2 (odd Λ) (W p) ≡ Λ 1 ⊙ W p
  bottom = two-terms (odd Λ) (W p) ∙ rw (odd_no Λ 0 (omega arith), odd_yes Λ 1 (omega arith)) (zero-⊕ _)

  -- w goes out of Forney's formula
  quotient : (t : F) → Λ 1 ≢ 𝟎 → W p ⊙ t ⊙ inv (Λ 1 ⊙ W p) ≡ t ⊙ inv (Λ 1)
  quotient t h =
      let e : Λ 1 ⊙ W p ⊙ (X p ⊙ inv (Λ 1)) ≡ X p ⊙ W p ⊙ (Λ 1 ⊙ inv (Λ 1)) = simp ⊙-ring in
      let f : W p ⊙ t ⊙ (X p ⊙ inv (Λ 1)) ≡ X p ⊙ W p ⊙ (t ⊙ inv (Λ 1)) = simp ⊙-ring in
      ap (λ s. W p ⊙ t ⊙ s) (inv_unique _ _ (e ∙ ap₂ ◌⊙◌ (X-W p) (mul-inv (Λ 1) h) ∙ ⊙-one 𝟏))
      ∙ f
      ∙ ap (λ s. s ⊙ (t ⊙ inv (Λ 1))) (X-W p)
      ∙ one-⊙ _

  -- no other position
  apart : (q : ℕ) → q < p → value 2 Λ (W q) ≢ 𝟎
  apart q h z =
      let e : Λ 0 ≡ Λ 1 ⊙ W q = ⊕-equal _ _ (sym (two-terms Λ (W q)) ∙ z) in
      let swapped : X q ⊙ (Λ 1 ⊙ W q) ≡ X q ⊙ W q ⊙ Λ 1 = simp ⊙-ring in
      let same : Λ 0 ⊙ X q ≡ Λ 0 ⊙ X p = ⊙_comm (Λ 0) (X q) ∙ ap (λ t. X q ⊙ t) e ∙ swapped
      ∙ rw X-W (⊙_comm 𝟏 (Λ 1) ∙ ⊙-one (Λ 1)) ∙ sym place ∙ ⊙_comm _ _ in
      let is : q ≡ p = power_inj q p (omega arith) small (⊙_cancel (Λ 0) nonzero same) in
      omega arith

  no-hits : (m : ℕ) → m ≤ p → weight m (hits 2 Λ) ≡ 0
  no-hits m h = weight_cong m _ O (λ q l. hits-other 2 Λ q (apart q (omega arith)) ∙ sym (O-at q)) ∙ weight-O m

  nothing_before : Filled 255 p (candidate 2 Λ Ω) (replicate 255 (record { 0 = 0 }))
  nothing_before =
      let blank = filled_none 255 O in
      record {
        long = blank.long;
        is = blank.is ∙ cut-none O
            ∙ sym (cut_unique p _ O (λ q l. candidate-other 2 Λ Ω q (apart q l) ∙ sym (O-at q)) (λ q l. O-at q));
      }

  pub one_found : (n m : ℕ) (y : Gf) (b : F)
      → p < n → below m Ω → m ≤ 2 → Λ 1 ≢ 𝟎 → val y ≡ value m Ω (W p) ⊙ inv b → b ≡ Λ 1
      → Met n 2 1 Λ Ω (set (replicate 255 (record { 0 = 0 })) p y)
  one_found n m y b h few l other e is = record {
    end = p + 1;
    room = omega arith;
    is = (filled_more y nothing_before small
        (e ∙ ap (λ t. value m Ω (W p) ⊙ inv t) is ∙ sym (candidate-at 2 m Λ Ω p root few l
        ∙ ap (λ t. W p ⊙ value m Ω (W p) ⊙ inv t) bottom ∙ quotient _ other))).is;
    all = rw add-one (weight-take p (hits 2 Λ) (hits-root 2 Λ p root) ∙ ap suc (no-hits p (omega arith)));
  }

  pub one_none : (n : ℕ) → n ≤ p → weight n (hits 2 Λ) < 1
  one_none n h = omega (arith, no-hits n h)
