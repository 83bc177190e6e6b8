-- A stage of one subword.
--
-- Proved: a pattern added symbol by symbol and part by part (added, added-one, added-zero, added-part, added_clear),
-- and its bits counted (differ_by, counted-one, counted-zero, counted_clear); what verdicts say (clean_is,
-- corrected-is); what becomes of a subword that no pattern settles (took-none), that one settles (took-some), and that
-- is clean (took-clean); with no change at stage 0 the row is zero (no_change).
use Rattle.std.specs.Prelude.{ℕ, zero, suc, ◌+◌, ◌-◌, ◌*◌, ◌≤◌, ◌<◌, ◌≡◌, ◌≢◌, Bool, true, false, ◌&&◌, List, eqb}
use Rattle.std.specs.Prelude.{Option, Some, None, IfSome}
use Rattle.std.proofs.Math.Path.{refl, sym, ap, fun_ext, subst}
use Rattle.std.proofs.Common.{ap₂, ◌∙◌, true≢false, arith, add-zero, add-one, eqb-true, eq-eqb}
use Rattle.std.proofs.Math.Logic.{by_cases}
use Rattle.std.proofs.Math.Decide.{dec_lt, ℕ_discrete}
use Rattle.std.specs.Int.Bits.{bit_xor}
use Rattle.std.proofs.lemmas.Nat.{xor_lt}
use Rattle.std.specs.Int.Count.{ones}
use Rattle.field.specs.declared.Gf.{Gf}
use Rattle.field.specs.Field.{𝟎, ◌⊕◌, ⊕_self-left, of, byte, of_inj, of_xor, byte-zero}
use Rattle.series.specs.Series.{Series, O, K, O-at, ◌⊞◌, ◌⊠◌, ⊠-ring}
use Rattle.series.specs.Shift.{zpow, cut, zpow-add, cut-suc, cut-zero}
use Rattle.series.specs.Degree.{below, below-O, below-cut_eq}
use Rattle.series.specs.Array.{values}
use Rattle.series.specs.Value.{value-zero}
use Rattle.series.specs.Word.{entry, word, weight, entry-word, word_cut, weight-word, weight-O, zero-weight}
use Rattle.series.specs.Decide.{holds}
use Rattle.polynomial.specs.Polynomial.{row, Clear}
use Rattle.polynomial.specs.SyndromesZero.{zero?, zero_not}
use Rattle.profile.specs.declared.Profile.{Profile}
use Rattle.profile.specs.Definition.{capability, first-root}
use Rattle.solver.specs.declared.Form.{Form}
use Rattle.solver.specs.declared.Solver.{Solver}
use Rattle.code.specs.Word.{root}
use Rattle.code.specs.Systematic.{syndrome-is}
use Rattle.settling.specs.Definition.{Explains, settle}
use Rattle.settling.specs.Settle.{settle-zero}
use Rattle.settle.specs.declared.Settled as found
use Rattle.settle.specs.Answer.{answer, Sound}
use Rattle.solver.specs.ContinuationDefinition.{Ended}
use Rattle.staged_decoding.specs.Definition.{verdict_at, clean_line, bit_weight, add, line_rounds, rounds_of}
use Rattle.staged_decoding.specs.Stage.{verdict_later, verdict-first}
use Rattle.staged_decoding.specs.Differences.{ones_none, bit_weight_cong, bit_weight-zeros, bit_weight-more}
use Rattle.stages.specs.declared.attempt.Attempted.{Attempted}
use Rattle.stages.specs.AttemptDefinition.{Ready}
use Rattle.stages.specs.declared.report.Line.{Line}
use Rattle.stages.specs.declared.report.Verdict.{Verdict}
use Rattle.stages.specs.declared.report.Verdict.TheVariants.{Clean, Corrected}
use Rattle.stages.specs.declared.subword.State.TheVariants.{Pending, Settled}
use Rattle.stages.specs.Report.{verdict_of, said}
use Rattle.stages.specs.SubwordDefinition.{Offered, Took}

-- ---- patterns

pub added : (n i a : ℕ) (b c e : Series) → a ≡ i * n → c ≡ b ⊞ zpow a ⊠ e → c ≡ add n i e b
unfolding add
added n i a b c e q h = h ∙ ap (λ k. b ⊞ zpow k ⊠ e) q

-- one symbol more; f is what was added before the first
pub added-one : (a q : ℕ) (b c d e f : Series) → c ⊞ f ≡ b ⊞ zpow a ⊠ cut q e → d ≡ c ⊞ K (e q) ⊠ zpow (a + q)
    → d ⊞ f ≡ b ⊞ zpow a ⊠ cut (q + 1) e
added-one a q b c d e f h one =
    let turned : (c ⊞ K (e q) ⊠ zpow (a + q)) ⊞ f ≡ (c ⊞ f) ⊞ K (e q) ⊠ zpow (a + q) = simp ⊠-ring in
    ap (λ s. s ⊞ f) one ∙ turned ∙ rw (h, zpow-add a q, add-one q, cut-suc q e) (simp ⊠-ring)

-- .. which is zero
pub added-zero : (a q : ℕ) (b c e f : Series) → c ⊞ f ≡ b ⊞ zpow a ⊠ cut q e → e q ≡ 𝟎
    → c ⊞ f ≡ b ⊞ zpow a ⊠ cut (q + 1) e
added-zero a q b c e f h z = rw (cut-zero q e z) h

-- a part more, after f
pub added-part : (b c d f g : Series) → c ≡ b ⊞ f → d ⊞ f ≡ c ⊞ g → d ≡ b ⊞ g
added-part b c d f g h part =
    let twice : d ≡ (d ⊞ f) ⊞ f = simp ⊠-ring in
    twice ∙ rw (part, h) (simp ⊠-ring)

add_none : (n i : ℕ) (b : Series) → b ≡ add n i O b
unfolding add
add_none n i b = simp ⊠-ring

entry-none : (n : ℕ) → entry (word n O) ≡ O
entry-none n = word_cut n O ∙ below-cut_eq n O (below-O n)

-- ---- bits

-- what a symbol x is corrected to differs from it by the change
pub differ_by : (x e : ℕ) → x < 256 → e < 256 → bit_xor x (bit_xor x e) ≡ e
differ_by x e small change =
    of_inj _ e (xor_lt 8 x _ small (xor_lt 8 x e small change)) change
    (of_xor x _ ∙ ap (λ s. of x ⊕ s) (of_xor x e) ∙ ⊕_self-left (of x) (of e))

pub counted-one : (sum q n : ℕ) (e : Series) → sum ≡ bit_weight q e → n ≡ ones (byte (e q))
    → sum + n ≡ bit_weight (q + 1) e
counted-one sum q n e h one = ap₂ ◌+◌ h one ∙ sym (bit_weight-more q e)

pub counted-zero : (sum q : ℕ) (e : Series) → sum ≡ bit_weight q e → e q ≡ 𝟎 → sum ≡ bit_weight (q + 1) e
counted-zero sum q e h z =
    let none : ones (byte (e q)) ≡ 0 = ones_none _ (ap byte z ∙ byte-zero) in
    omega (arith, h, none, bit_weight-more q e)

-- what no step changes is the same in the end
stays : {A : Type 0} (f : ℕ → A) (from to : ℕ) → from ≤ to → ((q : ℕ) → from ≤ q → q < to → f q ≡ f (q + 1))
    → f from ≡ f to
stays f from to h step = go (to - from) to (omega arith) step
  where
    go : (d to : ℕ) → to ≡ from + d → ((q : ℕ) → from ≤ q → q < to → f q ≡ f (q + 1)) → f from ≡ f to
    go zero to is step = ap f (sym (is ∙ add-zero from))
    go (suc d) to is step =
        let last : from + d + 1 ≡ to = omega arith in
        go d (from + d) refl (λ q l m. step q l (omega arith)) ∙ step (from + d) (omega arith) (omega arith) ∙ ap f last

-- a part without a change
module _ (from to : ℕ) (e : Series) (h : from ≤ to) (none : Clear e from to) where
  pub added_clear : (a : ℕ) (b : Series) → b ⊞ zpow a ⊠ cut from e ≡ b ⊞ zpow a ⊠ cut to e
  added_clear a b =
      stays (λ q. b ⊞ zpow a ⊠ cut q e) from to h (λ q l m. ap (λ s. b ⊞ zpow a ⊠ s) (sym (cut-zero q e (none q l m))))

  pub counted_clear : bit_weight from e ≡ bit_weight to e
  counted_clear = stays (λ q. bit_weight q e) from to h (λ q l m. counted-zero _ q e refl (none q l m))

-- ---- verdicts

pub clean_is : (r k : ℕ) → r ≡ 0 → k ≡ 0 → verdict_of Clean ≡ verdict_at r k
clean_is r k e f = rw (e, f)

pub corrected-is : (r k : ℕ) → ¬ ((r ≡ 0) × (k ≡ 0)) → verdict_of (Corrected k r) ≡ verdict_at r k
corrected-is r k h =
    by_cases (ℕ_discrete r 0) (λ e. rw e (sym (verdict-first k (λ f. h (e, f))))) (λ d. sym (verdict_later r k d))

-- ---- what becomes of a subword

module _ (p : Profile) (f : Form) (r i : ℕ) (S : Series) (b : Series) where
  module _ (a : Attempted) (o : Offered p f r S a) where
    pub took-none : a.settled ≡ None → Took p f r i S (answer p.length a.settled) b b (Pending a.solver)
    took-none missing = rw missing (refl, o.solver)

    pub took-some : (w : found.Settled) (c : Series) (v : Verdict) (bits : ℕ) → a.settled ≡ Some w
        → c ≡ add p.length i (cut p.length (values w.pattern)) b
        → verdict_of v ≡ verdict_at r w.count
        → bits ≡ bit_weight p.length (values w.pattern)
        → Took p f r i S (answer p.length a.settled) b c
        (Settled (record { verdict = v; bits = bits; solver = a.solver }))
    took-some w c v bits hit is says counted =
        let n = p.length in
        let g = values w.pattern in
        let (count, some) = rw hit at o.settled in
        let k : w.count ≡ weight n (entry (word n g)) = count ∙ sym (weight-word n g) in
        let same_bits : bit_weight n g ≡ bit_weight n (entry (word n g)) =
        sym (bit_weight_cong n _ g (entry-word n g)) in
        rw hit (
          is ∙ ap (λ e. add n i e b) (sym (word_cut n g)),
          λ j. record { verdict = (says ∙ ap (verdict_at r) k) j; bits = (counted ∙ same_bits) j },
          subst (λ k. Ended f (line_rounds p S (verdict_at r k)) a.solver) k
              (subst (λ v. Ended f (line_rounds p S v) a.solver)
              (corrected-is r _ (λ (e, z). some e z)) o.solver),
        )

  pub took-clean : (t : ℕ) (s : Solver) (l : Line) → p.length ≤ 255 → r ≡ 0 → S ≡ O → Ready p f r S s
      → said l ≡ clean_line → l.solver ≡ s
      → Took p f r i S (settle (first-root p) t p.length S) b b (Settled l)
  took-clean t s l hn e z h blank kept =
      let n = p.length in
      rw (z, settle-zero (first-root p) t n hn, kept) (
        add_none n i b ∙ ap (λ e. add n i e b) (sym (entry-none n)),
        blank ∙ (λ j. record { verdict = clean_is r _ e none-changed j; bits = sym no_bits j }),
        subst (λ v. Ended f (line_rounds p O v) s) (clean_is r _ e none-changed) (rw e at h.ended),
      )
    where
      none-changed : weight p.length (entry (word p.length O)) ≡ 0
      none-changed = weight-word p.length O ∙ weight-O p.length

      no_bits : bit_weight p.length (entry (word p.length O)) ≡ 0
      no_bits = bit_weight-zeros p.length _ (λ q l. entry-word p.length O q l ∙ O-at q)

-- a pattern without a change explains a row of zeros only
pub no_change : (h t n : ℕ) (S e : Series) → below (2 * t) S → Explains h t n S e → weight n e ≡ 0 → S ≡ O
no_change h t n S e past x z =
    fun_ext (λ j. by_cases (dec_lt j (2 * t)) (low j) (λ l. past j (omega arith)) ∙ sym (O-at j))
  where
    low : (j : ℕ) → j < 2 * t → S j ≡ 𝟎
    low j l = sym (x.syndromes j l) ∙ syndrome-is h n e j ∙ value-zero n e (root h j) (zero-weight n e z)

-- ---- clean or not

pub clean-first : (r : ℕ) (b : Bool) → r ≡ 0 → b ≡ (eqb r 0 && b)
clean-first r b e = sym (rw (eq-eqb r 0 e))

pub clean_yes : (r : ℕ) (b : Bool) → (eqb r 0 && b) ≡ true → (r ≡ 0) × (b ≡ true)
clean_yes r b h = go (eqb r 0) refl h
  where
    go : (x : Bool) → eqb r 0 ≡ x → (x && b) ≡ true → (r ≡ 0) × (b ≡ true)
    go true e h = (eqb-true r 0 e, h)
    go false e h = absurd (true≢false (sym h))

pub offered : (p : Profile) (f : Form) (r : ℕ) (l : List Gf) (s : Solver) (a : Attempted)
    → (eqb r 0 && holds (zero? l)) ≡ false
    → Ready p f r (row l) s → IfSome a.settled (Sound (first-root p) (capability p r) p.length (row l))
    → Ended f (rounds_of p (row l) r) a.solver
    → Offered p f r (row l) a
offered p f r l s a dirty ready sound ended = record { solver = ended; settled = go a.settled sound }
  where
    go : (o : Option found.Settled) → IfSome o (Sound (first-root p) (capability p r) p.length (row l))
        → IfSome o (λ w. (w.count ≡ weight p.length (values w.pattern)) × (r ≡ 0 → w.count ≢ 0))
    go None sound = tt
    go (Some w) sound = (
      sound.count,
      λ e z. zero_not l (clean-first r _ e ∙ dirty)
          (no_change (first-root p) (capability p r) p.length (row l) _ ready.past sound.explains
          (sym sound.count ∙ z)),
    )
