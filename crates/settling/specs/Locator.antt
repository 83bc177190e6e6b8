-- Locator and evaluator of a pattern e, read below n: the polynomials that its syndromes make known. The first root is
-- α here; `Twist` leads from it to any other.
--
--   X p               α^p, the location of position p
--   W p               its inverse
--   lead p            the power p of the first root: a change y at position p adds y · lead p · X_p^j to syndrome j
--   locator n e       the product of 1 + X_p z over the changed positions p
--   evaluator n e     the sum of e_p · lead p over the changed positions p, each times the product of 1 + X_i z over
--                     the other ones
--   Vanishes e n l f  f, of l + 1 coefficients, is zero at W p for every changed position p
--
-- Proved: locator times all syndromes is the evaluator (key); degrees; W p is a root of the locator exactly at the
-- changed positions (locator-root, locator_apart); there the odd part of the locator is not zero and the evaluator over
-- it is lead p times the change (forney); a polynomial of degree l vanishes at no more than l changed positions
-- (few-roots).
use Rattle.std.specs.Prelude.{ℕ, zero, suc, ◌+◌, ◌-◌, ◌≤◌, ◌<◌, ◌≡◌, refl, ◌≢◌}
use Rattle.std.proofs.Common.{sym, ap, ap₂, ◌∙◌, mul_comm, arith}
use Rattle.std.proofs.Math.Path.{fun_ext}
use Rattle.std.proofs.Math.Logic.{ite, if_pos, if_neg, by_cases}
use Rattle.std.proofs.Math.Decide.{ℕ_discrete}
use Rattle.field.specs.Field.{F, 𝟎, 𝟏, α, ◌⊕◌, ◌⊙◌, ◌≟◌, ⊕_self, ⊕-equal, ⊙_assoc, ⊙-left_comm, ⊙-one, ⊙-zero, zero-⊙}
use Rattle.field.specs.Field.{⊙-ring, one≢zero, inv, pow, pow-zero, pow-one}
use Rattle.field.proofs.Field.{⊙-factor, ⊙_nonzero, mul-inv, inv_unique}
use Rattle.field.specs.Field.{pow-add, pow_mul, pow-⊙}
use Rattle.field.proofs.Field.{power_255, power_inj, power_nonzero}
use Rattle.series.specs.Series.{Series, O, K, ◌⊞◌, ◌⊠◌, ⊠-ring, ⊞_lc, at_zero, O-at, K_at0, ⊞-at, ⊠_at0, K-⊠-at, ⊠-zero}
use Rattle.series.specs.Degree.{below, below-O, below-K, below-⊞, below-K-⊠}
use Rattle.series.specs.Value.{value, value_none, value-last, value-more, value-⊞, value-K, value-K-⊠, value_shift}
use Rattle.series.specs.Value.{lin, geo, lin-geo, below-lin-⊠, value-lin-⊠, divide-lin, odd, below-odd, odd-lin-⊠}
use Rattle.series.specs.Word.{weight, weight-none, weight_skip, weight-take}
use Rattle.code.specs.Word.{root, syndrome}
use Rattle.code.specs.Systematic.{syndrome-is}

-- ---- the roots of the code: only these two proofs open `root`

root-next : (j : ℕ) → root 1 j ≡ root 1 0 ⊙ pow α j
unfolding root
root-next j = let e : 1 + j ≡ 1 + 0 + j = omega arith in ap (pow α) e ∙ pow-add α (1 + 0) j

root-first : root 1 0 ≡ α
unfolding root
root-first = pow-one α

-- ---- locations

abbrev pub X : ℕ → F
X p = pow α p

unfoldable pub W : ℕ → F
W p = inv (X p)

unfoldable pub lead : ℕ → F
lead p = pow (root 1 0) p

pub X-W : (p : ℕ) → X p ⊙ W p ≡ 𝟏
unfolding W
X-W p = mul-inv (X p) (power_nonzero p)

pub W_nonzero : (p : ℕ) → W p ≢ 𝟎
W_nonzero p z = one≢zero (sym (X-W p) ∙ ap (λ t. X p ⊙ t) z ∙ ⊙-zero _)

-- as a power of α
pub W-is : (p : ℕ) → p ≤ 255 → W p ≡ pow α (255 - p)
unfolding W
W-is p h =
    let e : p + (255 - p) ≡ 255 = omega arith in
    inv_unique (X p) (pow α (255 - p)) (sym (pow-add α p (255 - p)) ∙ ap (pow α) e ∙ power_255)

pub lead_is : (p : ℕ) → lead p ≡ X p
unfolding lead
lead_is p = rw root-first

pub lead_nonzero : (p : ℕ) → lead p ≢ 𝟎
lead_nonzero p = rw lead_is (power_nonzero p)

pub lead-inv : (p : ℕ) → inv (lead p) ≡ W p
unfolding W
lead-inv p = ap inv (lead_is p)

-- the factor 1 + X_p z at W q
here : (p : ℕ) → 𝟏 ⊕ X p ⊙ W p ≡ 𝟎
here p = rw X-W (⊕_self 𝟏)

elsewhere : (p q : ℕ) → p < 255 → q < 255 → p ≢ q → 𝟏 ⊕ X p ⊙ W q ≢ 𝟎
elsewhere p q hp hq h z =
    let e : 𝟏 ≡ X p ⊙ W q = ⊕-equal _ _ z in
    let f : X q ≡ X p = sym (⊙-one (X q)) ∙ ap (λ t. X q ⊙ t) e ∙ ⊙-left_comm _ _ _
    ∙ ap (λ t. X p ⊙ t) (X-W q) ∙ ⊙-one (X p) in
    h (power_inj p q hp hq (sym f))

-- ---- locator and evaluator

unfoldable pub locator : ℕ → Series → Series
locator zero e = K 𝟏
locator (suc n) e = ite (e n ≟ 𝟎) (locator n e) (lin (X n) ⊠ locator n e)

unfoldable pub evaluator : ℕ → Series → Series
evaluator zero e = O
evaluator (suc n) e = ite (e n ≟ 𝟎) (evaluator n e) (lin (X n) ⊠ evaluator n e ⊞ K (e n ⊙ lead n) ⊠ locator n e)

locator-none : (e : Series) → locator 0 e ≡ K 𝟏
unfolding locator
locator-none e = refl

locator_skip : (n : ℕ) (e : Series) → e n ≡ 𝟎 → locator (suc n) e ≡ locator n e
unfolding locator
locator_skip n e z = if_pos (e n ≟ 𝟎) z _ _

locator-take : (n : ℕ) (e : Series) → e n ≢ 𝟎 → locator (suc n) e ≡ lin (X n) ⊠ locator n e
unfolding locator
locator-take n e z = if_neg (e n ≟ 𝟎) z _ _

evaluator-none : (e : Series) → evaluator 0 e ≡ O
unfolding evaluator
evaluator-none e = refl

evaluator_skip : (n : ℕ) (e : Series) → e n ≡ 𝟎 → evaluator (suc n) e ≡ evaluator n e
unfolding evaluator
evaluator_skip n e z = if_pos (e n ≟ 𝟎) z _ _

evaluator-take : (n : ℕ) (e : Series) → e n ≢ 𝟎
    → evaluator (suc n) e ≡ lin (X n) ⊠ evaluator n e ⊞ K (e n ⊙ lead n) ⊠ locator n e
unfolding evaluator
evaluator-take n e z = if_neg (e n ≟ 𝟎) z _ _

-- induction over the positions: one more is unchanged or changed
along : (e : Series) (Q : ℕ → Type 0)
    → Q 0 → ((n : ℕ) → e n ≡ 𝟎 → Q n → Q (suc n)) → ((n : ℕ) → e n ≢ 𝟎 → Q n → Q (suc n)) → (n : ℕ) → Q n
along e Q none skip take zero = none
along e Q none skip take (suc n) =
    let ih : Q n = along e Q none skip take n in
    by_cases (e n ≟ 𝟎) (λ z. skip n z ih) (λ z. take n z ih)

pub locator_at0 : (e : Series) (n : ℕ) → locator n e 0 ≡ 𝟏
locator_at0 e = along e (λ n. locator n e 0 ≡ 𝟏)
    (rw locator-none (K_at0 𝟏))
    (λ n z ih. rw (locator_skip n e z) ih)
    (λ n z ih. rw (locator-take n e z) (simp (at_zero, ih)))

pub below-locator : (e : Series) (n : ℕ) → below (suc (weight n e)) (locator n e)
below-locator e = along e (λ n. below (suc (weight n e)) (locator n e))
    (rw (weight-none, locator-none) (below-K 𝟏))
    (λ n z ih. rw (locator_skip n e z, weight_skip n e z) ih)
    (λ n z ih. rw (locator-take n e z, weight-take n e z) (below-lin-⊠ _ _ (X n) _ ih (omega arith)))

pub below-evaluator : (e : Series) (n : ℕ) → below (weight n e) (evaluator n e)
below-evaluator e = along e (λ n. below (weight n e) (evaluator n e))
    (rw evaluator-none (below-O _))
    (λ n z ih. rw (evaluator_skip n e z, weight_skip n e z) ih)
    (λ n z ih. rw (evaluator-take n e z, weight-take n e z)
    (below-⊞ _ _ _ (below-lin-⊠ _ _ (X n) _ ih (omega arith)) (below-K-⊠ _ _ _ (below-locator e n))))

-- ---- the key equation

pub root-power : (j p : ℕ) → pow (root 1 j) p ≡ lead p ⊙ pow (X p) j
unfolding lead
root-power j p =
    ap (λ x. pow x p) (root-next j)
    ∙ pow-⊙ (root 1 0) (pow α j) p
    ∙ ap (λ x. pow (root 1 0) p ⊙ x) (sym (pow_mul α j p) ∙ ap (pow α) (mul_comm j p) ∙ pow_mul α p j)

syndrome-none : (e : Series) → syndrome 1 0 e ≡ O
syndrome-none e = fun_ext (λ j. syndrome-is 1 0 e j ∙ value_none e (root 1 j) ∙ sym (O-at j))

syndrome_skip : (n : ℕ) (e : Series) → e n ≡ 𝟎 → syndrome 1 (suc n) e ≡ syndrome 1 n e
syndrome_skip n e z = fun_ext (λ j. rw (syndrome-is 1 (suc n) e j, value-last, syndrome-is 1 n e j, z) (simp ⊙-ring))

syndrome-take : (n : ℕ) (e : Series) → syndrome 1 (suc n) e ≡ syndrome 1 n e ⊞ K (e n ⊙ lead n) ⊠ geo (X n)
syndrome-take n e = fun_ext (λ j.
    rw (syndrome-is 1 (suc n) e j, value-last, root-power j n, ⊞-at, K-⊠-at, syndrome-is 1 n e j) (simp ⊙-ring))

pub key : (e : Series) (n : ℕ) → locator n e ⊠ syndrome 1 n e ≡ evaluator n e
key e = along e (λ n. locator n e ⊠ syndrome 1 n e ≡ evaluator n e)
    (rw (syndrome-none, evaluator-none) (⊠-zero _))
    (λ n z ih. rw (locator_skip n e z, syndrome_skip n e z, evaluator_skip n e z) ih)
    (λ n z ih. rw (locator-take n e z, syndrome-take n e, evaluator-take n e z)
    (⊞_lc (λ i. lin (X n) ⊠ ih i ⊞ K (e n ⊙ lead n) ⊠ locator n e ⊠ lin-geo (X n) i) (simp ⊠-ring)))

-- ---- values; k coefficients are read

-- one changed position more
module _ (e : Series) (n k : ℕ) (x : F) (z : e n ≢ 𝟎) (h : weight (suc n) e < k) where
  room : suc (weight n e) < k
  room = omega (arith, weight-take n e z)

  value-locator : value k (locator (suc n) e) x ≡ (𝟏 ⊕ X n ⊙ x) ⊙ value k (locator n e) x
  value-locator = rw (locator-take n e z) (value-lin-⊠ _ k (X n) _ x (below-locator e n) room)

  value-evaluator : value k (evaluator (suc n) e) x
      ≡ (𝟏 ⊕ X n ⊙ x) ⊙ value k (evaluator n e) x ⊕ e n ⊙ lead n ⊙ value k (locator n e) x
  value-evaluator =
      rw (evaluator-take n e z)
      (value-⊞ k _ _ x
      ∙ ap₂ ◌⊕◌ (value-lin-⊠ _ k (X n) _ x (below-evaluator e n) (omega (arith, room))) (value-K-⊠ k _ _ x))

  value-odd : value k (odd (locator (suc n) e)) x
      ≡ (𝟏 ⊕ X n ⊙ x) ⊙ value k (odd (locator n e)) x ⊕ X n ⊙ x ⊙ value k (locator n e) x
  value-odd =
      rw (locator-take n e z, odd-lin-⊠)
      (value-⊞ k _ _ x
      ∙ ap₂ ◌⊕◌ (value-lin-⊠ _ k (X n) _ x (below-odd _ _ (below-locator e n)) room)
      (value-K-⊠ k _ _ x ∙ ap (λ t. X n ⊙ t) (value_shift _ k _ x (below-locator e n) room) ∙ sym (⊙_assoc _ _ _)))

-- at the inverse location of position q
module _ (e : Series) (q k : ℕ) (hq : q < 255) where
  earlier : (n : ℕ) → e q ≢ 𝟎 → e n ≡ 𝟎 → q < suc n → q < n
  earlier n c z l = by_cases (ℕ_discrete q n) (λ i. absurd (c (ap e i ∙ z))) (λ i. omega arith)

  pub locator-root : (n : ℕ) → q < n → e q ≢ 𝟎 → weight n e < k → value k (locator n e) (W q) ≡ 𝟎
  locator-root n l c = along e (λ n. q < n → weight n e < k → value k (locator n e) (W q) ≡ 𝟎)
      (λ l h. absurd (omega arith))
      (λ n z ih l h. rw (locator_skip n e z) (ih (earlier n c z l) (omega (arith, weight_skip n e z))))
      (λ n z ih l h. value-locator e n k (W q) z h ∙ by_cases (ℕ_discrete q n)
      (λ i. rw (← i, here) (zero-⊙ _))
      (λ i. rw (ih (omega arith) (omega (arith, weight-take n e z))) (⊙-zero _)))
      n l

  pub locator_apart : (n : ℕ) → n ≤ 255 → (q < n → e q ≡ 𝟎) → weight n e < k → value k (locator n e) (W q) ≢ 𝟎
  locator_apart = along e (λ n. n ≤ 255 → (q < n → e q ≡ 𝟎) → weight n e < k → value k (locator n e) (W q) ≢ 𝟎)
      (λ b c h. let i : k ≡ suc (k - 1) = omega (arith, weight-none e) in rw (locator-none, i, value-K) one≢zero)
      (λ n z ih b c h.
      rw (locator_skip n e z) (ih (omega arith) (λ l. c (omega arith)) (omega (arith, weight_skip n e z))))
      (λ n z ih b c h. rw (value-locator e n k (W q) z h) (⊙_nonzero _ _
      (elsewhere n q (omega arith) hq (λ i. z (ap e i ∙ c (omega arith))))
      (ih (omega arith) (λ l. c (omega arith)) (omega (arith, weight-take n e z)))))

  -- one changed position more, q itself or a later one
  module _ (n : ℕ) (b : n < 255) (z : e n ≢ 𝟎) (h : weight (suc n) e < k) where
    odd-here : q ≡ n → value k (odd (locator (suc n) e)) (W q) ≡ value k (locator n e) (W q)
    odd-here i = value-odd e n k (W q) z h ∙ rw (← i, X-W, ⊕_self) (simp ⊙-ring)

    evaluator-here : q ≡ n → value k (evaluator (suc n) e) (W q) ≡ e q ⊙ lead q ⊙ value k (locator n e) (W q)
    evaluator-here i = value-evaluator e n k (W q) z h ∙ rw (← i, X-W, ⊕_self) (simp ⊙-ring)

    nonzero-here : q ≡ n → value k (locator n e) (W q) ≢ 𝟎
    nonzero-here i = locator_apart n (omega arith) (λ l. absurd (omega arith)) (omega (arith, weight-take n e z))

    zero_later : e q ≢ 𝟎 → q < n → value k (locator n e) (W q) ≡ 𝟎
    zero_later c l = locator-root n l c (omega (arith, weight-take n e z))

    odd_later : e q ≢ 𝟎 → q < n
        → value k (odd (locator (suc n) e)) (W q) ≡ (𝟏 ⊕ X n ⊙ W q) ⊙ value k (odd (locator n e)) (W q)
    odd_later c l = value-odd e n k (W q) z h ∙ rw (zero_later c l) (simp ⊙-ring)

    evaluator_later : e q ≢ 𝟎 → q < n
        → value k (evaluator (suc n) e) (W q) ≡ (𝟏 ⊕ X n ⊙ W q) ⊙ value k (evaluator n e) (W q)
    evaluator_later c l = value-evaluator e n k (W q) z h ∙ rw (zero_later c l) (simp ⊙-ring)

  -- Forney's formula: the odd part of the locator is not zero, and the evaluator over it is the change times lead q
  abbrev pub Forney : ℕ → Type 0
  Forney n = (value k (odd (locator n e)) (W q) ≢ 𝟎)
      × (value k (evaluator n e) (W q) ≡ e q ⊙ lead q ⊙ value k (odd (locator n e)) (W q))

  pub forney : (n : ℕ) → n ≤ 255 → q < n → e q ≢ 𝟎 → weight n e < k → Forney n
  forney n b l c = along e (λ n. n ≤ 255 → q < n → weight n e < k → Forney n)
      (λ b l h. absurd (omega arith))
      (λ n z ih b l h. rw (locator_skip n e z, evaluator_skip n e z)
      (ih (omega arith) (earlier n c z l) (omega (arith, weight_skip n e z))))
      (λ n z ih b l h. by_cases (ℕ_discrete q n)
      (λ i. (rw (odd-here n b z h i) (nonzero-here n b z h i), rw (odd-here n b z h i, evaluator-here n b z h i)))
      (λ i. later n b z h (omega arith) (ih (omega arith) (omega arith) (omega (arith, weight-take n e z)))))
      n b l
    where
      later : (n : ℕ) (b : n < 255) (z : e n ≢ 𝟎) (h : weight (suc n) e < k) → q < n → Forney n → Forney (suc n)
      later n b z h l (o, v) = (
        rw (odd_later n b z h c l) (⊙_nonzero _ _ (elsewhere n q b hq (omega arith)) o),
        rw (odd_later n b z h c l, evaluator_later n b z h c l, v) (⊙-left_comm _ _ _),
      )

  pub evaluator_nonzero : (n : ℕ) → n ≤ 255 → q < n → e q ≢ 𝟎 → weight n e < k → value k (evaluator n e) (W q) ≢ 𝟎
  evaluator_nonzero n b l c h =
      let (o, v) = forney n b l c h in
      rw v (⊙_nonzero _ _ (⊙_nonzero _ _ c (lead_nonzero q)) o)

-- ---- how many roots a polynomial has

abbrev pub Vanishes : Series → ℕ → ℕ → Series → Type 0
Vanishes e n l f = (p : ℕ) → p < n → e p ≢ 𝟎 → value (suc l) f (W p) ≡ 𝟎

-- f over 1 + X_n z has the constant term of f, and the roots at positions below n
over_at0 : (n : ℕ) (f : Series) → (f ⊠ geo (X n)) 0 ≡ f 0
over_at0 n f = ⊠_at0 f _ ∙ rw pow-zero (⊙-one _)

over_root : (n p l : ℕ) (f : Series) → n < 255 → p < n → below (suc l) (f ⊠ geo (X n)) → value (suc (suc l)) f (W p) ≡ 𝟎
    → value (suc l) (f ⊠ geo (X n)) (W p) ≡ 𝟎
over_root n p l f h m b r =
    let e : f ≡ lin (X n) ⊠ (f ⊠ geo (X n)) = ⊞_lc (λ i. f ⊠ lin-geo (X n) i) (simp ⊠-ring) in
    ⊙-factor _ _ (elsewhere n p h (omega arith) (omega arith))
    (ap (λ t. (𝟏 ⊕ X n ⊙ W p) ⊙ t) (sym (value-more (suc l) (suc (suc l)) _ (W p) b (omega arith)))
    ∙ sym (value-lin-⊠ (suc l) (suc (suc l)) (X n) _ (W p) b (omega arith))
    ∙ ap (λ t. value (suc (suc l)) t (W p)) (sym e)
    ∙ r)

pub few-roots : (e : Series) (n l : ℕ) (f : Series)
    → n ≤ 255 → below (suc l) f → f 0 ≢ 𝟎 → Vanishes e n l f → weight n e ≤ l
few-roots e = along e Few
    (λ l f h b c r. omega (arith, weight-none e))
    (λ n z ih l f h b c r. rw (weight_skip n e z) (ih l f (omega arith) b c (λ p m. r p (omega arith))))
    (λ n z ih l f h b c r.
    rw (weight-take n e z) (fewer n ih l f h c r (divide-lin l (X n) (W n) f (X-W n) b (r n (omega arith) z))))
  where
    Few : ℕ → Type 0
    Few n = (l : ℕ) (f : Series) → n ≤ 255 → below (suc l) f → f 0 ≢ 𝟎 → Vanishes e n l f → weight n e ≤ l

    fewer : (n : ℕ) → Few n → (l : ℕ) (f : Series)
        → suc n ≤ 255 → f 0 ≢ 𝟎 → Vanishes e (suc n) l f → below l (f ⊠ geo (X n)) → weight n e < l
    fewer n ih zero f h c r b = absurd (c (sym (over_at0 n f) ∙ b 0 (omega arith)))
    fewer n ih (suc l) f h c r b =
        omega (
          arith,
          ih l (f ⊠ geo (X n)) (omega arith) b (rw over_at0 c)
              (λ p m y. over_root n p l f (omega arith) m b (r p (omega arith) y)),
        )
