-- Gaussian binomials at α, by Pascal's rule, and sums over subwords with them: what is carried, by doublings alone.
--
--   pascal l k           newton l k / newton l l
--   gathered n m s l j   the sum of pascal l k times subword j + k of the block s, over the subwords from j on, of m
--   Gathers ..           the word w is that sum, if l is not above the last one asked for
--
-- Proved: Pascal's rule makes the quotient (newton-pascal, ratio-pascal), so that a subword with what is carried to it
-- is gathered from 0 on (gathered-corner). A loop over the subwords from the last to the first begins with zeros
-- (gathers-none) and goes on (gathers-first, gathers-next).
use Prim.Native.Nat.{ℕ, zero, suc, ◌+◌, ◌-◌, ◌≤◌, ◌<◌}
use Rattle.std.specs.Prelude.{◌≡◌, refl, List, replicate}
use Rattle.std.proofs.Math.Path.{sym, ap, ap₂, fun_ext}
use Rattle.std.proofs.Common.{◌∙◌, zero-add, add-zero, add-suc, suc-add}
use native.Mathlib.Omega.{arith}
use Rattle.field.specs.Field.{F, 𝟎, 𝟏, α, ◌⊕◌, ◌⊙◌, zero-⊕, ⊕_comm, zero-⊙, ⊙-one, one-⊙, ⊙_assoc, ⊙-ring, inv}
use Rattle.field.specs.Field.{pow, pow-zero, pow-suc}
use Rattle.field.proofs.Field.{mul-inv}
use Rattle.series.specs.Sum.{sum, sum-none, sum_head, sum_cong, sum-zero, sum_split, sum-⊕, ⊙-sum, sum-suc}
use Rattle.series.specs.Series.{Series, O, O-at, K, ◌⊞◌, ◌⊠◌, ⊞-at, ⊞-group, K-⊠-at}
use Rattle.series.specs.Shift.{cut, cut-⊞, cut-K-⊠}
use Rattle.series.specs.Degree.{below-O, below-cut_eq}
use Rattle.series.specs.Array.{bytes}
use Rattle.profile.specs.declared.Profile.{Profile}
use Rattle.profile.specs.Valid.{Valid}
use Rattle.code.specs.Definition.{subword}
use Rattle.code.specs.Newton.{newton, newton-none, newton-suc, newton-low, newton_nonzero}
use Rattle.code.specs.Triangle.{ratio, ratio-low, carried, carried-at, corner}
use Rattle.kernel.specs.Copy.{zeros}

unfoldable pub pascal : ℕ → ℕ → F
pascal zero k = 𝟏
pascal (suc l) zero = 𝟎
pascal (suc l) (suc k) = pascal l k ⊕ pow α (suc l) ⊙ pascal (suc l) k

-- ---- the quotient of Newton's polynomials

-- α drawn out of every factor but the first
newton_shift : (l k : ℕ) → newton (suc l) (suc k) ≡ pow α l ⊙ newton l k ⊙ (pow α (suc k) ⊕ 𝟏)
newton_shift zero k = rw (newton-suc, newton-none, newton-none, pow-zero) (simp ⊙-ring)
newton_shift (suc l) k =
    newton-suc (suc l) (suc k)
    ∙ ap (λ (t : F). t ⊙ (pow α (suc k) ⊕ pow α (suc l))) (newton_shift l k)
    ∙ rw (newton-suc l k, pow-suc α k, pow-suc α l) (simp ⊙-ring)

pascal-join : (b c m n p x y : F) → n ≡ b ⊙ m → n ⊙ (y ⊕ x) ≡ c ⊙ p → p ≡ x ⊙ m ⊙ (α ⊙ x ⊕ 𝟏)
    → x ⊙ n ⊙ (α ⊙ y ⊕ 𝟏) ≡ (b ⊕ α ⊙ x ⊙ c) ⊙ p
pascal-join b c m n p x y en ec ep =
    ap (λ (n : F). x ⊙ n ⊙ (α ⊙ y ⊕ 𝟏)) en
    ∙ sym (draw p ∙ ap₂ (λ (s t : F). b ⊙ s ⊕ α ⊙ x ⊙ t) ep (sym ec ∙ ap (λ (n : F). n ⊙ (y ⊕ x)) en) ∙ simp ⊙-ring)
    ∙ simp ⊙-ring
  where
    draw : (p : F) → (b ⊕ α ⊙ x ⊙ c) ⊙ p ≡ b ⊙ p ⊕ α ⊙ x ⊙ (c ⊙ p)
    draw p = simp ⊙-ring

newton-pascal : (l k : ℕ) → newton l k ≡ pascal l k ⊙ newton l l
unfolding pascal
newton-pascal zero k = rw (newton-none, newton-none) (sym (one-⊙ 𝟏))
newton-pascal (suc l) zero = newton-low (suc l) 0 (omega arith) ∙ sym (zero-⊙ _)
newton-pascal (suc l) (suc k) =
    newton_shift l k
    ∙ rw (pow-suc α k, pow-suc α l)
    (pascal-join (pascal l k) (pascal (suc l) k) (newton l l) (newton l k) (newton (suc l) (suc l)) (pow α l)
    (pow α k) (newton-pascal l k)
    (sym (newton-suc l k) ∙ newton-pascal (suc l) k) (newton_shift l l ∙ rw (pow-suc α l)))

pub ratio-pascal : (v l k : ℕ) → l < v → l < 255 → ratio v l k ≡ pascal l k
ratio-pascal v l k h small =
    ratio-low v l k h
    ∙ ap (λ (t : F). t ⊙ inv (newton l l)) (newton-pascal l k)
    ∙ ⊙_assoc _ _ _
    ∙ ap (λ (t : F). pascal l k ⊙ t) (mul-inv (newton l l) (newton_nonzero l l (omega arith) small))
    ∙ ⊙-one _

pascal-none : (k : ℕ) → pascal 0 k ≡ 𝟏
unfolding pascal
pascal-none k = refl

pascal-low : (l k : ℕ) → k < l → pascal l k ≡ 𝟎
unfolding pascal
pascal-low zero k h = absurd (omega arith)
pascal-low (suc l) zero h = refl
pascal-low (suc l) (suc k) h = rw (pascal-low l k (omega arith), pascal-low (suc l) k (omega arith)) (simp ⊙-ring)

pascal-one : (l : ℕ) → pascal l l ≡ 𝟏
unfolding pascal
pascal-one zero = refl
pascal-one (suc l) = rw (pascal-one l, pascal-low (suc l) l (omega arith)) (simp ⊙-ring)

pascal-suc : (l k : ℕ) → pascal (suc l) (suc k) ≡ pascal l k ⊕ pow α (suc l) ⊙ pascal (suc l) k
unfolding pascal
pascal-suc l k = refl

-- ---- sums over subwords

unfoldable pub gathered : ℕ → ℕ → Series → ℕ → ℕ → Series
gathered n m s l j q = sum (m - j) (λ k. pascal l k ⊙ subword n s (j + k) q)

module _ (n m : ℕ) (s : Series) where
  gathered_none : (l : ℕ) → gathered n m s l m ≡ O
  unfolding gathered
  gathered_none l =
      let e : m - m ≡ 0 = omega arith in
      fun_ext (λ q. ap (λ r. sum r (λ k. pascal l k ⊙ subword n s (m + k) q)) e ∙ sum-none _ ∙ sym (O-at q))

  -- the first subword apart
  gathered_head : (l j q : ℕ) → j < m
      → gathered n m s l j q
      ≡ pascal l 0 ⊙ subword n s j q ⊕ sum (m - suc j) (λ k. pascal l (suc k) ⊙ subword n s (suc j + k) q)
  unfolding gathered
  gathered_head l j q h =
      let e : m - j ≡ suc (m - suc j) = omega arith in
      ap (λ r. sum r (λ k. pascal l k ⊙ subword n s (j + k) q)) e
      ∙ sum_head (m - suc j) _
      ∙ ap₂ (λ (a b : F). a ⊕ b) (rw add-zero) (sum_cong (m - suc j) _ _ (λ k _. rw (add-suc, suc-add)))

  gathered-first : (j : ℕ) → j < m → gathered n m s 0 j ≡ gathered n m s 0 (suc j) ⊞ subword n s j
  unfolding gathered
  gathered-first j h =
      fun_ext (λ q.
      gathered_head 0 j q h
      ∙ ap₂ (λ (a b : F). a ⊕ b) (rw pascal-none (one-⊙ _))
      (sum_cong (m - suc j) _ _ (λ k _. rw (pascal-none, pascal-none)))
      ∙ ⊕_comm _ _
      ∙ sym (⊞-at _ _ q))

  gathered_next : (l j : ℕ) → j < m
      → gathered n m s (suc l) j ≡ K (pow α (suc l)) ⊠ gathered n m s (suc l) (suc j) ⊞ gathered n m s l (suc j)
  unfolding gathered
  gathered_next l j h =
      fun_ext (λ q.
      gathered_head (suc l) j q h
      ∙ ap₂ (λ (a b : F). a ⊕ b) (none q) (rest q)
      ∙ zero-⊕ _
      ∙ sym (⊞-at _ _ q ∙ ap (λ (t : F). t ⊕ gathered n m s l (suc j) q) (K-⊠-at _ _ q)))
    where
      none : (q : ℕ) → pascal (suc l) 0 ⊙ subword n s j q ≡ 𝟎
      none q = rw (pascal-low (suc l) 0 (omega arith)) (zero-⊙ _)

      rest : (q : ℕ) → sum (m - suc j) (λ k. pascal (suc l) (suc k) ⊙ subword n s (suc j + k) q)
          ≡ pow α (suc l) ⊙ gathered n m s (suc l) (suc j) q ⊕ gathered n m s l (suc j) q
      rest q =
          sum_cong (m - suc j) _
          (λ k. pow α (suc l) ⊙ (pascal (suc l) k ⊙ subword n s (suc j + k) q) ⊕ pascal l k ⊙ subword n s (suc j + k) q)
          (λ k _. rw pascal-suc (simp ⊙-ring))
          ∙ sum-⊕ (m - suc j) _ _
          ∙ ap (λ (t : F). t ⊕ gathered n m s l (suc j) q) (sym (⊙-sum (pow α (suc l)) (m - suc j) _))

  -- ---- a loop over the subwords, `last` being the last sum that is asked for

  abbrev pub Gathers : ℕ → ℕ → ℕ → List ℕ → Type 0
  Gathers last l j w = l ≤ last → bytes w ≡ cut n (gathered n m s l j)

  pub gathers-none : (last l r : ℕ) → Gathers last l m (replicate r 0)
  gathers-none last l r h = zeros r ∙ sym (ap (cut n) (gathered_none l) ∙ below-cut_eq n O (below-O n))

  pub gathers-first : (last i j : ℕ) (w v : List ℕ)
      → j ≡ suc i → i < m → Gathers last 0 j w → bytes v ≡ bytes w ⊞ cut n (subword n s i) → Gathers last 0 i v
  gathers-first last i j w v e h g ev _ =
      ev
      ∙ ap (λ (f : Series). f ⊞ cut n (subword n s i)) (g (omega arith) ∙ ap (λ j. cut n (gathered n m s 0 j)) e)
      ∙ sym (ap (cut n) (gathered-first i h) ∙ cut-⊞ n _ _)

  pub gathers-next : (last l i j : ℕ) (u w v : List ℕ) → j ≡ suc i → i < m → Gathers last l j u
      → Gathers last (suc l) j w
      → (suc l ≤ last → bytes v ≡ K (pow α (suc l)) ⊠ bytes w ⊞ bytes u) → Gathers last (suc l) i v
  gathers-next last l i j u w v e h gu gw ev a =
      ev a
      ∙ ap₂ (λ (f g : Series). K (pow α (suc l)) ⊠ f ⊞ g) (gw a ∙ at (suc l)) (gu (omega arith) ∙ at l)
      ∙ sym (ap (cut n) (gathered_next l i h) ∙ cut-⊞ n _ _
      ∙ ap (λ (f : Series). f ⊞ cut n (gathered n m s l (suc i))) (cut-K-⊠ n _ _))
    where
      at : (l : ℕ) → cut n (gathered n m s l j) ≡ cut n (gathered n m s l (suc i))
      at l = ap (λ j. cut n (gathered n m s l j)) e

-- the subwords below i have the factor zero, subword i has one, and those above bring what is carried
pub gathered-corner : (p : Profile) (s : Series) (i : ℕ) → i < p.nested → i < p.subwords → i < 255
    → gathered p.length p.subwords s i 0 ≡ corner p s i
unfolding gathered
gathered-corner p s i h l small =
    let e : p.subwords - 0 ≡ suc i + (p.subwords - suc i) = omega arith in
    fun_ext (λ q.
    ap (λ r. sum r (λ k. pascal i k ⊙ subword p.length s (0 + k) q)) e
    ∙ sum_split (suc i) (p.subwords - suc i) _
    ∙ ap₂ (λ (a b : F). a ⊕ b) (own q) (rest q)
    ∙ sym (⊞-at _ _ q))
  where
    own : (q : ℕ) → sum (suc i) (λ k. pascal i k ⊙ subword p.length s (0 + k) q) ≡ subword p.length s i q
    own q =
        sum-suc i _
        ∙ ap₂ (λ (a b : F). a ⊕ b) (sum-zero i _ (λ k l. rw (pascal-low i k l) (zero-⊙ _)))
        (rw (pascal-one, zero-add) (one-⊙ _))
        ∙ zero-⊕ _

    rest : (q : ℕ) → sum (p.subwords - suc i) (λ k. pascal i (suc i + k) ⊙ subword p.length s (0 + (suc i + k)) q)
        ≡ carried p s i q
    rest q =
        sum_cong (p.subwords - suc i) _ _ (λ k _. rw (zero-add, ratio-pascal p.nested i (suc i + k) h small))
        ∙ sym (carried-at p s i q)

-- the loop has ended, and sum l is the one that was asked for
pub gathers-all : (p : Profile) → Valid p → (s : Series) (i l j : ℕ) (w : List ℕ) → i < p.nested → l ≡ i → j ≡ 0
    → Gathers p.length p.subwords s i l j w → bytes w ≡ cut p.length (corner p s i)
gathers-all p ok s i l j w h el ej g =
    g (omega arith)
    ∙ ap₂ (λ l j. cut p.length (gathered p.length p.subwords s l j)) el ej
    ∙ ap (cut p.length) (gathered-corner p s i h (omega (arith, ok.nested)) (omega (arith, ok.nested)))

-- the subword itself taken away
pub carried-is : (p : Profile) (s : Series) (i : ℕ) (w v : List ℕ) → bytes w ≡ cut p.length (corner p s i)
    → bytes v ≡ bytes w ⊞ cut p.length (subword p.length s i) → bytes v ≡ cut p.length (carried p s i)
carried-is p s i w v ew ev =
    ev ∙ ap (λ (f : Series). f ⊞ cut p.length (subword p.length s i)) (ew ∙ cut-⊞ p.length _ _) ∙ simp ⊞-group
