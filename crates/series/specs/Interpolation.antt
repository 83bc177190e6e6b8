-- Values at distinct points determine a polynomial; small systems.
--
--   Distinct n x       x 0, .., x (n - 1) are distinct
--   Solves b x N S     sum over w < b of (x w)^l · S w is N l, for each l < b
--   solution b x N     the unknowns of that system
--   line a c g         the polynomial c + (z + a)·g
--   interpolate n x y  the polynomial of degree below n whose value at x j is y j, for each j < n
--
-- Proved, for distinct points: the system has this solution and no other; interpolation too; n roots and degree below n
-- means zero. Each of the two problems is solved by peeling off one point; that it has no other solution follows from
-- the solution of the other.
use Rattle.std.specs.Prelude.{ℕ, zero, suc, ◌≤◌, ◌<◌, ◌≡◌, refl, ◌≢◌}
use Rattle.std.proofs.Common.{sym, ◌∙◌, ap, arith}
use Rattle.std.proofs.Math.Path.{fun_ext}
use Rattle.std.proofs.Math.Logic.{by_cases}
use Rattle.std.proofs.Math.Decide.{dec_le}
use Rattle.field.specs.Field.{F, 𝟎, ◌⊕◌, ◌⊙◌, zero-⊕, ⊕_self, ⊕_cancel, ⊕-equal, ⊕-group, ⊙-zero, zero-⊙, ⊙-one, one-⊙}
use Rattle.field.specs.Field.{⊙-left_comm, ⊙-ring, pow, pow-zero, pow-suc, inv}
use Rattle.field.proofs.Field.{mul-inv}
use Rattle.series.specs.Sum.{sum, sum_head, sum_cong, sum-zero, sum-⊕, ⊙-sum, sum-swap, sum_one}
use Rattle.series.specs.Series.{Series, O, O-at}
use Rattle.series.specs.Shift.{zpow, zpow-one, zpow-other, cut_unique}
use Rattle.series.specs.Degree.{below, below-cut_eq}
use Rattle.series.specs.Value.{value, value-is, value_none, value-last}

abbrev pub Distinct : ℕ → (ℕ → F) → Type 0
Distinct n x = (i j : ℕ) → i < j → j < n → x i ≢ x j

distinct-rest : (n : ℕ) (x : ℕ → F) → Distinct (suc n) x → Distinct n (λ j. x (suc j))
distinct-rest n x d i j l h = d (suc i) (suc j) (omega arith) (omega arith)

distinct_apart : (n : ℕ) (x : ℕ → F) → Distinct (suc n) x → (j : ℕ) → j < n → x (suc j) ⊕ x 0 ≢ 𝟎
distinct_apart n x d j h e = d 0 (suc j) (omega arith) (omega arith) (sym (⊕-equal (x (suc j)) (x 0) e))

divide : (a b : F) → a ≢ 𝟎 → a ⊙ (b ⊙ inv a) ≡ b
divide a b h = ⊙-left_comm a b (inv a) ∙ ap (λ t. b ⊙ t) (mul-inv a h) ∙ ⊙-one b

-- z^k picks out a term
sum-zpow : (n k : ℕ) (f : ℕ → F) → k < n → sum n (λ i. f i ⊙ zpow k i) ≡ f k
sum-zpow n k f l = sum_one n k _ l (λ i m h. rw (zpow-other k i h) (⊙-zero (f i))) ∙ rw zpow-one (⊙-one (f k))

-- ---- small systems

abbrev pub Solves : ℕ → (ℕ → F) → (ℕ → F) → (ℕ → F) → Type 0
Solves b x N S = (l : ℕ) → l < b → sum b (λ w. pow (x w) l ⊙ S w) ≡ N l

-- the right sides with the first unknown gone: from each, x 0 times the one before it is taken. The other unknowns are
-- then times x w + x 0
abbrev rest : (ℕ → F) → (ℕ → F) → ℕ → F
rest x N l = N (suc l) ⊕ x 0 ⊙ N l

unfoldable pub solution : ℕ → (ℕ → F) → (ℕ → F) → ℕ → F
solution zero x N w = 𝟎
solution (suc b) x N zero = N 0 ⊕ sum b (λ w. solution b (λ j. x (suc j)) (rest x N) w ⊙ inv (x (suc w) ⊕ x 0))
solution (suc b) x N (suc w) = solution b (λ j. x (suc j)) (rest x N) w ⊙ inv (x (suc w) ⊕ x 0)

rest_sum : (b l : ℕ) (x S : ℕ → F)
    → rest x (λ k. sum (suc b) (λ w. pow (x w) k ⊙ S w)) l
    ≡ sum b (λ w. pow (x (suc w)) l ⊙ ((x (suc w) ⊕ x 0) ⊙ S (suc w)))
rest_sum b l x S =
    ap (λ t. sum (suc b) (λ w. pow (x w) (suc l) ⊙ S w) ⊕ t) (⊙-sum (x 0) (suc b) _)
    ∙ sym (sum-⊕ (suc b) _ _)
    ∙ sum_cong (suc b) _ (λ w. pow (x w) l ⊙ ((x w ⊕ x 0) ⊙ S w)) (λ w h. rw pow-suc (simp ⊙-ring))
    ∙ sum_head b _
    ∙ simp (⊕_self, zero-⊙, ⊙-zero, zero-⊕)

solution_head : (b : ℕ) (x N : ℕ → F) → sum (suc b) (solution (suc b) x N) ≡ N 0
unfolding solution
solution_head b x N = sum_head b _ ∙ simp ⊕-group

solution-rest : (b : ℕ) (x N : ℕ → F) → Distinct (suc b) x → (w : ℕ) → w < b
    → (x (suc w) ⊕ x 0) ⊙ solution (suc b) x N (suc w) ≡ solution b (λ j. x (suc j)) (rest x N) w
unfolding solution
solution-rest b x N d w h = divide _ _ (distinct_apart b x d w h)

pub solution_solves : (b : ℕ) (x N : ℕ → F) → Distinct b x → Solves b x N (solution b x N)
solution_solves zero x N d l h = absurd (omega arith)
solution_solves (suc b) x N d l h = all (solution_solves b (λ j. x (suc j)) (rest x N) (distinct-rest b x d)) l h
  where
    S : ℕ → F
    S = solution (suc b) x N

    all : Solves b (λ j. x (suc j)) (rest x N) (solution b (λ j. x (suc j)) (rest x N)) → Solves (suc b) x N S
    all ih zero h = sum_cong (suc b) _ S (λ w r. rw pow-zero (one-⊙ (S w))) ∙ solution_head b x N
    all ih (suc l) h =
        ⊕_cancel (x 0 ⊙ N l)
        (ap (λ t. sum (suc b) (λ w. pow (x w) (suc l) ⊙ S w) ⊕ x 0 ⊙ t) (sym (all ih l (omega arith)))
        ∙ rest_sum b l x S
        ∙ sum_cong b _ _ (λ w r. ap (λ t. pow (x (suc w)) l ⊙ t) (solution-rest b x N d w r))
        ∙ ih l (omega arith))

-- ---- c + (z + a)·g

unfoldable pub line : F → F → Series → Series
line a c g zero = c ⊕ a ⊙ g 0
line a c g (suc i) = g i ⊕ a ⊙ g (suc i)

pub line-zero : (a c : F) (g : Series) → line a c g 0 ≡ c ⊕ a ⊙ g 0
unfolding line
line-zero a c g = refl

pub line-suc : (a c : F) (g : Series) (i : ℕ) → line a c g (suc i) ≡ g i ⊕ a ⊙ g (suc i)
unfolding line
line-suc a c g i = refl

pub below-line : (n : ℕ) (a c : F) (g : Series) → below n g → below (suc n) (line a c g)
below-line n a c g h zero l = absurd (omega arith)
below-line n a c g h (suc i) l = rw (line-suc, h i (omega arith), h (suc i) (omega arith)) (simp ⊙-ring)

pub value_line : (n : ℕ) (a c : F) (g : Series) (x : F) → below n g
    → value (suc n) (line a c g) x ≡ c ⊕ (x ⊕ a) ⊙ value n g x
value_line n a c g x h = full n ∙ rw (h n (omega arith)) (simp ⊙-ring)
  where
    full : (n : ℕ) → value (suc n) (line a c g) x ≡ c ⊕ (x ⊕ a) ⊙ value n g x ⊕ a ⊙ (g n ⊙ pow x n)
    full zero = rw (value-last, line-zero, pow-zero) (simp (value_none, ⊙-ring))
    full (suc n) = rw (value-last (suc n), full n, value-last n, line-suc, pow-suc) (simp ⊙-ring)

-- ---- interpolation

-- Newton's steps: the first value, then the same problem for the divided differences
unfoldable pub interpolate : ℕ → (ℕ → F) → (ℕ → F) → Series
interpolate zero x y = O
interpolate (suc n) x y =
    line (x 0) (y 0) (interpolate n (λ j. x (suc j)) (λ j. (y (suc j) ⊕ y 0) ⊙ inv (x (suc j) ⊕ x 0)))

pub below-interpolate : (n : ℕ) (x y : ℕ → F) → below n (interpolate n x y)
unfolding interpolate
below-interpolate zero x y = λ i h. O-at i
below-interpolate (suc n) x y = below-line n _ _ _ (below-interpolate n _ _)

pub interpolate-at : (n : ℕ) (x y : ℕ → F) → Distinct n x → (j : ℕ) → j < n → value n (interpolate n x y) (x j) ≡ y j
unfolding interpolate
interpolate-at zero x y d j h = absurd (omega arith)
interpolate-at (suc n) x y d zero h = value_line n (x 0) (y 0) _ (x 0) (below-interpolate n _ _)
    ∙ rw ⊕_self (simp ⊙-ring)
interpolate-at (suc n) x y d (suc j) h =
    value_line n (x 0) (y 0) _ (x (suc j)) (below-interpolate n _ _)
    ∙ ap (λ t. y 0 ⊕ (x (suc j) ⊕ x 0) ⊙ t) (interpolate-at n (λ j. x (suc j)) _ (distinct-rest n x d) j (omega arith))
    ∙ ap (λ t. y 0 ⊕ t) (divide _ _ (distinct_apart n x d j (omega arith)))
    ∙ simp ⊕-group

-- ---- no other solution

-- the same double sum by rows and by columns: of a system, and of a polynomial's values

dual : (n : ℕ) (f x S : ℕ → F) → sum n (λ l. f l ⊙ sum n (λ w. pow (x w) l ⊙ S w)) ≡ sum n (λ w. S w ⊙ value n f (x w))
dual n f x S =
    sum_cong n _ _ (λ l q. ⊙-sum (f l) n _)
    ∙ sum-swap n n _
    ∙ sum_cong n _ _
    (λ w q. rw value-is (sum_cong n _ (λ l. S w ⊙ (f l ⊙ pow (x w) l)) (λ l r. simp ⊙-ring) ∙ sym (⊙-sum (S w) n _)))

-- a coefficient from the values
coefficient : (n : ℕ) (f : Series) (x : ℕ → F) → Distinct n x → (i : ℕ) → i < n
    → f i ≡ sum n (λ w. solution n x (zpow i) w ⊙ value n f (x w))
coefficient n f x d i h =
    sym (sum-zpow n i f h)
    ∙ sum_cong n _ _ (λ l q. ap (λ t. f l ⊙ t) (sym (solution_solves n x (zpow i) d l q)))
    ∙ dual n f x (solution n x (zpow i))

pub interpolate_unique : (n : ℕ) (f g : Series) (x : ℕ → F) → Distinct n x
    → ((j : ℕ) → j < n → value n f (x j) ≡ value n g (x j)) → (i : ℕ) → i < n → f i ≡ g i
interpolate_unique n f g x d h i l =
    coefficient n f x d i l ∙ sum_cong n _ _ (λ w q. ap (λ t. solution n x (zpow i) w ⊙ t) (h w q))
    ∙ sym (coefficient n g x d i l)

pub interpolate-is : (n : ℕ) (f : Series) (x y : ℕ → F)
    → Distinct n x → below n f → ((j : ℕ) → j < n → value n f (x j) ≡ y j) → f ≡ interpolate n x y
interpolate-is n f x y d b h =
    sym (below-cut_eq n f b)
    ∙ cut_unique n f _ (interpolate_unique n f _ x d (λ j l. h j l ∙ sym (interpolate-at n x y d j l)))
    (below-interpolate n x y)

pub roots-zero : (n : ℕ) (f : Series) (x : ℕ → F)
    → Distinct n x → below n f → ((j : ℕ) → j < n → value n f (x j) ≡ 𝟎) → f ≡ O
roots-zero n f x d b h = fun_ext (λ i. by_cases (dec_le n i) (b i) (inner i) ∙ sym (O-at i))
  where
    inner : (i : ℕ) → ¬ (n ≤ i) → f i ≡ 𝟎
    inner i l = coefficient n f x d i (omega arith)
        ∙ sum-zero n _ (λ w q. ap (λ t. solution n x (zpow i) w ⊙ t) (h w q) ∙ ⊙-zero _)

-- an unknown from the right sides
unknown : (n : ℕ) (x N S : ℕ → F) → Distinct n x → Solves n x N S → (w : ℕ) → w < n
    → S w ≡ sum n (λ l. interpolate n x (zpow w) l ⊙ N l)
unknown n x N S d h w l =
    sym (sum-zpow n w S l)
    ∙ sum_cong n _ _ (λ k q. ap (λ t. S k ⊙ t) (sym (interpolate-at n x (zpow w) d k q)))
    ∙ sym (dual n (interpolate n x (zpow w)) x S)
    ∙ sum_cong n _ _ (λ k q. ap (λ t. interpolate n x (zpow w) k ⊙ t) (h k q))

pub solution_unique : (n : ℕ) (x N S T : ℕ → F)
    → Distinct n x → Solves n x N S → Solves n x N T → (w : ℕ) → w < n → S w ≡ T w
solution_unique n x N S T d h k w l = unknown n x N S d h w l ∙ sym (unknown n x N T d k w l)
