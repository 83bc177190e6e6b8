-- Copies of lists, and parts of lists that are written anew.
--
-- Proved: a list whose first i entries are those of another has its first i + 1 entries after one more store
-- (copied_more). Where the first k entries of a list are written anew, it is what was written and the list from k on
-- (front); in a list of zeros, what was written alone (front-zeros). The first entries of zeros are zeros
-- (prefix-zeros).
use Rattle.std.specs.Prelude.{ℕ, ◌+◌, ◌≤◌, ◌<◌, ◌≡◌, List, ◌++◌, length, get_or, set, take, replicate}
use Rattle.std.specs.Prelude.{drop as drop-list}
use Rattle.std.proofs.Common.{sym, ap, ap₂, ◌∙◌, arith, get_or-set_same, get_or-set_other}
use Rattle.std.proofs.Math.Path.{fun_ext}
use Rattle.std.proofs.Math.Decide.{ℕ_discrete}
use Rattle.std.proofs.lemmas.List.{length-replicate}
use Rattle.field.specs.Field.{of, of_zero}
use Rattle.series.specs.Series.{Series, O, O-at, ◌⊞◌, ◌⊠◌, ⊠-ring}
use Rattle.series.specs.Shift.{zpow, drop, cut, drop_at, cut_low, cut-none, cut-drop}
use Rattle.series.specs.Degree.{below-O, below-cut_eq}
use Rattle.series.specs.Array.{bytes, read-zeros}
use Rattle.series.specs.Part.{read_left, read_right, read-drop, read_prefix}
use Rattle.kernel.specs.Store.{cut_cong}

pub copied_more : (to from : List ℕ) (i : ℕ) → i < length to → ((k : ℕ) → k < i → get_or to k 0 ≡ get_or from k 0)
    → (k : ℕ) → k < i + 1 → get_or (set to i (get_or from i 0)) k 0 ≡ get_or from k 0
copied_more to from i h before k l = go (ℕ_discrete k i)
  where
    go : Dec (k ≡ i) → get_or (set to i (get_or from i 0)) k 0 ≡ get_or from k 0
    go (yes e) = rw e (get_or-set_same to i (get_or from i 0) 0 h)
    go (no n) = get_or-set_other to i k (get_or from i 0) 0 n ∙ before k (omega (arith, n))

-- ---- the first entries

pub front : (k : ℕ) (y w : List ℕ) (f : Series) → length y ≡ k → bytes y ≡ cut k f
    → bytes (y ++ drop-list k w) ≡ cut k f ⊞ zpow k ⊠ drop k (bytes w)
front k y w f l e = cut-drop k X ∙ ap₂ (λ (s t : Series). s ⊞ zpow k ⊠ t) low high
  where
    X : Series
    X = bytes (y ++ drop-list k w)

    low : cut k X ≡ cut k f
    low = cut_cong k X f (λ i h.
        read_left of 0 y (drop-list k w) i (omega arith) ∙ ap (λ (g : Series). g i) e ∙ cut_low k f i h)

    high : drop k X ≡ drop k (bytes w)
    high = fun_ext (λ i.
        drop_at k X i
        ∙ ap (λ (n : ℕ). X (n + i)) (sym l)
        ∙ read_right of 0 y (drop-list k w) i
        ∙ read-drop of 0 k w i
        ∙ sym (drop_at k (bytes w) i))

pub zeros : (r : ℕ) → bytes (replicate r 0) ≡ O
zeros r = read-zeros of 0 of_zero r O ∙ cut-none O

pub prefix-zeros : (n r : ℕ) → n ≤ r → bytes (take n (replicate r 0)) ≡ O
prefix-zeros n r h =
    read_prefix of 0 of_zero n (replicate r 0) (omega (arith, length-replicate {A = ℕ} r 0)) ∙ ap (cut n) (zeros r)
    ∙ below-cut_eq n O (below-O n)

pub front-zeros : (k r : ℕ) (y : List ℕ) (f : Series) → length y ≡ k → bytes y ≡ cut k f
    → bytes (y ++ drop-list k (replicate r 0)) ≡ cut k f
front-zeros k r y f l e =
    let none : drop k O ≡ O = fun_ext (λ i. simp (drop_at, O-at)) in
    front k y (replicate r 0) f l e ∙ rw (zeros r, none) (simp ⊠-ring)
