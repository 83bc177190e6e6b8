-- Parts of arrays as series: what a part that is lent holds, and what the whole holds when the part is back.
--
--   splice a n y l   the list l with y in place of the n entries from a on
--
-- Proved, for arrays as series (`read` of Array): entries of beginnings, ends and joined lists (read_take, read-drop,
-- read_left, read_right); a part is the series from a on, cut at n (read-part, read_prefix); the whole with another
-- part in it has the new part inside (splice-inside) and is as it was after it (splice-after).
use Rattle.std.specs.Prelude.{ℕ, ◌+◌, ◌-◌, ◌≤◌, ◌<◌, ◌≡◌, List, ◌++◌, length, take, drop as drop-list}
use Rattle.std.proofs.Common.{sym, ap, ◌∙◌, arith, length-drop, get_or-take, get_or-drop, get_or-append-add}
use Rattle.std.proofs.Common.{length-take-le}
use Rattle.std.proofs.Math.ListN.{get_or-append}
use Rattle.field.specs.Field.{F, 𝟎}
use Rattle.series.specs.Shift.{cut, cut_unique, drop, drop_at}
use Rattle.series.specs.Array.{read, read_at, below-read}

abbrev pub splice : {A : Type 0} → ℕ → ℕ → List A → List A → List A
splice a n y l = take a l ++ (y ++ drop-list n (drop-list a l))

module _ {A : Type 0} (m : A → F) (d : A) where
  pub read_take : (n : ℕ) (l : List A) (i : ℕ) → i < n → read m d (take n l) i ≡ read m d l i
  read_take n l i h = read_at m d (take n l) i ∙ ap m (get_or-take n l i d h) ∙ sym (read_at m d l i)

  pub read-drop : (n : ℕ) (l : List A) (i : ℕ) → read m d (drop-list n l) i ≡ read m d l (n + i)
  read-drop n l i = read_at m d (drop-list n l) i ∙ ap m (get_or-drop n l i d) ∙ sym (read_at m d l (n + i))

  pub read_left : (l k : List A) (i : ℕ) → i < length l → read m d (l ++ k) i ≡ read m d l i
  read_left l k i h = read_at m d (l ++ k) i ∙ ap m (get_or-append l k d i h) ∙ sym (read_at m d l i)

  pub read_right : (l k : List A) (i : ℕ) → read m d (l ++ k) (length l + i) ≡ read m d k i
  read_right l k i = read_at m d (l ++ k) (length l + i) ∙ ap m (get_or-append-add l k i d) ∙ sym (read_at m d k i)

  pub read-part : (z : m d ≡ 𝟎) (a n : ℕ) (l : List A) → a + n ≤ length l
      → read m d (take n (drop-list a l)) ≡ cut n (drop a (read m d l))
  read-part z a n l h =
      sym (cut_unique n (drop a (read m d l)) (read m d (take n (drop-list a l)))
      (λ i q. drop_at a (read m d l) i ∙ sym (read_take n (drop-list a l) i q ∙ read-drop a l i))
      (λ i q. below-read m d z (take n (drop-list a l)) i
      (omega (arith, length-take-le n (drop-list a l) (omega (arith, length-drop a l))))))

  pub read_prefix : (z : m d ≡ 𝟎) (n : ℕ) (l : List A) → n ≤ length l → read m d (take n l) ≡ cut n (read m d l)
  read_prefix z n l h =
      sym (cut_unique n (read m d l) (read m d (take n l)) (λ i q. sym (read_take n l i q))
      (λ i q. below-read m d z (take n l) i (omega (arith, length-take-le n l h))))

  module _ (a n : ℕ) (y l : List A) (h : a ≤ length l) where
    pub splice-inside : length y ≡ n → (i : ℕ) → i < n → read m d (splice a n y l) (a + i) ≡ read m d y i
    splice-inside e i q =
        ap (λ (x : ℕ). read m d (splice a n y l) (x + i)) (sym (length-take-le a l h))
        ∙ read_right (take a l) (y ++ drop-list n (drop-list a l)) i
        ∙ read_left y _ i (omega (arith, e))

    pub splice-after : length y ≡ n → (i : ℕ) → a + n ≤ i → read m d (splice a n y l) i ≡ read m d l i
    splice-after e i q =
        let f : i ≡ a + (n + (i - (a + n))) = omega arith in
        let g : a + (n + (i - (a + n))) ≡ length (take a l) + (length y + (i - (a + n))) =
        omega (arith, length-take-le a l h, e) in
        ap (read m d (splice a n y l)) (f ∙ g)
        ∙ read_right (take a l) (y ++ drop-list n (drop-list a l)) (length y + (i - (a + n)))
        ∙ read_right y (drop-list n (drop-list a l)) (i - (a + n))
        ∙ read-drop n (drop-list a l) (i - (a + n))
        ∙ read-drop a l (n + (i - (a + n)))
        ∙ ap (read m d l) (sym f)
