-- The stages that a subword went through, taken as rounds of its syndromes.
--
-- Proved, for the stages of a valid profile: the rounds joined are the row below 2 t_r (rounds-joined), and nothing
-- else of the row counts (rounds_cong).
use Prim.Native.Nat.{ℕ, zero, suc, ◌+◌, ◌-◌, ◌*◌, ◌≤◌, ◌<◌}
use Rattle.std.specs.Prelude.{◌≡◌}
use Rattle.std.proofs.Math.Path.{sym, ap, ap₂}
use Rattle.std.proofs.Common.{◌∙◌, zero-add, suc-add, arith}
use mathlib.Core.List.{[], ◌∷◌, ◌++◌, append-nil}
use Rattle.series.specs.Series.{Series}
use Rattle.series.specs.Shift.{drop, drop_at, drop-none}
use Rattle.series.specs.Word.{word, length-word, entry-word, word_ext}
use Rattle.key_equation.specs.Run.{joined}
use Rattle.key_equation.specs.Ends.{joined-append}
use Rattle.profile.specs.declared.Profile.{Profile}
use Rattle.profile.specs.Definition.{capability}
use Rattle.profile.specs.Valid.{Valid}
use Rattle.staged_decoding.specs.Definition.{round_of, rounds_of}

word_cong : (n : ℕ) (f g : Series) → ((i : ℕ) → i < n → f i ≡ g i) → word n f ≡ word n g
word_cong n f g h =
    word_ext n _ _ (length-word n f) (length-word n g) (λ i l. entry-word n f i l ∙ h i l ∙ sym (entry-word n g i l))

-- a word cut in two
word_split : (m n : ℕ) (f : Series) → word (m + n) f ≡ word m f ++ word n (drop m f)
unfolding word
word_split zero n f = rw (zero-add, drop-none)
word_split (suc m) n f =
    rw suc-add (ap (λ t. f 0 ∷ t) (word_split m n (λ i. f (suc i)) ∙ ap (λ t. word m (λ i. f (suc i)) ++ t) same))
  where
    same : word n (drop m (λ i. f (suc i))) ≡ word n (drop (suc m) f)
    same = word_cong n _ _ (λ i l. drop_at m _ i ∙ sym (drop_at (suc m) f i ∙ ap f (suc-add m i)))

module _ (p : Profile) (ok : Valid p) where
  pub rounds-joined : (s : Series) (r : ℕ) → r ≤ p.nested → joined (rounds_of p s r) ≡ word (2 * capability p r) s
  unfolding rounds_of joined
  rounds-joined s zero h = append-nil _
  rounds-joined s (suc r) h =
      let e : 2 * capability p r + (2 * capability p (suc r) - 2 * capability p r) ≡ 2 * capability p (suc r) =
      omega (arith, ok.ordered r h) in
      joined-append (rounds_of p s r) (round_of p s (suc r) ∷ [])
      ∙ ap₂ ◌++◌ (rounds-joined s r (omega arith)) (append-nil (round_of p s (suc r)))
      ∙ sym (word_split (2 * capability p r) _ s)
      ∙ ap (λ k. word k s) e

  pub rounds_cong : (s u : Series) (r : ℕ) → r ≤ p.nested → ((j : ℕ) → j < 2 * capability p r → s j ≡ u j)
      → rounds_of p s r ≡ rounds_of p u r
  unfolding rounds_of
  rounds_cong s u zero h e = ap (λ t. t ∷ []) (word_cong (2 * capability p 0) s u e)
  rounds_cong s u (suc r) h e =
      ap₂ (λ a b. a ++ (b ∷ [])) (rounds_cong s u r (omega arith) (λ j l. e j (omega (arith, ok.ordered r h))))
      (word_cong _ _ _ (λ i l. drop_at _ s i ∙ e (2 * capability p r + i) (omega arith) ∙ sym (drop_at _ u i)))
