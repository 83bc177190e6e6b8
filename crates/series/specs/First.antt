-- "The word such that": the first word of a length that has a property, given the decision of the property.
-- It is a definition to reason with and is never run: there are 256^n candidates.
--
--   first n P?  the first word w of length n with P w, in the order of the words' bytes, first position first; none if
--               no word has P
--
-- Proved: what is found has the length and the property (first_some); nothing is found where no word has it
-- (first-never), and only there (first-none); a word that alone has it is found (first_one); equivalent properties find
-- the same (first_cong).
use Rattle.std.specs.Prelude.{ℕ, zero, suc, ◌<◌, ◌≡◌, refl, ◌↔◌, List, [], ◌∷◌, length}
use Rattle.std.proofs.Common.{sym, ◌∙◌, ap, subst, arith}
use Rattle.std.proofs.Math.Path.{fun_ext}
use Rattle.std.proofs.Math.Logic.{ite, if_pos, if_neg}
use Rattle.std.proofs.Math.Option.{Option, none, some, or_else, map, map-eq-none_iff, map-eq-some_iff, some-injective}
use Rattle.std.proofs.Math.Option.{none-ne-some, some-ne-none}
use Rattle.std.proofs.Math.Decide.{ℕ_discrete}
use Rattle.field.specs.Field.{F, of, byte, of-byte, byte_lt}

-- the first that f finds at the values of the bytes 0, 1, .. k - 1
among : ℕ → (F → Option (List F)) → Option (List F)
among zero f = none
among (suc k) f = or_else (among k f) (f (of k))

pub first : (n : ℕ) {P : List F → Type 0} → ((w : List F) → Dec (P w)) → Option (List F)
first zero P? = ite (P? []) (some []) none
first (suc n) P? = among 256 (λ x. map (λ w. x ∷ w) (first n (λ w. P? (x ∷ w))))

-- ---- the search among the bytes

among-some : (k : ℕ) (f : F → Option (List F)) (w : List F) → among k f ≡ some w → (x : F) × (f x ≡ some w)
unfolding among or_else
among-some zero f w e = absurd (none-ne-some w e)
among-some (suc k) f w e = go (among k f) (among-some k f w) e
  where
    go : (o : Option (List F)) → (o ≡ some w → (x : F) × (f x ≡ some w)) → or_else o (f (of k)) ≡ some w
        → (x : F) × (f x ≡ some w)
    go none ih e = (of k, e)
    go (some v) ih e = ih e

among_none : (k : ℕ) (f : F → Option (List F)) → among k f ≡ none → (i : ℕ) → i < k → f (of i) ≡ none
unfolding among or_else
among_none zero f e i h = absurd (omega arith)
among_none (suc k) f e i h = go (among k f) (among_none k f) e (ℕ_discrete i k)
  where
    go : (o : Option (List F)) → (o ≡ none → (i : ℕ) → i < k → f (of i) ≡ none) → or_else o (f (of k)) ≡ none
        → Dec (i ≡ k) → f (of i) ≡ none
    go none ih e (yes q) = rw q e
    go none ih e (no q) = ih refl i (omega arith)
    go (some v) ih e q = absurd (some-ne-none v e)

-- ---- the search among the words

pub first_some : (n : ℕ) {P : List F → Type 0} (P? : (w : List F) → Dec (P w)) (w : List F)
    → first n P? ≡ some w → (length w ≡ n) × P w
unfolding first
first_some zero {P} P? w e = go (P? []) e
  where
    go : (d : Dec (P [])) → ite d (some []) none ≡ some w → (length w ≡ 0) × P w
    go (yes p) e = let q : [] ≡ w = some-injective [] w e in (ap length (sym q), subst P q p)
    go (no p) e = absurd (none-ne-some w e)
first_some (suc n) {P} P? w e =
    let (x, f) = among-some 256 _ w e in
    let (v, g, q) = (map-eq-some_iff (λ v. x ∷ v) (first n (λ v. P? (x ∷ v)))).0 f in
    let (l, p) = first_some n (λ v. P? (x ∷ v)) v g in
    (ap length (sym q) ∙ ap suc l, subst P q p)

pub first-none : (n : ℕ) {P : List F → Type 0} (P? : (w : List F) → Dec (P w))
    → first n P? ≡ none → (w : List F) → length w ≡ n → ¬ P w
unfolding first
first-none zero P? e [] l p = some-ne-none [] (sym (if_pos (P? []) p (some []) none) ∙ e)
first-none zero P? e (x ∷ w) l p = absurd (omega arith)
first-none (suc n) P? e [] l p = absurd (omega arith)
first-none (suc n) P? e (x ∷ w) l p =
    let f : map (λ v. x ∷ v) (first n (λ v. P? (x ∷ v))) ≡ none =
    rw of-byte at (among_none 256 _ e (byte x) (byte_lt x)) in
    first-none n (λ v. P? (x ∷ v)) ((map-eq-none_iff (λ v. x ∷ v) _).0 f) w (omega arith) p

pub first-never : (n : ℕ) {P : List F → Type 0} (P? : (w : List F) → Dec (P w))
    → ((w : List F) → length w ≡ n → ¬ P w) → first n P? ≡ none
first-never n P? h = go (first n P?) refl
  where
    go : (o : Option (List F)) → first n P? ≡ o → first n P? ≡ none
    go none e = e
    go (some w) e = let (l, p) = first_some n P? w e in absurd (h w l p)

pub first_one : (n : ℕ) {P : List F → Type 0} (P? : (w : List F) → Dec (P w)) (w : List F) → length w ≡ n → P w
    → ((v : List F) → length v ≡ n → P v → v ≡ w) → first n P? ≡ some w
first_one n P? w l p one = go (first n P?) refl
  where
    go : (o : Option (List F)) → first n P? ≡ o → first n P? ≡ some w
    go none e = absurd (first-none n P? e w l p)
    go (some v) e = let (k, q) = first_some n P? v e in e ∙ ap {B = Option (List F)} some (one v k q)

pub first_cong : (n : ℕ) {P Q : List F → Type 0} (P? : (w : List F) → Dec (P w)) (Q? : (w : List F) → Dec (Q w))
    → ((w : List F) → length w ≡ n → P w ↔ Q w) → first n P? ≡ first n Q?
unfolding first
first_cong zero {P} P? Q? h = go (P? [])
  where
    go : Dec (P []) → first 0 P? ≡ first 0 Q?
    go (yes p) = if_pos (P? []) p _ _ ∙ sym (if_pos (Q? []) ((h [] refl).0 p) _ _)
    go (no p) = if_neg (P? []) p _ _ ∙ sym (if_neg (Q? []) (λ q. p ((h [] refl).1 q)) _ _)
first_cong (suc n) P? Q? h =
    ap (among 256) (fun_ext (λ x. ap (map (λ w. x ∷ w)) (first_cong n _ _ (λ w l. h (x ∷ w) (ap suc l)))))
