-- A fact for each entry of one list and the entry of another at the same place.
--
--   Each R xs ys            R holds of each entry of xs and the entry of ys at its place
--   Passed R xs i ys zs     zs is ys with other first i entries, of which it holds
--
-- Proved: a loop that writes an entry a pass begins by passed-none, goes on by passed-more and ends by passed-all. What
-- holds of the two first and of the two last of four holds of each (each-pairs), and so does what holds of one after
-- the other (each-of_four).
use Rattle.std.specs.Prelude.{ℕ, zero, suc, ◌+◌, ◌≤◌, ◌<◌, ◌≡◌, refl, List, [], ◌∷◌, length, get_or, set, take, drop}
use Rattle.std.proofs.Common.{sym, ◌∙◌, arith, length-set, length-take-le, length-drop, get_or-set_same}
use Rattle.std.proofs.Common.{get_or-set_other}
use Rattle.std.proofs.lemmas.List.{get_or-take, get_or-drop, get_or_default}
use Rattle.std.proofs.Math.Decide.{ℕ_discrete}

abbrev pub Each : {X Y : Type 0} → (X → Y → Type 0) → List X → List Y → Type 0
Each {X} {Y} R xs ys = (i : ℕ) (x : X) (y : Y) → i < length xs → R (get_or xs i x) (get_or ys i y)

pub record Passed {X Y : Type 0} (R : X → Y → Type 0) (xs : List X) (i : ℕ) (ys zs : List Y) : Type 0 where
  pub long : length zs ≡ length ys
  pub done : (k : ℕ) (x : X) (y : Y) → k < i → R (get_or xs k x) (get_or zs k y)
  pub other : (k : ℕ) (y : Y) → i ≤ k → get_or zs k y ≡ get_or ys k y

module _ {X Y : Type 0} {R : X → Y → Type 0} {xs : List X} where
  pub passed-none : {ys : List Y} → Passed R xs 0 ys ys
  passed-none = record { long = refl; done = λ k x y h. absurd (omega arith); other = λ k y h. refl }

  pub passed-more : {i : ℕ} {ys zs : List Y} {v : Y} → Passed R xs i ys zs → i < length zs → i < length xs
      → (x : X) → R (get_or xs i x) v → Passed R xs (i + 1) ys (set zs i v)
  passed-more {i} {ys} {zs} {v} p room h d here =
      record {
        long = length-set zs i v ∙ p.long;
        done = λ k x y l. go k x y l (ℕ_discrete k i);
        other = λ k y l. get_or-set_other zs i k v y (omega arith) ∙ p.other k y (omega arith);
      }
    where
      go : (k : ℕ) (x : X) (y : Y) → k < i + 1 → Dec (k ≡ i) → R (get_or xs k x) (get_or (set zs i v) k y)
      go k x y l (yes e) = rw (e, get_or-set_same zs i v y room, get_or_default xs i x d h) here
      go k x y l (no n) = rw (get_or-set_other zs i k v y n) (p.done k x y (omega arith))

  pub passed-all : {i : ℕ} {ys zs : List Y} → Passed R xs i ys zs → length xs ≤ i → Each R xs zs
  passed-all p h k x y l = p.done k x y (omega arith)

-- of four from the two first and the two last
pub each-pairs : {X Y : Type 0} (R : X → Y → Type 0) (xs : List X) (ys zs : List Y) (d : Y) → length xs ≡ 4
    → Each R (take 2 xs) ys → Each R (take 2 (drop 2 xs)) zs
    → Each R xs (get_or ys 0 d ∷ get_or ys 1 d ∷ get_or zs 0 d ∷ get_or zs 1 d ∷ [])
each-pairs {X} {Y} R xs ys zs d long p q = at_i
  where
    first : (i : ℕ) (x : X) → i < 2 → R (get_or xs i x) (get_or ys i d)
    first i x h = rw (sym (get_or-take 2 xs i x h)) (p i x d (omega (arith, long, length-take-le 2 xs)))

    last : (i : ℕ) (x : X) → i < 2 → R (get_or xs (2 + i) x) (get_or zs i d)
    last i x h =
        rw (sym (get_or-take 2 (drop 2 xs) i x h ∙ get_or-drop 2 xs i x))
        (q i x d (omega (arith, long, length-drop 2 xs, length-take-le 2 (drop 2 xs))))

    at_i : (i : ℕ) (x : X) (y : Y) → i < length xs
        → R (get_or xs i x) (get_or (get_or ys 0 d ∷ get_or ys 1 d ∷ get_or zs 0 d ∷ get_or zs 1 d ∷ []) i y)
    at_i zero x y h = first 0 x (omega arith)
    at_i (suc zero) x y h = first 1 x (omega arith)
    at_i (suc (suc zero)) x y h = last 0 x (omega arith)
    at_i (suc (suc (suc zero))) x y h = last 1 x (omega arith)
    at_i (suc (suc (suc (suc i)))) x y h = absurd (omega (arith, long, h))

-- of each of four in turn
pub each-of_four : {X : Type 0} (P : ℕ → X → Type 0) (a b c d : X) → P 0 a → P 1 b → P 2 c → P 3 d
    → (i : ℕ) (x : X) → i < 4 → P i (get_or (a ∷ b ∷ c ∷ d ∷ []) i x)
each-of_four P a b c d pa pb pc pd zero x h = pa
each-of_four P a b c d pa pb pc pd (suc zero) x h = pb
each-of_four P a b c d pa pb pc pd (suc (suc zero)) x h = pc
each-of_four P a b c d pa pb pc pd (suc (suc (suc zero))) x h = pd
each-of_four P a b c d pa pb pc pd (suc (suc (suc (suc i)))) x h = absurd (omega arith)
