-- The samples of FORMAT 10.1, 10.3 and 10.9, in one table; proofs/Samples.antt proves them.
--
--   Sample     a sample, by its kind
--   Claim s    what the sample says, in the words of the definitions
--   samples    the table
--   All P l    P holds of every sample of the list l
use Rattle.std.specs.Prelude.{ℕ, ◌≡◌, List, [], ◌∷◌, map, ℤ, pos, negsuc, length, Ok}
use Rattle.std.proofs.Math.Option.{some}
use Rattle.field.specs.Definition.{◌⊙◌, of, byte}
use Rattle.series.specs.Array.{bytes}
use Rattle.key_equation.specs.Run.{plain, scaled}
use Rattle.key_equation.specs.Ends.{finish}
use Rattle.profile.specs.Definition.{data_size}
use Rattle.profile.specs.Questions.{read, profile_of}
use Rattle.code.specs.Encoding.{encoding}

pub data Sample : Type 0 where
  -- a × b = c
  product : (a b c : ℕ) → Sample
  -- under the profile with the bytes b the data d is written as the block s
  written : (b d s : List ℕ) → Sample
  -- the state after one round of these syndromes, in the plain form
  plain_run : (S Λ B : List ℕ) (γ : ℕ) (k : ℤ) → Sample
  -- and in the scaled form
  scaled_run : (S Λ B : List ℕ) (γ' : ℕ) → Sample

unfoldable pub Claim : Sample → Type 0
Claim (product a b c) = byte (of a ⊙ of b) ≡ c
Claim (written b d s) =
    (profile_of b ≡ Ok (read b)) × (length d ≡ data_size (read b))
    × (encoding (read b) (map of d) ≡ some (map of s))
Claim (plain_run S Λ B γ k) =
    (finish plain (map of S ∷ [])).state ≡ record { Λ = bytes Λ; B = bytes B; γ = of γ; k = k }
Claim (scaled_run S Λ B γ') =
    ((finish scaled (map of S ∷ [])).state.Λ ≡ bytes Λ) × ((finish scaled (map of S ∷ [])).state.B ≡ bytes B)
    × ((finish scaled (map of S ∷ [])).state.γ' ≡ of γ')

-- P1 to P9 are the names that the customer gave them; where γ or k was left open, the model's stands here
unfoldable pub samples : List Sample
samples =
    product 2 128 29  -- P1
    ∷ product 2 142 1  -- P2
    ∷ product 3 244 1  -- P3
    ∷ written (2 ∷ 1 ∷ 5 ∷ 1 ∷ 2 ∷ 0 ∷ 0 ∷ []) (1 ∷ 0 ∷ 0 ∷ 0 ∷ [])
    (116 ∷ 231 ∷ 216 ∷ 30 ∷ 1 ∷ 0 ∷ 0 ∷ 0 ∷ 0 ∷ 0 ∷ [])  -- P4
    ∷ written (2 ∷ 1 ∷ 5 ∷ 1 ∷ 2 ∷ 0 ∷ 0 ∷ []) (0 ∷ 1 ∷ 0 ∷ 0 ∷ []) (8 ∷ 6 ∷ 1 ∷ 0 ∷ 0 ∷ 8 ∷ 6 ∷ 1 ∷ 0 ∷ 0 ∷ [])  -- P5
    ∷ plain_run (2 ∷ 4 ∷ []) (2 ∷ 4 ∷ []) (0 ∷ 1 ∷ []) 2 (pos 0)  -- P6
    ∷ scaled_run (2 ∷ 4 ∷ []) (1 ∷ 2 ∷ []) (0 ∷ 1 ∷ []) 2  -- P6
    ∷ plain_run (0 ∷ 1 ∷ []) (1 ∷ 0 ∷ 1 ∷ []) (1 ∷ []) 1 (negsuc 1)  -- P7, k = −2
    ∷ plain_run (3 ∷ 5 ∷ 9 ∷ 17 ∷ []) (34 ∷ 102 ∷ 68 ∷ []) (0 ∷ 3 ∷ 5 ∷ []) 10 (pos 0)  -- P8
    ∷ plain_run (0 ∷ 0 ∷ 0 ∷ 0 ∷ []) (1 ∷ []) (0 ∷ 0 ∷ 0 ∷ 0 ∷ 1 ∷ []) 1 (pos 4)  -- P9
    ∷ []

unfoldable pub All : (Sample → Type 0) → List Sample → Type 0
All P [] = Unit {0}
All P (s ∷ ss) = P s × All P ss
