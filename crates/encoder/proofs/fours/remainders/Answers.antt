-- The data in words, and the words' remainders.
use Rattle.std.proofs.Common.{Bor, List, [], arith, get_or, length, length-take-le, rules, suc, take, zero, ℕ, ◌<◌, ◌≡◌}
use Rattle.std.proofs.lemmas.List.{get_or_default}
use Rattle.series.specs.Series.{◌⊠◌}
use Rattle.series.specs.Shift.{zpow}
use Rattle.series.specs.Array.{bytes}
use Rattle.divider.specs.Each.{each-of_four}
use Rattle.divider.specs.ReedSolomonResidue.{Residual}
use Rattle.encoder.specs.Fours.{Known, known_is}
use Rattle.encoder.proofs.fours.remainders.Goals as goal

abbrev none : Bor (List ℕ)
none = record { ref_ptr = (0, 0); now = [] }

pub padded-w-requires : goal.padded-w-requires
padded-w-requires c = omega (arith, c.requires.2, c.requires.3 0 none (omega arith))

pub padded-x-requires : goal.padded-x-requires
padded-x-requires c = omega (arith, c.requires.2, c.requires.3 1 none (omega arith))

pub padded-y-requires : goal.padded-y-requires
padded-y-requires c = omega (arith, c.requires.2, c.requires.3 2 none (omega arith))

pub padded-z-requires : goal.padded-z-requires
padded-z-requires c = omega (arith, c.requires.2, c.requires.3 3 none (omega arith))

pub residues-requires : goal.residues-requires
residues-requires c =
    let n = c.args.n in
    let size : (w : List ℕ) → length w ≡ 255 → length (take n w) ≡ n = λ w h.
    length-take-le n w (omega (arith, h, c.requires.2)) in (
      c.requires.0,
      c.requires.1,
      omega (arith, c.requires.3 0 none (omega arith)),
      each-of_four (λ _ w. length w.now ≡ n) _ _ _ _ (size c.padded-w.result (search rules))
          (size c.padded-x.result (search rules)) (size c.padded-y.result (search rules))
          (size c.padded-z.result (search rules)),
    )

pub returns : goal.returns
returns c = at_i
  where
    f : ℕ
    f = c.args.first

    n : ℕ
    n = c.args.n

    k : ℕ
    k = c.args.k

    known : (i : ℕ) (x : Bor (List ℕ)) (w r : List ℕ) → i < 4 → length w ≡ 255
        → bytes w ≡ zpow k ⊠ bytes (get_or c.args.parts i none).now → Residual f k (take n w) r
        → Known f n k (get_or c.args.parts i x).now r
    known i x w r h long is left =
        rw (get_or_default c.args.parts i x none (omega arith))
        (known_is f n k _ w r (c.requires.3 i none (omega arith)) (omega (arith, long, c.requires.2)) is left)

    at_i : (i : ℕ) (x : Bor (List ℕ)) (y : List ℕ) → i < length c.args.parts
        → Known f n k (get_or c.args.parts i x).now (get_or c.residues.result i y)
    at_i zero x y h =
        known 0 x c.padded-w.result _ (omega arith) (search rules) c.padded-w.ensures
        (c.residues.ensures 0 none y (omega arith))
    at_i (suc zero) x y h =
        known 1 x c.padded-x.result _ (omega arith) (search rules) c.padded-x.ensures
        (c.residues.ensures 1 none y (omega arith))
    at_i (suc (suc zero)) x y h =
        known 2 x c.padded-y.result _ (omega arith) (search rules) c.padded-y.ensures
        (c.residues.ensures 2 none y (omega arith))
    at_i (suc (suc (suc zero))) x y h =
        known 3 x c.padded-z.result _ (omega arith) (search rules) c.padded-z.ensures
        (c.residues.ensures 3 none y (omega arith))
    at_i (suc (suc (suc (suc i)))) x y h = absurd (omega (arith, h))
