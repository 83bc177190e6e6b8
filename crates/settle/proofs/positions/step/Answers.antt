-- The byte 255 stands for zero, and no other does.
use Rattle.std.proofs.Common.{ap, rules, sym, ◌∙◌}
use mathlib.Core.Logic.{if_pos, if_neg}
use Rattle.field.specs.Field.{𝟎, ◌≟◌}
use Rattle.settle.specs.PositionsExponent.{symbol, symbol-none, symbol-zero}
use Rattle.settle.proofs.positions.step.Goals as goal

pub returns-then-e-eq255 : goal.returns-then-e-eq255
returns-then-e-eq255 c =
    let e = c.args.e.0 in
    sym (if_pos (symbol e ≟ 𝟎) (ap symbol c.if-e-eq255.true ∙ symbol-none) _ _)

pub returns-else-e-eq255 : goal.returns-else-e-eq255
returns-else-e-eq255 c =
    let e = c.args.e.0 in
    sym (if_neg (symbol e ≟ 𝟎) (λ z. c.if-e-eq255.false (symbol-zero e (search rules) z)) _ _)
