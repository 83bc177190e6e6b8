-- A change of zero is none, and adds nothing.
use Rattle.std.proofs.Common.{add-one, rules, sym, ◌∙◌}
use mathlib.Core.Logic.{if_pos, if_neg}
use Rattle.field.specs.Field.{𝟎, ◌≟◌, val, is_zero_true, is_zero_false}
use Rattle.settle.specs.Effect.{no_change}
use Rattle.settle.proofs.check.count_change.Goals as goal

pub returns-then-is_zero : goal.returns-then-is_zero
returns-then-is_zero c =
    let y = val c.args.y in
    let z = is_zero_true y (sym c.is_zero.ensures ∙ c.if-is_zero.true) in
    (sym (if_pos (y ≟ 𝟎) z _ _), no_change _ _ y z)

pub add_change-requires : goal.add_change-requires
add_change-requires c =
    (c.requires.1, is_zero_false _ (sym c.is_zero.ensures ∙ c.if-is_zero.false), search rules)

pub returns : goal.returns
returns c =
    let y = val c.args.y in (
      add-one _ ∙ sym (if_neg (y ≟ 𝟎) (is_zero_false y (sym c.is_zero.ensures ∙ c.if-is_zero.false)) _ _),
      c.add_change.ensures,
    )
