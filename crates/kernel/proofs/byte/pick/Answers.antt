-- The bit times a.
use Rattle.std.proofs.Common.{ap, rules, ◌/◌, ◌∙◌}
use Rattle.field.specs.Field.{F, ◌⊕◌, of, of_xor}
use Rattle.kernel.specs.ByteMultiply.{pick_lt, of_pick}
use Rattle.kernel.proofs.byte.pick.Goals as goal

pub overflow_mul-result : goal.overflow_mul-result
overflow_mul-result c = record { fits = pick_lt (c.args.n / 128) c.args.a (search rules) (search rules) }

pub returns : goal.returns
returns c = of_xor _ _ ∙ ap (λ (s : F). of c.args.p ⊕ s) (of_pick (c.args.n / 128) _ (search rules))
