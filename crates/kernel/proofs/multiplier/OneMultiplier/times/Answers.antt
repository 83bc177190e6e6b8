use Rattle.std.proofs.Common.{ap, sym, ◌∙◌}
use Rattle.field.specs.Field.{F, ◌⊙◌, of, one-⊙}
use Rattle.kernel.proofs.multiplier.OneMultiplier.times.Goals as goal

pub returns : goal.returns
returns c a by = sym (ap (λ (s : F). s ⊙ of c.args.x) (sym by) ∙ one-⊙ _)
