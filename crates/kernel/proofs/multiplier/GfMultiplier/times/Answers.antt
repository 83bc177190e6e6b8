use Rattle.std.proofs.Common.{ap, sym, ◌∙◌}
use Rattle.field.specs.Field.{F, ◌⊙◌, of, val_of}
use Rattle.kernel.proofs.multiplier.GfMultiplier.times.Goals as goal

pub returns : goal.returns
returns c a by = c.multiply.ensures ∙ ap (λ (s : F). s ⊙ of c.args.x) (sym (val_of c.args.self.now) ∙ by)
