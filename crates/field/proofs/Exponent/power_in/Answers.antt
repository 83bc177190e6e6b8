-- The lent table is the one defined.
use Rattle.std.proofs.Common.{List, ap, get_or, ℕ, ◌∙◌}
use Rattle.field.specs.Definition.{val, of}
use Rattle.field.specs.Byte.{of-byte}
use Rattle.field.proofs.Log.{power_table-at}
use Rattle.field.proofs.Exponent.power_in.Goals as goal

pub returns : goal.returns
unfolding val
returns c =
    let e = c.args.self.0 in
    ap (λ (l : List ℕ). of (get_or l e 0)) c.requires.0 ∙ ap of (power_table-at e c.requires.1) ∙ of-byte _
