-- The bytes 0, 1 and 2.
use Rattle.std.proofs.Common.{refl}
use Rattle.field.specs.Definition.{𝟎, 𝟏, α, is_odd, of, val, named}
use Rattle.field.proofs.Gf.named.Goals as goal

pub returns : goal.returns
unfolding named val of is_odd 𝟎 𝟏 α
returns c = refl
