-- What the length gives.
use Rattle.std.proofs.Common.{to_z-of_z, w32, ◌∙◌}
use Rattle.solver.proofs.Solver.k.Goals as goal

pub returns : goal.returns
returns c f m h =
    to_z-of_z {w = w32} (record { sfits = c.k.type_inv }) ∙ c.k.ensures ∙ c.length.ensures.has_length _ f m h
