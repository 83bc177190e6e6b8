-- Capabilities rise to t_v, which is at most 24.
use Rattle.std.proofs.Common.{arith}
use Rattle.profile.specs.Valid.{capability-most}
use Rattle.stages.proofs.attempt.correctable.Goals as goal

pub returns : goal.returns
returns c =
    let (ok, h) = c.requires in
    (c.capability.ensures, omega (arith, c.capability.ensures, capability-most _ ok _ h))
