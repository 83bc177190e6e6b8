-- The syndromes that are lent are at most 48.
use Rattle.std.proofs.Common.{arith}
use Rattle.solver.specs.RoundsRun.{length-syndromes}
use Rattle.solver.proofs.rounds.Rounds.reach.Goals as goal

pub returns : goal.returns
returns c = omega (arith, c.min.ensures, c.min-all.ensures, length-syndromes c.args.self.syndromes.now)
