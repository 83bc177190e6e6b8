use Rattle.std.proofs.Common.{ap, arith, sym, ◌∙◌, ◌≡◌}
use Rattle.field.specs.Field.{val_of}
use Rattle.series.specs.Shift.{cut}
use Rattle.series.specs.Array.{bytes, read_at, filled_none, filled_more}
use Rattle.polynomial.specs.Polynomial.{row-values}
use Rattle.solver.specs.RoundsRun.{length-syndromes, first-is}
use Rattle.solver.proofs.rounds.Rounds.first.Goals as goal

pub loop-i-init : goal.loop-i-init
loop-i-init c = filled_none 48 _

pub bounds-self-i : goal.bounds-self-i
bounds-self-i c = omega (arith, length-syndromes c.args.self.syndromes.now)

pub bounds-s-i : goal.bounds-s-i
bounds-s-i c = omega (arith, length-syndromes c.args.self.syndromes.now)

pub loop-i-preserved : goal.loop-i-preserved
loop-i-preserved c =
    let few = length-syndromes c.args.self.syndromes.now in
    filled_more _ c.loop-i.invariant (omega (arith, few)) (val_of _ ∙ sym (read_at _ _ _ _))

pub returns : goal.returns
returns c =
    let filled = c.loop-i.invariant in
    let all : c.loop-i.i ≡ c.args.n = omega arith in
    row-values _ filled.long
    ∙ filled.is
    ∙ ap (λ k. cut k (bytes c.args.self.syndromes.now)) all ∙ first-is _ _ c.requires
