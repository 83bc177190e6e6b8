-- Eight times the same line.
use Rattle.stages.specs.Lines.{started}
use Rattle.stages.proofs.report.start.Goals as goal

pub returns : goal.returns
returns c =
    let start = c.start in
    started _ _ _ start.ensures c.clean.ensures.0 c.clean.ensures.1
