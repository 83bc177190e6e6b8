-- Line after line.
use Rattle.std.proofs.Common.{rules}
use Rattle.stages.proofs.lines.Goals as goal

pub returns : goal.returns
returns c = record {
  long = c.map.ensures.items.long;
  told = λ i h s l. let (_, _, called) = c.map.ensures.items.at i s l h in search (rules, called);
}
