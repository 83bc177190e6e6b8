-- What the symbols from k on leave, against the first k.
use Rattle.std.proofs.Common.{length}
use Rattle.series.specs.Array.{bytes}
use Rattle.divider.specs.ReedSolomonResidue.{residue-table}
use Rattle.divider.proofs.reed_solomon.residue.Goals as goal

pub remainder-requires : goal.remainder-requires
remainder-requires c = (c.requires.0.multiples, c.requires.2)

pub returns : goal.returns
returns c =
    let word = c.args.word.now in
    residue-table c.args.first (length word) c.args.k c.args.t.now (bytes word) _ _
    c.requires.1 c.requires.2 c.requires.0
    c.remainder.ensures c.difference.ensures
