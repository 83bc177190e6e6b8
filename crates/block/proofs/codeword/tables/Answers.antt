-- One table, or two.
use Rattle.std.proofs.Common.{arith}
use Rattle.profile.specs.Valid.{checks-least, checks-most}
use Rattle.divider.specs.GeneratorTable.{table_for}
use Rattle.block.proofs.codeword.tables.Goals as goal

pub table-requires : goal.table-requires
table-requires c =
    let p = c.args.p in
    let ok = c.requires.0 in
    (omega (arith, ok.root), omega (arith, checks-least p ok 0, checks-most p ok 0), c.requires.1)

pub returns-then-p-eq0 : goal.returns-then-p-eq0
returns-then-p-eq0 c = record { subwords = c.table.ensures; further = λ h. absurd (omega arith) }

pub further-requires : goal.further-requires
further-requires c = c.requires.0

pub table-requires-2 : goal.table-requires-2
table-requires-2 c =
    let p = c.args.p in
    let ok = c.requires.0 in (
      omega (arith, ok.root, checks-least p ok 0, checks-most p ok 0),
      omega (arith, checks-most p ok 0, c.further.ensures),
      c.requires.2,
    )

pub returns : goal.returns
returns c = record {
  subwords = c.table.ensures;
  further = λ _. table_for c.further.ensures c.table-2.ensures;
}
