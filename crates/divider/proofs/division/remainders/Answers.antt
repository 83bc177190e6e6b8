-- Four narrow words at a time, or two pairs of wide ones.
use Rattle.std.proofs.Common.{arith, length, rules, ◌≡◌}
use Rattle.std.proofs.lemmas.List.Elements.{All-take, All-drop}
use Rattle.divider.specs.Packed.{none}
use Rattle.divider.specs.Multiples.{wide, rows-narrow, rows-wide}
use Rattle.divider.specs.DivisionLeaves.{Leaves}
use Rattle.divider.specs.Each.{each-pairs}
use Rattle.divider.proofs.division.remainders.Goals as goal

pub leave-requires : goal.leave-requires
leave-requires c = (
  search rules,
  (rw (rows-narrow c.args.k c.if-k-le32.true) at c.requires.0, c.requires.1, search rules, c.requires.2),
)

pub returns-then-k-le32 : goal.returns-then-k-le32
returns-then-k-le32 c = rw (rows-narrow c.args.k c.if-k-le32.true) c.leave.ensures

pub leave-requires-else-k-le32 : goal.leave-requires-else-k-le32
leave-requires-else-k-le32 c = (
  search rules,
  (
    rw (rows-wide c.args.k (omega (arith, c.if-k-le32.false))) at c.requires.0,
    c.requires.1,
    search rules,
    All-take (λ w. length w.now ≡ c.args.n) 2 c.args.words c.requires.2,
  ),
)

pub leave-requires-else-k-le32-2 : goal.leave-requires-else-k-le32-2
leave-requires-else-k-le32-2 c = (
  search rules,
  (
    rw (rows-wide c.args.k (omega (arith, c.if-k-le32.false))) at c.requires.0,
    c.requires.1,
    search rules,
    All-take (λ w. length w.now ≡ c.args.n) 2 _ (All-drop (λ w. length w.now ≡ c.args.n) 2 c.args.words c.requires.2),
  ),
)

pub returns-else-k-le32 : goal.returns-else-k-le32
returns-else-k-le32 c =
    let first = c.leave-else-k-le32 in
    let last = c.leave-else-k-le32-2 in
    rw (rows-wide c.args.k (omega (arith, c.if-k-le32.false)))
    (each-pairs (λ w r. Leaves wide c.args.t.now c.args.k w.now r) c.args.words first.result last.result none
    (search rules) first.ensures last.ensures)
