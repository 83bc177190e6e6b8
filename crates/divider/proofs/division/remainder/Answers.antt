-- Narrow or wide by the degree.
use Rattle.std.proofs.Common.{[], arith, length, refl, rules, ◌≡◌}
use Rattle.std.proofs.lemmas.List.Elements.{All-nil, All-cons}
use Rattle.divider.specs.Packed.{none}
use Rattle.divider.specs.Multiples.{rows-narrow, rows-wide}
use Rattle.divider.proofs.division.remainder.Goals as goal

pub leave-requires : goal.leave-requires
leave-requires c =
    let word = c.args.word in (
      search rules,
      (
        rw (rows-narrow c.args.k c.if-k-le32.true) at c.requires.0,
        c.requires.1,
        refl,
        All-cons (λ w. length w.now ≡ length word.now) word [] refl (All-nil _),
      ),
    )

pub leave-requires-else-k-le32 : goal.leave-requires-else-k-le32
leave-requires-else-k-le32 c =
    let word = c.args.word in (
      search rules,
      (
        rw (rows-wide c.args.k (omega (arith, c.if-k-le32.false))) at c.requires.0,
        c.requires.1,
        refl,
        All-cons (λ w. length w.now ≡ length word.now) word [] refl (All-nil _),
      ),
    )

pub returns-then-k-le32 : goal.returns-then-k-le32
returns-then-k-le32 c =
    rw (rows-narrow c.args.k c.if-k-le32.true) (c.leave.ensures 0 c.args.word none (omega arith))

pub returns-else-k-le32 : goal.returns-else-k-le32
returns-else-k-le32 c =
    rw (rows-wide c.args.k (omega (arith, c.if-k-le32.false)))
    (c.leave-else-k-le32.ensures 0 c.args.word none (omega arith))
