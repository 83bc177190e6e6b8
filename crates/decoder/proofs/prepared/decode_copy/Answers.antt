-- The copy is decoded, and stands for the input.
use Rattle.std.proofs.Common.{ap, arith, sym, ◌*◌, ◌∙◌}
use Rattle.series.specs.Array.{bytes}
use Rattle.code.specs.Check.{received}
use Rattle.decoder.specs.Laws.{fits-same, reached-same, reached-told}
use Rattle.decoder.proofs.prepared.decode_copy.Goals as goal

pub copy-requires : goal.copy-requires
copy-requires c = c.requires.1

pub run-e-requires : goal.run-e-requires
run-e-requires c =
    let copied = c.copy.ensures in (
      fits-same copied c.requires.0,
      c.requires.3,
      c.requires.4 ∙ ap (λ b. received c.args.p (bytes b) (2 * c.args.p.t0)) (sym copied),
    )

pub conclude-requires : goal.conclude-requires
conclude-requires c =
    let same = c.block-2-1.given in
    let first = c.block-1.given in
    let ok = c.requires.0.valid in (
      record { valid = ok; size = omega (arith, same, first, c.requires.0.size, c.requires.1) },
      omega (arith, same, first, c.requires.1, c.requires.2),
      c.requires.3,
      reached-told _ c.args.form _ _ _ ok c.run-e.ensures,
    )

pub returns : goal.returns
returns c =
    c.conclude.ensures _ (reached-same
    c.copy.ensures
    c.run-e.ensures)
