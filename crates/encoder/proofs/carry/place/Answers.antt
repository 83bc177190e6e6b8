use Rattle.std.proofs.Common.{ap₂, arith, length-set, refl, sym, ◌∙◌}
use Rattle.field.specs.Field.{◌⊕◌, of, of_xor}
use Rattle.series.specs.Array.{read_at}
use Rattle.encoder.specs.CarrySubword.{placed-none, placed-more, placed-all}
use Rattle.encoder.proofs.carry.place.Goals as goal

pub loop-q-init : goal.loop-q-init
loop-q-init c = (refl, placed-none _ _ _ _)

pub loop-q-preserved : goal.loop-q-preserved
loop-q-preserved c =
    let now = c.loop-q in (
      length-set now.word _ _ ∙ now.invariant.0,
      placed-more c.args.k now.q _ c.args.input.now c.args.e.now now.word
          (omega (arith, now.invariant.0, c.requires.0))
          (of_xor _ _ ∙ ap₂ ◌⊕◌ (sym (read_at of 0 _ _)) (sym (read_at of 0 _ _))) now.invariant.1,
    )

pub shape_of-word : goal.shape_of-word
shape_of-word c = c.loop-q.invariant.0

pub returns : goal.returns
returns c =
    let end = c.loop-q in
    placed-all c.args.k end.q _ _ end.word (omega arith) (omega (arith, end.invariant.0, c.requires.0))
    (omega (arith, end.invariant.0, c.requires.1)) end.invariant.1
