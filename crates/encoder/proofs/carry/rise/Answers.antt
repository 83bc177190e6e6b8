use Rattle.std.proofs.Common.{ap, ap₂, arith, length-set, refl, sym, ◌∙◌}
use Rattle.field.specs.Field.{F, α, ◌⊕◌, ◌⊙◌, pow, of, of_xor}
use Rattle.series.specs.Array.{bytes, read_at}
use Rattle.encoder.specs.CarryRise.{rise-none, rise-more, rise-all}
use Rattle.encoder.proofs.carry.rise.Goals as goal

pub returns-then-last-l : goal.returns-then-last-l
returns-then-last-l c h = absurd (omega arith)

pub loop-q-init : goal.loop-q-init
loop-q-init c = (refl, rise-none _ _ _)

pub loop-q-preserved : goal.loop-q-preserved
loop-q-preserved c =
    let now = c.loop-q in (
      length-set now.word _ _ ∙ now.invariant.0,
      rise-more (pow α c.args.l) (bytes c.args.word.now) (bytes c.args.from.now) now.word
          now.q _ (omega (arith, now.invariant.0))
          now.invariant.1 (of_xor _ _ ∙ ap₂ (λ (s t : F). s ⊕ t) (c.raised.ensures
          ∙ ap (λ (s : F). pow α c.args.l ⊙ s) (sym (read_at of 0 _ _))) (sym (read_at of 0 _ _))),
    )

pub shape_of-word : goal.shape_of-word
shape_of-word c = c.loop-q.invariant.0

pub returns : goal.returns
returns c h =
    let end = c.loop-q in
    end.invariant.1 ∙ rise-all _ end.q _ _ (omega (arith, end.invariant.0)) c.requires.2
