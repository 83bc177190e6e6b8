-- The lines of the definition, one by one; a swap has room for the new length.
use Rattle.std.proofs.Common.{arith, refl, sym, ◌∙◌}
use Rattle.polynomial.specs.Polynomial.{poly-cut, row, poly-at}
use Rattle.solver.specs.SwapStep.{swap-room, hold-k}
use Rattle.solver.specs.ScaledView.{scaled}
use Rattle.solver.specs.ScaledStep.{scaled-swap, scaled-hold, scaled_pass}
use Rattle.solver.proofs.scaled.ScaledState.iterate.Goals.{then-swaps}
use Rattle.solver.proofs.scaled.ScaledState.iterate.Goals.{else-swaps+then-is_zero, else-swaps+else-is_zero}
use Rattle.solver.proofs.scaled.ScaledState.iterate.Goals as goal

pub next_length-requires : goal.next_length-requires
next_length-requires c =
    let given = c.args in
    swap-room _ given.r given.self.length (sym c.swaps.ensures ∙ c.if-swaps.true)

pub returns : goal.returns
unfolding scaled
returns c =
    let given = c.args in
    let m = scaled given.r given.self in
    let products = c.products-p.ensures given.r in
    c.step.ensures
    ∙ elim c.if-swaps.branch [
      | then-swaps w ↦ rw w.next-is
          (scaled-swap given.r (row given.s) m _ _ _ _ _ _ _ (poly-at _ 0 (omega arith)) products
          (sym c.swaps.ensures ∙ w.if-swaps.true) w.product.ensures w.next_length.ensures)
      | else-swaps+then-is_zero w ↦ rw w.next-is
          (scaled_pass given.r (row given.s) m _ _ _ _ _ _ _ (poly-at _ 0 (omega arith)) products _
          (sym c.swaps.ensures ∙ w.if-swaps.false) (sym w.is_zero.ensures ∙ w.if-is_zero.true)
          w.scale_shifted.ensures (poly-cut _ _ refl) refl (hold-k _ _))
      | else-swaps+else-is_zero w ↦ rw w.next-is
          (scaled-hold given.r (row given.s) m _ _ _ _ _ _ _ (poly-at _ 0 (omega arith)) products
          (sym c.swaps.ensures ∙ w.if-swaps.false) (sym w.is_zero.ensures ∙ w.if-is_zero.false)
          w.product-else-is_zero.ensures (hold-k _ _))
    ]
