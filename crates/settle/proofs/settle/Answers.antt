-- With the first root α nothing is left to do; with another one a pattern that was found is untwisted.
use Rattle.std.proofs.Common.{refl}
use Rattle.settle.specs.Answer.{untwist-nothing, untwist-found}
use Rattle.settle.proofs.settle.Goals as goal

pub returns-in_err-settled : goal.returns-in_err-settled
returns-in_err-settled c =
    rw c.from_residual.ensures (untwist-nothing _ _ _ _ _ _ c.requires.0 c.in_err-settled.ensures)

pub returns-then-first-eq1 : goal.returns-then-first-eq1
returns-then-first-eq1 c = rw c.if-first-eq1.true c.in_ok-settled.ensures

pub returns : goal.returns
returns c = untwist-found _ _ _ _ _ _ c.requires.0 _ _ c.in_ok-settled.ensures refl c.untwist.ensures
