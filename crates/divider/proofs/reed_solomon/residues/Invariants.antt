-- The remainders of the first i words stand.
use Rattle.divider.specs.Each.{Passed}
use Rattle.divider.specs.ReedSolomonResidue.{Residual}
use Rattle.divider.proofs.reed_solomon.residues.Given as goal

abbrev pub invariant-loop-i : goal.invariant-loop-i
invariant-loop-i l = Passed (λ w r. Residual l.first l.k w.now r) l.words l.i l.initial.out l.out
