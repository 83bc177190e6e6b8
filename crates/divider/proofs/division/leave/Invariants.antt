-- The entries of out are the remainders of the symbols from p on; in a pass, first those of the first i words.
use Rattle.std.proofs.Common.{length, ◌≡◌}
use Rattle.divider.specs.DivisionLeaves.{Leaving}
use Rattle.divider.specs.Each.{Each, Passed}
use Rattle.divider.proofs.division.leave.Given as goal

abbrev pub invariant-loop-i : goal.invariant-loop-i
invariant-loop-i g l = Passed (λ w r. Leaving g.W.Width.row_at l.t l.from w.now l.p r) l.words l.i l.initial.out l.out

abbrev pub invariant-loop-p : goal.invariant-loop-p
invariant-loop-p g l =
    (length l.out ≡ g.row.N) × Each (λ w r. Leaving g.W.Width.row_at l.t l.from w.now l.p r) l.words l.out
