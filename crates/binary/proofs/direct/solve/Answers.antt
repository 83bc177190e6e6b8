-- Each arm has the formulas of the number that it is for.
use Rattle.std.proofs.Common.{◌≢◌, arith, refl, ◌∙◌}
use Rattle.binary.specs.Tables.{formulas}
use Rattle.binary.specs.Solved.{arm_solves, formulas-other}
use Rattle.binary.proofs.direct.solve.Goals as goal

pub returns-in_0-t : goal.returns-in_0-t
unfolding formulas
returns-in_0-t c =
    let both = arm_solves c.prepare-t.ensures c.branch-t.ensures c.in_0-t.is c.v000.ensures in
    record { formulas = both.0; iterations = both.1 }

pub returns-in_1-t : goal.returns-in_1-t
unfolding formulas
returns-in_1-t c =
    let both = arm_solves c.prepare-t.ensures c.branch-t.ensures c.in_1-t.is c.v001.ensures in
    record { formulas = both.0; iterations = both.1 }

pub returns-in_2-t : goal.returns-in_2-t
unfolding formulas
returns-in_2-t c =
    let both = arm_solves c.prepare-t.ensures c.branch-t.ensures c.in_2-t.is c.v010.ensures in
    record { formulas = both.0; iterations = both.1 }

pub returns-in_3-t : goal.returns-in_3-t
unfolding formulas
returns-in_3-t c =
    let both = arm_solves c.prepare-t.ensures c.branch-t.ensures c.in_3-t.is c.v011.ensures in
    record { formulas = both.0; iterations = both.1 }

pub returns-in_5-t : goal.returns-in_5-t
unfolding formulas
returns-in_5-t c =
    let both = arm_solves c.prepare-t.ensures c.branch-t.ensures c.in_5-t.is c.v101.ensures in
    record { formulas = both.0; iterations = both.1 }

pub returns-in_default-t : goal.returns-in_default-t
returns-in_default-t c =
    let b = c.branch-t.result in
    let n0 : b ≢ 0 = λ e. omega arith in
    let n1 : b ≢ 1 = λ e. omega arith in
    let n2 : b ≢ 2 = λ e. omega arith in
    let n3 : b ≢ 3 = λ e. omega arith in
    let n5 : b ≢ 5 = λ e. omega arith in
    let both =
    arm_solves c.prepare-t.ensures c.branch-t.ensures refl
    (λ x y z h. c.v110.ensures x y z h ∙ formulas-other _ x y z n0 n1 n2 n3 n5) in
    record { formulas = both.0; iterations = both.1 }
