-- The lent table is the one defined.
use Rattle.std.proofs.Common.{List, ap, arith, get_or, rules, ℕ, ◌∙◌, ◌≡◌}
use Rattle.field.specs.Definition.{val, log_table}
use Rattle.field.proofs.Log.{log_table-at, log_table_lt}
use Rattle.field.proofs.Gf.log_in.Goals as goal

pub overflow_cast-result : goal.overflow_cast-result
overflow_cast-result c =
    let b = c.args.self.0 in
    let e : get_or c.args.table.now b 0 ≡ get_or log_table b 0 = ap (λ (l : List ℕ). get_or l b 0) c.requires in
    omega (arith, e, log_table_lt b (search rules))

pub returns : goal.returns
unfolding val
returns c =
    let b = c.args.self.0 in
    ap (λ (l : List ℕ). get_or l b 0) c.requires ∙ log_table-at b (search rules)
