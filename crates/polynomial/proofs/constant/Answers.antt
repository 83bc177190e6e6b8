-- Entry 0 gets a; the others stay zero.
use Rattle.std.proofs.Common.{arith, sym}
use Rattle.field.specs.Field.{val}
use Rattle.series.specs.Series.{K, K_at0}
use Rattle.series.specs.Degree.{below-K}
use Rattle.series.specs.Array.{filled_none, filled_more}
use Rattle.polynomial.specs.Polynomial.{poly-filled}
use Rattle.polynomial.proofs.constant.Goals as goal

pub returns : goal.returns
returns c =
    let a = c.args.a in
    poly-filled 1 (filled_more a (filled_none 49 (K (val a))) (omega arith) (sym (K_at0 _))) (omega arith) (below-K _)
