-- The low table is filled from c, and the high one from what comes next, 16 times c.
use Rattle.std.proofs.Common.{ap, arith, sym, ◌∙◌}
use Rattle.field.specs.Field.{F, ◌⊙◌, of, val_of}
use Rattle.series.specs.Shift.{cut}
use Rattle.kernel.specs.Copy.{zeros}
use Rattle.kernel.specs.Power.{power_16}
use Rattle.kernel.specs.ProductRow.{products}
use Rattle.kernel.proofs.halves.Halves.split.Goals as goal

pub fill-next-requires : goal.fill-next-requires
fill-next-requires c = (power_16, zeros 16)

pub fill-requires : goal.fill-requires
fill-requires c = (power_16, zeros 16)

pub returns : goal.returns
returns c =
    let given = c.args in
    let is = sym (val_of given.c) in
    record {
      low = c.fill-next.ensures.entries ∙ ap (λ (a : F). cut 16 (products a)) is;
      high = c.fill.ensures.entries
          ∙ ap (λ (a : F). cut 16 (products a)) (c.fill-next.ensures.next (omega arith) ∙ ap (λ (a : F). of 16 ⊙ a) is);
    }
