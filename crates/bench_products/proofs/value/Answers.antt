-- Each way is by w.
use Rattle.std.proofs.Common.{sym, ◌∙◌}
use Rattle.field.specs.Field.{val_of}
use Rattle.bench_products.proofs.value.Goals as goal

pub returns-in-Row : goal.returns-in-Row
returns-in-Row c = sym (val_of _) ∙ rw (val_of (record { 0 = c.args.w })) at c.value_by_row-v.ensures

pub returns-in-Halves : goal.returns-in-Halves
returns-in-Halves c = sym (val_of _) ∙ rw (val_of (record { 0 = c.args.w })) at c.value_by_halves-v.ensures

pub returns-in-Bits : goal.returns-in-Bits
returns-in-Bits c = sym (val_of _) ∙ c.value-v.ensures _ (val_of _)
