use Rattle.bench_products.proofs.value_by_halves.Goals as goal

pub returns : goal.returns
returns c = c.value.ensures _ c.split-h.ensures
