use Rattle.bench_products.proofs.by_halves.Goals as goal

pub returns : goal.returns
returns c = c.add.ensures _ c.split-h.ensures
