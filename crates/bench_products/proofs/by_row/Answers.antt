use Rattle.kernel.specs.ProductRow.{factor-products}
use Rattle.bench_products.proofs.by_row.Goals as goal

pub returns : goal.returns
returns c = c.add.ensures _ (factor-products _ _ c.product_row-row.ensures)
