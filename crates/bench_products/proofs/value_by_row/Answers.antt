use Rattle.kernel.specs.ProductRow.{factor-products}
use Rattle.bench_products.proofs.value_by_row.Goals as goal

pub returns : goal.returns
returns c = c.value.ensures _ (factor-products _ _ c.product_row-row.ensures)
