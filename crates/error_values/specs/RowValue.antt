-- The value of an array of 49 bytes at an inverse location, by a row of products.
--
-- Proved: it is that of the polynomial which the array holds (row-value).
use Rattle.std.specs.Prelude.{ℕ, ◌≡◌, List, length}
use Rattle.std.proofs.Common.{ap, ap₂, ◌∙◌}
use Rattle.series.specs.Series.{Series}
use Rattle.series.specs.Shift.{cut}
use Rattle.series.specs.Value.{value}
use Rattle.series.specs.Array.{bytes}
use Rattle.kernel.specs.ProductRow.{products, factor, factor-products}
use Rattle.settling.specs.Locator.{W}

pub row-value : (l word : List ℕ) (f : Series) (p : ℕ) → bytes l ≡ cut 256 (products (W p))
    → length word ≡ 49 → bytes word ≡ f
    → value (length word) (bytes word) (factor l) ≡ value 49 f (W p)
row-value l word f p row long is =
    ap₂ (λ n g. value n g (factor l)) long is ∙ ap (value 49 f) (factor-products l (W p) row)
