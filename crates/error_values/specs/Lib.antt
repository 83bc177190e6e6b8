-- Definition is what the promises speak of, with settling's ErrorValue; Theorems says what they come to.
pub mod Definition
pub mod Theorems
-- RowValue proves the two divisors.
pub mod RowValue
-- omega: OmegaValue has what `divided` promises, and proves `value`.
pub mod OmegaValue
