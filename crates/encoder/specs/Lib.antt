-- Definition is what the promises speak of.
pub mod Definition
pub mod Laws
pub mod Write
-- carry: What `write_subword` promises of, and its proof.
pub mod CarrySubword
pub mod CarryPascal
pub mod CarryRise
-- fours: What is written of four subwords.
pub mod Fours
