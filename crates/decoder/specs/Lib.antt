-- Definition is what the promises speak of; Theorems says what they come to; Laws and Extraction prove them.
pub mod Definition
pub mod Laws
pub mod Extraction
pub mod Theorems
