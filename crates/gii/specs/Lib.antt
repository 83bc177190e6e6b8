-- Definition is what the promises speak of.
pub mod Definition
pub mod Laws
-- numbers: NumbersDefinition is what the promises speak of.
pub mod NumbersDefinition
pub mod NumbersLaws
