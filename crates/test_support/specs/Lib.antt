-- Text and State are what the promises speak of; Laws proves them.
pub mod Text
pub mod State
pub mod Laws
