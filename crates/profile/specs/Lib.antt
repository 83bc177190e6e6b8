-- Definition and Questions are what the promises speak of.
pub mod Definition
pub mod Questions
pub mod QuestionsLaws
pub mod Laws
pub mod Valid
pub mod Samples
-- fetch: FetchDefinition is what the promises speak of.
pub mod FetchDefinition
pub mod FetchLaws
pub mod LayoutDefinition
