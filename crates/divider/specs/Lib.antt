-- what is said of each of some words.
pub mod Each
-- packed: `packed`, `tops`: what the promises speak of.
pub mod Packed
-- multiples: `rows`, `Multiples` and `lower` of Multiples are what the promises speak of.
pub mod Multiples
pub mod MultiplesBuilding
-- division: `Leaves` of DivisionLeaves, with `remainder` of DivisionRemainder, is what the promises speak of.
pub mod DivisionRemainder
pub mod DivisionLeaves
-- generator: `Table` and `Made` are what the promises speak of.
pub mod Generator
pub mod GeneratorCoefficients
pub mod GeneratorTable
-- reed_solomon: `residue` of ReedSolomonResidue is what the promises speak of, with code's Word.
pub mod ReedSolomonResidue
pub mod ReedSolomonEncoder
-- evaluation: Laws of the loops; what the promises speak of stands in code's Word.
pub mod EvaluationLanes
pub mod EvaluationZero
