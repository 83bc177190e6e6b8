-- Definition is what the promises speak of; Settle has its laws; Twist leads from the first root α to any other;
-- Locator and Solve prove what the solver finds; Candidate is what code cites; ErrorValue has two ways to the value of
-- an error.
pub mod Definition
pub mod Locator
pub mod Twist
pub mod Settle
pub mod Solve
pub mod Candidate
pub mod ErrorValue
pub mod Sample
