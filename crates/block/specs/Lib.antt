-- Fits of Parts, and table of Table, are what the promises speak of; then CodewordDefinition.
pub mod Table
pub mod Parts
-- received: ReceivedRows is what the promises speak of, with its laws.
pub mod ReceivedRows
-- codeword: CodewordDefinition is what the promises speak of; CodewordLaws proves them.
pub mod CodewordDefinition
pub mod CodewordLaws
-- gather: Gather is what the promise speaks of, with its laws.
pub mod Gather
