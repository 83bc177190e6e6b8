-- Theorems says what the promises of the entry points come to together.
pub mod Theorems
