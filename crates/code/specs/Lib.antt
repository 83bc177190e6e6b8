-- Word and Definition are what the promises speak of: a Reed-Solomon word, and a codeword.
pub mod Word
pub mod Systematic
pub mod Definition
pub mod Block
pub mod Newton
pub mod Triangle
pub mod Right
pub mod Encoding
pub mod Combined
pub mod Check
