pub mod Test
pub mod Samples
