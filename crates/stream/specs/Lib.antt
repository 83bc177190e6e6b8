-- Trace is what went through the streams, Definition what the promises speak of; Laws proves them.
pub mod Trace
pub mod Definition
pub mod Laws
