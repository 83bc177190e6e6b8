pub mod Store
pub mod Copy
pub mod Power
pub mod ProductRow
pub mod Halves
pub mod Horner
pub mod Symbol
pub mod ByteMultiply
