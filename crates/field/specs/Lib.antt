-- Definition is what a reader must believe; the others prove laws of it; Field passes on what users need.
pub mod Definition
pub mod Sum
pub mod Product
pub mod Test
pub mod Byte
pub mod Power
pub mod Field
