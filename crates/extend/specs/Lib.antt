-- Definition is what the promises speak of; Splice and Rows prove them.
pub mod Definition
pub mod Splice
pub mod Rows
-- lagrange: LagrangeDefinition is what the promises speak of; Lagrange proves them, and what Lagrange's
-- polynomials solve.
pub mod LagrangeDefinition
pub mod Lagrange
