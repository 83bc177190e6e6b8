pub mod Polynomial
-- coefficients: CoefficientsOdd proves `odd`, and has a law for its callers.
pub mod CoefficientsOdd
-- syndromes: SyndromesZero is what `is_zero` promises of; SyndromesReversed what `reversed` promises of, and it proves
-- `convolve`.
pub mod SyndromesZero
pub mod SyndromesReversed
