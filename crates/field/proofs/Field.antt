-- The laws of the tables, of powers of α and of inverses, in one place; `specs.Field` passes on the others.
pub use Rattle.field.proofs.Double.{of_twice, of_double, of-high, of_parts, of_mod}
pub use Rattle.field.proofs.Log.{log_lt, pow-log, log-pow, power_table-at, power_table-last}
pub use Rattle.field.proofs.Inverse.{pow_255, mul-inv, inv_mul, inv-zero, inv_unique, inv_nonzero}
pub use Rattle.field.proofs.Inverse.{⊙_cancel, ⊙-factor, ⊙_nonzero, pow_nonzero, power_255, power_nonzero}
pub use Rattle.field.proofs.Inverse.{power_inj, power_apart, power_mod}
