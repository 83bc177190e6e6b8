-- GF(256) in one place, for whoever builds on it: the type, its operations and the laws that hold whatever the tables
-- are; those of the tables, of powers of α and of inverses are passed on by `proofs.Field`. No proof above this crate
-- opens the field.
pub use Rattle.field.specs.Definition.{F, 𝟎, 𝟏, α, ◌⊕◌, ◌⊙◌, pow, inv, log, of, byte, is_zero, val}
pub use Rattle.field.specs.Definition.{power_table, log_table}
pub use Rattle.field.specs.Sum.{⊕_assoc, ⊕_comm, ⊕-left_comm, ⊕_self, ⊕_self-left, ⊕-zero, zero-⊕}
pub use Rattle.field.specs.Sum.{⊕-group, ⊕_cancel, ⊕-equal, ⊕_lc}
pub use Rattle.field.specs.Product.{⊙_assoc, ⊙_comm, ⊙-left_comm, ⊙-one, one-⊙, ⊙-zero, zero-⊙, ⊙-⊕}
pub use Rattle.field.specs.Product.{⊕-⊙, ⊙-ring, one≢zero, alpha≢zero}
pub use Rattle.field.specs.Byte.{of-byte, byte_of, byte_lt, byte_inj, of_inj, of_xor, byte-xor, of_zero, of_one}
pub use Rattle.field.specs.Byte.{of_two, byte-zero, of_nonzero, ◌≟◌, is_zero_yes, is_zero_no, is_zero_true}
pub use Rattle.field.specs.Byte.{is_zero_false, val_of, val_inj, val-zero, val-one, val-alpha, val-is-zero}
pub use Rattle.field.specs.Byte.{val_nonzero}
pub use Rattle.field.specs.Power.{pow-zero, pow-suc, pow-one, pow-add, pow_mul, one-pow, pow-⊙}
