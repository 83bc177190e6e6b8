-- The tables that are kept from section to section, for users: they stand in BlockLineDefinition.
pub use Rattle.card.specs.BlockLineDefinition.{Made, Kept}
