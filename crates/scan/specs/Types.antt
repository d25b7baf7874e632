-- The types of the definition that this crate's pages name, under one name.
-- Assumes nothing.
pub use Rattle.definition.specs.declared.Endpoint.{Endpoint}
pub use Rattle.definition.specs.declared.SlotState.{SlotState}
pub use Rattle.definition.specs.declared.SlotState.TheVariants.{Free, Enabled, Default, Addressed, Configured}
pub use Rattle.definition.specs.declared.Slot.{Slot}
pub use Rattle.definition.specs.declared.Table.{Table}
pub use Rattle.std.specs.Prelude.{Option, Some, None}
pub use Rattle.definition.specs.declared.Answer.{Answer}
pub use Rattle.definition.specs.declared.Outcome.{Outcome}
pub use Rattle.definition.specs.declared.Refusal.{Refusal}
pub use Rattle.definition.specs.declared.Refusal.TheVariants.{OtherMemory, Malformed}
