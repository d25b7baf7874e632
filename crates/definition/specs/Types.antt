-- The types that src/ declares, under one name.
-- Assumes nothing.
pub use Rattle.std.specs.Prelude.{Option, Some, None}
pub use Rattle.definition.specs.declared.EndpointState.{EndpointState}
pub use Rattle.definition.specs.declared.EndpointState.TheVariants.{Disabled, Waiting, InFlight, Halted, Error, StoppedContinuable, Stopped}
pub use Rattle.definition.specs.declared.Endpoint.{Endpoint}
pub use Rattle.definition.specs.declared.SlotState.{SlotState}
pub use Rattle.definition.specs.declared.SlotState.TheVariants.{Free, Enabled, Default, Addressed, Configured}
pub use Rattle.definition.specs.declared.Slot.{Slot}
pub use Rattle.definition.specs.declared.Table.{Table}
pub use Rattle.definition.specs.declared.Dequeue.{Dequeue}
pub use Rattle.definition.specs.declared.Look.{Look}
pub use Rattle.definition.specs.declared.Input.{Input}
pub use Rattle.definition.specs.declared.Input.TheVariants.{Doorbell, Stop, Reset, SetDequeue, Terminate, Ok, Stall, TransactionError, TrbError}
pub use Rattle.definition.specs.declared.Row.{Row}
pub use Rattle.definition.specs.declared.Answer.{Answer}
pub use Rattle.definition.specs.declared.Outcome.{Outcome}
