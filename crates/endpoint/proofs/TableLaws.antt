-- Numbers of states and inputs: how many rows and columns the table of steps has to have.
-- Assumes nothing.
use Prim.Native.Nat.{◌≤◌, ◌<◌}
use lib.Dec.{lit<, lit≤}
use Rattle.definition.specs.declared.EndpointState.{EndpointState}
use Rattle.definition.specs.declared.EndpointState.TheVariants.{Disabled, Waiting, InFlight, Halted, Error, StoppedContinuable, Stopped}
use Rattle.definition.specs.declared.Input.{Input}
use Rattle.definition.specs.declared.Input.TheVariants.{Doorbell, Stop, Reset, SetDequeue, Terminate, Ok, Stall, TransactionError, TrbError}
use Rattle.definition.specs.Table.{endpoint_number}
use Rattle.definition.specs.Steps.{column}

pub state_few : (s : EndpointState) → endpoint_number s ≤ 6
state_few Disabled = lit≤ tt
state_few Waiting = lit≤ tt
state_few InFlight = lit≤ tt
state_few Halted = lit≤ tt
state_few Error = lit≤ tt
state_few StoppedContinuable = lit≤ tt
state_few Stopped = lit≤ tt

pub column_few : (i : Input) → column i < 9
column_few (Doorbell l) = lit< tt
column_few Stop = lit< tt
column_few Reset = lit< tt
column_few (SetDequeue d) = lit< tt
column_few Terminate = lit< tt
column_few (Ok l) = lit< tt
column_few (Stall g) = lit< tt
column_few (TransactionError g) = lit< tt
column_few TrbError = lit< tt
