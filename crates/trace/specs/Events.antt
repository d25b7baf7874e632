-- Which call of the definition a call of a record is.
-- Assumes nothing.
use Rattle.std.specs.Prelude.{ℕ}
use Rattle.trace.specs.declared.Call.{Call}
use Rattle.trace.specs.declared.Call.TheVariants.{SetLimit, SetDcbaap, EnableSlot, DisableSlot, AddressDevice, ConfigureEndpoint, EvaluateContext, ResetDevice, ResetAll, Endpoint}
use Rattle.trace.specs.declared.Asked.{Asked}
use Rattle.trace.specs.declared.Asked.TheVariants.{Stop, Reset, SetDequeue, Doorbell, Ok, Stall, TransactionError, TrbError}
use Rattle.definition.specs.Calls as calls
use Rattle.definition.specs.declared.Input.{Input}
use Rattle.definition.specs.declared.Input.TheVariants as inputs

unfoldable pub asks : ℕ → ℕ → Asked → calls.Call
asks id i Stop = calls.stop_endpoint id i
asks id i Reset = calls.reset_endpoint id i
asks id i (SetDequeue d) = calls.set_dequeue id i d
asks id i (Doorbell l) = calls.doorbell id i l
asks id i (Ok l) = calls.host_ok id i l
asks id i (Stall g) = calls.host_stall id i g
asks id i (TransactionError g) = calls.host_transaction_error id i g
asks id i TrbError = calls.host_trb_error id i

unfoldable pub call_of : Call → calls.Call
call_of (SetLimit n) = calls.set_limit n
call_of (SetDcbaap a) = calls.set_dcbaap a
call_of EnableSlot = calls.enable_slot
call_of (DisableSlot id) = calls.disable_slot id
call_of (AddressDevice x) = calls.address_device x.id x.pointer x.flag
call_of (ConfigureEndpoint x) = calls.configure_endpoint x.id x.pointer x.flag
call_of (EvaluateContext x) = calls.evaluate_context x.id x.pointer
call_of (ResetDevice id) = calls.reset_device id
call_of ResetAll = calls.reset_all
call_of (Endpoint r) = asks r.id r.i r.asked

-- what an endpoint is asked, as an input of it
abbrev pub input_of : Asked → Input
input_of Stop = inputs.Stop
input_of Reset = inputs.Reset
input_of (SetDequeue d) = inputs.SetDequeue d
input_of (Doorbell l) = inputs.Doorbell l
input_of (Ok l) = inputs.Ok l
input_of (Stall g) = inputs.Stall g
input_of (TransactionError g) = inputs.TransactionError g
input_of TrbError = inputs.TrbError
