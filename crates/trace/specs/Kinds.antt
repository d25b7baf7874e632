-- The numbers of the kinds, as docs/TRACE.md has them, and the flag's bits.
-- Assumes nothing.
use Rattle.std.specs.Prelude.{◌≡◌, ◌≢◌, ℕ, Result}
use Rattle.std.specs.Prelude as std
use Rattle.trace.specs.declared.BadRecord.{BadRecord}
use Rattle.trace.specs.declared.record.Kind.{Kind}
use Rattle.trace.specs.declared.record.Kind.TheVariants.{SetLimit, SetDcbaap, EnableSlot, DisableSlot, AddressDevice, ConfigureEndpoint, EvaluateContext, ResetDevice, ResetAll, StopEndpoint, ResetEndpoint, SetDequeue, Doorbell, Ok, Stall, TransactionError, TrbError, GuestStore}
use Rattle.trace.specs.declared.record.Bits.{Bits}
use Rattle.trace.specs.declared.record.Bits.TheVariants.{Neither, Low, Both}

abbrev pub number_of : Kind → ℕ
number_of SetLimit = 1
number_of SetDcbaap = 2
number_of EnableSlot = 3
number_of DisableSlot = 4
number_of AddressDevice = 5
number_of ConfigureEndpoint = 6
number_of EvaluateContext = 7
number_of ResetDevice = 8
number_of ResetAll = 9
number_of StopEndpoint = 10
number_of ResetEndpoint = 11
number_of SetDequeue = 12
number_of Doorbell = 13
number_of Ok = 14
number_of Stall = 15
number_of TransactionError = 16
number_of TrbError = 17
number_of GuestStore = 18

-- the kind of the number n; a number that no kind has is an error
abbrev pub NamesKind : ℕ → Result Kind BadRecord → Type 0
NamesKind n (std.Ok k) = n ≡ number_of k
NamesKind n (std.Err e) = (k : Kind) → n ≢ number_of k

-- a flag with none but these bits set is below it
abbrev pub limit_of : Bits → ℕ
limit_of Neither = 1
limit_of Low = 2
limit_of Both = 4
