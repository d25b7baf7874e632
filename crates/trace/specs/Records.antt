-- What a record of 32 bytes tells: a call, a guest store of one byte, or nothing that it could, which is an error. docs/TRACE.md has the same in tables.
-- Assumes nothing.
use Rattle.std.specs.Prelude.{Bool, true, false, cond, ◌&&◌, ◌||◌, List, [], ◌∷◌, ℕ, eqb, ltb, length, get_or, Result, Ok, Err}
use Rattle.guest.specs.Bytes.{number, bit}
use Rattle.guest.specs.Prog.{block}
use Rattle.definition.specs.declared.Dequeue.{Dequeue}
use Rattle.definition.specs.declared.Look.{Look}
use Rattle.std.specs.Prelude.{Option}
use Rattle.std.specs.Prelude.{Some, None}
use Rattle.trace.specs.declared.Entry.{Entry}
use Rattle.trace.specs.declared.Entry.TheVariants.{Call, Store}
use Rattle.trace.specs.declared.BadRecord.{BadRecord}
use Rattle.trace.specs.declared.Call as declared
use Rattle.trace.specs.declared.Call.TheVariants.{SetLimit, SetDcbaap, EnableSlot, DisableSlot, AddressDevice, ConfigureEndpoint, EvaluateContext, ResetDevice, ResetAll, Endpoint}
use Rattle.trace.specs.declared.Contexts.{Contexts}
use Rattle.trace.specs.declared.Asked.{Asked}
use Rattle.trace.specs.declared.Asked.TheVariants.{Stop, Reset, SetDequeue, Doorbell, Stall, TransactionError, TrbError}
use Rattle.trace.specs.declared.Asked.TheVariants as asked
use Rattle.trace.specs.declared.record.Fields.{Fields}
use Rattle.trace.specs.declared.record.Bits.{Bits}
use Rattle.trace.specs.declared.record.Bits.TheVariants.{Neither, Low, Both}
use Rattle.trace.specs.declared.record.Uses.{Uses}
use Rattle.trace.specs.Kinds.{limit_of}

-- ---- the layout

-- kind, slot, endpoint, flag at 0 to 3; a gap at 4 to 7; pointer at 8 to 15; value at 16 to 23; the rest from 24 on
unfoldable pub fields_of : List ℕ → Fields
fields_of r =
    record {
      kind = number (block r 0 1);
      slot = number (block r 1 1);
      endpoint = number (block r 2 1);
      flag = number (block r 3 1);
      gap = number (block r 4 4);
      pointer = number (block r 8 8);
      value = number (block r 16 8);
      rest = number (block r 24 8);
    }

-- ---- which fields a kind uses

abbrev uses : Bool → Bool → Bits → Bool → Bool → Uses
uses s e b p v = record { slot = s; endpoint = e; bits = b; pointer = p; value = v }

abbrev on : Bool
on = true

abbrev no : Bool
no = false

-- no field
abbrev pub nothing : Uses
nothing = uses no no Neither no no

-- slot, endpoint, bits of the flag, pointer, value
abbrev pub kinds : List Uses
kinds =
    -- 0 is no kind
    nothing
    -- 1 set limit
    ∷ uses no no Neither no on
    -- 2 set DCBAAP
    ∷ uses no no Neither on no
    -- 3 Enable Slot
    ∷ uses no no Neither no no
    -- 4 Disable Slot
    ∷ uses on no Neither no no
    -- 5 Address Device
    ∷ uses on no Low on no
    -- 6 Configure Endpoint
    ∷ uses on no Low on no
    -- 7 Evaluate Context
    ∷ uses on no Neither on no
    -- 8 Reset Device
    ∷ uses on no Neither no no
    -- 9 reset of all slots
    ∷ uses no no Neither no no
    -- 10 Stop Endpoint
    ∷ uses on on Neither no no
    -- 11 Reset Endpoint
    ∷ uses on on Neither no no
    -- 12 Set Dequeue
    ∷ uses on on Low on no
    -- 13 doorbell
    ∷ uses on on Both on no
    -- 14 Ok
    ∷ uses on on Both on no
    -- 15 Stall
    ∷ uses on on Both on no
    -- 16 Transaction Error
    ∷ uses on on Both on no
    -- 17 TRB Error
    ∷ uses on on Neither no no
    -- 18 guest store
    ∷ uses no no Neither on on
    ∷ []

unfoldable pub uses_of : ℕ → Uses
uses_of k = get_or kinds k nothing

-- zero where the field is not used
abbrev pub zero_unless : Bool → ℕ → Bool
zero_unless used x = used || eqb x 0

-- all that is due zero is zero
unfoldable pub clean : Uses → Fields → Bool
clean u f =
    eqb f.gap 0
    && (eqb f.rest 0
    && (zero_unless u.slot f.slot
    && (zero_unless u.endpoint f.endpoint
    && (ltb f.flag (limit_of u.bits)
    && (zero_unless u.pointer f.pointer
    && zero_unless u.value f.value)))))

-- ---- what the fields mean

-- flag bit 0: BSR, DC or the cycle
abbrev pub low : Fields → Bool
low f = bit f.flag 0

-- flag bit 1: found, or pointer given
abbrev pub high : Fields → Bool
high f = bit f.flag 1

abbrev pub contexts_of : Fields → Contexts
contexts_of f = record { id = f.slot; pointer = f.pointer; flag = low f }

abbrev pub place_of : Fields → Dequeue
place_of f = record { pointer = f.pointer; cycle = low f }

abbrev pub look_of : Fields → Look
look_of f = record { found = high f; pointer = f.pointer; cycle = low f }

abbrev pub given_of : Fields → Option Dequeue
given_of f = cond (high f) (Some (place_of f)) None

abbrev pub reaches : Fields → Asked → declared.Call
reaches f a = Endpoint (record { id = f.slot; i = f.endpoint; asked = a })

abbrev pub calls : declared.Call → Result Entry BadRecord
calls c = Ok (Call c)

abbrev pub bad : Result Entry BadRecord
bad = Err record {}

-- a byte, stored inside a memory of len bytes
abbrev pub store_of : ℕ → Fields → Result Entry BadRecord
store_of len f = cond (ltb f.value 256 && ltb f.pointer len) (Ok (Store (record { address = f.pointer; value = f.value }))) bad

-- what each kind tells, from kind 0 on
abbrev pub entries : ℕ → Fields → List (Result Entry BadRecord)
entries len f =
    bad
    ∷ calls (SetLimit f.value)
    ∷ calls (SetDcbaap f.pointer)
    ∷ calls EnableSlot
    ∷ calls (DisableSlot f.slot)
    ∷ calls (AddressDevice (contexts_of f))
    ∷ calls (ConfigureEndpoint (contexts_of f))
    ∷ calls (EvaluateContext (contexts_of f))
    ∷ calls (ResetDevice f.slot)
    ∷ calls ResetAll
    ∷ calls (reaches f Stop)
    ∷ calls (reaches f Reset)
    ∷ calls (reaches f (SetDequeue (place_of f)))
    ∷ calls (reaches f (Doorbell (look_of f)))
    ∷ calls (reaches f (asked.Ok (look_of f)))
    ∷ calls (reaches f (Stall (given_of f)))
    ∷ calls (reaches f (TransactionError (given_of f)))
    ∷ calls (reaches f TrbError)
    ∷ store_of len f
    ∷ []

-- an unknown kind tells nothing
unfoldable pub told : ℕ → Fields → Result Entry BadRecord
told len f = get_or (entries len f) f.kind bad

-- ---- a record, over a memory of len bytes

unfoldable pub entry_of : ℕ → List ℕ → Result Entry BadRecord
entry_of len r =
    let f = fields_of r in
    cond (eqb (length r) 32 && clean (uses_of f.kind) f) (told len f) bad
