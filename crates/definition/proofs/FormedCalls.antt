-- The law of the table's form: it is made proper, every call and every sequence keeps it so, and no call on a proper table answers 198.
-- Assumes nothing.
use mathlib.Core.Path.{◌≡◌, refl, sym, subst}
use mathlib.Core.Bool.{Bool, true, false, cond}
use mathlib.Core.List.{List, [], ◌∷◌}
use Prim.Native.Nat.{ℕ, ◌-◌, ◌≤◌}
use native.Mathlib.Omega.{arith}
use borrow.Author.Tests.{leb-true}
use lib.Dec.{leb}
use lib.ListN.{length, length-replicate, get_or-replicate}
use Rattle.guest.specs.Prog.{Mem, run, Result, ok, refuse}
use Rattle.guest.specs.Forms.{Gives}
use Rattle.guest.specs.Trace.{Event, call, store, step, course, left}
use Rattle.guest.proofs.FormLaws.{gives_value, gives_bind}
use Rattle.definition.specs.Types.{Input, Doorbell, Stop, Reset, SetDequeue, Ok, Stall, TransactionError, TrbError, Slot, Table, Outcome}
use Rattle.definition.specs.Table.{disabled, free, place, endpoint_of, slot_of, fresh_table, is_zero}
use Rattle.definition.specs.Steps.{column}
use Rattle.definition.specs.Commands.{Told, answer, usb_types, endpoint_call}
use Rattle.definition.specs.Calls.{Call, set_limit, set_dcbaap, enable_slot, disable_slot, address_device, configure_endpoint, evaluate_context, reset_device, reset_all, stop_endpoint, reset_endpoint, set_dequeue, doorbell, host_ok, host_stall, host_transaction_error, host_trb_error, meaning, told, prog, counted, made}
use Rattle.definition.proofs.TableLaws.{IsSlot, IsEndpoint}
use Rattle.definition.proofs.FormedFacts.{Proper, Fits, is_proper}
use Rattle.definition.proofs.FormedHeads.{Fine}
use Rattle.definition.proofs.FormedSlots.{set_limit_fine, set_dcbaap_fine, enable_fine, disable_fine, reset_all_fine, endpoint_call_fine}
use Rattle.definition.proofs.FormedDevices.{address_fine, configure_fine, evaluate_fine, reset_device_fine}

-- ---- a table as it is made

fresh_slot : (len id : ℕ) → IsSlot id → slot_of (fresh_table len) id ≡ free
unfolding slot_of fresh_table
fresh_slot len id s = get_or-replicate 16 (id - 1) free free (omega arith)

fresh_endpoint : (len id i : ℕ) → IsSlot id → IsEndpoint i → endpoint_of (fresh_table len) id i ≡ disabled
unfolding endpoint_of fresh_table
fresh_endpoint len id i s n = get_or-replicate 496 (place id i) disabled disabled (omega arith)

fresh_proper : (len : ℕ) → len ≤ 1073741824 → Proper (fresh_table len)
unfolding fresh_table is_zero
fresh_proper len h =
    is_proper (fresh_table len) (record { slots = length-replicate 16 free; endpoints = length-replicate 496 disabled }) (omega arith) h
    (λ id s. subst (λ (r : Slot). Fits r.state r (fresh_table len) id) (sym (fresh_slot len id s))
    (refl, refl, λ i n. rw (fresh_endpoint len id i s n)))

pub made_proper : (len : ℕ) → Proper (made len).table
made_proper len = by (leb len 1073741824) refl
  where
    by : (b : Bool) → leb len 1073741824 ≡ b
        → Proper (cond {A = Outcome} b (record { table = fresh_table len; answer = answer 0 }) (record { table = fresh_table 0; answer = answer 197 })).table
    by true e = fresh_proper len (leb-true _ _ e)
    by false e = fresh_proper 0 (omega arith)

-- ---- every call

-- a command or a doorbell that reaches one endpoint
command_fine : (id i : ℕ) (input : Input) (len : ℕ) (t : Table) → (column input ≡ 4 → ⊥) → Proper t → Gives Fine (endpoint_call 11 12 id i input len t)
command_fine id i input len t h p = endpoint_call_fine 11 12 id i input len t (λ q. omega arith) (λ q. omega arith) h p

-- a host event
event_fine : (id i : ℕ) (input : Input) (len : ℕ) (t : Table) → (column input ≡ 4 → ⊥) → Proper t → Gives Fine (endpoint_call 196 196 id i input len t)
event_fine id i input len t h p = endpoint_call_fine 196 196 id i input len t (λ q. omega arith) (λ q. omega arith) h p

-- what a call means is fine
meaning_fine : (c : Call) (len : ℕ) (t : Table) → Proper t → Gives Fine (meaning c len t)
unfolding meaning
meaning_fine (set_limit n) len t p = set_limit_fine n t p
meaning_fine (set_dcbaap a) len t p = set_dcbaap_fine a t p
meaning_fine enable_slot len t p = enable_fine t p
meaning_fine (disable_slot id) len t p = disable_fine id len t p
meaning_fine (address_device id P bsr) len t p = address_fine usb_types id P bsr len t p
meaning_fine (configure_endpoint id P dc) len t p = configure_fine usb_types id P dc len t p
meaning_fine (evaluate_context id P) len t p = evaluate_fine usb_types id P len t p
meaning_fine (reset_device id) len t p = reset_device_fine id len t p
meaning_fine reset_all len t p = reset_all_fine len t p
meaning_fine (stop_endpoint id i) len t p = command_fine id i Stop len t (λ q. omega arith) p
meaning_fine (reset_endpoint id i) len t p = command_fine id i Reset len t (λ q. omega arith) p
meaning_fine (set_dequeue id i d) len t p = command_fine id i (SetDequeue d) len t (λ q. omega arith) p
meaning_fine (doorbell id i l) len t p = command_fine id i (Doorbell l) len t (λ q. omega arith) p
meaning_fine (host_ok id i l) len t p = event_fine id i (Ok l) len t (λ q. omega arith) p
meaning_fine (host_stall id i g) len t p = event_fine id i (Stall g) len t (λ q. omega arith) p
meaning_fine (host_transaction_error id i g) len t p = event_fine id i (TransactionError g) len t (λ q. omega arith) p
meaning_fine (host_trb_error id i) len t p = event_fine id i TrbError len t (λ q. omega arith) p

-- a refusal gives the table back
prog_fine : (c : Call) (len : ℕ) (t : Table) → Proper t → Gives (λ r. Fine (ok r)) (prog c len t)
unfolding prog Gives
prog_fine c len t p = gives_bind Fine (λ r. Fine (ok r)) (meaning c len t) _ (meaning_fine c len t p) by
  where
    by : (r : Result Told) → Fine r → Fine (ok (told t r))
    by (ok r) f = f
    by (refuse k) f = (f, p)

-- every call keeps a table proper
pub keeps : (c : Call) (t : Table) (m : Mem) → Proper t → Proper (run (prog c (length m) t) m 0).value.1
keeps c t m p = (gives_value (λ r. Fine (ok r)) (prog c (length m) t) m 0 (prog_fine c (length m) t p)).1

-- and never answers 198 with one
pub never_malformed : (c : Call) (t : Table) (m : Mem) → Proper t → (run (prog c (length m) t) m 0).value.0.code ≡ 198 → ⊥
never_malformed c t m p = (gives_value (λ r. Fine (ok r)) (prog c (length m) t) m 0 (prog_fine c (length m) t p)).0

-- ---- sequences

-- one call or guest store
event_proper : (e : Event Call) (t : Table) (m : Mem) → Proper t → Proper (step (left prog counted) e t m).table
unfolding step left
event_proper (call c) t m p = keeps c t m p
event_proper (store a v) t m p = p

-- any sequence of calls and guest stores ends with a proper table
pub course_proper : (es : List (Event Call)) (t : Table) (m : Mem) → Proper t → Proper (course (left prog counted) es t m).table
unfolding course
course_proper [] t m p = p
course_proper (e ∷ es) t m p = course_proper es (step (left prog counted) e t m).table (step (left prog counted) e t m).memory (event_proper e t m p)
