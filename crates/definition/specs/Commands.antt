-- The calls of the scope document, in its order and with its sentences.
-- Assumes nothing.
use Rattle.std.specs.Prelude.{Bool, true, false, not, cond, ◌&&◌, ◌||◌, List, [], ◌∷◌, ℕ, ◌+◌, ◌*◌, leb, eqb}
use Rattle.guest.specs.Bytes.{number, ◌⊕◌, count, those, set_bits, type_of, slot_state_byte}
use Rattle.guest.specs.Prog.{Prog, done, get, put, choose, bind, each, Result, ok, refuse, need, and_then, every}
use Rattle.definition.specs.Types.{Endpoint, Input, SlotState, Free, Enabled, Default, Addressed, Configured, Slot, Table, Option, Some, None, Answer}
use Rattle.definition.specs.Table.{is_disabled, is_free, free, endpoint_of, slot_of, with_endpoint, with_slot, with_registers, lookup, well_formed}
use Rattle.definition.specs.Steps.{Stepped, step}
use Rattle.definition.specs.Walks.{Walk, begin, terminate, terminate_all, copy_launch}

-- what a call's program gives, where it is not refused
abbrev pub Told : Type 0
Told = Answer × Table

-- ---- answers

-- "what no rule sets is 0"
abbrev pub answer : ℕ → Answer
answer code = record { code = code; slot = 0; launched = 0; terminated = 0; port = 0; stored = 0; submit = 0; cancel = 0 }

-- the answer of a command that walked over endpoints
abbrev pub walked : Walk → Answer
walked w =
    record { code = 1; slot = 0; launched = w.launched; terminated = w.terminated; port = w.port; stored = 0; submit = 0; cancel = 0 }

-- "these two are 1 where a step names them"
abbrev pub stepped : Stepped → Answer
stepped r =
    record { code = r.code; slot = 0; launched = 0; terminated = 0; port = 0; stored = 0; submit = cond r.submit 1 0; cancel = cond r.cancel 1 0 }

-- ---- "Order of checks: 198; 194 (calls that lend memory); 11; 12; then the command's own."

unfoldable pub formed : {A : Type 0} → Table → Prog (Result A) → Prog (Result A)
formed t p = choose (well_formed t) p (done (refuse 198))

unfoldable pub lent : {A : Type 0} → Table → ℕ → Prog (Result A) → Prog (Result A)
lent t len p = choose (eqb t.length len) p (done (refuse 194))

abbrev pub found : {A : Type 0} → Option Slot → Prog (Result A) → (Slot → Prog (Result A)) → Prog (Result A)
found (Some s) none f = f s
found None none f = none

-- a command on a slot in use; `absent` is the code where there is none
unfoldable pub on_slot : {A : Type 0} → ℕ → Table → ℕ → ℕ → (Slot → Prog (Result A)) → Prog (Result A)
on_slot absent t len id f = formed t (lent t len (found (lookup t id) (done (refuse absent)) f))

-- "endpoint id 0, above 31, or disabled"
unfoldable pub on_endpoint : {A : Type 0} → ℕ → Table → ℕ → ℕ → (Endpoint → Prog (Result A)) → Prog (Result A)
on_endpoint absent t id i f =
    choose (leb 1 i && leb i 31 && not (is_disabled (endpoint_of t id i))) (f (endpoint_of t id i)) (done (refuse absent))

-- ---- registers, and Enable Slot

-- "limit above 16" is 197
unfoldable pub set_limit : ℕ → Table → Prog (Result Told)
set_limit n t = formed t (choose (leb n 16) (done (ok (answer 0, with_registers t n t.dcbaap))) (done (refuse 197)))

-- "DCBAAP is kept as given"
unfoldable pub set_dcbaap : ℕ → Table → Prog (Result Told)
set_dcbaap a t = formed t (done (ok (answer 0, with_registers t t.limit a)))

-- "Its DCBAA entry address is DCBAAP + 8 × id, fixed at that moment."
unfoldable pub enable_one : Table → List ℕ → Prog (Result Told)
enable_one t [] = done (refuse 9)
enable_one t (id ∷ _) =
    done (ok (
      record { code = 1; slot = id; launched = 0; terminated = 0; port = 0; stored = 0; submit = 0; cancel = 0 },
      with_slot t id (record { state = Enabled; base = 0; entry = t.dcbaap ⊕ 8 * id }),
    ))

-- "Smallest free id from 1 to the limit."
unfoldable pub enable_slot : Table → Prog (Result Told)
enable_slot t = formed t (enable_one t (those (λ id. is_free (slot_of t id)) (count t.limit 1)))

-- ---- context check

-- "Types 0, 1 and 5 give 17."
abbrev pub usb_types : ℕ → Bool
usb_types k = not (eqb k 0 || eqb k 1 || eqb k 5)

-- "read the byte at P+32(i+1)+4; its bits 3..5 are the type"
unfoldable pub check_type : (ℕ → Bool) → ℕ → ℕ → ℕ → Prog (Result Unit)
check_type accepts len P i =
    need len (P ⊕ (32 * (i + 1) + 4)) 1
    (get (P ⊕ (32 * (i + 1) + 4)) 1 λ byte. choose (accepts (type_of (number byte))) (done (ok tt)) (done (refuse 17)))

-- "Read 4 bytes of add flags at P+4. For each set flag i from 1 to 31, ascending .." It gives the add flags
unfoldable pub context_check : (ℕ → Bool) → ℕ → ℕ → Prog (Result ℕ)
context_check accepts len P =
    need len (P ⊕ 4) 4
    (get (P ⊕ 4) 4 λ adds. every (set_bits 31 1 (number adds)) (check_type accepts len P) (done (ok (number adds))))

-- ---- Address Device

-- the slot context's state field, as xHCI numbers it: "Default 8, Addressed 16, Configured 24" when shifted
abbrev pub context_state : SlotState → ℕ
context_state Free = 0
context_state Enabled = 0
context_state Default = 1
context_state Addressed = 2
context_state Configured = 3

-- "Slot state byte at base+15"
abbrev pub put_slot_state : {A : Type 0} → ℕ → SlotState → Prog A → Prog A
put_slot_state base s p = put (base + 15) (slot_state_byte (context_state s) ∷ []) p

-- where the base comes from, and the next state
pub data Plan : Type 0 where
  fresh : SlotState → Plan
  again : SlotState → Plan
  never : Plan

-- "Enabled, BSR=1: read base, to Default. Enabled, BSR=0: read base, to Addressed. Default, BSR=0: terminate endpoint 1, to Addressed. Else 19."
unfoldable pub plan : SlotState → Bool → Plan
plan Free bsr = never
plan Enabled true = fresh Default
plan Enabled false = fresh Addressed
plan Default true = never
plan Default false = again Addressed
plan Addressed bsr = never
plan Configured bsr = never

-- "Then copy 32 bytes from P+32 to base; store the slot state byte; copy 32 bytes from P+64 to base+32; launch endpoint 1." P+32 is at c
unfoldable pub copy_contexts : ℕ → ℕ → ℕ → SlotState → ℕ → Walk → Prog (Result Told)
copy_contexts id c base next dcbaa_entry w =
    get c 32 λ context.
    put base context
    (put_slot_state base next
    (bind (copy_launch id base (c + 32) 1 w) λ v.
    done (ok (walked v, with_slot v.table id (record { state = next; base = base; entry = dcbaa_entry })))))

unfoldable pub carry_out : ℕ → ℕ → Table → ℕ → Slot → Plan → Prog (Result Told)
carry_out len P t id s (fresh next) =
    need len s.entry 8
    (get s.entry 8 λ base.
    need len (P ⊕ 32) 64
    (need len (number base) 64
    (copy_contexts id (P ⊕ 32) (number base) next s.entry (begin t))))
carry_out len P t id s (again next) =
    need len (P ⊕ 32) 64
    (need len s.base 64
    (bind (terminate id s.base 1 (begin t)) λ w.
    copy_contexts id (P ⊕ 32) s.base next s.entry w))
carry_out len P t id s never = done (refuse 19)

-- "Context check first, then state."
unfoldable pub address_device : (ℕ → Bool) → ℕ → ℕ → Bool → ℕ → Table → Prog (Result Told)
address_device accepts id P bsr len t =
    on_slot 11 t len id λ s.
    and_then (context_check accepts len P) λ adds.
    carry_out len P t id s (plan s.state bsr)

-- ---- Configure Endpoint

-- "Enabled or Default gives 19."
unfoldable pub settled : {A : Type 0} → SlotState → Prog (Result A) → Prog (Result A)
settled Free p = done (refuse 19)
settled Enabled p = done (refuse 19)
settled Default p = done (refuse 19)
settled Addressed p = p
settled Configured p = p

-- the slot goes to the next state: "the slot state byte is stored last"
unfoldable pub finish : ℕ → Slot → SlotState → Walk → Prog (Result Told)
finish id s next w =
    put_slot_state s.base next
    (done (ok (walked w, with_slot w.table id (record { state = next; base = s.base; entry = s.entry }))))

-- "terminate endpoints 2..31, to .."
unfoldable pub deconfigure : ℕ → Slot → SlotState → Table → Prog (Result Told)
deconfigure id s next t = bind (terminate_all id s.base (count 30 2) (begin t)) (finish id s next)

-- "No store happens until every range of the call is known to be in memory": both contexts of endpoint i
unfoldable pub need_contexts : ℕ → ℕ → ℕ → ℕ → Prog (Result Unit)
need_contexts len P base i = need len (P ⊕ 32 * (i + 1)) 32 (need len (base ⊕ 32 * i) 32 (done (ok tt)))

-- "copy from P+32(i+1) to base+32i, launch"
unfoldable pub add : ℕ → ℕ → ℕ → ℕ → Walk → Prog Walk
add id P base i w = copy_launch id base (P ⊕ 32 * (i + 1)) i w

unfoldable pub add_all : ℕ → ℕ → ℕ → List ℕ → Walk → Prog Walk
add_all id P base is w = each is (add id P base) w

-- "All drops, ascending, then all adds, ascending"
unfoldable pub drop_and_add : ℕ → ℕ → ℕ → List ℕ → List ℕ → Walk → Prog Walk
drop_and_add id P base drops adds w = bind (terminate_all id base drops w) (add_all id P base adds)

-- "read drop flags at P, then add flags. Bits 2..31 only."
unfoldable pub reconfigure : (ℕ → Bool) → ℕ → ℕ → Slot → ℕ → Table → Prog (Result Told)
reconfigure accepts id P s len t =
    and_then (context_check accepts len P) λ adds.
    need len P 4
    (get P 4 λ drops.
    every (set_bits 30 2 adds) (need_contexts len P s.base)
    (bind (drop_and_add id P s.base (set_bits 30 2 (number drops)) (set_bits 30 2 adds) (begin t)) (finish id s Configured)))

-- "State first." "DC=1: terminate endpoints 2..31, to Addressed; P is not used."
unfoldable pub configure_endpoint : (ℕ → Bool) → ℕ → ℕ → Bool → ℕ → Table → Prog (Result Told)
configure_endpoint accepts id P true len t = on_slot 11 t len id λ s. settled s.state (deconfigure id s Addressed t)
configure_endpoint accepts id P false len t = on_slot 11 t len id λ s. settled s.state (reconfigure accepts id P s len t)

-- ---- the other slot commands

-- "Context check, then 1, in any slot state."
unfoldable pub evaluate_context : (ℕ → Bool) → ℕ → ℕ → ℕ → Table → Prog (Result Told)
evaluate_context accepts id P len t = on_slot 11 t len id λ s. and_then (context_check accepts len P) λ adds. done (ok (answer 1, t))

-- "Enabled or Default: 19. Else terminate 2..31, to Default, store the state byte."
unfoldable pub reset_device : ℕ → ℕ → Table → Prog (Result Told)
reset_device id len t = on_slot 11 t len id λ s. settled s.state (deconfigure id s Default t)

-- "terminates all endpoints ascending and frees the slot"
unfoldable pub freeing : ℕ → Table → Prog Walk
freeing id t =
    bind (terminate_all id (slot_of t id).base (count 31 1) (begin t)) λ w.
    done (record { table = with_slot w.table id free; launched = w.launched; terminated = w.terminated; port = w.port })

unfoldable pub disable_slot : ℕ → ℕ → Table → Prog (Result Told)
disable_slot id len t = on_slot 11 t len id λ s. bind (freeing id t) λ w. done (ok (walked w, w.table))

-- "does so for each slot ascending, sets limit and DCBAAP to 0, and answers 0 with masks 0"
unfoldable pub reset_all : ℕ → Table → Prog (Result Told)
reset_all len t =
    formed t
    (lent t len (bind (each (count 16 1) (λ id u. bind (freeing id u) λ w. done w.table) t) λ u. done (ok (answer 0, with_registers u 0 0))))

-- ---- calls that reach one endpoint

-- `no_slot` and `no_endpoint` are the codes where there is none: 11 and 12, and for a host event 196
unfoldable pub endpoint_call : ℕ → ℕ → ℕ → ℕ → Input → ℕ → Table → Prog (Result Told)
endpoint_call no_slot no_endpoint id i input len t =
    on_slot no_slot t len id λ s.
    on_endpoint no_endpoint t id i λ e.
    and_then (step e input (s.base ⊕ 32 * i)) λ r.
    done (ok (stepped r, with_endpoint t id i r.endpoint))
