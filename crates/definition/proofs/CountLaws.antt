-- What each part of a call stores and gives: a rule for each, over whatever is to be shown.
-- Assumes nothing.
use mathlib.Core.Path.{◌∙◌, ◌≡◌, refl}
use mathlib.Core.Logic.{inr, ⊎_elim}
use mathlib.Core.Bool.{Bool, true, false, not, ◌&&◌}
use mathlib.Core.List.{List, [], ◌∷◌, ◌++◌, append-nil}
use Prim.Native.Nat.{ℕ, ◌+◌, ◌*◌, ◌^◌, ◌≤◌, ◌<◌}
use native.Mathlib.Nat.{add-zero}
use native.Mathlib.Omega.{arith}
use borrow.Author.Tests.{eqb-true, leb-true}
use lib.Dec.{leb, eqb}
use lib.ListN.{length, drop, length-take}
use Rattle.guest.specs.Bytes.{count, set_bits, slot_state_byte, number, bytes, ◌⊕◌, pointer_of, cycle_of}
use Rattle.guest.specs.Prog.{Mem, Prog, done, run, block, splice, Within, Store, stores, Touched, Result, ok, refuse, and_then, passed}
use Rattle.guest.proofs.ListLaws.{All, and_left, and_right}
use Rattle.guest.proofs.ReadLaws.{applied, total}
use Rattle.guest.proofs.SpliceLaws.{block_length, block_other, block_here}
use Rattle.guest.proofs.StoreLaws.{block_block, Runs, runs_run, store, runs_done, runs_get, runs_put, runs_choose, runs_need, runs_bind, runs_last, Quietly, runs_then, runs_every, runs_map, runs_each, each_from}
use Rattle.definition.specs.Types.{Endpoint, Waiting, Input, Row, SlotState, Free, Enabled, Default, Addressed, Configured, Slot, Table, Option, Some, None}
use Rattle.definition.specs.Table.{slot_number, is_disabled, disabled, free, endpoint_of, slot_of, with_endpoint, with_slot, lookup, well_formed}
use Rattle.definition.specs.Steps.{Stepped, entry, report_of, put_byte, put_when, step_by, step, launch_at, terminate_at}
use Rattle.definition.specs.Walks.{Walk, begin, terminate_all, begun, ended, terminate, launch, copy_launch}
use Rattle.definition.specs.Commands.{formed, lent, found, on_slot, on_endpoint, check_type, context_check, settled, need_contexts, add, add_all, drop_and_add, context_state, walked, finish, deconfigure, reconfigure, carry_out, copy_contexts, fresh, again, plan, freeing, endpoint_call, Told, stepped}
use Rattle.definition.specs.Calls.{Call, meaning, told, prog}
use Rattle.definition.specs.Rules.{Opened, Settled, is_addressed, is_configured}
use Rattle.definition.proofs.TableLaws.{endpoint_back, IsEndpoint}
use Rattle.definition.proofs.EntryLaws.{Answered, entry_answers}

-- ---- one endpoint

-- endpoint i, which was enabled, is gone
abbrev pub gone : ℕ → ℕ → Walk → Walk
gone id i w =
    record { table = with_endpoint w.table id i disabled; launched = w.launched; terminated = w.terminated + 2 ^ i; port = w.port }

-- a disabled endpoint changes nothing
pub terminate_runs : {m : Mem} {R : List Store → Walk → Type 0} (id base i : ℕ) (w : Walk)
    → (is_disabled (endpoint_of w.table id i) ≡ true → R [] w)
    → (is_disabled (endpoint_of w.table id i) ≡ false → R (store (base ⊕ 32 * i) (0 ∷ []) ∷ []) (gone id i w)) → Runs (terminate id base i w) m R
unfolding terminate terminate_at
terminate_runs {R = R} id base i w f g =
    runs_last _ (runs_choose (λ e. runs_done (same e)) (λ e. runs_put (runs_done (else e))))
  where
    same : is_disabled (endpoint_of w.table id i) ≡ true → R [] (ended id i (endpoint_of w.table id i) (endpoint_of w.table id i) w)
    same e = rw (e, endpoint_back w.table id i, add-zero w.terminated) (f e)

    else : is_disabled (endpoint_of w.table id i) ≡ false
        → R (store (base ⊕ 32 * i) (0 ∷ []) ∷ []) (ended id i (endpoint_of w.table id i) disabled w)
    else e = rw e (g e)

-- the record of an endpoint that starts at a dequeue word
abbrev pub waiting : List ℕ → Endpoint
waiting word = record { state = Waiting; cycle = cycle_of (number word); pointer = pointer_of (number word) }

-- a context copied from c, and its endpoint launched
pub copy_runs : {m : Mem} {R : List Store → Walk → Type 0} (id base c i : ℕ) (w : Walk)
    → (let at = base ⊕ 32 * i in
    let n = splice m at (block m c 32) in
    R (store at (block m c 32) ∷ store at (1 ∷ []) ∷ []) (begun id i (number (block n (base + 6) 1)) (waiting (block (splice n at (1 ∷ [])) (at + 8) 8)) w))
    → Runs (copy_launch id base c i w) m R
unfolding copy_launch launch launch_at
copy_runs id base c i w h = runs_get (runs_put (runs_get (runs_last _ (runs_put (runs_get (runs_done h))))))

-- a launch takes the dequeue word of the context that was copied from c
pub launch_word : (n : Mem) (at c : ℕ) → at + 32 ≤ length n → c + 32 ≤ length n
    → block (splice (splice n at (block n c 32)) at (1 ∷ [])) (at + 8) 8 ≡ block n (c + 8) 8
launch_word n at c h l =
    let long : length (block n c 32) ≡ 32 = block_length n c 32 l in
    block_other (splice n at (block n c 32)) (at + 8) 8 at (1 ∷ []) (inr (omega arith))
    ∙ block_here n at (block n c 32) 8 8 (omega arith) (omega arith)
    ∙ block_block n c 32 8 8 l (omega arith)

-- a context stored, and then a byte of it
pub context_stores : (n : Mem) (c base at b x : ℕ) → base ≤ at → at < base + 32
    → Touched (store base (block n c 32) ∷ store at (b ∷ []) ∷ []) x → Within base 32 x
unfolding Touched
context_stores n c base at b x l g h =
    ⊎_elim (λ w. omega (arith, length-take 32 (drop c n))) (⊎_elim (λ w. omega arith) (λ q. absurd q)) h

-- a step stores at most nine bytes, all in the context
pub step_runs : {m : Mem} {R : List Store → Result Stepped → Type 0} (e : Endpoint) (input : Input) (at : ℕ) → ((c : ℕ) → 2 ≤ c → R [] (refuse c))
    → ((ws : List Store) (r : Stepped) → total ws ≤ 9 → ((a : ℕ) → Touched ws a → Within at 32 a) → R ws (ok r)) → Runs (step e input at) m R
unfolding step step_by passed total Touched bytes
step_runs {m} {R} e input at r f = by_entry (entry e.state input) (entry_answers e.state input)
  where
    by_byte : (b : Option ℕ) (saves : Bool) (word : ℕ) (x : Stepped) → Runs (put_byte b at (put_when saves (at + 8) (bytes 8 word) (done (ok x)))) m R
    by_byte (Some b) saves word x =
        runs_put (runs_choose
        (λ _. runs_put (runs_done (f _ _ (omega arith) (λ a. ⊎_elim (λ h. omega arith) (⊎_elim (λ h. omega arith) (λ h. absurd h))))))
        (λ _. runs_done (f _ _ (omega arith) (λ a. ⊎_elim (λ h. omega arith) (λ h. absurd h)))))
    by_byte None saves word x =
        runs_choose
        (λ _. runs_put (runs_done (f _ _ (omega arith) (λ a. ⊎_elim (λ h. omega arith) (λ h. absurd h)))))
        (λ _. runs_done (f _ _ (omega arith) (λ a h. absurd h)))

    by_entry : (x : Result Row) → Answered x → Runs (passed (λ w. step_by w e (report_of input) at) x) m R
    by_entry (ok w) h = runs_choose (λ _. runs_done (r 195 (omega arith))) (λ _. by_byte w.byte w.saves _ _)
    by_entry (refuse c) h = runs_done (r c h.0)

-- ---- the checks before a command

module _ {A : Type 0} {m : Mem} {R : List Store → Result A → Type 0} (refused : (c : ℕ) → 2 ≤ c → R [] (refuse c)) where
  -- past 198, past 194, past 11
  pub formed_runs : (t : Table) {p : Prog (Result A)} → (well_formed t ≡ true → Runs p m R) → Runs (formed t p) m R
  unfolding formed
  formed_runs t f = runs_choose f (λ _. runs_done (refused 198 (omega arith)))

  pub lent_runs : (t : Table) (len : ℕ) {p : Prog (Result A)} → (t.length ≡ len → Runs p m R) → Runs (lent t len p) m R
  unfolding lent
  lent_runs t len f = runs_choose (λ e. f (eqb-true t.length len e)) (λ _. runs_done (refused 194 (omega arith)))

  pub slot_runs : (absent : ℕ) → 2 ≤ absent → (t : Table) (id : ℕ) (f : Slot → Prog (Result A)) → ((s : Slot) → Opened t m id s → Runs (f s) m R)
      → Runs (on_slot absent t (length m) id f) m R
  unfolding on_slot
  slot_runs absent some t id f g = formed_runs t (λ w. lent_runs t (length m) (λ e. by w e (lookup t id) refl))
    where
      by : well_formed t ≡ true → t.length ≡ length m → (l : Option Slot) → lookup t id ≡ l → Runs (found l (done (refuse absent)) f) m R
      by w e (Some s) u = g s (record { formed = w; size = e; used = u })
      by w e None u = runs_done (refused absent some)

  -- the context check gives the add flags
  pub check_runs : (accepts : ℕ → Bool) (len P : ℕ) (f : ℕ → Prog (Result A)) → Runs (f (number (block m (P ⊕ 4) 4))) m R
      → Runs (and_then (context_check accepts len P) f) m R
  unfolding context_check check_type
  check_runs accepts len P f g =
      runs_then (λ c. 2 ≤ c) (λ adds. adds ≡ number (block m (P ⊕ 4) 4))
      (runs_need _ _ (refl, omega arith)
      (λ _. runs_get (runs_every (λ c. 2 ≤ c) (λ _. Unit)
      (λ i. runs_need _ _ (refl, omega arith) (λ _. runs_get (runs_choose (λ _. runs_done (refl, tt)) (λ _. runs_done (refl, omega arith)))))
      (λ c h. (refl, h)) (λ _. runs_done (refl, refl)))))
      refused (λ adds e. rw e g)

  -- "Enabled or Default gives 19."
  pub settled_runs : (s : SlotState) {p : Prog (Result A)} → (Settled s → Runs p m R) → Runs (settled s p) m R
  unfolding settled
  settled_runs Free f = runs_done (refused 19 (omega arith))
  settled_runs Enabled f = runs_done (refused 19 (omega arith))
  settled_runs Default f = runs_done (refused 19 (omega arith))
  settled_runs Addressed f = f is_addressed
  settled_runs Configured f = f is_configured

-- both contexts of an added endpoint lie in memory
pub contexts_runs : {m : Mem} (len P base i : ℕ)
    → Runs (need_contexts len P base i) m (Quietly (λ c. 2 ≤ c) (λ _. ((P ⊕ 32 * (i + 1)) + 32 ≤ len) × ((base ⊕ 32 * i) + 32 ≤ len)))
unfolding need_contexts
contexts_runs len P base i = runs_need _ _ (refl, omega arith) (λ a. runs_need _ _ (refl, omega arith) (λ b. runs_done (refl, (a, b))))

-- ---- walks over endpoints: I holds of the endpoints left, of the stores so far and of the walk so far

abbrev pub Held : Type 1
Held = List ℕ → List Store → Walk → Type 0

-- a turn of a walk that terminates: an endpoint is passed over, or it goes
pub record Dropping (id base : ℕ) (I : Held) : Type 0 where
  pub skip : (i : ℕ) (is : List ℕ) (ws : List Store) (w : Walk) → I (i ∷ is) ws w → I is ws w
  pub go : (i : ℕ) (is : List ℕ) (ws : List Store) (w : Walk) → I (i ∷ is) ws w → is_disabled (endpoint_of w.table id i) ≡ false
      → I is (ws ++ store (base ⊕ 32 * i) (0 ∷ []) ∷ []) (gone id i w)

-- a walk that terminates
pub terminate_all_runs : {m : Mem} (id base : ℕ) (is : List ℕ) (w : Walk) {I : Held} → Dropping id base I → I is [] w
    → Runs (terminate_all id base is w) m (I [])
unfolding terminate_all
terminate_all_runs {m} id base is w {I} e h =
    runs_each (terminate id base) m I
    (λ i is ws v q. terminate_runs id base i v (λ _. rw (append-nil ws) (e.skip i is ws v q)) (λ d. e.go i is ws v q d)) h

-- a turn of a walk that adds, after the stores ws
pub record Adding (m : Mem) (id P base : ℕ) (I : Held) : Type 0 where
  pub turn : (i : ℕ) (is : List ℕ) (ws : List Store) (w : Walk) → I (i ∷ is) ws w
      → (let at = base ⊕ 32 * i in
      let context = block (applied m ws) (P ⊕ 32 * (i + 1)) 32 in
      let n = splice (applied m ws) at context in
      I is (ws ++ store at context ∷ store at (1 ∷ []) ∷ [])
      (begun id i (number (block n (base + 6) 1)) (waiting (block (splice n at (1 ∷ [])) (at + 8) 8)) w))

-- a walk that adds
pub add_all_runs : {m : Mem} {id P base : ℕ} (is : List ℕ) (ws : List Store) (w : Walk) {I : Held} → Adding m id P base I → I is ws w
    → Runs (add_all id P base is w) (applied m ws) (λ vs v. I [] (ws ++ vs) v)
unfolding add_all add
add_all_runs {m} {id} {P} {base} is ws w {I} e h =
    each_from (add id P base) m I (λ i is ws v q. copy_runs id base (P ⊕ 32 * (i + 1)) i v (e.turn i is ws v q)) is ws w h

-- ---- commands, past their checks

-- the slot with another state and base
abbrev pub settle : ℕ → SlotState → ℕ → ℕ → Walk → Told
settle id next base entry w = (walked w, with_slot w.table id (record { state = next; base = base; entry = entry }))

-- how Address Device begins: the stores, the base and the walk before its copies
pub data Starts (m : Mem) (id : ℕ) (s : Slot) (t : Table) : List Store → ℕ → Walk → Type 0 where
  fresh_base : s.state ≡ Enabled → Starts m id s t [] (number (block m s.entry 8)) (begin t)
  kept_base : s.state ≡ Default → Starts m id s t [] s.base (begin t)
  kept_ended : s.state ≡ Default → Starts m id s t (store (s.base ⊕ 32 * 1) (0 ∷ []) ∷ []) s.base (gone id 1 (begin t))

-- the memory once the slot context and its state byte are stored; the four stores; the walk after the launch. The input's contexts are at c
abbrev pub half : Mem → ℕ → ℕ → SlotState → Mem
half m c base next = splice (splice m base (block m c 32)) (base + 15) (slot_state_byte (context_state next) ∷ [])

abbrev pub copies : Mem → ℕ → ℕ → SlotState → List Store
copies m c base next =
    store base (block m c 32)
    ∷ store (base + 15) (slot_state_byte (context_state next) ∷ [])
    ∷ store (base ⊕ 32 * 1) (block (half m c base next) (c + 32) 32)
    ∷ store (base ⊕ 32 * 1) (1 ∷ [])
    ∷ []

abbrev pub copied : Mem → ℕ → ℕ → ℕ → SlotState → Walk → Walk
copied m c id base next w =
    let at = base ⊕ 32 * 1 in
    let n = splice (half m c base next) at (block (half m c base next) (c + 32) 32) in
    begun id 1 (number (block n (base + 6) 1)) (waiting (block (splice n at (1 ∷ [])) (at + 8) 8)) w

module _ {m : Mem} {R : List Store → Result Told → Type 0} (id : ℕ) (s : Slot) (t : Table) where
  -- "terminate endpoints 2..31, to .."
  pub deconfigure_runs : (next : SlotState) {I : Held} → Dropping id s.base I → I (count 30 2) [] (begin t)
      → ((ws : List Store) (w : Walk) → I [] ws w
      → R (ws ++ store (s.base + 15) (slot_state_byte (context_state next) ∷ []) ∷ []) (ok (settle id next s.base s.entry w)))
      → Runs (deconfigure id s next t) m R
  unfolding deconfigure finish
  deconfigure_runs next {I} e h g =
      runs_bind (I []) (terminate_all_runs id s.base (count 30 2) (begin t) e h) (λ ws w q. runs_put (runs_done (g ws w q)))

  -- the walk of the drops holds J, that of the adds K
  pub reconfigure_runs : ((c : ℕ) → 2 ≤ c → R [] (refuse c)) → (accepts : ℕ → Bool) (len P : ℕ) {J K : Held}
      → Dropping id s.base J → Adding m id P s.base K
      → (let adds = set_bits 30 2 (number (block m (P ⊕ 4) 4)) in
      All (λ i. ((P ⊕ 32 * (i + 1)) + 32 ≤ len) × ((s.base ⊕ 32 * i) + 32 ≤ len)) adds → (ws : List Store) (w : Walk) → J [] ws w → K adds ws w)
      → J (set_bits 30 2 (number (block m P 4))) [] (begin t)
      → ((ws : List Store) (w : Walk) → K [] ws w
      → R (ws ++ store (s.base + 15) (slot_state_byte (context_state Configured) ∷ []) ∷ []) (ok (settle id Configured s.base s.entry w)))
      → Runs (reconfigure accepts id P s len t) m R
  unfolding reconfigure drop_and_add finish
  reconfigure_runs r accepts len P {J} {K} e f g h k =
      check_runs r accepts len P _
      (runs_need _ _ (r 193 (omega arith))
      (λ _. runs_get (runs_every _ _ (λ i. contexts_runs len P s.base i) r
      (λ a. runs_bind (K [])
      (runs_bind (J []) (terminate_all_runs id s.base _ (begin t) e h) (λ ws w q. add_all_runs _ ws w f (g a ws w q)))
      (λ ws v q. runs_put (runs_done (k ws v q)))))))

  -- "Address Device": the copies follow the stores ws
  pub address_runs : ((c : ℕ) → 2 ≤ c → R [] (refuse c)) → (len P : ℕ) (bsr : Bool)
      → ((ws : List Store) (base : ℕ) (next : SlotState) (w : Walk) → Starts m id s t ws base w → eqb (slot_number next) 0 ≡ false
      → (P ⊕ 32) + 64 ≤ len → base + 64 ≤ len
      → R (ws ++ copies (applied m ws) (P ⊕ 32) base next) (ok (settle id next base s.entry (copied (applied m ws) (P ⊕ 32) id base next w))))
      → Runs (carry_out len P t id s (plan s.state bsr)) m R
  unfolding plan carry_out copy_contexts applied
  address_runs r len P bsr g = by s.state bsr refl
    where
      fresh_runs : s.state ≡ Enabled → (next : SlotState) → eqb (slot_number next) 0 ≡ false → Runs (carry_out len P t id s (fresh next)) m R
      fresh_runs e next n =
          runs_need _ _ (r 193 (omega arith))
          (λ _. runs_get (runs_need _ _ (r 193 (omega arith))
          (λ a. runs_need _ _ (r 193 (omega arith))
          (λ b. runs_get (runs_put (runs_put (runs_last _ (copy_runs id _ _ 1 (begin t) (g [] _ next (begin t) (fresh_base e) n a b)))))))))

      again_runs : s.state ≡ Default → (next : SlotState) → eqb (slot_number next) 0 ≡ false → Runs (carry_out len P t id s (again next)) m R
      again_runs e next n =
          runs_need _ _ (r 193 (omega arith))
          (λ a. runs_need _ _ (r 193 (omega arith))
          (λ b. runs_bind
          (λ ws w. Starts m id s t ws s.base w)
          (terminate_runs id s.base 1 (begin t) (λ _. kept_base e) (λ _. kept_ended e))
          (λ ws w q. runs_get (runs_put (runs_put (runs_last _ (copy_runs id _ _ 1 w (g ws _ next w q n a b))))))))

      by : (st : SlotState) (bsr : Bool) → s.state ≡ st → Runs (carry_out len P t id s (plan st bsr)) m R
      by Free bsr e = runs_done (r 19 (omega arith))
      by Enabled true e = fresh_runs e Default refl
      by Enabled false e = fresh_runs e Addressed refl
      by Default true e = runs_done (r 19 (omega arith))
      by Default false e = again_runs e Addressed refl
      by Addressed bsr e = runs_done (r 19 (omega arith))
      by Configured bsr e = runs_done (r 19 (omega arith))

-- "terminates all endpoints ascending and frees the slot"
pub freeing_runs : {m : Mem} {R : List Store → Walk → Type 0} (id : ℕ) (t : Table) {I : Held} → Dropping id (slot_of t id).base I
    → I (count 31 1) [] (begin t)
    → ((ws : List Store) (w : Walk) → I [] ws w
    → R ws (record { table = with_slot w.table id free; launched = w.launched; terminated = w.terminated; port = w.port }))
    → Runs (freeing id t) m R
unfolding freeing
freeing_runs id t e h g = runs_last _ (runs_map g (terminate_all_runs id (slot_of t id).base (count 31 1) (begin t) e h))

-- a call that reaches one endpoint
pub reach_runs : {m : Mem} {R : List Store → Result Told → Type 0} → ((c : ℕ) → 2 ≤ c → R [] (refuse c)) → (no_slot no_endpoint id i : ℕ) → 2 ≤ no_slot → 2 ≤ no_endpoint
    → (input : Input) (t : Table)
    → ((s : Slot) (ws : List Store) (r : Stepped) → Opened t m id s → IsEndpoint i → total ws ≤ 9
    → ((a : ℕ) → Touched ws a → Within (s.base ⊕ 32 * i) 32 a) → R ws (ok (stepped r, with_endpoint t id i r.endpoint)))
    → Runs (endpoint_call no_slot no_endpoint id i input (length m) t) m R
unfolding endpoint_call on_endpoint and_then passed
reach_runs {m} {R} r no_slot no_endpoint id i p q input t g =
    slot_runs r no_slot p t id _
    (λ s o. runs_choose
    (λ e. runs_bind (λ ws x. R ws (by x))
    (step_runs (endpoint_of t id i) input (s.base ⊕ 32 * i) r (λ ws x n w. g s ws x o (is_endpoint e) n w)) (λ ws x q. rest ws x q))
    (λ _. runs_done (r no_endpoint q)))
  where
    by : Result Stepped → Result Told
    by (ok x) = ok (stepped x, with_endpoint t id i x.endpoint)
    by (refuse c) = refuse c

    rest : (ws : List Store) (x : Result Stepped) → R ws (by x)
        → Runs (passed (λ (r : Stepped). done (ok (stepped r, with_endpoint t id i r.endpoint))) x) (applied m ws) (λ vs y. R (ws ++ vs) y)
    rest ws (ok x) q = runs_done (rw (append-nil ws) q)
    rest ws (refuse c) q = runs_done (rw (append-nil ws) q)

    is_endpoint : (leb 1 i && leb i 31 && not (is_disabled (endpoint_of t id i))) ≡ true → IsEndpoint i
    is_endpoint e =
        let both = and_left (leb 1 i && leb i 31) (not (is_disabled (endpoint_of t id i))) e in
        (leb-true 1 i (and_left (leb 1 i) (leb i 31) both), leb-true i 31 (and_right (leb 1 i) (leb i 31) both))

-- a call, from what its meaning stores and gives
pub prog_runs : (c : Call) (t : Table) (m : Mem) (R : List Store → Told → Type 0) → Runs (meaning c (length m) t) m (λ ws r. R ws (told t r))
    → R (stores (prog c (length m) t) m) (run (prog c (length m) t) m 0).value
unfolding prog
prog_runs c t m R h = runs_run (runs_last (told t) {R = R} h) 0
