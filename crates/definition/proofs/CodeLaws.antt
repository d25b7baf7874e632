-- Demand 1: the codes, and that a refusal changes nothing.
-- Assumes nothing.
use mathlib.Core.Path.{◌≡◌, refl, ◌∙◌}
use mathlib.Core.Bool.{Bool, true, false}
use mathlib.Core.List.{List, [], ◌∷◌}
use Prim.Native.Nat.{ℕ, ◌+◌, ◌≤◌, ◌<◌}
use native.Mathlib.Omega.{arith}
use lib.Dec.{lit<, lit≤}
use lib.ListN.{length}
use Rattle.guest.specs.Prog.{every, each, need, Mem, Prog, done, get, put, Ran, ran, run, choose, Result, ok, refuse, passed, and_then}
use Rattle.guest.specs.Forms.{Gives}
use Rattle.guest.proofs.RunLaws.{run_bind, run_done}
use Rattle.guest.specs.Bytes.{count}
use Rattle.guest.proofs.ListLaws.{all_of}
use Rattle.guest.proofs.FormLaws.{clean_refusal, gives_value, gives_done, gives_get, gives_put, gives_choose, gives_need, gives_bind, gives_then, gives_each}
use Rattle.definition.specs.Types.{Option, Some, None, Endpoint, Input, Row, SlotState, Free, Enabled, Default, Addressed, Configured, Slot, Table}
use Rattle.definition.specs.Table.{with_endpoint, with_slot, with_registers}
use Rattle.definition.specs.Steps.{Stepped, entry, report_of, put_byte, step_by, step}
use Rattle.definition.specs.Commands as commands
use Rattle.definition.specs.Commands.{Told, answer, usb_types, endpoint_call, enable_one, check_type, context_check, on_slot, settled, finish, deconfigure, reconfigure, need_contexts, add, add_all, drop_and_add, freeing, copy_contexts, carry_out, Plan, fresh, again, never}
use Rattle.definition.specs.Walks.{Walk, begin, terminate, terminate_all, launch, copy_launch}
use Rattle.definition.specs.Calls.{Call, set_limit, set_dcbaap, enable_slot, disable_slot, address_device, configure_endpoint, evaluate_context, reset_device, reset_all, stop_endpoint, reset_endpoint, set_dequeue, doorbell, host_ok, host_stall, host_transaction_error, host_trb_error, meaning, told, prog}
use Rattle.definition.proofs.HeadLaws.{slot_gives, endpoint_gives}
use Rattle.definition.proofs.CleanLaws.{call_clean}
use Rattle.definition.proofs.EntryLaws.{Answered, entry_answers}

-- ---- the codes: 0 or 1 where a call is carried out, above 1 where it is refused

unfoldable pub Coded : {A : Type 0} → (A → Type 0) → Result A → Type 0
Coded P (ok x) = P x
Coded P (refuse c) = 1 < c

abbrev Any : {A : Type 0} → A → Type 0
Any x = Unit {0}

-- a call that is carried out answers 0 or 1, and its table is for a memory of n bytes, as it was
abbrev pub Carried : ℕ → Told → Type 0
Carried n r = (r.0.code ≤ 1) × (r.1.length ≡ n)

module _ {A : Type 0} (P : A → Type 0) where
  coded_ok : (x : A) → P x → Gives (Coded P) (done (ok x))
  unfolding Coded Gives
  coded_ok x h = h

  coded_refuse : (c : ℕ) → 1 < c → Gives (Coded P) (done (refuse c))
  unfolding Coded Gives
  coded_refuse c h = h

  coded_need : (len a n : ℕ) (p : Prog (Result A)) → Gives (Coded P) p → Gives (Coded P) (need len a n p)
  unfolding Coded
  coded_need len a n p h = gives_need (Coded P) len a n p (lit< tt) (λ _. h)

  coded_choose : (b : Bool) (p q : Prog (Result A)) → Gives (Coded P) p → Gives (Coded P) q → Gives (Coded P) (choose b p q)
  coded_choose b p q f g = gives_choose (Coded P) b p q (λ _. f) (λ _. g)

coded_then : {A B : Type 0} (P : B → Type 0) (p : Prog (Result A)) (f : A → Prog (Result B)) → Gives (Coded Any) p → ((x : A) → Gives (Coded P) (f x))
    → Gives (Coded P) (and_then p f)
unfolding Coded
coded_then P p f h g = gives_then (Coded Any) (Coded P) p f h (λ x _. g x) (λ c l. l)

coded_every : {A : Type 0} (P : A → Type 0) (is : List ℕ) (f : ℕ → Prog (Result Unit)) (p : Prog (Result A)) → ((i : ℕ) → Gives (Coded Any) (f i)) → Gives (Coded P) p
    → Gives (Coded P) (every is f p)
unfolding every
coded_every P [] f p g h = h
coded_every P (i ∷ is) f p g h = coded_then P (f i) _ (g i) (λ _. coded_every P is f p g h)

any_gives : {A : Type 0} (p : Prog A) → Gives Any p
unfolding Gives
any_gives (done x) = tt
any_gives (get a n k) = λ bs. any_gives (k bs)
any_gives (put a bs p) = any_gives p

-- ---- walks keep the table's length

abbrev Long : ℕ → Walk → Type 0
Long n w = w.table.length ≡ n

long_each : (n : ℕ) (is : List ℕ) (f : ℕ → Walk → Prog Walk) (w : Walk) → Long n w → ((i : ℕ) (v : Walk) → Long n v → Gives (Long n) (f i v)) → Gives (Long n) (each is f w)
long_each n is f w h g = gives_each Any (Long n) is f w (all_of is (λ i _. tt)) h (λ i _ v k. g i v k)

terminate_long : (n id base i : ℕ) (w : Walk) → Long n w → Gives (Long n) (terminate id base i w)
unfolding terminate with_endpoint
terminate_long n id base i w h = gives_bind Any (Long n) _ _ (any_gives _) (λ f _. gives_done _ _ h)

terminates_long : (n id base : ℕ) (is : List ℕ) (w : Walk) → Long n w → Gives (Long n) (terminate_all id base is w)
unfolding terminate_all
terminates_long n id base is w h = long_each n is _ w h (terminate_long n id base)

launch_long : (n id base c i : ℕ) (w : Walk) → Long n w → Gives (Long n) (copy_launch id base c i w)
unfolding copy_launch launch with_endpoint
launch_long n id base c i w h =
    gives_get _ _ _ _ (λ context. gives_put _ _ _ _ (gives_get _ _ _ _ (λ port. gives_bind Any (Long n) _ _ (any_gives _) (λ e _. gives_done _ _ h))))

adds_long : (n id P base : ℕ) (drops adds : List ℕ) (w : Walk) → Long n w → Gives (Long n) (drop_and_add id P base drops adds w)
unfolding drop_and_add add_all add
adds_long n id P base drops adds w h =
    gives_bind (Long n) (Long n) _ _ (terminates_long n id base drops w h) (λ v k. long_each n adds _ v k (λ i u l. launch_long n id base _ i u l))

freeing_long : (n id : ℕ) (t : Table) → t.length ≡ n → Gives (Long n) (freeing id t)
unfolding freeing with_slot
freeing_long n id t h = gives_bind (Long n) (Long n) _ _ (terminates_long n id _ _ (begin t) h) (λ w k. gives_done _ _ k)

-- ---- of each part

type_coded : (accepts : ℕ → Bool) (len P i : ℕ) → Gives (Coded Any) (check_type accepts len P i)
unfolding check_type
type_coded accepts len P i =
    coded_need Any _ _ _ _ (gives_get _ _ _ _ (λ byte. coded_choose Any _ _ _ (coded_ok Any _ tt) (coded_refuse Any 17 (lit< tt))))

check_coded : (accepts : ℕ → Bool) (len P : ℕ) → Gives (Coded Any) (context_check accepts len P)
unfolding context_check
check_coded accepts len P =
    coded_need Any _ _ _ _ (gives_get _ _ _ _ (λ adds. coded_every Any _ _ _ (type_coded accepts len P) (coded_ok Any _ tt)))

-- a command on a slot; one that reaches an endpoint
slot_coded : (n absent : ℕ) (t : Table) (len id : ℕ) (f : Slot → Prog (Result Told)) → 1 < absent → ((s : Slot) → Gives (Coded (Carried n)) (f s))
    → Gives (Coded (Carried n)) (on_slot absent t len id f)
unfolding Coded
slot_coded n absent t len id f h g = slot_gives (Coded (Carried n)) absent t len id f (lit< tt) (lit< tt) h g

-- a step's answer
abbrev Low : Result Stepped → Type 0
Low = Coded (λ (r : Stepped). r.code ≤ 1)

step_coded : (e : Endpoint) (i : Input) (at : ℕ) → Gives Low (step e i at)
unfolding step step_by passed Coded Gives
step_coded e i at = by_entry (entry e.state i) (entry_answers e.state i)
  where
    by_byte : (b : Option ℕ) (p : Prog (Result Stepped)) → Gives Low p → Gives Low (put_byte b at p)
    by_byte None p g = g
    by_byte (Some b) p g = g

    by_entry : (x : Result Row) → Answered x → Gives Low (passed (λ r. step_by r e (report_of i) at) x)
    by_entry (ok r) h = gives_choose Low _ _ _ (λ _. lit< tt) (λ _. by_byte r.byte _ (gives_choose Low _ _ _ (λ _. h) (λ _. h)))
    by_entry (refuse c) h = h.0

endpoint_call_coded : (a b id i : ℕ) (input : Input) (len : ℕ) (t : Table) → 1 < a → 1 < b → Gives (Coded (Carried t.length)) (endpoint_call a b id i input len t)
unfolding endpoint_call with_endpoint Coded
endpoint_call_coded a b id i input len t h k =
    let P = Carried t.length in
    slot_coded t.length a t len id _ h
    (λ s. endpoint_gives (Coded P) b t id i _ k
    (λ e. gives_then Low (Coded P) _ _ (step_coded e input _) (λ r l. coded_ok P _ (l, refl)) (λ c l. l)))

enable_coded : (t : Table) (ids : List ℕ) → Gives (Coded (Carried t.length)) (enable_one t ids)
unfolding enable_one with_slot
enable_coded t [] = coded_refuse (Carried t.length) 9 (lit< tt)
enable_coded t (id ∷ ids) = coded_ok (Carried t.length) _ (lit≤ tt, refl)

settled_coded : (n : ℕ) (s : SlotState) (p : Prog (Result Told)) → Gives (Coded (Carried n)) p → Gives (Coded (Carried n)) (settled s p)
unfolding settled
settled_coded n Free p h = coded_refuse (Carried n) 19 (lit< tt)
settled_coded n Enabled p h = coded_refuse (Carried n) 19 (lit< tt)
settled_coded n Default p h = coded_refuse (Carried n) 19 (lit< tt)
settled_coded n Addressed p h = h
settled_coded n Configured p h = h

finish_coded : (n id : ℕ) (s : Slot) (next : SlotState) (w : Walk) → Long n w → Gives (Coded (Carried n)) (finish id s next w)
unfolding finish with_slot
finish_coded n id s next w h = gives_put _ _ _ _ (coded_ok (Carried n) _ (lit≤ tt, h))

deconfigure_coded : (id : ℕ) (s : Slot) (next : SlotState) (t : Table) → Gives (Coded (Carried t.length)) (deconfigure id s next t)
unfolding deconfigure
deconfigure_coded id s next t = gives_bind _ _ _ _ (terminates_long t.length id _ _ (begin t) refl) (finish_coded t.length id s next)

reconfigure_coded : (accepts : ℕ → Bool) (id P : ℕ) (s : Slot) (len : ℕ) (t : Table) → Gives (Coded (Carried t.length)) (reconfigure accepts id P s len t)
unfolding reconfigure need_contexts
reconfigure_coded accepts id P s len t =
    let Q = Carried t.length in
    coded_then Q _ _ (check_coded accepts len P)
    (λ adds. coded_need Q _ _ _ _
    (gives_get _ _ _ _
    (λ drops. coded_every Q _ _ _ (λ i. coded_need Any _ _ _ _ (coded_need Any _ _ _ _ (coded_ok Any _ tt)))
    (gives_bind _ _ _ _ (adds_long t.length id P _ _ _ (begin t) refl) (finish_coded t.length id s Configured)))))

copies_coded : (n id c base : ℕ) (next : SlotState) (e : ℕ) (w : Walk) → Long n w → Gives (Coded (Carried n)) (copy_contexts id c base next e w)
unfolding copy_contexts with_slot
copies_coded n id c base next e w h =
    gives_get _ _ _ _
    (λ context. gives_put _ _ _ _
    (gives_put _ _ _ _ (gives_bind _ _ _ _ (launch_long n id base (c + 32) 1 w h) (λ v k. coded_ok (Carried n) _ (lit≤ tt, k)))))

carry_coded : (len P : ℕ) (t : Table) (id : ℕ) (s : Slot) (p : Plan) → Gives (Coded (Carried t.length)) (carry_out len P t id s p)
unfolding carry_out
carry_coded len P t id s (fresh next) =
    let Q = Carried t.length in
    coded_need Q _ _ _ _ (gives_get _ _ _ _ (λ base. coded_need Q _ _ _ _ (coded_need Q _ _ _ _ (copies_coded _ _ _ _ _ _ (begin t) refl))))
carry_coded len P t id s (again next) =
    let Q = Carried t.length in
    coded_need Q _ _ _ _
    (coded_need Q _ _ _ _ (gives_bind _ _ _ _ (terminate_long t.length id _ 1 (begin t) refl) (λ w h. copies_coded _ _ _ _ _ _ w h)))
carry_coded len P t id s never = coded_refuse (Carried t.length) 19 (lit< tt)

-- every call answers 0 or 1, with a table of the same length, or refuses with a code above 1
pub call_coded : (c : Call) (len : ℕ) (t : Table) → Gives (Coded (Carried t.length)) (meaning c len t)
unfolding meaning commands.set_limit commands.set_dcbaap commands.enable_slot commands.disable_slot commands.address_device commands.configure_endpoint commands.evaluate_context commands.reset_device commands.reset_all commands.formed commands.lent with_registers
call_coded (set_limit n) len t =
    let Q = Carried t.length in
    coded_choose Q _ _ _ (coded_choose Q _ _ _ (coded_ok Q _ (lit≤ tt, refl)) (coded_refuse Q 197 (lit< tt))) (coded_refuse Q 198 (lit< tt))
call_coded (set_dcbaap a) len t =
    let Q = Carried t.length in
    coded_choose Q _ _ _ (coded_ok Q _ (lit≤ tt, refl)) (coded_refuse Q 198 (lit< tt))
call_coded enable_slot len t = coded_choose _ _ _ _ (enable_coded t _) (coded_refuse (Carried t.length) 198 (lit< tt))
call_coded (disable_slot id) len t =
    slot_coded _ 11 t len id _ (lit< tt) (λ s. gives_bind _ _ _ _ (freeing_long t.length id t refl) (λ w h. coded_ok (Carried t.length) _ (lit≤ tt, h)))
call_coded (address_device id P bsr) len t =
    slot_coded _ 11 t len id _ (lit< tt) (λ s. coded_then _ _ _ (check_coded usb_types len P) (λ adds. carry_coded len P t id s _))
call_coded (configure_endpoint id P true) len t = slot_coded _ 11 t len id _ (lit< tt) (λ s. settled_coded _ s.state _ (deconfigure_coded id s _ t))
call_coded (configure_endpoint id P false) len t =
    slot_coded _ 11 t len id _ (lit< tt) (λ s. settled_coded _ s.state _ (reconfigure_coded usb_types id P s len t))
call_coded (evaluate_context id P) len t =
    slot_coded _ 11 t len id _ (lit< tt) (λ s. coded_then _ _ _ (check_coded usb_types len P) (λ adds. coded_ok (Carried t.length) _ (lit≤ tt, refl)))
call_coded (reset_device id) len t = slot_coded _ 11 t len id _ (lit< tt) (λ s. settled_coded _ s.state _ (deconfigure_coded id s _ t))
call_coded reset_all len t =
    let Q = Carried t.length in
    let E : Table → Type 0 = λ u. u.length ≡ t.length in
    let freed = gives_each Any E (count 16 1) _ t (all_of (count 16 1) (λ i _. tt)) refl
    (λ id _ u h. gives_bind _ E _ _ (freeing_long t.length id u h) (λ w k. gives_done E _ k)) in
    coded_choose Q _ _ _
    (coded_choose Q _ _ _ (gives_bind E _ _ _ freed (λ u h. coded_ok Q _ (lit≤ tt, h))) (coded_refuse Q 194 (lit< tt)))
    (coded_refuse Q 198 (lit< tt))
call_coded (stop_endpoint id i) len t = endpoint_call_coded 11 12 id i _ len t (lit< tt) (lit< tt)
call_coded (reset_endpoint id i) len t = endpoint_call_coded 11 12 id i _ len t (lit< tt) (lit< tt)
call_coded (set_dequeue id i d) len t = endpoint_call_coded 11 12 id i _ len t (lit< tt) (lit< tt)
call_coded (doorbell id i l) len t = endpoint_call_coded 11 12 id i _ len t (lit< tt) (lit< tt)
call_coded (host_ok id i l) len t = endpoint_call_coded 196 196 id i _ len t (lit< tt) (lit< tt)
call_coded (host_stall id i g) len t = endpoint_call_coded 196 196 id i _ len t (lit< tt) (lit< tt)
call_coded (host_transaction_error id i g) len t = endpoint_call_coded 196 196 id i _ len t (lit< tt) (lit< tt)
call_coded (host_trb_error id i) len t = endpoint_call_coded 196 196 id i _ len t (lit< tt) (lit< tt)

-- ---- demand 1

-- how a call's run follows from its meaning's
pub prog_run : (c : Call) (t : Table) (m : Mem)
    → run (prog c (length m) t) m 0
    ≡ ran (told t (run (meaning c (length m) t) m 0).value) (run (meaning c (length m) t) m 0).memory (run (meaning c (length m) t) m 0).stored
unfolding prog
prog_run c t m = run_bind _ _ m 0 ∙ run_done _ _ _

-- what a refusal leaves: the table and memory as they stood, nothing stored, and everything but the code 0
pub record Unchanged (t : Table) (m : Mem) (r : Ran Told) : Type 0 where
  pub answer : r.value.0 ≡ answer r.value.0.code
  pub table : r.value.1 ≡ t
  pub memory : r.memory ≡ m
  pub stored : r.stored ≡ 0

-- a code other than 0 and 1 changes nothing
pub refused : (c : Call) (t : Table) (m : Mem) → 1 < (run (prog c (length m) t) m 0).value.0.code → Unchanged t m (run (prog c (length m) t) m 0)
unfolding Coded
refused c t m h =
    let p = meaning c (length m) t in
    rw (prog_run c t m)
    (by (run p m 0).value (gives_value (Coded (Carried t.length)) p m 0 (call_coded c (length m) t)) (rw (prog_run c t m) at h)
    (λ n e. clean_refusal p m 0 n (call_clean c (length m) t) e) refl)
  where
    by : {k : Mem} {s : ℕ} (r : Result Told) → Coded (Carried t.length) r → 1 < (told t r).0.code
        → ((n : ℕ) → (run (meaning c (length m) t) m 0).value ≡ refuse n → (k ≡ m) × (s ≡ 0)) → (run (meaning c (length m) t) m 0).value ≡ r
        → Unchanged t m (ran (told t r) k s)
    by (ok x) low high same e = absurd (omega arith)
    by (refuse n) low high same e = record { answer = refl; table = refl; memory = (same n e).0; stored = (same n e).1 }

-- ---- the table's length is fixed when it is made

pub keeps_length : (c : Call) (t : Table) (m : Mem) → (run (prog c (length m) t) m 0).value.1.length ≡ t.length
unfolding Coded
keeps_length c t m = rw (prog_run c t m) (by (run (meaning c (length m) t) m 0).value (gives_value (Coded (Carried t.length)) _ m 0 (call_coded c (length m) t)))
  where
    by : (r : Result Told) → Coded (Carried t.length) r → (told t r).1.length ≡ t.length
    by (ok x) h = h.1
    by (refuse n) h = refl
