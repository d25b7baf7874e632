-- Demand 3: each call reads just what the reading rules name, so one sequence over two memories that agree there goes alike; of the definition, and of
-- whatever meets it. Any two outcomes that meet a call's promise are equal.
-- Assumes nothing.
use mathlib.Core.Path.{◌≡◌, refl, sym, ◌∙◌}
use mathlib.Core.Logic.{⊎_elim}
use mathlib.Core.Bool.{Bool, true, false, true≢false}
use mathlib.Core.List.{List, [], ◌∷◌}
use Prim.Native.Nat.{ℕ}
use lib.ListN.{length, get_or}
use Rattle.guest.specs.Prog.{Mem, Prog, Reads, Writes, Result, ok, refuse, passed, and_then}
use Rattle.guest.specs.Forms.{Blind}
use Rattle.guest.specs.Trace.{Event, Left, course, left, Named, NamedFirst, SameCourse}
use Rattle.guest.proofs.ReadLaws.{reads_done, reads_bind, reads_then, bind_reads, Seen, seen_first}
use Rattle.guest.proofs.FormLaws.{blind_reads, blind_done, blind_choose, blind_bind, blind_then, blind_each, quiet_stores}
use Rattle.guest.proofs.TraceLaws.{same_acts, same_course, same_course_first}
use Rattle.definition.specs.Types.{Option, Some, None, Endpoint, Input, Row, Slot, Table, Answer, Outcome}
use Rattle.definition.specs.Table.{fresh_table}
use Rattle.definition.specs.Steps.{entry, report_of, put_byte, step_by, step}
use Rattle.definition.specs.Commands as commands
use Rattle.definition.specs.Commands.{Told, usb_types, endpoint_call, enable_one}
use Rattle.definition.specs.Calls.{Call, set_limit, set_dcbaap, enable_slot, disable_slot, address_device, configure_endpoint, evaluate_context, reset_device, reset_all, stop_endpoint, reset_endpoint, set_dequeue, doorbell, host_ok, host_stall, host_transaction_error, host_trb_error, meaning, prog, counted, Meets}
use Rattle.definition.specs.Rules.{Settled, ConfigureNamed, check, drops, context, port, named}
use Rattle.definition.proofs.CheckLaws.{check_quiet, check_reads, check_seen}
use Rattle.definition.proofs.PieceLaws.{deconfigure_blind, freeing_blind}
use Rattle.definition.proofs.AddressLaws.{address_reads, address_seen}
use Rattle.definition.proofs.ConfigureLaws.{settled_reads, settled_is, reconfigure_reads, reconfigure_seen}
use Rattle.definition.proofs.HeadLaws.{slot_reads, slot_opens, slot_blind, endpoint_blind}

-- ---- "All other calls: nothing"

step_blind : (e : Endpoint) (i : Input) (at : ℕ) → Blind (step e i at)
unfolding step step_by passed Blind
step_blind e i at = by_entry (entry e.state i)
  where
    by_byte : {A : Type 0} (b : Option ℕ) (p : Prog A) → Blind p → Blind (put_byte b at p)
    by_byte None p h = h
    by_byte (Some b) p h = h

    by_entry : (x : Result Row) → Blind (passed (λ r. step_by r e (report_of i) at) x)
    by_entry (ok r) = blind_choose _ _ _ tt (by_byte r.byte _ (blind_choose _ _ _ tt tt))
    by_entry (refuse c) = tt

endpoint_call_blind : (a b id i : ℕ) (input : Input) (len : ℕ) (t : Table) → Blind (endpoint_call a b id i input len t)
unfolding endpoint_call
endpoint_call_blind a b id i input len t =
    slot_blind a t len id _ (λ s. endpoint_blind b t id i _ (λ e. blind_then _ _ (step_blind e input _) (λ r. blind_done _)))

enable_blind : (t : Table) (ids : List ℕ) → Blind (enable_one t ids)
unfolding enable_one
enable_blind t [] = blind_done _
enable_blind t (id ∷ ids) = blind_done _

-- ---- each call

module _ (t : Table) (m : Mem) (a : ℕ) where
  nothing : (p : Prog (Result Told)) → Blind p → Reads p m a → ⊥
  nothing p b r = blind_reads p m a b r

  -- a call reads no more than its rule names
  meaning_covered : (c : Call) → Reads (meaning c (length m) t) m a → named c t m a
  unfolding meaning named commands.set_limit commands.set_dcbaap commands.enable_slot commands.disable_slot commands.address_device commands.configure_endpoint commands.evaluate_context commands.reset_device commands.reset_all commands.formed commands.lent
  meaning_covered (set_limit n) r = nothing _ (blind_choose _ _ _ (blind_choose _ _ _ (blind_done _) (blind_done _)) (blind_done _)) r
  meaning_covered (set_dcbaap b) r = nothing _ (blind_choose _ _ _ (blind_done _) (blind_done _)) r
  meaning_covered enable_slot r =
      nothing _ (blind_choose _ _ _ (enable_blind t _) (blind_done _)) r
  meaning_covered (disable_slot id) r = nothing _ (slot_blind _ t (length m) id _ (λ s. blind_bind _ _ (freeing_blind id t) (λ w. blind_done _))) r
  meaning_covered (address_device id P bsr) r =
      let q = slot_reads _ t id _ m a r in
      (q.0, q.1, address_reads usb_types P bsr t id q.0 m a q.2)
  meaning_covered (configure_endpoint id P true) r =
      let q = slot_reads _ t id _ m a r in
      absurd (blind_reads _ m a (deconfigure_blind id q.0 _ t) (settled_reads _ _ m a q.2).1)
  meaning_covered (configure_endpoint id P false) r =
      let q = slot_reads _ t id _ m a r in
      let d = settled_reads _ _ m a q.2 in
      (q.0, q.1, reconfigure_reads usb_types P t id q.0 m a d.0 d.1)
  meaning_covered (evaluate_context id P) r =
      let q = slot_reads _ t id _ m a r in
      (q.0, q.1, ⊎_elim (check_reads usb_types P m a) (λ d. absurd (reads_done _ m a d.2)) (reads_then _ _ m a (quiet_stores _ m (check_quiet usb_types (length m) P)) q.2))
  meaning_covered (reset_device id) r =
      let q = slot_reads _ t id _ m a r in
      blind_reads _ m a (deconfigure_blind id q.0 _ t) (settled_reads _ _ m a q.2).1
  meaning_covered reset_all r =
      nothing _
      (blind_choose _ _ _
      (blind_choose _ _ _ (blind_bind _ _ (blind_each _ _ t (λ id u. blind_bind _ _ (freeing_blind id u) (λ w. blind_done _))) (λ u. blind_done _)) (blind_done _))
      (blind_done _)) r
  meaning_covered (stop_endpoint id i) r = nothing _ (endpoint_call_blind _ _ id i _ (length m) t) r
  meaning_covered (reset_endpoint id i) r = nothing _ (endpoint_call_blind _ _ id i _ (length m) t) r
  meaning_covered (set_dequeue id i d) r = nothing _ (endpoint_call_blind _ _ id i _ (length m) t) r
  meaning_covered (doorbell id i l) r = nothing _ (endpoint_call_blind _ _ id i _ (length m) t) r
  meaning_covered (host_ok id i l) r = nothing _ (endpoint_call_blind _ _ id i _ (length m) t) r
  meaning_covered (host_stall id i g) r = nothing _ (endpoint_call_blind _ _ id i _ (length m) t) r
  meaning_covered (host_transaction_error id i g) r = nothing _ (endpoint_call_blind _ _ id i _ (length m) t) r
  meaning_covered (host_trb_error id i) r = nothing _ (endpoint_call_blind _ _ id i _ (length m) t) r

  -- with DC=1 no byte is named
  only_dc0 : {P : ℕ} {s : Slot} {dc : Bool} → ConfigureNamed usb_types P s m a dc → dc ≡ false
  only_dc0 (check r h) = refl
  only_dc0 (drops r p h) = refl
  only_dc0 (context r p e i j h) = refl
  only_dc0 (port r p e i j h) = refl

  right_state : {P : ℕ} {s : Slot} {dc : Bool} → ConfigureNamed usb_types P s m a dc → Settled s.state
  right_state (check r h) = r
  right_state (drops r p h) = r
  right_state (context r p e i j h) = r
  right_state (port r p e i j h) = r

  -- each byte that the rules name, and that the call does not itself store to, is read
  meaning_seen : (c : Call) → named c t m a → Seen (meaning c (length m) t) m a
  unfolding meaning named commands.address_device commands.configure_endpoint commands.evaluate_context and_then
  meaning_seen (set_limit k) n = absurd n
  meaning_seen (set_dcbaap b) n = absurd n
  meaning_seen enable_slot n = absurd n
  meaning_seen (disable_slot id) n = absurd n
  meaning_seen (address_device id P bsr) n = rw (slot_opens _ t id _ m n.0 n.1) (address_seen usb_types P bsr t id n.0 m a n.2)
  meaning_seen (configure_endpoint id P true) n = absurd (true≢false (only_dc0 n.2))
  meaning_seen (configure_endpoint id P false) n =
      rw (slot_opens _ t id _ m n.0 n.1, settled_is _ (right_state n.2)) (reconfigure_seen usb_types P t id n.0 m a n.2)
  meaning_seen (evaluate_context id P) n =
      rw (slot_opens _ t id _ m n.0 n.1) (λ o. bind_reads _ _ m a (check_seen usb_types P m a n.2))
  meaning_seen (reset_device id) n = absurd n
  meaning_seen reset_all n = absurd n
  meaning_seen (stop_endpoint id i) n = absurd n
  meaning_seen (reset_endpoint id i) n = absurd n
  meaning_seen (set_dequeue id i d) n = absurd n
  meaning_seen (doorbell id i l) n = absurd n
  meaning_seen (host_ok id i l) n = absurd n
  meaning_seen (host_stall id i g) n = absurd n
  meaning_seen (host_transaction_error id i g) n = absurd n
  meaning_seen (host_trb_error id i) n = absurd n

  pub covered : (c : Call) → Reads (prog c (length m) t) m a → named c t m a
  unfolding prog
  covered c r = ⊎_elim (meaning_covered c) (λ q. absurd (reads_done _ _ a q.1)) (reads_bind _ _ m 0 a r)

  -- the rules are exact
  pub exact : (c : Call) → named c t m a → (Writes (prog c (length m) t) m a → ⊥) → Reads (prog c (length m) t) m a
  unfolding prog
  exact c n = seen_first _ _ m a (meaning_seen c n)

-- ---- demand 3

-- from any table, the same in both runs: agreement at the bytes that the reading rules name for the calls of the first run
pub demand3 : (es : List (Event Call)) (t : Table) (m₁ m₂ : Mem) → length m₁ ≡ length m₂
    → ((a : ℕ) → Named prog counted named es t m₁ a → get_or m₁ a 0 ≡ get_or m₂ a 0) → SameCourse prog counted es t m₁ m₂
demand3 = same_course prog counted named (λ c t m a. covered t m a c)

-- a byte that the sequence stored before it is named need not agree
pub demand3_first : (es : List (Event Call)) (t : Table) (m₁ m₂ : Mem) → length m₁ ≡ length m₂
    → ((a : ℕ) → NamedFirst prog counted named es t m₁ a → get_or m₁ a 0 ≡ get_or m₂ a 0) → SameCourse prog counted es t m₁ m₂
demand3_first = same_course_first prog counted named (λ c t m a. covered t m a c)

-- from a fresh table
pub demand3_fresh : (es : List (Event Call)) (len : ℕ) (m₁ m₂ : Mem) → length m₁ ≡ len → length m₂ ≡ len
    → ((a : ℕ) → Named prog counted named es (fresh_table len) m₁ a → get_or m₁ a 0 ≡ get_or m₂ a 0) → SameCourse prog counted es (fresh_table len) m₁ m₂
demand3_fresh es len m₁ m₂ e₁ e₂ h = demand3 es (fresh_table len) m₁ m₂ (e₁ ∙ sym e₂) h

-- ---- of the code

-- what a call's function leaves: the outcome that it returns, and the memory that it was lent
pub record Done : Type 0 where
  pub outcome : Outcome
  pub memory : Mem

abbrev pub leaves : Done → Left Answer Table
leaves d = record { answer = d.outcome.answer; table = d.outcome.table; memory = d.memory }

-- any two outcomes that meet a call's promise are equal
pub one_outcome : (p : Prog Told) (m : Mem) (r₁ r₂ : Outcome) (m₁ m₂ : Mem) → Meets p m r₁ m₁ → Meets p m r₂ m₂ → (r₁ ≡ r₂) × (m₁ ≡ m₂)
one_outcome p m r₁ r₂ m₁ m₂ f g =
    let a = f.answer ∙ sym g.answer in
    let t = f.table ∙ sym g.table in
    (λ i. record { table = t i; answer = a i }, f.memory ∙ sym g.memory)

-- code whose every call meets the definition leaves, after every sequence, what the definition leaves
pub implements : (code : Call → Table → Mem → Done) → ((c : Call) (t : Table) (m : Mem) → Meets (prog c (length m) t) m (code c t m).outcome (code c t m).memory)
    → (es : List (Event Call)) (t : Table) (m : Mem) → course (λ c t m. leaves (code c t m)) es t m ≡ course (left prog counted) es t m
unfolding left
implements code meets es t m =
    same_acts _ _
    (λ c u k.
    let q = meets c u k in
    λ i. record { answer = q.answer i; table = q.table i; memory = q.memory i })
    es t m
