-- Configure Endpoint: its ways out, and the walk that carries it out.
-- Assumes nothing.
use mathlib.Core.Path.{◌≡◌, refl, sym, ap, ◌∙◌}
use mathlib.Core.Bool.{Bool, true, false}
use mathlib.Core.List.{List}
use Prim.Native.Nat.{ℕ, zero, suc, ◌+◌, ◌/◌, ◌^◌, ◌≤◌}
use native.Mathlib.Nat.{pow-suc, div-div-eq-div-mul}
use native.Mathlib.Omega.{arith}
use lib.ListN.{length}
use Rattle.guest.specs.Bytes.{number, located, bit, count, those, set_bits}
use Rattle.guest.specs.Prog.{Mem, Prog, done, block, run, bind, each, Result, refuse, every}
use Rattle.std.specs.Prelude as std
use Rattle.std.specs.Prelude.{Option, Some, None, Ok, Err}
use Rattle.definition.specs.declared.Refusal.{Refusal}
use Rattle.definition.specs.declared.Refusal.TheVariants.{State}
use Rattle.definition.specs.Refusals.{code_of}
use Rattle.guest.proofs.RunLaws.{run_done, run_get, run_bind, inside_yes, inside_no, need_yes, need_no, located_at, located_outside, after, ends_from}
use Rattle.guest.proofs.ReadLaws.{run_length}
use Rattle.definition.specs.Walks.{begin, terminate_all}
use Rattle.definition.specs.Commands as commands
use Rattle.definition.specs.Commands.{Told, usb_types, finish, deconfigure, need_contexts, add_all, drop_and_add, reconfigure}
use Rattle.definition.specs.Calls.{configure_endpoint, meaning, prog}
use Rattle.definition.specs.Rules.{Opened}
use Rattle.definition.proofs.HeadLaws.{slot_opens}
use Rattle.contexts.specs.Checks.{Checks}
use Rattle.contexts.specs.Ranges.{ranges_inside}
use Rattle.contexts.proofs.CheckLaws.{check_goes_on, check_refuses}
use Rattle.contexts.proofs.RangeLaws.{ranges_pass, ranges_refuse, added_fits}
use Rattle.walks.specs.declared.Ended.{Ended}
use Rattle.walks.specs.declared.Added.{Added}
use Rattle.walks.specs.Promises.{walk, TerminatesAll, AddsAll, Spaces}
use Rattle.scan.specs.Heads.{refusal}
use Rattle.scan.proofs.OpeningLaws.{refuses_with, refuses_at_once, meets_as}
use Rattle.commands.proofs.OutcomeLaws.{settled_yes, settled_no, carried, settles_as}
use Rattle.commands.specs.Types.{SlotState, Addressed, Configured, Slot, Table, Outcome}
use Rattle.commands.specs.declared.configure.Flags.{Flags}
use Rattle.commands.specs.Promises.{Carries, Answers, Settles, is_settled, configuring, walking, Walkable, Plans}

-- ---- the walk

module _ {id base : ℕ} {drops : List ℕ} {t : Table} {m m₁ : Mem} {w : Ended} (d : TerminatesAll id base drops 30 t m w m₁) where
  -- the drops keep memory's length, so the adds still have space
  pub spaces_kept : (P adds : ℕ) → Spaces P base adds (length m) → Spaces P base adds (length m₁)
  spaces_kept P adds h i a b f =
      let e : length m₁ ≡ length m = ap (λ x. length x.memory) (sym d.ends.ends) ∙ run_length _ m 0 in
      rw e (h i a b f)

  -- the drops, the adds, and the slot's next state
  pub walk_carried : {P : ℕ} {adds : List ℕ} {m₂ m₃ : Mem} {v : Added} (s : Slot) (next : SlotState) {r : Outcome} → AddsAll id P base adds w.table m₁ v m₂
      → Carries (finish id s next (walk v.table v.launched w.terminated v.port)) m₂ (w.stored + v.stored) r m₃
      → Carries (bind (drop_and_add id P base drops adds (begin t)) (finish id s next)) m 0 r m₃
  unfolding drop_and_add
  walk_carried {P} {adds} s next a f =
      let both = after (add_all id P base adds) d.ends ∙ (ends_from (a.ends w.terminated) w.stored).ends in
      record { ends = record { ends = after (finish id s next) (record { ends = both }) ∙ f.ends.ends } }

-- ---- DC=0: k is what the context check finds

module _ (id P : ℕ) (s : Slot) (t : Table) (m : Mem) where
  -- the command
  abbrev Whole : Prog (Result Told)
  Whole = reconfigure usb_types id P s (length m) t

  -- what is left of it where nothing is refused
  abbrev Walked : ℕ → ℕ → Prog (Result Told)
  Walked drops adds = bind (drop_and_add id P s.base (set_bits 30 2 drops) (set_bits 30 2 adds) (begin t)) (finish id s Configured)

  module _ {k : std.Result ℕ Refusal} (w : Checks P m k) where
    pub check_refused : {c : Refusal} → k ≡ Err c → Settles Whole t m (refusal t (code_of c)) m
    unfolding reconfigure
    check_refused e = refuses_with t (check_refuses P m _ w e)

    module _ {adds : ℕ} {place : Option ℕ} (e : k ≡ Ok adds) (found : place ≡ located (length m) P 4) where
      pub drops_outside : place ≡ None → Settles Whole t m (refusal t 193) m
      unfolding reconfigure
      drops_outside o =
          let h = inside_no _ _ _ (located_outside (length m) P 4 (sym found ∙ o)) in
          refuses_with t (record { ends = check_goes_on P m _ w e ∙ rw (need_no _ _ _ _ h) (run_done (refuse 193) m 0) })

      module _ {at drops : ℕ} (here : place ≡ Some at) (read : drops ≡ number (block m at 4)) {inside : Bool} (i : inside ≡ ranges_inside (length m) P s.base adds) where
        -- past the check and the drop flags
        past : run Whole m 0 ≡ run (every (set_bits 30 2 adds) (need_contexts (length m) P s.base) (Walked drops adds)) m 0
        unfolding reconfigure
        past =
            let p = located_at (length m) P 4 (sym found ∙ here) in
            let d : number (block m P 4) ≡ drops = sym (read ∙ rw p.0) in
            check_goes_on P m _ w e ∙ rw (need_yes _ _ _ _ (inside_yes _ _ _ p.1), run_get, d)

        pub ranges_outside : inside ≡ false → Settles Whole t m (refusal t 193) m
        ranges_outside f = refuses_with t (record { ends = past ∙ (ranges_refuse (length m) P s.base adds (sym i ∙ f) (Walked drops adds) m 0).ends })

        pub reconfigures : inside ≡ true → run Whole m 0 ≡ run (Walked drops adds) m 0
        reconfigures f = past ∙ ranges_pass (length m) P s.base adds (sym i ∙ f) (Walked drops adds) m 0

-- each added endpoint has space for its copy
pub ranges_space : (len P adds : ℕ) {base : ℕ} {inside : Bool} → inside ≡ ranges_inside len P base adds → inside ≡ true → base + 64 ≤ len → Spaces P base adds len
ranges_space len P adds {base} i f b k lo hi d =
    let g = added_fits len P base adds (sym i ∙ f) k lo (omega arith) d in
    record { input = g.input; output = g.device; head = b }

-- ---- the plan

none : (i : ℕ) → 0 / 2 ^ i ≡ 0
none zero = refl
none (suc i) = sym (rw (pow-suc 2 i) (div-div-eq-div-mul 0 (2 ^ i) 2)) ∙ ap (λ (x : ℕ). x / 2) (none i)

-- no bit of 0 is set
no_bit : (i : ℕ) → bit 0 i ≡ true → ⊥
no_bit i e = let f : ◌≡◌ {A = Bool} false true = rw (none i) at e in let z : ◌≡◌ {A = ℕ} 0 1 = cc in absurd (omega arith)

-- the walk with every drop and no add is the termination of endpoints 2 to 31
drops_alone : (id P : ℕ) (s : Slot) (t : Table) (m : Mem) → run (deconfigure id s Addressed t) m 0 ≡ run (walking id P s (record { drops = 4294967295; adds = 0; next = Addressed }) t) m 0
unfolding deconfigure drop_and_add add_all those count each terminate_all run
drops_alone id P s t m =
    let all = terminate_all id s.base (count 30 2) (begin t) in
    run_bind all (finish id s Addressed) m 0
    ∙ sym (run_bind (bind all done) (finish id s Addressed) m 0 ∙ ap (λ x. run (finish id s Addressed x.value) x.memory x.stored) (run_bind all done m 0))

module _ (P : ℕ) (s : Slot) (m : Mem) where
  -- the state is wrong
  pub plan_unsettled : (dc : Bool) → is_settled s.state ≡ false → Plans P s dc m (Err State)
  plan_unsettled true e id t = refuses_at_once t m (settled_no s.state _ e)
  plan_unsettled false e id t = refuses_at_once t m (settled_no s.state _ e)

  module _ (e : is_settled s.state ≡ true) where
    -- DC=0, refused
    pub plan_refuses : (c : Refusal) → ((id : ℕ) (t : Table) → Settles (reconfigure usb_types id P s (length m) t) t m (refusal t (code_of c)) m) → Plans P s false m (Err c)
    plan_refuses c h id t = meets_as t (settled_yes s.state _ e) (h id t)

    -- DC=0
    pub plan_goes : {f : Flags} → ((id : ℕ) (t : Table) → run (reconfigure usb_types id P s (length m) t) m 0 ≡ run (walking id P s f t) m 0)
        → Spaces P s.base f.adds (length m) → s.base + 64 ≤ length m → Plans P s false m (Ok f)
    plan_goes h r b = record { runs = λ id t. ap (λ p. run p m 0) (settled_yes s.state _ e) ∙ h id t; spaces = r; room = b }

    -- DC=1: every flag is set among the drops, and none among the adds
    pub plan_drops : s.base + 64 ≤ length m → Plans P s true m (Ok (record { drops = 4294967295; adds = 0; next = Addressed }))
    plan_drops b =
        record {
          runs = λ id t. ap (λ p. run p m 0) (settled_yes s.state _ e) ∙ drops_alone id P s t m;
          spaces = λ i lo hi f. absurd (no_bit i f);
          room = b;
        }

-- ---- the call on a slot that was found

opens : (P : ℕ) (dc : Bool) {id : ℕ} {s : Slot} {t : Table} {m : Mem} → Opened t m id s → meaning (configure_endpoint id P dc) (length m) t ≡ configuring id P s dc (length m) t
unfolding meaning commands.configure_endpoint
opens P true {id} {s} {t} {m} o = slot_opens 11 t id _ m s o
opens P false {id} {s} {t} {m} o = slot_opens 11 t id _ m s o

module _ {id : ℕ} {s : Slot} {t : Table} {m : Mem} (o : Opened t m id s) (P : ℕ) (dc : Bool) (k : std.Result Flags Refusal) (p : Plans P s dc m k) where
  -- the flags of the plan
  pub planned : {f : Flags} → k ≡ Ok f → Walkable P s dc m f
  planned e = rw e at p

  pub configure_refused : {c : Refusal} → k ≡ Err c → Answers (configure_endpoint id P dc) t m (refusal t (code_of c)) m
  unfolding prog
  configure_refused e = meets_as t (opens P dc o) ((rw e at p) id t)

  pub configured : {f : Flags} {r : Outcome} {m' : Mem} → k ≡ Ok f → Carries (walking id P s f t) m 0 r m' → Answers (configure_endpoint id P dc) t m r m'
  unfolding prog
  configured {f} e h = meets_as t (opens P dc o) (settles_as t _ (walking id P s f t) ((planned e).runs id t) (carried t h))

-- a slot that is neither Addressed nor Configured
pub configure_unsettled : {id : ℕ} {s : Slot} {t : Table} {m : Mem} → Opened t m id s → (P : ℕ) (dc : Bool) → is_settled s.state ≡ false → Answers (configure_endpoint id P dc) t m (refusal t 19) m
configure_unsettled {id} {s} {t} {m} o P dc e = configure_refused o P dc (Err State) (plan_unsettled P s m dc e) refl
