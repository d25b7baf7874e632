-- Address Device reads just what its rule names, and refuses before it stores.
-- Assumes nothing.
use mathlib.Core.Path.{◌≡◌, refl, ◌∙◌}
use mathlib.Core.Logic.{⊎_elim}
use mathlib.Core.Bool.{Bool, true, false}
use mathlib.Core.List.{[], ◌∷◌}
use Prim.Native.Nat.{ℕ, ◌+◌, ◌≤◌, ◌<◌}
use native.Mathlib.Omega.{arith}
use native.Mathlib.Decide.{dec_lt}
use lib.ListN.{length}
use Rattle.guest.specs.Bytes.{slot_state_byte}
use Rattle.guest.specs.Prog.{Mem, Prog, block, splice, Within, Reads, Result, and_then}
use Rattle.guest.specs.Forms.{Firm, Clean}
use Rattle.guest.proofs.SpliceLaws.{splice_length, block_length}
use Rattle.guest.proofs.ReadLaws.{run_length, reads_done, reads_get, reads_put, reads_need, reads_bind, reads_then, get_reads, bind_reads, Seen, seen_here, seen_later, seen_put, seen_need, seen_bind, seen_then}
use Rattle.guest.proofs.FormLaws.{blind_reads, quiet_stores, firm_bind, firm_clean, clean_need}
use Rattle.definition.specs.Types.{SlotState, Free, Enabled, Default, Addressed, Configured, Slot, Table}
use Rattle.definition.specs.Walks.{Walk, begin, terminate, copy_launch}
use Rattle.definition.specs.Commands.{Told, context_state, context_check, Plan, fresh, again, never, plan, copy_contexts, carry_out}
use Rattle.definition.specs.Rules.{CheckPasses, from_entry, kept, AddressNamed, check, entry, contexts}
use Rattle.definition.proofs.CheckLaws.{check_quiet, check_reads, check_seen, check_passes, passes_check}
use Rattle.definition.proofs.PieceLaws.{copy_reads, terminate_blind}

-- past the range tests only the two contexts are read: what the launch reads was stored just before
copies_reads : (id c base : ℕ) (next : SlotState) (e : ℕ) (w : Walk) (m : Mem) (a : ℕ) → c + 64 ≤ length m → Reads (copy_contexts id c base next e w) m a
    → Within c 64 a
unfolding copy_contexts
copies_reads id c base next e w m a h r =
    let context = block m c 32 in
    let l : length context ≡ 32 = block_length m c 32 (omega arith) in
    ⊎_elim (λ v. omega arith)
    (λ q.
    let one = reads_put _ _ _ m a q in
    let two = reads_put _ _ _ _ a one.1 in
    let k = splice (splice m base context) (base + 15) (slot_state_byte (context_state next) ∷ []) in
    let long : length k ≡ length m = splice_length (splice m base context) (base + 15) (slot_state_byte (context_state next) ∷ []) ∙ splice_length m base context in
    ⊎_elim
    (λ u. ⊎_elim (λ v. omega arith) (λ v. absurd (one.0 (omega (arith, v.1)))) (copy_reads id base (c + 32) 1 w k a (omega arith) u))
    (λ u. absurd (reads_done _ _ a u.1))
    (reads_bind _ _ _ 0 a two.1))
    (reads_get _ _ _ m a r)

plan_fresh : (s : SlotState) (bsr : Bool) (next : SlotState) → plan s bsr ≡ fresh next → s ≡ Enabled
unfolding plan
plan_fresh Free bsr next e = cc
plan_fresh Enabled bsr next e = refl
plan_fresh Default true next e = cc
plan_fresh Default false next e = cc
plan_fresh Addressed bsr next e = cc
plan_fresh Configured bsr next e = cc

plan_again : (s : SlotState) (bsr : Bool) (next : SlotState) → plan s bsr ≡ again next → (s ≡ Default) × (bsr ≡ false)
unfolding plan
plan_again Free bsr next e = (cc, cc)
plan_again Enabled true next e = (cc, cc)
plan_again Enabled false next e = (cc, refl)
plan_again Default true next e = (refl, cc)
plan_again Default false next e = (refl, refl)
plan_again Addressed bsr next e = (cc, cc)
plan_again Configured bsr next e = (cc, cc)

module _ (accepts : ℕ → Bool) (P : ℕ) (bsr : Bool) (t : Table) (id : ℕ) (s : Slot) (m : Mem) (a : ℕ) where
  abbrev After : Plan → Prog (Result Told)
  After = carry_out (length m) P t id s

  abbrev Whole : Prog (Result Told)
  Whole = and_then (context_check accepts (length m) P) λ adds. After (plan s.state bsr)

  carry_reads : CheckPasses accepts P m → (p : Plan) → plan s.state bsr ≡ p → Reads (After p) m a → AddressNamed accepts P bsr s m a
  unfolding carry_out
  carry_reads passes (fresh next) e r =
      let lies = reads_need _ _ _ _ m a r in
      let is = plan_fresh _ _ _ e in
      ⊎_elim (λ w. entry passes is (lies.0, w))
      (λ q.
      let one = reads_need _ _ _ _ m a q in
      let two = reads_need _ _ _ _ m a one.1 in
      contexts passes _ (from_entry is lies.0) two.0 (one.0, copies_reads _ _ _ _ _ _ m a one.0 two.1))
      (reads_get _ _ _ m a lies.1)
  carry_reads passes (again next) e r =
      let is = plan_again _ _ _ e in
      let one = reads_need _ _ _ _ m a r in
      let two = reads_need _ _ _ _ m a one.1 in
      ⊎_elim (λ q. absurd (blind_reads _ m a (terminate_blind _ _ _ _) q))
      (λ q. contexts passes _ (kept is.0 is.1) two.0
      (one.0, copies_reads _ _ _ _ _ _ _ a (omega (arith, run_length (terminate id s.base 1 (begin t)) m 0, one.0)) q.1))
      (reads_bind _ _ m 0 a two.1)
  carry_reads passes never e r = absurd (reads_done _ m a r)

  -- it reads no more than its rule names
  pub address_reads : Reads Whole m a → AddressNamed accepts P bsr s m a
  address_reads r =
      ⊎_elim (λ q. check (check_reads accepts P m a q))
      (λ q. carry_reads (check_passes accepts P m q.1).0 _ refl q.2)
      (reads_then _ _ m a (quiet_stores _ m (check_quiet accepts (length m) P)) r)

  -- ---- and no less

  copies_seen : (c base : ℕ) (next : SlotState) (e : ℕ) (w : Walk) (k : Mem) → Within c 64 a → Dec (a < c + 32) → Seen (copy_contexts id c base next e w) k a
  unfolding copy_contexts copy_launch
  copies_seen c base next e w k h (yes l) = seen_here _ _ _ k a (omega arith)
  copies_seen c base next e w k h (no l) =
      seen_later _ _ _ k a (seen_put _ _ _ k a (seen_put _ _ _ _ a (λ n. bind_reads _ _ _ a (get_reads _ _ _ _ a (omega arith)))))

  fresh_plan : s.state ≡ Enabled → (next : SlotState) × (plan s.state bsr ≡ fresh next)
  unfolding plan
  fresh_plan e = rw e (by bsr)
    where
      by : (b : Bool) → (next : SlotState) × (plan Enabled b ≡ fresh next)
      by true = (Default, refl)
      by false = (Addressed, refl)

  again_plan : s.state ≡ Default → bsr ≡ false → plan s.state bsr ≡ again Addressed
  unfolding plan
  again_plan e f = rw (e, f)

  past : CheckPasses accepts P m → Seen (After (plan s.state bsr)) m a → Seen Whole m a
  past passes h = seen_then _ _ m a _ (quiet_stores _ m (check_quiet accepts (length m) P)) (passes_check accepts P m passes) h

  -- each byte that the rule names, and that the call does not itself store to, is read
  pub address_seen : AddressNamed accepts P bsr s m a → Seen Whole m a
  unfolding carry_out and_then
  address_seen (check h) = λ n. bind_reads _ _ m a (check_seen accepts P m a h)
  address_seen (entry passes e h) =
      let f = fresh_plan e in
      past passes (rw f.1 (seen_need _ _ _ _ m a h.0 (seen_here _ _ _ m a h.1)))
  address_seen (contexts passes b (from_entry e l) inb h) =
      let f = fresh_plan e in
      past passes (rw f.1
      (seen_need _ _ _ _ m a l (seen_later _ _ _ m a (seen_need _ _ _ _ m a h.0 (seen_need _ _ _ _ m a inb (copies_seen _ _ _ _ _ m h.1 (dec_lt _ _)))))))
  address_seen (contexts passes b (kept e f) inb h) =
      past passes (rw (again_plan e f)
      (seen_need _ _ _ _ m a h.0 (seen_need _ _ _ _ m a inb (seen_bind _ _ m 0 a (copies_seen _ _ _ _ _ _ h.1 (dec_lt _ _))))))

-- ---- no refusal behind a store

copies_firm : (id c base : ℕ) (next : SlotState) (e : ℕ) (w : Walk) → Firm (copy_contexts id c base next e w)
unfolding copy_contexts Firm
copies_firm id c base next e w = λ context. firm_bind _ _ (λ v. tt)

pub carry_clean : (len P : ℕ) (t : Table) (id : ℕ) (s : Slot) (p : Plan) → Clean (carry_out len P t id s p)
unfolding carry_out Clean
carry_clean len P t id s (fresh next) =
    clean_need _ _ _ _ (λ base. clean_need _ _ _ _ (clean_need _ _ _ _ (firm_clean _ (copies_firm _ _ _ _ _ _))))
carry_clean len P t id s (again next) =
    clean_need _ _ _ _ (clean_need _ _ _ _ (firm_clean _ (firm_bind _ _ (λ w. copies_firm _ _ _ _ _ _))))
carry_clean len P t id s never = tt
