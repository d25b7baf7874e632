-- Configure Endpoint reads just what its rule names, and refuses before it stores.
-- Assumes nothing.
use mathlib.Core.Path.{◌≡◌, refl}
use mathlib.Core.Logic.{◌⊎◌, inl, inr, ⊎_elim}
use mathlib.Core.Bool.{Bool, false}
use Prim.Native.Nat.{ℕ, ◌+◌, ◌*◌, ◌≤◌, ◌<◌}
use native.Mathlib.Omega.{arith}
use lib.ListN.{length}
use Rattle.guest.specs.Bytes.{number, ◌⊕◌, bit, count, set_bits}
use Rattle.guest.specs.Prog.{Mem, Prog, block, run, Within, Reads, Result, and_then}
use Rattle.guest.specs.Forms.{Quiet, Firm, Clean}
use Rattle.guest.proofs.ListLaws.{All, all_in, all_of, In, count_all, count_in, those_all, those_in}
use Rattle.guest.proofs.RunLaws.{need_yes, value_need}
use Rattle.guest.proofs.ReadLaws.{run_length, reads_done, reads_get, reads_need, reads_bind, reads_then, get_reads, bind_reads, Seen, seen_here, seen_later, seen_put, seen_need, seen_bind, seen_first, seen_then}
use Rattle.guest.proofs.FormLaws.{blind_reads, quiet_need, quiet_stores, firm_bind, firm_clean, clean_need, clean_then, clean_every}
use Rattle.guest.proofs.EveryLaws.{Passes, reads_every, seen_every, reads_each, seen_each}
use Rattle.definition.specs.Types.{SlotState, Free, Enabled, Default, Addressed, Configured, Slot, Table}
use Rattle.definition.specs.Walks.{Walk, copy_launch, launch}
use Rattle.definition.specs.Commands.{settled, finish, deconfigure, need_contexts, add, add_all, drop_and_add, reconfigure}
use Rattle.definition.specs.Rules.{CheckPasses, Settled, is_addressed, is_configured, Joins, AllInside, ConfigureNamed, check, drops, context, port}
use Rattle.definition.proofs.CheckLaws.{truly, true_of, check_quiet, check_reads, check_seen, check_passes, passes_check}
use Rattle.definition.proofs.PieceLaws.{copy_reads, terminate_all_blind, finish_blind}

-- ---- the state

pub settled_reads : {A : Type 0} (s : SlotState) (p : Prog (Result A)) (m : Mem) (a : ℕ) → Reads (settled s p) m a → Settled s × Reads p m a
unfolding settled
settled_reads Free p m a r = absurd (reads_done _ m a r)
settled_reads Enabled p m a r = absurd (reads_done _ m a r)
settled_reads Default p m a r = absurd (reads_done _ m a r)
settled_reads Addressed p m a r = (is_addressed, r)
settled_reads Configured p m a r = (is_configured, r)

pub settled_is : {A : Type 0} {s : SlotState} (p : Prog (Result A)) → Settled s → settled s p ≡ p
unfolding settled
settled_is p is_addressed = refl
settled_is p is_configured = refl

pub settled_clean : {A : Type 0} (s : SlotState) (p : Prog (Result A)) → Clean p → Clean (settled s p)
unfolding settled Clean
settled_clean Free p c = tt
settled_clean Enabled p c = tt
settled_clean Default p c = tt
settled_clean Addressed p c = c
settled_clean Configured p c = c

-- ---- the ranges

ranges_quiet : (len P base i : ℕ) → Quiet (need_contexts len P base i)
unfolding need_contexts Quiet
ranges_quiet len P base i = quiet_need _ _ _ _ (quiet_need _ _ _ _ tt)

ranges_blind : (len P base i : ℕ) (m : Mem) (a : ℕ) → Reads (need_contexts len P base i) m a → ⊥
unfolding need_contexts
ranges_blind len P base i m a r = reads_done _ m a (reads_need _ _ _ _ m a (reads_need _ _ _ _ m a r).1).1

-- both contexts of endpoint i lie in a memory of len bytes
abbrev Fits : ℕ → ℕ → ℕ → ℕ → Type 0
Fits len P base i = (P ⊕ 32 * (i + 1) + 32 ≤ len) × (base ⊕ 32 * i + 32 ≤ len)

ranges_pass : (len P base i : ℕ) (m : Mem) → Passes (need_contexts len P base) m i → Fits len P base i
unfolding need_contexts
ranges_pass len P base i m e =
    let one = value_need _ _ _ _ m 0 e in
    (one.0, (value_need _ _ _ _ m 0 one.1).0)

pass_ranges : (len P base i : ℕ) (m : Mem) → Fits len P base i → Passes (need_contexts len P base) m i
unfolding need_contexts run
pass_ranges len P base i m h = rw (need_yes _ _ _ _ h.0, need_yes _ _ _ _ h.1)

-- ---- DC=0

module _ (accepts : ℕ → Bool) (P : ℕ) (t : Table) (id : ℕ) (s : Slot) (m : Mem) (a : ℕ) where
  abbrev Flags : ℕ
  Flags = number (block m (P ⊕ 4) 4)

  -- the program's list of added endpoints, and the rule's
  listed_joins : (i : ℕ) → In i (set_bits 30 2 Flags) → Joins m P i
  listed_joins i n =
      let q = all_in (those_all (λ i. (2 ≤ i) × (i < 32)) (bit Flags) (count 30 2) (count_all _ 30 2 (λ j a b. (a, omega arith)))) i n in
      (q.0.0, (omega (arith, q.0.0), omega (arith, q.0.1), truly _ q.1))

  joins_listed : (i : ℕ) → Joins m P i → In i (set_bits 30 2 Flags)
  joins_listed i j = those_in (bit Flags) (count_in 30 2 i j.0 (omega (arith, j.1.1))) (true_of _ j.1.2)

  all_inside : P + 4 ≤ length m → All (Passes (need_contexts (length m) P s.base) m) (set_bits 30 2 Flags) → AllInside m P s.base
  all_inside l e = (l, λ i j. ranges_pass (length m) P s.base i m (all_in e i (joins_listed i j)))

  inside_all : AllInside m P s.base → All (Passes (need_contexts (length m) P s.base) m) (set_bits 30 2 Flags)
  inside_all h = all_of (set_bits 30 2 Flags) (λ i n. pass_ranges (length m) P s.base i m (h.1 i (listed_joins i n)))

  -- the adds read the contexts of added endpoints and base+6
  adds_reads : AllInside m P s.base → (w : Walk) (k : Mem) → length k ≡ length m → Reads (add_all id P s.base (set_bits 30 2 Flags) w) k a
      → (i : ℕ) × Joins m P i × (Within (P ⊕ 32 * (i + 1)) 32 a ⊎ Within (s.base + 6) 1 a)
  unfolding add_all add
  adds_reads h w k l r =
      let q = reads_each (add id P s.base) (set_bits 30 2 Flags) w k a r in
      let j = listed_joins q.0 q.1 in
      let fits = (h.1 q.0 j).0 in
      (q.0, j, ⊎_elim inl (λ u. inr u.1) (copy_reads _ _ _ _ _ q.3 a (omega (arith, q.4, fits)) q.5))

  -- it reads no more than its rule names
  pub reconfigure_reads : Settled s.state → Reads (reconfigure accepts id P s (length m) t) m a → ConfigureNamed accepts P s m a false
  unfolding reconfigure drop_and_add
  reconfigure_reads right r =
      ⊎_elim (λ q. check right (check_reads accepts P m a q))
      (λ q.
      let pass = check_passes accepts P m q.1 in
      let lies = reads_need _ _ _ _ m a (rw pass.1 at q.2) in
      ⊎_elim (λ w. drops right pass.0 (lies.0, w))
      (λ u. ⊎_elim
      (λ v. absurd (ranges_blind _ _ _ v.0 m a v.2))
      (λ v.
      let all = all_inside lies.0 v.0 in
      ⊎_elim
      (λ x. ⊎_elim
      (λ y. absurd (blind_reads _ m a (terminate_all_blind _ _ _ _) y))
      (λ y.
      let j = adds_reads all _ _ (run_length _ m 0) y.1 in
      ⊎_elim (context right pass.0 all j.0 j.1) (port right pass.0 all j.0 j.1) j.2)
      (reads_bind _ _ m 0 a x))
      (λ x. absurd (blind_reads _ _ a (finish_blind _ _ _ _) x.1))
      (reads_bind _ _ m 0 a v.1))
      (reads_every _ m (ranges_quiet (length m) P s.base) _ _ a u))
      (reads_get _ _ _ m a lies.1))
      (reads_then _ _ m a (quiet_stores _ m (check_quiet accepts (length m) P)) r)

  -- ---- and no less

  -- past the check, the drop flags and the ranges
  past : Settled s.state → CheckPasses accepts P m → AllInside m P s.base
      → ((w : Walk) (k : Mem) → length k ≡ length m → Seen (add_all id P s.base (set_bits 30 2 Flags) w) k a)
      → Seen (reconfigure accepts id P s (length m) t) m a
  unfolding reconfigure drop_and_add
  past right passes all h =
      seen_then _ _ m a _ (quiet_stores _ m (check_quiet accepts (length m) P)) (passes_check accepts P m passes)
      (seen_need _ _ _ _ m a all.0
      (seen_later _ _ _ m a
      (seen_every _ m (ranges_quiet (length m) P s.base) _ _ a (inside_all all)
      (seen_first _ _ m a (seen_bind _ _ m 0 a (h _ _ (run_length _ m 0)))))))

  -- each byte that the rule names, and that the call does not itself store to, is read
  pub reconfigure_seen : ConfigureNamed accepts P s m a false → Seen (reconfigure accepts id P s (length m) t) m a
  unfolding reconfigure and_then add_all add copy_launch launch
  reconfigure_seen (check right h) = λ n. bind_reads _ _ m a (check_seen accepts P m a h)
  reconfigure_seen (drops right passes h) =
      seen_then _ _ m a _ (quiet_stores _ m (check_quiet accepts (length m) P)) (passes_check accepts P m passes)
      (seen_need _ _ _ _ m a h.0 (seen_here _ _ _ m a h.1))
  reconfigure_seen (context right passes all i j h) =
      past right passes all (λ w k l. seen_each _ a i w k (joins_listed i j) (λ y n e o. get_reads _ _ _ n a h))
  reconfigure_seen (port right passes all i j h) =
      past right passes all (λ w k l. seen_each _ a i w k (joins_listed i j) (λ y n e. seen_later _ _ _ n a (seen_put _ _ _ n a (seen_here _ _ _ _ a h))))

-- ---- no refusal behind a store

finish_firm : (id : ℕ) (s : Slot) (next : SlotState) (w : Walk) → Firm (finish id s next w)
unfolding finish Firm
finish_firm id s next w = tt

pub deconfigure_clean : (id : ℕ) (s : Slot) (next : SlotState) (t : Table) → Clean (deconfigure id s next t)
unfolding deconfigure
deconfigure_clean id s next t = firm_clean _ (firm_bind _ _ (finish_firm id s next))

pub reconfigure_clean : (accepts : ℕ → Bool) (id P : ℕ) (s : Slot) (len : ℕ) (t : Table) → Clean (reconfigure accepts id P s len t)
unfolding reconfigure Clean
reconfigure_clean accepts id P s len t =
    clean_then _ _ (check_quiet accepts len P)
    (λ adds. clean_need _ _ _ _
    (λ drops. clean_every _ _ _ (ranges_quiet len P s.base) (firm_clean _ (firm_bind _ _ (finish_firm id s Configured)))))
