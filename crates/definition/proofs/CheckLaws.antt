-- The context check: it stores nothing, it passes where the reading rules say so, and it reads just what its rule names.
-- Assumes nothing.
use mathlib.Core.Path.{◌≡◌, refl, sym, ap}
use mathlib.Core.Logic.{⊎_elim}
use mathlib.Core.Bool.{Bool, true, false}
use mathlib.Core.List.{[], ◌∷◌, map}
use Prim.Native.Nat.{ℕ, ◌+◌, ◌*◌, ◌%◌, ◌^◌, ◌≤◌, ◌<◌}
use native.Mathlib.Nat.{add_assoc}
use native.Mathlib.Omega.{arith}
use lib.Dec.{T}
use lib.ListN.{length}
use Rattle.guest.specs.Bytes.{number, ◌⊕◌, count, set_bits, bit, type_of}
use Rattle.guest.specs.Prog.{Mem, Prog, done, block, Ran, ran, run, Reads, Touched, Result, ok, every}
use Rattle.guest.specs.Forms.{Quiet}
use Rattle.guest.proofs.ListLaws.{All, all_map, all_in, count_all, count_in, those_all, those_in}
use Rattle.guest.proofs.RunLaws.{run_get, choose_yes, need_yes, value_choose, value_refuse, value_need, value_get}
use Rattle.guest.proofs.ReadLaws.{reads_done, reads_get, reads_choose, reads_need, get_reads, Seen, seen_here, seen_later, seen_need}
use Rattle.guest.proofs.FormLaws.{quiet_choose, quiet_need, quiet_every, quiet_stores}
use Rattle.guest.proofs.EveryLaws.{Reached, up_reached, reached_up, Passes, every_run, every_value, reads_every, seen_check}
use Rattle.definition.specs.Commands.{usb_types, check_type, context_check}
use Rattle.definition.specs.Rules.{Bytes, Added, Accepted, CheckNamed, flags, types, CheckPasses}

pub truly : (b : Bool) → b ≡ true → T b
truly b e = rw e tt

pub true_of : (b : Bool) → T b → b ≡ true
true_of true t = refl
true_of false t = absurd t

-- of the eight types 2, 3, 4, 6 and 7 are accepted
pub eight_types : map usb_types (count 8 0) ≡ false ∷ false ∷ true ∷ true ∷ true ∷ false ∷ true ∷ true ∷ []
unfolding count
eight_types = refl

-- ---- it stores nothing

pub type_quiet : (accepts : ℕ → Bool) (len P i : ℕ) → Quiet (check_type accepts len P i)
unfolding check_type Quiet
type_quiet accepts len P i = quiet_need _ _ _ _ (λ byte. quiet_choose _ _ _ tt tt)

pub check_quiet : (accepts : ℕ → Bool) (len P : ℕ) → Quiet (context_check accepts len P)
unfolding context_check Quiet
check_quiet accepts len P = quiet_need _ _ _ _ (λ adds. quiet_every _ _ _ (type_quiet accepts len P) tt)

-- ---- one type byte

-- the rule's address of a type byte, and the program's
type_at : (P i : ℕ) → P ⊕ (32 * (i + 1) + 4) ≡ (P + 32 * (i + 1) + 4) % 2 ^ 64
type_at P i = ap (λ (k : ℕ). k % 2 ^ 64) (sym (add_assoc P (32 * (i + 1)) 4))

module _ (accepts : ℕ → Bool) (P : ℕ) (m : Mem) (i : ℕ) where
  type_passes : Passes (check_type accepts (length m) P) m i → Accepted accepts m P i
  unfolding check_type
  type_passes e =
      let lies = value_need _ _ _ _ m 0 e in
      rw (← type_at P i)
      (⊎_elim (λ good. (lies.0, truly _ good.0)) (λ bad. absurd (value_refuse 17 m 0 bad.1)) (value_choose _ _ _ m 0 (value_get _ _ _ m 0 lies.1)))

  passes_type : Accepted accepts m P i → Passes (check_type accepts (length m) P) m i
  unfolding check_type run
  passes_type h =
      let g : (P ⊕ (32 * (i + 1) + 4) + 1 ≤ length m) × T (accepts (type_of (number (block m (P ⊕ (32 * (i + 1) + 4)) 1)))) = rw (type_at P i) h in
      rw (need_yes _ _ _ _ g.0, run_get, choose_yes _ _ _ (true_of _ g.1))

  type_reads : (a : ℕ) → Reads (check_type accepts (length m) P i) m a → Bytes m ((P + 32 * (i + 1) + 4) % 2 ^ 64) 1 a
  unfolding check_type
  type_reads a r =
      let lies = reads_need _ _ _ _ m a r in
      rw (← type_at P i)
      (⊎_elim (λ w. (lies.0, w)) (λ q. absurd (⊎_elim (λ w. reads_done _ m a w.1) (λ w. reads_done _ m a w.1) (reads_choose _ _ _ m a q))) (reads_get _ _ _ m a lies.1))

  reads_type : (a : ℕ) → Bytes m ((P + 32 * (i + 1) + 4) % 2 ^ 64) 1 a → Reads (check_type accepts (length m) P i) m a
  unfolding check_type
  reads_type a h =
      let b : Bytes m (P ⊕ (32 * (i + 1) + 4)) 1 a = rw (type_at P i) h in
      rw (need_yes _ _ _ _ b.0) (get_reads _ _ _ m a b.1)

-- ---- the check

module _ (accepts : ℕ → Bool) (P : ℕ) (m : Mem) where
  abbrev Flags : ℕ
  Flags = number (block m (P ⊕ 4) 4)

  abbrev One : ℕ → Prog (Result Unit)
  One = check_type accepts (length m) P

  -- what the program's list of flags says, and what the rule's does
  reached_added : (i : ℕ) → Reached (Passes One m) (bit Flags) 31 1 i → Added m P i × ((j : ℕ) → j < i → Added m P j → Accepted accepts m P j)
  reached_added i q = (
    (q.low, omega (arith, q.high), truly _ q.test),
    λ j l g. type_passes accepts P m j (q.before j g.0 l (true_of _ g.2)),
  )

  added_reached : (i : ℕ) → Added m P i → ((j : ℕ) → j < i → Added m P j → Accepted accepts m P j) → Reached (Passes One m) (bit Flags) 31 1 i
  added_reached i g before =
      record {
        low = g.0;
        high = omega (arith, g.1);
        test = true_of _ g.2;
        before = λ j a l t. passes_type accepts P m j (before j l (a, omega (arith, g.1), truly _ t));
      }

  all_accepted : All (Passes One m) (set_bits 31 1 Flags) → (i : ℕ) → Added m P i → Accepted accepts m P i
  all_accepted a i g = type_passes accepts P m i (all_in a i (those_in (bit Flags) (count_in 31 1 i g.0 (omega (arith, g.1))) (true_of _ g.2)))

  accepted_all : ((i : ℕ) → Added m P i → Accepted accepts m P i) → All (Passes One m) (set_bits 31 1 Flags)
  accepted_all f =
      all_map (λ i q. passes_type accepts P m i (f i (q.0.0, omega (arith, q.0.1), truly _ q.1)))
      (those_all (λ i. (1 ≤ i) × (i < 32)) (bit Flags) (count 31 1) (count_all _ 31 1 (λ j a b. (a, omega arith))))

  -- it reads no more than its rule names
  pub check_reads : (a : ℕ) → Reads (context_check accepts (length m) P) m a → CheckNamed accepts P m a
  unfolding context_check
  check_reads a r =
      let lies = reads_need _ _ _ _ m a r in
      ⊎_elim (λ w. flags (lies.0, w))
      (λ q. ⊎_elim
      (λ u.
      let g = reached_added u.0 (up_reached _ (bit Flags) 31 1 u.0 u.1) in
      types lies.0 u.0 g.0 g.1 (type_reads accepts P m u.0 a u.2))
      (λ u. absurd (reads_done _ m a u.1))
      (reads_every One m (type_quiet accepts (length m) P) _ _ a q))
      (reads_get _ _ _ m a lies.1)

  -- and no less
  pub check_seen : (a : ℕ) → CheckNamed accepts P m a → Reads (context_check accepts (length m) P) m a
  unfolding context_check Touched
  check_seen a n = seen n (λ w. untouched (rw (quiet_stores _ m (check_quiet accepts (length m) P)) at w))
    where
      untouched : Touched [] a → ⊥
      untouched w = w

      seen : CheckNamed accepts P m a → Seen (context_check accepts (length m) P) m a
      seen (flags h) = seen_need _ _ _ _ m a h.0 (seen_here _ _ _ m a h.1)
      seen (types lies i g before h) =
          seen_need _ _ _ _ m a lies
          (seen_later _ _ _ m a
          (seen_check One m (type_quiet accepts (length m) P) _ i a (reached_up _ (bit Flags) 31 1 i (added_reached i g before)) (reads_type accepts P m i a h)))

  abbrev Rest : Prog (Result ℕ)
  Rest = every (set_bits 31 1 Flags) One (done (ok Flags))

  -- where it gives a value, it passes as the rules say, and the value is the add flags
  pub check_passes : {f : ℕ} → (run (context_check accepts (length m) P) m 0).value ≡ ok f → CheckPasses accepts P m × (f ≡ Flags)
  unfolding context_check run
  check_passes {f} e =
      let lies = value_need _ _ _ _ m 0 e in
      let v : (run Rest m 0).value ≡ ok f = lies.1 in
      let q = every_value One m (type_quiet accepts (length m) P) (done (ok Flags)) (set_bits 31 1 Flags) v in
      let d : ok Flags ≡ ok f = q.1 in
      ((lies.0, all_accepted q.0), cc)

  -- where it passes, it gives them
  pub passes_check : CheckPasses accepts P m → (run (context_check accepts (length m) P) m 0).value ≡ ok Flags
  unfolding context_check run
  passes_check h =
      let v : run Rest m 0 ≡ ran (ok Flags) m 0 = every_run One m (type_quiet accepts (length m) P) (done (ok Flags)) (set_bits 31 1 Flags) (accepted_all h.1) in
      rw (need_yes _ _ _ _ h.0) (ap (λ (r : Ran (Result ℕ)). r.value) v)
