-- The ranges of added endpoints: what a caller of `ranges_inside` has of its answer, and what its code tests.
-- Assumes nothing.
use mathlib.Core.Path.{◌≡◌, refl}
use mathlib.Core.Bool.{Bool, true, false, not, ◌||◌, cond}
use Prim.Native.Nat.{ℕ, zero, suc, ◌+◌, ◌*◌, ◌≤◌, ◌<◌}
use native.Mathlib.Omega.{arith}
use Rattle.std.specs.List.{list_all, range_with_len}
use Rattle.guest.specs.Bytes.{◌⊕◌, inside, bit, set_bits, count, those}
use Rattle.guest.specs.Prog.{all, Mem, Prog, run, Ends, Result, ok, refuse, need, every}
use Rattle.guest.proofs.ListLaws.{All, all_map, all_in, count_in, those_in, and_left, and_right, all_passes}
use Rattle.guest.proofs.RunLaws.{inside_yes, ends_both}
use Rattle.definition.specs.Commands.{need_contexts}
use Rattle.contexts.specs.Ranges.{both_inside, ranges_inside}
use Rattle.guest.proofs.EveryLaws.{tests_pass, tests_refuse}

-- ---- the contexts of one endpoint

-- both lie in a memory of len bytes
pub record Fits (len P base i : ℕ) : Type 0 where
  pub input : P ⊕ 32 * (i + 1) + 32 ≤ len
  pub device : base ⊕ 32 * i + 32 ≤ len

pub both_fit : (len P base i : ℕ) → both_inside len P base i ≡ true → Fits len P base i
unfolding both_inside
both_fit len P base i e =
    record { input = inside_yes _ _ _ (and_left _ _ e); device = inside_yes _ _ _ (and_right (inside len (P ⊕ 32 * (i + 1)) 32) _ e) }

-- the definition's check of them is this test
range_ends : (len P base i : ℕ) (m : Mem) (s : ℕ) → Ends (need_contexts len P base i) m s (cond (both_inside len P base i) (ok tt) (refuse 193)) m s
unfolding need_contexts both_inside need
range_ends len P base i m s = ends_both _ _ m s (inside len (P ⊕ 32 * (i + 1)) 32) (inside len (base ⊕ 32 * i) 32)

-- ---- those of all added endpoints

module _ (len P base adds : ℕ) where
  -- where all lie in memory, the definition's check passes and leaves what comes after it
  pub ranges_pass : ranges_inside len P base adds ≡ true → {A : Type 0} (p : Prog (Result A)) (m : Mem) (s : ℕ)
      → run (every (set_bits 30 2 adds) (need_contexts len P base) p) m s ≡ run p m s
  ranges_pass e p m s = tests_pass (need_contexts len P base) (both_inside len P base) 193 m s (λ i. range_ends len P base i m s) p (set_bits 30 2 adds) e

  -- where one does not, it refuses with 193
  pub ranges_refuse : ranges_inside len P base adds ≡ false → {A : Type 0} (p : Prog (Result A)) (m : Mem) (s : ℕ)
      → Ends (every (set_bits 30 2 adds) (need_contexts len P base) p) m s (refuse 193) m s
  ranges_refuse e p m s = tests_refuse (need_contexts len P base) (both_inside len P base) 193 m s (λ i. range_ends len P base i m s) p (set_bits 30 2 adds) e

  -- both contexts of each added endpoint lie in memory
  pub ranges_fit : ranges_inside len P base adds ≡ true → All (Fits len P base) (set_bits 30 2 adds)
  ranges_fit e = all_map (both_fit len P base) (all_passes (both_inside len P base) (set_bits 30 2 adds) e)

  pub added_fits : ranges_inside len P base adds ≡ true → (i : ℕ) → 2 ≤ i → i < 32 → bit adds i ≡ true → Fits len P base i
  added_fits e i a b d = all_in (ranges_fit e) i (those_in (bit adds) (count_in 30 2 i a (omega arith)) d)

-- ---- as the code tests them: each number from 2 on is no added endpoint's, or passes

module _ (len P base adds : ℕ) where
  abbrev pub Passes : ℕ → Bool
  Passes i = not (bit adds i) || both_inside len P base i

  tested_from : (n i : ℕ) → list_all Passes (range_with_len i n) ≡ all (set_bits n i adds) (both_inside len P base)
  unfolding count those all
  tested_from zero i = refl
  tested_from (suc n) i = by (bit adds i) refl (tested_from n (i + 1))
    where
      by : (b : Bool) → bit adds i ≡ b → list_all Passes (range_with_len (i + 1) n) ≡ all (set_bits n (i + 1) adds) (both_inside len P base)
          → list_all Passes (range_with_len i (suc n)) ≡ all (set_bits (suc n) i adds) (both_inside len P base)
      by true e rest = rw (e, rest)
      by false e rest = rw (e, rest)

  pub ranges_tested : list_all Passes (range_with_len 2 30) ≡ ranges_inside len P base adds
  ranges_tested = tested_from 30 2
