-- Enable Slot gives the smallest free id within the limit; 9 exactly when there is none.
-- Assumes nothing.
use mathlib.Core.Path.{◌≡◌, refl, sym, ◌∙◌, subst}
use mathlib.Core.Bool.{Bool, true, false, true≢false}
use mathlib.Core.List.{List, [], ◌∷◌}
use Prim.Native.Nat.{ℕ, ◌*◌, ◌≤◌, ◌<◌}
use native.Mathlib.Omega.{arith}
use lib.ListN.{length}
use Rattle.guest.specs.Bytes.{◌⊕◌, count, those}
use Rattle.guest.specs.Prog.{Mem, Ran, ran, run}
use Rattle.guest.proofs.ListLaws.{In, in_none, count_in, those_in}
use Rattle.guest.proofs.EveryLaws.{now, up_reached}
use Rattle.guest.proofs.RunLaws.{choose_yes}
use Rattle.definition.specs.Types.{Enabled, Table}
use Rattle.definition.specs.Table.{is_free, slot_of, with_slot, well_formed}
use Rattle.definition.specs.Commands as commands
use Rattle.definition.specs.Commands.{Told, answer, enable_one}
use Rattle.definition.specs.Calls.{enable_slot, meaning, told, prog}
use Rattle.definition.proofs.CodeLaws.{prog_run}

-- the smallest free id from 1 to the limit
pub record Smallest (t : Table) (id : ℕ) : Type 0 where
  pub low : 1 ≤ id
  pub high : id ≤ t.limit
  pub free : is_free (slot_of t id) ≡ true
  pub smaller : (j : ℕ) → 1 ≤ j → j < id → is_free (slot_of t j) ≡ false

-- no id from 1 to the limit is free
abbrev pub AllUsed : Table → Type 0
AllUsed t = (id : ℕ) → 1 ≤ id → id ≤ t.limit → is_free (slot_of t id) ≡ false

-- what Enable Slot leaves with a table, and the memory that it does not see
pub data Enabling (t : Table) (m : Mem) : Ran Told → Type 0 where
  gives : (id : ℕ) → Smallest t id
      → Enabling t m (ran (
        record { code = 1; slot = id; launched = 0; terminated = 0; port = 0; stored = 0; submit = 0; cancel = 0 },
        with_slot t id (record { state = Enabled; base = 0; entry = t.dcbaap ⊕ 8 * id }),
      ) m 0)
  full : AllUsed t → Enabling t m (ran (answer 9, t) m 0)

module _ (t : Table) where
  abbrev Free : ℕ → Bool
  Free id = is_free (slot_of t id)

  is_false : (b : Bool) → (b ≡ true → ⊥) → b ≡ false
  is_false true n = absurd (n refl)
  is_false false n = refl

  first : (id : ℕ) (ids : List ℕ) → those Free (count t.limit 1) ≡ id ∷ ids → Smallest t id
  first id ids e =
      let q = up_reached (λ j. ⊥) Free t.limit 1 id (rw e now) in
      record { low = q.low; high = omega (arith, q.high); free = q.test; smaller = λ j a b. is_false _ (λ f. q.before j a b f) }

  all_used : those Free (count t.limit 1) ≡ [] → AllUsed t
  all_used e id a b =
      is_false _ (λ f. in_none (subst (In id) e (those_in Free (count_in t.limit 1 id a (omega arith)) f)))

  enabling : (m : Mem) (ids : List ℕ) → those Free (count t.limit 1) ≡ ids
      → Enabling t m (ran (told t (run (enable_one t ids) m 0).value) (run (enable_one t ids) m 0).memory (run (enable_one t ids) m 0).stored)
  unfolding run enable_one
  enabling m [] e = full (all_used e)
  enabling m (id ∷ ids) e = gives id (first id ids e)

  -- on a well-formed table: the smallest free id, or 9
  pub enables : (m : Mem) → well_formed t ≡ true → Enabling t m (run (prog enable_slot (length m) t) m 0)
  unfolding meaning commands.enable_slot commands.formed run
  enables m h = rw (prog_run enable_slot t m, choose_yes _ _ _ h) (enabling m (those Free (count t.limit 1)) refl)

  -- 9 exactly when no id from 1 to the limit is free
  pub enable_none : (m : Mem) → well_formed t ≡ true → (run (prog enable_slot (length m) t) m 0).value.0.code ≡ 9 → AllUsed t
  enable_none m h e = by (enables m h) e
    where
      by : {r : Ran Told} → Enabling t m r → r.value.0.code ≡ 9 → AllUsed t
      by (gives id s) e = absurd (omega arith)
      by (full n) e = n

  pub none_enable : (m : Mem) → well_formed t ≡ true → AllUsed t → (run (prog enable_slot (length m) t) m 0).value.0.code ≡ 9
  none_enable m h n = by (enables m h)
    where
      by : {r : Ran Told} → Enabling t m r → r.value.0.code ≡ 9
      by (gives id s) = absurd (true≢false (sym s.free ∙ n id s.low s.high))
      by (full u) = refl
