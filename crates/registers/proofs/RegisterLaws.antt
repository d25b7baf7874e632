-- What the calls that are lent no memory end in, on a well formed table.
-- Assumes nothing.
use mathlib.Core.Path.{◌≡◌, refl, ◌∙◌}
use mathlib.Core.Bool.{Bool, true, false}
use mathlib.Core.List.{List, [], ◌∷◌}
use Prim.Native.Nat.{ℕ, zero, suc, ◌+◌, ◌-◌, ◌*◌, ◌≤◌, ◌<◌}
use borrow.Author.Tests.{le-leb, lt-leb, eq-eqb}
use lib.Dec.{leb, eqb}
use lib.ListN.{length, get_or}
use Rattle.std.specs.List.{find, range_with_len}
use Rattle.std.specs.Option.{option_map}
use Rattle.std.specs.Prelude.{Option, Some, None}
use Rattle.guest.specs.Bytes.{◌⊕◌, count, those}
use Rattle.guest.specs.Prog.{Mem, done, ok, refuse}
use Rattle.guest.proofs.RunLaws.{choose_yes, choose_no, ends_done, ends_value}
use Rattle.definition.specs.declared.Slot.{Slot}
use Rattle.definition.specs.declared.Table.{Table}
use Rattle.definition.specs.declared.SlotState.TheVariants.{Enabled}
use Rattle.definition.specs.Table.{is_free, free, slot_of, with_slot, with_registers, well_formed}
use Rattle.definition.specs.Commands as commands
use Rattle.definition.specs.Commands.{answer, formed, lent, enable_one}
use Rattle.definition.specs.Calls.{set_limit, set_dcbaap, enable_slot, reset_all, meaning, counted, prog, Meets}
use Rattle.walks.specs.declared.Freed.{Freed}
use Rattle.walks.specs.Promises.{FreesAll}
use Rattle.scan.specs.Heads.{refusal}
use Rattle.scan.proofs.OpeningLaws.{meets_ok, refuses_at_once, passes_formed, meets_as}
use Rattle.registers.specs.Promises.{AnswersAlone, first_of, first_free}

-- ---- the look for a free id

abbrev pub Free : List Slot → ℕ → Bool
Free slots id = is_free (get_or slots (id - 1) free)

found_from : (f : ℕ → Bool) (n id : ℕ) → find f (range_with_len id n) ≡ first_of (those f (count n id))
unfolding count those
found_from f zero id = refl
found_from f (suc n) id = by (f id) refl (found_from f n (id + 1))
  where
    by : (b : Bool) → f id ≡ b → find f (range_with_len (id + 1) n) ≡ first_of (those f (count n (id + 1)))
        → find f (range_with_len id (suc n)) ≡ first_of (those f (count (suc n) id))
    by true e rest = rw e
    by false e rest = rw (e, rest)

-- what is found is a number as it is
pub same_found : (r : Option ℕ) {o : Option ℕ} → option_map (λ (x : ℕ). x) r ≡ o → r ≡ o
same_found None e = e
same_found (Some x) e = e

-- the first of the ids from 1 on that is free
pub found_first : (slots : List Slot) (limit : ℕ) → find (Free slots) (range_with_len 1 limit) ≡ first_free slots limit
unfolding first_free
found_first slots limit = found_from (Free slots) limit 1

-- ---- the calls

module _ (t : Table) (f : well_formed t ≡ true) where
  pub limit_set : (n : ℕ) → n ≤ 16 → AnswersAlone (set_limit n) t (record { table = with_registers t n t.dcbaap; answer = answer 0 })
  unfolding prog meaning commands.set_limit
  limit_set n h m = meets_as t (passes_formed t refl _ f ∙ choose_yes (leb n 16) _ _ (le-leb n 16 h)) (meets_ok t (ends_done _ m 0))

  pub limit_refused : (n : ℕ) → 16 < n → AnswersAlone (set_limit n) t (refusal t 197)
  unfolding prog meaning commands.set_limit
  limit_refused n h m = refuses_at_once t m (passes_formed t refl _ f ∙ choose_no (leb n 16) _ _ (lt-leb n 16 h))

  pub dcbaap_set : (a : ℕ) → AnswersAlone (set_dcbaap a) t (record { table = with_registers t t.limit a; answer = answer 0 })
  unfolding prog meaning commands.set_dcbaap
  dcbaap_set a m = meets_as t (passes_formed t refl _ f) (meets_ok t (ends_done _ m 0))

  -- ids are what the scan leaves
  enable_one_lem : (ids : List ℕ) (id : ℕ) → Some id ≡ first_of ids → enable_one t ids ≡ done (ok (
    record { code = 1; slot = id; launched = 0; terminated = 0; port = 0; stored = 0; submit = 0; cancel = 0 },
    with_slot t id (record { state = Enabled; base = 0; entry = t.dcbaap ⊕ 8 * id }),
  ))
  unfolding enable_one
  enable_one_lem [] id e = cc
  enable_one_lem (j ∷ ids) id e = let q : j ≡ id = cc in rw q

  pub enabled : (id : ℕ) → Some id ≡ first_free t.slots t.limit → AnswersAlone enable_slot t (record {
    table = with_slot t id (record { state = Enabled; base = 0; entry = t.dcbaap ⊕ 8 * id });
    answer = record { code = 1; slot = id; launched = 0; terminated = 0; port = 0; stored = 0; submit = 0; cancel = 0 };
  })
  unfolding prog meaning commands.enable_slot first_free slot_of
  enabled id e m = meets_as t (passes_formed t refl _ f ∙ enable_one_lem _ id e) (meets_ok t (ends_done _ m 0))

  none_first : (ids : List ℕ) → None ≡ first_of ids → enable_one t ids ≡ done (refuse 9)
  unfolding enable_one
  none_first [] e = refl
  none_first (j ∷ ids) e = cc

  pub none_free : None ≡ first_free t.slots t.limit → AnswersAlone enable_slot t (refusal t 9)
  unfolding prog meaning commands.enable_slot first_free slot_of
  none_free e m = refuses_at_once t m (passes_formed t refl _ f ∙ none_first _ e)

-- ---- reset of all slots

pub all_reset : (t : Table) → well_formed t ≡ true → {m : Mem} → t.length ≡ length m → {r : Freed} {m' : Mem} → FreesAll t m r m'
    → Meets (prog reset_all (length m) t) m (record { table = with_registers r.table 0 0; answer = counted (answer 0) r.stored }) m'
unfolding prog meaning commands.reset_all formed lent
all_reset t f {m} l h =
    meets_as t (choose_yes (well_formed t) _ _ f ∙ choose_yes (eqb t.length (length m)) _ _ (eq-eqb _ _ l))
    (meets_ok t (ends_value (λ (u : Table). ok (answer 0, with_registers u 0 0)) h.ends))
