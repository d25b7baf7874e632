-- What the contracts together say of a sequence of calls.
-- Assumes nothing.
use Rattle.std.specs.Prelude.{◌≡◌, List, [], ◌∷◌, ℕ, length, get_or}
use Rattle.guest.specs.Prog.{Mem, splice}
use Rattle.guest.specs.Trace.{Event, call, store, Wrote}
use Rattle.definition.specs.declared.Table.{Table}
use Rattle.definition.specs.declared.Answer.{Answer}
use Rattle.definition.specs.declared.Outcome.{Outcome}
use Rattle.definition.specs.Calls.{Call, prog, counted}
use Rattle.commands.specs.Promises.{Answers}

-- a sequence of calls and guest stores, begun with table t and memory m, has given these answers and left this table and memory: each call an outcome
-- and a memory that its contract allows
pub data Runs : List (Event Call) → Table → Mem → List Answer → Table → Mem → Type 0 where
  ended : {t : Table} {m : Mem} → Runs [] t m [] t m
  called : {c : Call} {t : Table} {m : Mem} {r : Outcome} {m₁ : Mem} {es : List (Event Call)} {xs : List Answer} {t' : Table} {m' : Mem}
      → Answers c t m r m₁ → Runs es r.table m₁ xs t' m' → Runs (call c ∷ es) t m (r.answer ∷ xs) t' m'
  stored : {a v : ℕ} {t : Table} {m : Mem} {es : List (Event Call)} {xs : List Answer} {t' : Table} {m' : Mem}
      → Runs es t (splice m a (v ∷ [])) xs t' m' → Runs (store a v ∷ es) t m xs t' m'

-- two sequences that began with memories m₁ and m₂ ended alike: equal answers and tables, equal written bytes, every other byte as it began
pub record Alike (es : List (Event Call)) (t : Table) (m₁ m₂ : Mem) (xs₁ : List Answer) (t₁ : Table) (k₁ : Mem) (xs₂ : List Answer) (t₂ : Table) (k₂ : Mem) : Type 0 where
  pub answers : xs₁ ≡ xs₂
  pub table : t₁ ≡ t₂
  pub written : (a : ℕ) → Wrote prog counted es t m₁ a → get_or k₁ a 0 ≡ get_or k₂ a 0
  pub other₁ : (a : ℕ) → (Wrote prog counted es t m₁ a → ⊥) → get_or k₁ a 0 ≡ get_or m₁ a 0
  pub other₂ : (a : ℕ) → (Wrote prog counted es t m₁ a → ⊥) → get_or k₂ a 0 ≡ get_or m₂ a 0
  pub length₁ : length k₁ ≡ length m₁
  pub length₂ : length k₂ ≡ length m₂
