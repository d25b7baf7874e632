-- What a step stores in the endpoint's context. Only this crate needs it.
-- Assumes nothing.
use Rattle.std.specs.Prelude.{ℕ, ◌+◌, ◌≤◌}
use Rattle.guest.specs.Bytes.{bytes}
use Rattle.guest.specs.Prog.{Mem, done, Ends}
use Rattle.definition.specs.declared.Endpoint.{Endpoint}
use Rattle.definition.specs.declared.Row.{Row}
use Rattle.definition.specs.Steps.{put_byte, put_when, word_of}

-- the state byte and then the dequeue word of e, by a row of the table, in the context at `at`: n bytes
pub record Stores (r : Row) (e : Endpoint) (at : ℕ) (m m' : Mem) (n : ℕ) : Type 0 where
  pub ends : Ends {A = Unit {0}} (put_byte r.byte at (put_when r.saves (at + 8) (bytes 8 (word_of e)) (done tt))) m 0 tt m' n
  pub few : n ≤ 9
