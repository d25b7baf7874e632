-- Launch and terminate of a slot's endpoints, with the masks and the root port of the answer.
-- Assumes nothing.
use Rattle.std.specs.Prelude.{cond, List, ℕ, ◌+◌, ◌*◌, ◌^◌}
use Rattle.guest.specs.Bytes.{number, ◌⊕◌}
use Rattle.guest.specs.Prog.{Prog, done, get, put, bind, each}
use Rattle.definition.specs.Types.{Endpoint, Table}
use Rattle.definition.specs.Table.{is_disabled, endpoint_of, with_endpoint}
use Rattle.definition.specs.Steps.{launch_at, terminate_at}

-- a command on its way: the table, "launched mask, terminated mask (bit i is endpoint i), root port"
pub record Walk : Type 0 where
  pub table : Table
  pub launched : ℕ
  pub terminated : ℕ
  pub port : ℕ

abbrev pub begin : Table → Walk
begin t = record { table = t; launched = 0; terminated = 0; port = 0 }

-- endpoint i of slot id was e before it was terminated, and is f now: "no mask bit" for one that was disabled
abbrev pub ended : ℕ → ℕ → Endpoint → Endpoint → Walk → Walk
ended id i e f w =
    record {
      table = with_endpoint w.table id i f;
      launched = w.launched;
      terminated = w.terminated + cond (is_disabled e) 0 (2 ^ i);
      port = w.port;
    }

abbrev pub begun : ℕ → ℕ → ℕ → Endpoint → Walk → Walk
begun id i port e w =
    record {
      table = with_endpoint w.table id i e;
      launched = w.launched + 2 ^ i;
      terminated = w.terminated;
      port = port;
    }

unfoldable pub terminate : ℕ → ℕ → ℕ → Walk → Prog Walk
terminate id base i w =
    bind (terminate_at (endpoint_of w.table id i) (base ⊕ 32 * i)) λ f. done (ended id i (endpoint_of w.table id i) f w)

unfoldable pub terminate_all : ℕ → ℕ → List ℕ → Walk → Prog Walk
terminate_all id base is w = each is (terminate id base) w

-- "root port is the byte at base+6"
unfoldable pub launch : ℕ → ℕ → ℕ → Walk → Prog Walk
launch id base i w = get (base + 6) 1 λ port. bind (launch_at (base ⊕ 32 * i)) λ e. done (begun id i (number port) e w)

-- the 32 bytes at c to base+32i, then launch i
unfoldable pub copy_launch : ℕ → ℕ → ℕ → ℕ → Walk → Prog Walk
copy_launch id base c i w = get c 32 λ context. put (base ⊕ 32 * i) context (launch id base i w)
