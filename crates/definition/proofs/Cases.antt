-- The hand-checked cases that are to be proved, as one tabled statement over the definition, computed by the checker.
-- Assumes nothing.
use mathlib.Core.Path.{◌≡◌, refl}
use mathlib.Core.Bool.{Bool, true, false}
use mathlib.Core.List.{List, [], ◌∷◌, ◌++◌, map}
use Prim.Native.Nat.{ℕ, ◌-◌, ◌^◌}
use lib.ListN.{get_or, replicate}
use Rattle.guest.specs.Bytes.{number, bytes, inside, count, those}
use Rattle.guest.specs.Prog.{Mem, run, splice, choose, bind, each, need, passed, and_then, every, all}
use Rattle.guest.specs.Trace.{Event, call, store, step, course, left}
use Rattle.definition.specs.Types.{Answer}
use Rattle.definition.specs.Table.{endpoint_of, slot_of, with_endpoint, with_slot, with_registers, fresh_table, lookup, is_zero, endpoint_ok, used_ok, no_endpoint, slot_ok, well_formed}
use Rattle.definition.specs.Steps.{entry, step_by, launch_at, terminate_at}
use Rattle.definition.specs.Steps as steps
use Rattle.definition.specs.Walks.{terminate, terminate_all, launch, copy_launch}
use Rattle.definition.specs.Commands as commands
use Rattle.definition.specs.Calls.{Call, set_limit, set_dcbaap, enable_slot, address_device, configure_endpoint, stop_endpoint, meaning, prog, counted}

-- "Memory 4096, entry at 264 holding 1024, P=2048, flags 3, byte 2116 = 32, eight bytes at 2120 holding 3073, all else 0"
memory : Mem
memory =
    splice (splice (splice (splice (replicate 4096 0) 264 (bytes 8 1024)) 2052 (bytes 4 3)) 2116 (32 ∷ [])) 2120 (bytes 8 3073)

-- an answer's code, slot, launched, terminated and stored; root port, submit and cancel are 0 in all cases
says : ℕ → ℕ → ℕ → ℕ → ℕ → Answer
says c i l e s = record { code = c; slot = i; launched = l; terminated = e; port = 0; stored = s; submit = 0; cancel = 0 }

-- a sequence from a fresh table; the answers; some addresses and the bytes there afterwards; an endpoint of slot 1, its pointer and its cycle
pub record Case : Type 0 where
  pub events : List (Event Call)
  pub answers : List Answer
  pub places : List ℕ
  pub held : List ℕ
  pub endpoint : ℕ
  pub pointer : ℕ
  pub cycle : Bool

-- "limit 4, DCBAAP 256"; Enable: slot 1
ready : List (Event Call)
ready = call (set_limit 4) ∷ call (set_dcbaap 256) ∷ call enable_slot ∷ []

enabled : List Answer
enabled = says 0 0 0 0 0 ∷ says 0 0 0 0 0 ∷ says 1 1 0 0 0 ∷ []

-- Address BSR=1, again BSR=1, then BSR=0
addressed : List (Event Call)
addressed = ready ++ (call (address_device 1 2048 true) ∷ call (address_device 1 2048 true) ∷ call (address_device 1 2048 false) ∷ [])

to_addressed : List Answer
to_addressed = enabled ++ (says 1 0 2 0 66 ∷ says 19 0 0 0 0 ∷ says 1 0 2 2 67 ∷ [])

-- then Configure DC=0 with flags D=0, A=8, byte 2180 = 56
configured : List (Event Call)
configured = addressed ++ (store 2052 8 ∷ store 2180 56 ∷ call (configure_endpoint 1 2048 false) ∷ [])

to_configured : List Answer
to_configured = to_addressed ++ (says 1 0 8 0 34 ∷ [])

pub cases : List Case
cases =
    -- Limit 0: 9
    record { events = call enable_slot ∷ []; answers = says 9 0 0 0 0 ∷ []; places = []; held = []; endpoint = 1; pointer = 0; cycle = false }
    -- Enable: slot 1
    ∷ record { events = ready; answers = enabled; places = []; held = []; endpoint = 1; pointer = 0; cycle = false }
    -- Address BSR=1: 1, launched 2, stored 66; byte 1039 = 8, byte 1056 = 1; pointer 3072, cycle 1
    ∷ record {
      events = ready ++ (call (address_device 1 2048 true) ∷ []);
      answers = enabled ++ (says 1 0 2 0 66 ∷ []);
      places = 1039 ∷ 1056 ∷ [];
      held = 8 ∷ 1 ∷ [];
      endpoint = 1;
      pointer = 3072;
      cycle = true;
    }
    -- with byte 2116 = 0 instead: 17, of the first call
    ∷ record {
      events = ready ++ (store 2116 0 ∷ call (address_device 1 2048 true) ∷ []);
      answers = enabled ++ (says 17 0 0 0 0 ∷ []);
      places = 1039 ∷ 1056 ∷ [];
      held = 0 ∷ 0 ∷ [];
      endpoint = 1;
      pointer = 0;
      cycle = false;
    }
    -- .. and so too of the second, before the state is judged
    ∷ record {
      events = ready ++ (call (address_device 1 2048 true) ∷ store 2116 0 ∷ call (address_device 1 2048 true) ∷ []);
      answers = enabled ++ (says 1 0 2 0 66 ∷ says 17 0 0 0 0 ∷ []);
      places = 1039 ∷ 1056 ∷ [];
      held = 8 ∷ 1 ∷ [];
      endpoint = 1;
      pointer = 3072;
      cycle = true;
    }
    -- again BSR=1: 19; then BSR=0: launched 2, terminated 2, stored 67, byte 1039 = 16
    ∷ record { events = addressed; answers = to_addressed; places = 1039 ∷ []; held = 16 ∷ []; endpoint = 1; pointer = 3072; cycle = true }
    -- Configure: launched 8, stored 34, bytes 2176..2207 go to 1120 (and the launch stores 1 there), byte 1039 = 24
    ∷ record {
      events = configured;
      answers = to_configured;
      places = 1039 ∷ count 32 1120;
      held = 24 ∷ 1 ∷ 0 ∷ 0 ∷ 0 ∷ 56 ∷ replicate 27 0;
      endpoint = 3;
      pointer = 0;
      cycle = false;
    }
    -- Stop endpoint 3: stored 9; again: 19
    ∷ record {
      events = configured ++ (call (stop_endpoint 1 3) ∷ call (stop_endpoint 1 3) ∷ []);
      answers = to_configured ++ (says 1 0 0 0 9 ∷ says 19 0 0 0 0 ∷ []);
      places = 1120 ∷ [];
      held = 3 ∷ [];
      endpoint = 3;
      pointer = 0;
      cycle = false;
    }
    -- not starred, of "All drops, ascending, then all adds": endpoint 3 dropped and added in one Configure is launched at the end
    ∷ record {
      events = configured ++ (store 2048 8 ∷ call (configure_endpoint 1 2048 false) ∷ []);
      answers = to_configured ++ (says 1 0 8 8 35 ∷ []);
      places = 1039 ∷ 1120 ∷ [];
      held = 24 ∷ 1 ∷ [];
      endpoint = 3;
      pointer = 0;
      cycle = false;
    }
    -- P = 2^64−4, slot 1 just enabled: Address BSR=0 reads flags 0 at 0 and answers 1; Configure with DC=0 and the same P is then 193
    ∷ record {
      events = ready ++ (call (address_device 1 (2 ^ 64 - 4) false) ∷ call (configure_endpoint 1 (2 ^ 64 - 4) false) ∷ []);
      answers = enabled ++ (says 1 0 2 0 66 ∷ says 193 0 0 0 0 ∷ []);
      places = 1039 ∷ 1056 ∷ [];
      held = 16 ∷ 1 ∷ [];
      endpoint = 1;
      pointer = 0;
      cycle = false;
    }
    ∷ []

-- what a case is to show, and what the definition shows
abbrev pub Shown : Type 0
Shown = List Answer × List ℕ × ℕ × Bool

pub expected : Case → Shown
expected c = (c.answers, c.held, c.pointer, c.cycle)

pub shown : Case → Shown
shown c =
    let r = course (left prog counted) c.events (fresh_table 4096) memory in
    let e = endpoint_of r.table 1 c.endpoint in
    (r.answers, map (λ a. get_or r.memory a 0) c.places, e.pointer, e.cycle)

pub starred : map shown cases ≡ map expected cases
unfolding memory says ready enabled addressed to_addressed configured to_configured cases expected shown number bytes inside count those run splice choose bind each need passed and_then every all step course left endpoint_of slot_of with_endpoint with_slot with_registers fresh_table lookup is_zero endpoint_ok used_ok no_endpoint slot_ok well_formed entry step_by steps.step launch_at terminate_at terminate terminate_all launch copy_launch meaning prog commands.formed commands.lent commands.on_slot commands.on_endpoint commands.set_limit commands.set_dcbaap commands.enable_one commands.enable_slot commands.check_type commands.context_check commands.plan commands.copy_contexts commands.carry_out commands.address_device commands.settled commands.finish commands.deconfigure commands.need_contexts commands.add commands.add_all commands.drop_and_add commands.reconfigure commands.configure_endpoint commands.endpoint_call
starred = refl
