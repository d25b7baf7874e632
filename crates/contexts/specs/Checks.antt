-- What the context check promises.
-- Assumes nothing.
use Rattle.std.specs.Prelude.{◌≡◌, ◌⊎◌, ℕ, ◌^◌, ◌<◌, length, Ok, Err}
use Rattle.std.specs.Prelude as std
use Rattle.guest.specs.Bytes.{number, ◌⊕◌, set_bits}
use Rattle.guest.specs.Prog.{Mem, done, block, Ends, ok, every}
use Rattle.definition.specs.declared.Refusal.{Refusal}
use Rattle.definition.specs.declared.Refusal.TheVariants.{EndpointType, Outside}
use Rattle.definition.specs.Refusals.{told_as}
use Rattle.definition.specs.Commands.{usb_types, check_type, context_check}

-- "The first failure in this order, 17 or 193, decides."
abbrev pub Failure : Refusal → Type 0
Failure e = (e ≡ EndpointType) ⊎ (e ≡ Outside)

-- the context check of the input context at P ends as r says, and stores nothing. The rest follows from that, and is what callers need of it
pub record Checks (P : ℕ) (m : Mem) (r : std.Result ℕ Refusal) : Type 0 where
  pub ends : Ends (context_check usb_types (length m) P) m 0 (told_as r) m 0
  pub flags : (f : ℕ) → r ≡ Ok f → f ≡ number (block m (P ⊕ 4) 4)
  pub fits : (f : ℕ) → r ≡ Ok f → f < 2 ^ 32
  pub codes : (e : Refusal) → r ≡ Err e → Failure e

-- ---- its parts, which only this crate needs

-- the type of endpoint i
pub record Judges (P i : ℕ) (m : Mem) (r : std.Result Unit Refusal) : Type 0 where
  pub ends : Ends (check_type usb_types (length m) P i) m 0 (told_as r) m 0
  pub codes : (e : Refusal) → r ≡ Err e → Failure e

-- the types of all endpoints that the flags add
pub record ChecksTypes (P adds : ℕ) (m : Mem) (r : std.Result ℕ Refusal) : Type 0 where
  pub ends : Ends (every (set_bits 31 1 adds) (check_type usb_types (length m) P) (done (ok adds))) m 0 (told_as r) m 0
  pub flags : (f : ℕ) → r ≡ Ok f → f ≡ adds
  pub codes : (e : Refusal) → r ≡ Err e → Failure e
