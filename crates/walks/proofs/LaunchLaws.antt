-- Laws of launches: the copy of a context and the launch, from what the pieces of code promise; the walk over the add flags.
-- Assumes nothing.
use mathlib.Core.Path.{◌≡◌, refl, ◌∙◌}
use mathlib.Core.Bool.{true, false}
use mathlib.Core.List.{List}
use Prim.Native.Nat.{ℕ, ◌+◌, ◌-◌, ◌*◌, ◌^◌, ◌≤◌, ◌<◌}
use native.Mathlib.Nat.{one-mul}
use native.Mathlib.Omega.{arith}
use lib.ListN.{length, length-set, set}
use lib.Pow.{pow_mono}
use Rattle.guest.specs.Bytes.{number, ◌⊕◌, bit, set_bits}
use Rattle.guest.specs.Prog.{Mem, block, splice, run, done, Ends, bind}
use Rattle.guest.proofs.LoopLaws.{Loop, loop_begins, loop_goes, loop_skips, loop_ends}
use Rattle.guest.proofs.SpliceLaws.{block_length}
use Rattle.definition.specs.declared.Endpoint.{Endpoint}
use Rattle.definition.specs.declared.Table.{Table}
use Rattle.definition.specs.Steps.{launch_at}
use Rattle.definition.specs.Walks.{Walk, begun, launch, copy_launch}
use Rattle.definition.specs.Commands.{add, add_all}
use Rattle.definition.proofs.TableLaws.{IsSlot}
use Rattle.endpoint.specs.Promises.{Launches}
use Rattle.walks.specs.declared.Launched.{Launched}
use Rattle.walks.specs.Promises.{walk, with_records, copy_launch_at, CopyLaunches, AddsAll}
use Rattle.walks.proofs.RecordLaws.{records_of, records_length, records_back, records_write}
use Rattle.walks.proofs.WalkLaws.{ends_then, mask_next}
use Rattle.guest.proofs.BitLaws.{flag_set, flag_clear, flags_done}

abbrev launched : Endpoint → ℕ → Launched
launched e port = record { endpoint = e; port = port }

copy_ends : (base c i : ℕ) (m : Mem) {e : Endpoint} {m' : Mem} → c + 32 ≤ length m
    → Launches (base ⊕ 32 * i) (splice m (base ⊕ 32 * i) (block m c 32)) e m'
    → Ends (copy_launch_at base c i) m 0 (launched e (number (block (splice m (base ⊕ 32 * i) (block m c 32)) (base + 6) 1))) m' 33
unfolding copy_launch_at run
copy_ends base c i m {e} {m'} h l =
    let n : 0 + length (block m c 32) + 1 ≡ 33 = omega (arith, block_length m c 32 h) in
    let port = number (block (splice m (base ⊕ 32 * i) (block m c 32)) (base + 6) 1) in
    rw (← n) (record { ends = (ends_then (λ y. launched y port) l.ends (0 + length (block m c 32))).ends })

-- the context at c is read, stored at `at`, the root port is read, the endpoint is launched
pub copied : (base c i : ℕ) {m : Mem} {at : ℕ} {context : List ℕ} {m₁ : Mem} {head port : ℕ} {e : Endpoint} {m' : Mem}
    → c + 32 ≤ length m → at ≡ base ⊕ 32 * i → context ≡ block m c 32 → m₁ ≡ splice m at context → head ≡ base
    → port ≡ number (block m₁ (head + 6) 1) → Launches at m₁ e m' → Ends (copy_launch_at base c i) m 0 (launched e port) m' 33
copied base c i {m = m} h a b d f p l =
    rw (p, f, d, b, a) (copy_ends base c i m h (rw (d, b, a) at l))

-- the walk's step is that, and the record stored
pub copy_launch_is : (id base c i : ℕ) (w : Walk) → copy_launch id base c i w ≡ bind (copy_launch_at base c i) λ r. done (begun id i r.port r.endpoint w)
unfolding copy_launch launch launch_at copy_launch_at bind
copy_launch_is id base c i w = refl

-- a record copied and launched, and stored back
pub copy_launch_one : (id base c i : ℕ) (w : Walk) {m : Mem} {r : Launched} {m' : Mem} → CopyLaunches base c i m r m' → (s : ℕ)
    → Ends (copy_launch id base c i w) m s (begun id i r.port r.endpoint w) m' (s + 33)
copy_launch_one id base c i w d s =
    rw (copy_launch_is id base c i w) (ends_then (λ r. begun id i r.port r.endpoint w) d.ends s)

-- ---- adds on their way

-- of the lent records of slot id the flags from i on are left, whatever was terminated before
pub record Adding (id P base adds : ℕ) (t : Table) (m₀ : Mem) (i : ℕ) (es : List Endpoint) (mask port : ℕ) (m : Mem) (s : ℕ) : Type 0 where
  pub low : 2 ≤ i
  pub high : i ≤ 32
  pub memory : length m ≡ length m₀
  pub size : length es ≡ 31
  pub loop : (x : ℕ) → Loop (add id P base) (set_bits 30 2 adds) (walk t 0 x 0) m₀ 0 (set_bits (32 - i) i adds) (walk (with_records t id es) mask x port) m s
  pub fits : mask < 2 ^ i
  pub byte : port < 256
  pub few : s + 66 ≤ 33 * i

pub adding_begins : (id P base adds : ℕ) (t : Table) (m : Mem) → length t.endpoints ≡ 496 → IsSlot id → Adding id P base adds t m 2 (records_of t id) 0 0 m 0
adding_begins id P base adds t m z n =
    record {
      low = omega arith;
      high = omega arith;
      memory = refl;
      size = records_length t id z n;
      loop = λ x. rw (records_back t id z n) (loop_begins (add id P base) (set_bits 30 2 adds) (walk t 0 x 0) m 0);
      fits = omega arith;
      byte = omega arith;
      few = omega arith;
    }

module _ {id P base adds : ℕ} {t : Table} {m₀ : Mem} {i : ℕ} {es : List Endpoint} {mask port : ℕ} {m : Mem} {s : ℕ} where
  -- endpoint i is added
  pub adding_goes : Adding id P base adds t m₀ i es mask port m s → length t.endpoints ≡ 496 → IsSlot id → i < 32 → bit adds i ≡ true → {r : Launched} {m' : Mem}
      → CopyLaunches base (P ⊕ 32 * (i + 1)) i m r m' → length m' ≡ length m
      → Adding id P base adds t m₀ (i + 1) (set es (i - 1) r.endpoint) (mask + 2 ^ i) r.port m' (s + 33)
  unfolding add
  adding_goes g z k l on {r} d n =
      record {
        low = omega (arith, g.low);
        high = omega arith;
        memory = n ∙ g.memory;
        size = length-set es (i - 1) r.endpoint ∙ g.size;
        loop =
            λ x.
            rw (← records_write t id z k es g.size i r.endpoint (omega (arith, g.low), omega arith))
            (loop_goes (add id P base) (g.loop x) (flag_set 32 i adds l on)
            (copy_launch_one id base (P ⊕ 32 * (i + 1)) i (walk (with_records t id es) mask x port) d s) n);
        fits = rw one-mul at (mask_next i mask 1 g.fits (omega arith));
        byte = d.byte;
        few = omega (arith, g.few);
      }

  -- it is passed by
  pub adding_skips : Adding id P base adds t m₀ i es mask port m s → i < 32 → bit adds i ≡ false → Adding id P base adds t m₀ (i + 1) es mask port m s
  adding_skips g l off =
      let p : 2 ^ i ≤ 2 ^ (i + 1) = pow_mono {i = i} {j = i + 1} (omega arith) in
      record {
        low = omega (arith, g.low);
        high = omega arith;
        memory = g.memory;
        size = g.size;
        loop = λ x. loop_skips (add id P base) (g.loop x) (flag_clear 32 i adds l off);
        fits = omega (arith, g.fits);
        byte = g.byte;
        few = omega (arith, g.few);
      }

  -- none is left
  pub adding_ends : Adding id P base adds t m₀ i es mask port m s → 32 ≤ i
      → AddsAll id P base (set_bits 30 2 adds) t m₀ (record { table = with_records t id es; launched = mask; port = port; stored = s }) m
  unfolding add_all
  adding_ends g e =
      let p : 2 ^ i ≤ 2 ^ 32 = pow_mono {i = i} {j = 32} g.high in
      record {
        ends = λ x. loop_ends (add id P base) (g.loop x) (flags_done 32 i adds e);
        few = omega (arith, g.few, g.high);
        fits = omega (arith, g.fits);
        byte = g.byte;
      }
