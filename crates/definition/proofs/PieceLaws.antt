-- The pieces of the commands: what launch, copy and terminate read and how they may end.
-- Assumes nothing.
use mathlib.Core.Path.{◌≡◌}
use mathlib.Core.Logic.{◌⊎◌, inl, inr, ⊎_elim}
use mathlib.Core.List.{List}
use Prim.Native.Nat.{ℕ, ◌+◌, ◌*◌, ◌≤◌}
use native.Mathlib.Omega.{arith}
use lib.ListN.{length}
use Rattle.guest.specs.Bytes.{◌⊕◌}
use Rattle.guest.specs.Prog.{Mem, block, Within, Reads}
use Rattle.guest.specs.Forms.{Blind}
use Rattle.guest.proofs.SpliceLaws.{block_length}
use Rattle.guest.proofs.ReadLaws.{reads_done, reads_get, reads_put, reads_bind}
use Rattle.guest.proofs.FormLaws.{blind_choose, blind_bind, blind_each}
use Rattle.definition.specs.Types.{SlotState, Slot, Table, Endpoint}
use Rattle.definition.specs.Steps.{launch_at, terminate_at}
use Rattle.definition.specs.Walks.{Walk, terminate, terminate_all, launch, copy_launch}
use Rattle.definition.specs.Commands.{finish, deconfigure, freeing}

-- the launch of a context that was just stored reads, beside base+6, none but bytes of it
launch_at_reads : (at : ℕ) (m : Mem) (a : ℕ) → Reads (launch_at at) m a → Within at 32 a
unfolding launch_at
launch_at_reads at m a r =
    let one = reads_put _ _ _ m a r in
    ⊎_elim (λ w. omega arith) (λ q. absurd (reads_done _ _ a q)) (reads_get _ _ _ _ a one.1)

-- a copied endpoint is launched from what was copied: beside the input context only base+6 is read
pub copy_reads : (id base c i : ℕ) (w : Walk) (m : Mem) (a : ℕ) → c + 32 ≤ length m → Reads (copy_launch id base c i w) m a
    → Within c 32 a ⊎ ((Within (base ⊕ 32 * i) 32 a → ⊥) × Within (base + 6) 1 a)
unfolding copy_launch launch
copy_reads id base c i w m a h r =
    let context = block m c 32 in
    let l : length context ≡ 32 = block_length m c 32 h in
    ⊎_elim inl
    (λ q.
    let two = reads_put _ _ _ m a q in
    let fresh : Within (base ⊕ 32 * i) 32 a → ⊥ = λ v. two.0 (rw l v) in
    inr (
      fresh,
      ⊎_elim (λ v. v)
          (λ v. absurd (⊎_elim (λ u. fresh (launch_at_reads _ _ a u)) (λ u. reads_done _ _ a u.1) (reads_bind _ _ _ 0 a v)))
          (reads_get _ _ _ _ a two.1),
    ))
    (reads_get _ _ _ m a r)

-- ---- what reads nothing

terminate_at_blind : (e : Endpoint) (at : ℕ) → Blind (terminate_at e at)
unfolding terminate_at Blind
terminate_at_blind e at = blind_choose _ _ _ tt tt

pub terminate_blind : (id base i : ℕ) (w : Walk) → Blind (terminate id base i w)
unfolding terminate Blind
terminate_blind id base i w = blind_bind _ _ (terminate_at_blind _ _) (λ f. tt)

pub terminate_all_blind : (id base : ℕ) (is : List ℕ) (w : Walk) → Blind (terminate_all id base is w)
unfolding terminate_all
terminate_all_blind id base is w = blind_each is _ w (terminate_blind id base)

pub finish_blind : (id : ℕ) (s : Slot) (next : SlotState) (w : Walk) → Blind (finish id s next w)
unfolding finish Blind
finish_blind id s next w = tt

pub deconfigure_blind : (id : ℕ) (s : Slot) (next : SlotState) (t : Table) → Blind (deconfigure id s next t)
unfolding deconfigure
deconfigure_blind id s next t = blind_bind _ _ (terminate_all_blind _ _ _ _) (finish_blind id s next)

pub freeing_blind : (id : ℕ) (t : Table) → Blind (freeing id t)
unfolding freeing Blind
freeing_blind id t = blind_bind _ _ (terminate_all_blind _ _ _ _) (λ w. tt)
