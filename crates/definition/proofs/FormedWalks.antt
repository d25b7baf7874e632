-- What a walk over a slot's endpoints keeps: the other slots, and that each record serves for the slot's base.
-- Assumes nothing.
use mathlib.Core.Path.{◌≡◌, refl, sym, subst}
use mathlib.Core.Bool.{true, false}
use mathlib.Core.List.{List}
use Prim.Native.Nat.{ℕ, ◌+◌, ◌*◌, ◌≤◌, ◌<◌}
use native.Mathlib.Omega.{arith}
use native.Mathlib.Decide.{ℕ_discrete}
use Rattle.guest.specs.Bytes.{◌⊕◌, count}
use Rattle.guest.specs.Prog.{done, put, bind}
use Rattle.guest.specs.Forms.{Gives}
use Rattle.guest.proofs.ListLaws.{All, all_both}
use Rattle.guest.proofs.FormLaws.{gives_choose, gives_bind, gives_each, gives_counted}
use Rattle.definition.specs.Types.{Endpoint, Table}
use Rattle.definition.specs.Table.{is_disabled, disabled, endpoint_of, with_endpoint, is_zero, endpoint_ok}
use Rattle.definition.specs.Steps.{launch_at, terminate_at}
use Rattle.definition.specs.Walks.{Walk, terminate, terminate_all, launch, copy_launch}
use Rattle.definition.specs.Commands.{add, add_all}
use Rattle.definition.proofs.TableLaws.{Sized, IsSlot, IsEndpoint, endpoint_here, endpoint_other}
use Rattle.definition.proofs.FormedFacts.{Proper, zero_ok, ok_zero, enabled_ok, Serve, InUse}
use Rattle.definition.proofs.FormedTables.{Beside, beside_same, beside_endpoint}

-- each record of a slot has F
abbrev pub Each : ℕ → (ℕ → Endpoint → Type 0) → Table → Type 0
Each id F u = (i : ℕ) → IsEndpoint i → F i (endpoint_of u id i)

-- u is a table on the way of a command that began with t, on slot id with this base; F is what the command needs besides
pub record Kept (t : Table) (id base : ℕ) (F : ℕ → Endpoint → Type 0) (u : Table) : Type 0 where
  pub beside : Beside id t u
  pub serve : Serve t.length base id u
  pub more : Each id F u

-- a record stored, when the others that have F have G
each_stored : (F G : ℕ → Endpoint → Type 0) (u : Table) (id i : ℕ) (e : Endpoint) → Sized u → IsSlot id → IsEndpoint i → G i e
    → ((j : ℕ) (f : Endpoint) → (j ≡ i → ⊥) → F j f → G j f) → Each id F u → Each id G (with_endpoint u id i e)
each_stored F G u id i e z s n g rest a j m = by (ℕ_discrete j i)
  where
    by : Dec (j ≡ i) → G j (endpoint_of (with_endpoint u id i e) id j)
    by (yes q) = rw (q, endpoint_here u id i e z s n) g
    by (no q) = rw (endpoint_other u id i j e n.0 m.0 q) (rest j (endpoint_of u id j) q (a j m))

-- one endpoint of the walk: what F says of the others, G says of them
module _ (t : Table) (id base : ℕ) (s : IsSlot id) (F G : ℕ → Endpoint → Type 0) (i : ℕ) (n : IsEndpoint i)
    (rest : (j : ℕ) (f : Endpoint) → (j ≡ i → ⊥) → F j f → G j f) where
  -- a record serves
  abbrev Serves : ℕ → Endpoint → Type 0
  Serves j f = endpoint_ok t.length base j f ≡ true

  -- a record stored that serves
  pub kept_stored : {u : Table} → Kept t id base F u → (e : Endpoint) → Serves i e → G i e → Kept t id base G (with_endpoint u id i e)
  kept_stored {u} k e h g =
      record {
        beside = beside_endpoint k.beside s i n e;
        serve = each_stored Serves Serves u id i e k.beside.sized s n h (λ j f q o. o) k.serve;
        more = each_stored F G u id i e k.beside.sized s n g rest k.more;
      }

  -- after a terminate the record is all zero
  pub terminate_kept : ((e : Endpoint) → is_zero e ≡ true → G i e) → (w : Walk) → Kept t id base F w.table
      → Gives (λ v. Kept t id base G v.table) (terminate id base i w)
  unfolding terminate terminate_at Gives is_zero
  terminate_kept g w k =
      let e = endpoint_of w.table id i in
      gives_bind (λ f. is_zero f ≡ true) _ (terminate_at e (base ⊕ 32 * i)) _
      (gives_choose _ (is_disabled e) (done e) (put (base ⊕ 32 * i) _ (done disabled)) (λ d. ok_zero _ base i e (k.serve i n) d) (λ d. refl))
      (λ f z. kept_stored k f (zero_ok _ base i f z) (g f z))

  -- after a launch it is enabled
  pub launch_kept : (base ⊕ 32 * i) + 32 ≤ t.length → ((e : Endpoint) → is_disabled e ≡ false → G i e) → (c : ℕ) (w : Walk)
      → Kept t id base F w.table → Gives (λ v. Kept t id base G v.table) (copy_launch id base c i w)
  unfolding copy_launch launch launch_at bind Gives
  launch_kept h g c w k = λ context port word. kept_stored k _ (enabled_ok _ base i _ refl h (omega arith)) (g _ refl)

-- ---- lists of endpoints

-- endpoint 1 is enabled
abbrev pub First : ℕ → Endpoint → Type 0
First j e = j ≡ 1 → is_disabled e ≡ false

-- the endpoints below n are all zero
abbrev pub Cleared : ℕ → ℕ → Endpoint → Type 0
Cleared n j e = j < n → is_zero e ≡ true

-- an endpoint past the first
abbrev pub Second : ℕ → Type 0
Second i = (2 ≤ i) × (i ≤ 31)

module _ (t : Table) (id base : ℕ) (s : IsSlot id) where
  -- terminates past endpoint 1 leave it enabled
  pub terminates_kept : (is : List ℕ) → All Second is → (w : Walk) → Kept t id base First w.table
      → Gives (λ v. Kept t id base First v.table) (terminate_all id base is w)
  unfolding terminate_all
  terminates_kept is a w k =
      gives_each Second (λ v. Kept t id base First v.table) is (terminate id base) w a k
      (λ i n v h. terminate_kept t id base s First First i (omega arith, n.1) (λ j f q o. o) (λ e z q. absurd (omega arith)) v h)

  -- so do adds, each of a context that lies in memory
  pub adds_kept : (P : ℕ) (is : List ℕ) → All Second is → All (λ i. (base ⊕ 32 * i) + 32 ≤ t.length) is → (w : Walk) → Kept t id base First w.table
      → Gives (λ v. Kept t id base First v.table) (add_all id P base is w)
  unfolding add_all add
  adds_kept P is a b w k =
      gives_each (λ i. Second i × ((base ⊕ 32 * i) + 32 ≤ t.length)) (λ v. Kept t id base First v.table) is (add id P base) w (all_both a b) k
      (λ i n v h. launch_kept t id base s First First i (omega arith, n.0.1) (λ j f q o. o) n.1 (λ e d q. d) _ v h)

  -- terminates of all leave them all zero
  pub clears : (w : Walk) → Kept t id base (Cleared 1) w.table → Gives (λ v. Kept t id base (Cleared 32) v.table) (terminate_all id base (count 31 1) w)
  unfolding terminate_all
  clears w k =
      gives_counted (λ j v. Kept t id base (Cleared j) v.table) 31 1 (terminate id base) w k
      (λ i l h. terminate_kept t id base s (Cleared i) (Cleared (i + 1)) i (l, omega arith) (λ j f q o r. o (omega arith)) (λ e z r. z))

-- ---- how a walk begins, and what its end asks for

pub began : {t : Table} → Proper t → (id base : ℕ) (F : ℕ → Endpoint → Type 0) → Serve t.length base id t → Each id F t → Kept t id base F t
began p id base F s m = record { beside = beside_same id p; serve = s; more = m }

-- a slot in use begins with endpoint 1 enabled
pub began_used : {t : Table} → Proper t → (id base : ℕ) → InUse t.length base id t → Kept t id base First t
began_used p id base u = began p id base First u.serve (λ i n e. rw e u.first)

-- where the first 64 bytes lie in memory, a slot in use ends as one
pub kept_used : {t u : Table} {id base : ℕ} → base + 64 ≤ t.length → Kept t id base First u → InUse u.length base id u
kept_used {t} {u} {id} {base} h k =
    subst (λ (len : ℕ). InUse len base id u) (sym k.beside.length)
    (record { first = k.more 1 (omega arith, omega arith) refl; room = h; serve = k.serve })
