-- How a call begins: 198, 194, 11 and 12 in their order, with a law for each way past them.
-- Assumes nothing.
use mathlib.Core.Path.{◌≡◌, refl, ap, ◌∙◌}
use mathlib.Core.Logic.{⊎_elim}
use Prim.Native.Nat.{ℕ}
use borrow.Author.Tests.{eqb-true, eq-eqb}
use lib.ListN.{length}
use Rattle.guest.specs.Prog.{Mem, Prog, done, Reads, Result, refuse}
use Rattle.guest.specs.Forms.{Blind, Clean, Gives}
use Rattle.guest.proofs.RunLaws.{choose_yes}
use Rattle.guest.proofs.ReadLaws.{reads_done, reads_choose}
use Rattle.guest.proofs.FormLaws.{blind_choose, clean_choose, gives_choose}
use Rattle.definition.specs.Types.{Endpoint, Slot, Table, Option, Some, None}
use Rattle.definition.specs.Table.{lookup}
use Rattle.definition.specs.Commands.{formed, lent, found, on_slot, on_endpoint}
use Rattle.definition.specs.Rules.{Opened}

module _ {A : Type 0} where
  -- ---- what is read past them

  found_reads : (l : Option Slot) (c : ℕ) (f : Slot → Prog (Result A)) (m : Mem) (a : ℕ) → Reads (found l (done (refuse c)) f) m a → (s : Slot) × (l ≡ Some s) × Reads (f s) m a
  found_reads (Some s) c f m a r = (s, refl, r)
  found_reads None c f m a r = absurd (reads_done _ m a r)

  pub slot_reads : (absent : ℕ) (t : Table) (id : ℕ) (f : Slot → Prog (Result A)) (m : Mem) (a : ℕ) → Reads (on_slot absent t (length m) id f) m a
      → (s : Slot) × Opened t m id s × Reads (f s) m a
  unfolding on_slot formed lent
  slot_reads absent t id f m a r =
      ⊎_elim
      (λ one. ⊎_elim
      (λ two.
      let q = found_reads (lookup t id) absent f m a two.1 in
      (q.0, record { formed = one.0; size = eqb-true _ _ two.0; used = q.1 }, q.2))
      (λ two. absurd (reads_done _ m a two.1))
      (reads_choose _ _ _ m a one.1))
      (λ one. absurd (reads_done _ m a one.1))
      (reads_choose _ _ _ m a r)

  -- ---- past them

  pub slot_opens : (absent : ℕ) (t : Table) (id : ℕ) (f : Slot → Prog (Result A)) (m : Mem) (s : Slot) → Opened t m id s → on_slot absent t (length m) id f ≡ f s
  unfolding on_slot formed lent
  slot_opens absent t id f m s o =
      choose_yes _ _ _ o.formed ∙ choose_yes _ _ _ (eq-eqb _ _ o.size) ∙ ap (λ (l : Option Slot). found l (done (refuse absent)) f) o.used

  -- ---- what each way has, the whole has

  found_blind : (l : Option Slot) (c : ℕ) (f : Slot → Prog (Result A)) → ((s : Slot) → Blind (f s)) → Blind (found l (done (refuse c)) f)
  unfolding Blind
  found_blind (Some s) c f b = b s
  found_blind None c f b = tt

  pub slot_blind : (absent : ℕ) (t : Table) (len id : ℕ) (f : Slot → Prog (Result A)) → ((s : Slot) → Blind (f s)) → Blind (on_slot absent t len id f)
  unfolding on_slot formed lent Blind
  slot_blind absent t len id f b = blind_choose _ _ _ (blind_choose _ _ _ (found_blind (lookup t id) absent f b) tt) tt

  pub endpoint_blind : (absent : ℕ) (t : Table) (id i : ℕ) (f : Endpoint → Prog (Result A)) → ((e : Endpoint) → Blind (f e)) → Blind (on_endpoint absent t id i f)
  unfolding on_endpoint Blind
  endpoint_blind absent t id i f b = blind_choose _ _ _ (b _) tt

  found_clean : (l : Option Slot) (c : ℕ) (f : Slot → Prog (Result A)) → ((s : Slot) → Clean (f s)) → Clean (found l (done (refuse c)) f)
  unfolding Clean
  found_clean (Some s) c f b = b s
  found_clean None c f b = tt

  pub slot_clean : (absent : ℕ) (t : Table) (len id : ℕ) (f : Slot → Prog (Result A)) → ((s : Slot) → Clean (f s)) → Clean (on_slot absent t len id f)
  unfolding on_slot formed lent Clean
  slot_clean absent t len id f b = clean_choose _ _ _ (clean_choose _ _ _ (found_clean (lookup t id) absent f b) tt) tt

  pub endpoint_clean : (absent : ℕ) (t : Table) (id i : ℕ) (f : Endpoint → Prog (Result A)) → ((e : Endpoint) → Clean (f e)) → Clean (on_endpoint absent t id i f)
  unfolding on_endpoint Clean
  endpoint_clean absent t id i f b = clean_choose _ _ _ (b _) tt

  module _ (P : Result A → Type 0) where
    found_gives : (l : Option Slot) (c : ℕ) (f : Slot → Prog (Result A)) → P (refuse c) → ((s : Slot) → Gives P (f s)) → Gives P (found l (done (refuse c)) f)
    unfolding Gives
    found_gives (Some s) c f r b = b s
    found_gives None c f r b = r

    pub slot_gives : (absent : ℕ) (t : Table) (len id : ℕ) (f : Slot → Prog (Result A)) → P (refuse 198) → P (refuse 194) → P (refuse absent)
        → ((s : Slot) → Gives P (f s)) → Gives P (on_slot absent t len id f)
    unfolding on_slot formed lent Gives
    slot_gives absent t len id f p q r b =
        gives_choose P _ _ _ (λ _. gives_choose P _ _ _ (λ _. found_gives (lookup t id) absent f r b) (λ _. q)) (λ _. p)

    pub endpoint_gives : (absent : ℕ) (t : Table) (id i : ℕ) (f : Endpoint → Prog (Result A)) → P (refuse absent) → ((e : Endpoint) → Gives P (f e))
        → Gives P (on_endpoint absent t id i f)
    unfolding on_endpoint Gives
    endpoint_gives absent t id i f r b = gives_choose P _ _ _ (λ _. b _) (λ _. r)
