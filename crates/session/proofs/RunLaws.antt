-- How a run begins: 198, then 194, then 200, or it is played.
-- Assumes nothing.
use mathlib.Core.Path.{◌≡◌, refl, sym, ap, ◌∙◌}
use mathlib.Core.Bool.{true, false, cond}
use mathlib.Core.List.{List}
use Prim.Native.Nat.{ℕ, ◌*◌, ◌≤◌}
use native.Mathlib.Omega.{arith}
use borrow.Author.Tests.{le-leb, eq-eqb, ne_eqb}
use lib.Dec.{eqb}
use lib.ListN.{length}
use Rattle.std.specs.Prelude.{Result, Ok, Err, IsOkAnd}
use Rattle.guest.specs.Prog.{Mem}
use Rattle.definition.specs.declared.Refusal.{Refusal}
use Rattle.definition.specs.declared.Table.{Table}
use Rattle.definition.specs.Refusals.{code_of}
use Rattle.definition.proofs.RefusalLaws.{code_above, one_code}
use Rattle.scan.specs.Heads.{Begun, number, checked, code_for}
use Rattle.scan.proofs.OpeningLaws.{code_checked}
use Rattle.formed.specs.Promises.{Ready}
use Rattle.session.specs.declared.Ran.{Ran}
use Rattle.session.specs.declared.Refused.{Refused}
use Rattle.session.specs.declared.Refused.TheVariants.{Call, NoRoom}
use Rattle.session.specs.Refusals.{number_of}
use Rattle.session.specs.Sessions.{records_in, Plays, room_for, refused_with, Runs}

module _ (t : Table) (m : Mem) (bs ns : List ℕ) {r : Begun (Unit {0})} (e : r ≡ checked t (length m)) where
  -- the refusal of a call that lends the memory
  pub runs_refused : {x : Refusal} → r ≡ Err x → Runs t m bs ns (Err (Call x)) m ns
  unfolding refused_with
  runs_refused {x} z =
      let k : code_of x ≡ code_for t (length m) = sym (ap number z) ∙ code_checked t (length m) e in
      record {
        code = by (code_for t (length m)) k;
        kept = (refl, refl);
        played = tt;
      }
    where
      by : (n : ℕ) → code_of x ≡ n → code_of x ≡ cond (eqb n 0) (cond (room_for (length bs) (length ns)) 0 200) n
      by n k = let o : eqb n 0 ≡ false = ne_eqb n 0 (λ w. omega (arith, (code_above x).0, k, w)) in k ∙ sym (rw o)

  module _ {x : Unit {0}} (z : r ≡ Ok x) where
    none : code_for t (length m) ≡ 0
    none = sym (code_checked t (length m) e) ∙ ap number z

    pub runs_roomless : room_for (length bs) (length ns) ≡ false → Runs t m bs ns (Err NoRoom) m ns
    unfolding refused_with
    runs_roomless f = record { code = sym (rw (none, f)); kept = (refl, refl); played = tt }

    pub runs_played : room_for (length bs) (length ns) ≡ true → {y : Ran} {m' ns' : List ℕ} → Plays t m bs ns y m' ns' → Runs t m bs ns (Ok y) m' ns'
    unfolding refused_with
    runs_played f p = record { code = sym (rw (none, f)); kept = tt; played = p }

-- the numbers are above 0, and no two are the same
some_code : (e : Refused) → 0 ≡ number_of e → ⊥
some_code (Call x) h = omega (arith, (code_above x).0, h)
some_code NoRoom h = omega (arith, h)

one_number : (e f : Refused) → number_of e ≡ number_of f → e ≡ f
one_number (Call x) (Call y) h = ap (λ (z : Refusal). Call z) (one_code x y h)
one_number (Call x) NoRoom h = absurd (omega (arith, (code_above x).1, h))
one_number NoRoom (Call y) h = absurd (omega (arith, (code_above y).1, h))
one_number NoRoom NoRoom h = refl

-- a well formed table of the memory's length, and room: nothing is refused
pub ready_plays : {t : Table} {m bs ns : List ℕ} {r : Result Ran Refused} {m' ns' : List ℕ} → Ready t m → 8 * records_in (length bs) ≤ length ns → Runs t m bs ns r m' ns'
    → IsOkAnd r (λ x. Plays t m bs ns x m' ns')
unfolding refused_with code_for
ready_plays {t} {m} {bs} {ns} {r} w h x = by r x
  where
    none : refused_with t m bs ns ≡ 0
    none = rw (w.formed, eq-eqb t.length (length m) w.size, le-leb (8 * records_in (length bs)) (length ns) h)

    by : (r : Result Ran Refused) {m' ns' : List ℕ} → Runs t m bs ns r m' ns' → IsOkAnd r (λ x. Plays t m bs ns x m' ns')
    by (Ok y) x = x.played
    by (Err e) x = absurd (some_code e (sym (x.code ∙ none)))

-- ---- the contract leaves one end

one_play : {t : Table} {m bs ns : List ℕ} {r s : Ran} {m₁ ns₁ m₂ ns₂ : List ℕ} → Plays t m bs ns r m₁ ns₁ → Plays t m bs ns s m₂ ns₂ → (r ≡ s) × (m₁ ≡ m₂) × (ns₁ ≡ ns₂)
one_play {r = r} {s} p q =
    let a : r.table ≡ s.table = p.table ∙ sym q.table in
    let c : r.answered ≡ s.answered = p.answered ∙ sym q.answered in
    let d : r.bad ≡ s.bad = p.bad ∙ sym q.bad in
    (λ i. record { table = a i; answered = c i; bad = d i }, p.memory ∙ sym q.memory, p.numbers ∙ sym q.numbers)

pub one_run : {t : Table} {m bs ns : List ℕ} {r s : Result Ran Refused} {m₁ ns₁ m₂ ns₂ : List ℕ} → Runs t m bs ns r m₁ ns₁ → Runs t m bs ns s m₂ ns₂ → (r ≡ s) × (m₁ ≡ m₂) × (ns₁ ≡ ns₂)
one_run {t} {m} {bs} {ns} {r} {s} {m₁} {ns₁} {m₂} {ns₂} p q = by r s p q
  where
    by : (r s : Result Ran Refused) → Runs t m bs ns r m₁ ns₁ → Runs t m bs ns s m₂ ns₂ → (r ≡ s) × (m₁ ≡ m₂) × (ns₁ ≡ ns₂)
    by (Ok x) (Ok y) p q = let o = one_play p.played q.played in (ap (λ (x : Ran). Ok x) o.0, o.1, o.2)
    by (Ok x) (Err f) p q = absurd (some_code f (p.code ∙ sym q.code))
    by (Err e) (Ok y) p q = absurd (some_code e (q.code ∙ sym p.code))
    by (Err e) (Err f) p q = (ap (λ (x : Refused). Err x) (one_number e f (p.code ∙ sym q.code)), p.kept.0 ∙ sym q.kept.0, p.kept.1 ∙ sym q.kept.1)
