-- What a record tells, for the code that reads it and for its callers.
-- Assumes nothing.
use Rattle.std.proofs.Common.{◌≡◌, ◌≢◌, refl, sym, subst, ◌∙◌, Bool, true, false, cond, ◌&&◌, ℕ, ◌≤◌, ◌<◌, List, [], ◌∷◌, length, get_or, Result, Ok, Err, zero, suc, arith}
use Rattle.std.specs.Prelude.{IsErr}
use native.Mathlib.Decide.{dec_le}
use borrow.Author.Tests.{ne_eqb, ltb-true}
use lib.Dec.{eqb, ltb}
use lib.ListN.{get_or-eq_default}
use Rattle.trace.specs.declared.BadRecord.{BadRecord}
use Rattle.trace.specs.declared.Byte.{Byte}
use Rattle.trace.specs.declared.Entry.{Entry}
use Rattle.trace.specs.declared.Entry.TheVariants.{Call, Store}
use Rattle.trace.specs.declared.record.Fields.{Fields}
use Rattle.trace.specs.declared.record.Kind.{Kind}
use Rattle.trace.specs.declared.record.Kind.TheVariants as kind
use Rattle.trace.specs.Kinds.{number_of}
use Rattle.trace.specs.Records.{fields_of, kinds, nothing, uses_of, clean, bad, store_of, entries, told, entry_of}

-- a kind past the last uses nothing
pub uses_unknown : (k : ℕ) → 18 < k → nothing ≡ uses_of k
unfolding uses_of
uses_unknown k h = sym (get_or-eq_default kinds nothing h)

-- a number that no kind has, if it is not 0, is past them all
above_all : (n : ℕ) → ((k : Kind) → n ≢ number_of k) → 0 < n → 19 ≤ n
above_all n h p =
    omega (
      arith,
      h kind.SetLimit,
      h kind.SetDcbaap,
      h kind.EnableSlot,
      h kind.DisableSlot,
      h kind.AddressDevice,
      h kind.ConfigureEndpoint,
      h kind.EvaluateContext,
      h kind.ResetDevice,
      h kind.ResetAll,
      h kind.StopEndpoint,
      h kind.ResetEndpoint,
      h kind.SetDequeue,
      h kind.Doorbell,
      h kind.Ok,
      h kind.Stall,
      h kind.TransactionError,
      h kind.TrbError,
      h kind.GuestStore,
    )

-- there is one error
is_bad : (x : Result Entry BadRecord) → IsErr x → x ≡ bad
is_bad (Ok y) e = cc
is_bad (Err y) e = refl

module _ (len : ℕ) where
  -- an unknown kind tells nothing
  pub told_none : (f : Fields) → ((k : Kind) → f.kind ≢ number_of k) → told len f ≡ bad
  unfolding told
  told_none f h = elim (dec_le 1 f.kind) [ yes p ↦ get_or-eq_default (entries len f) bad (above_all f.kind h p) | no p ↦ (let z : f.kind ≡ 0 = omega arith in rw z) ]

  module _ (r : List ℕ) where
    -- a record of an unknown kind is bad
    pub kind_unknown : {f : Fields} {x : Result Entry BadRecord} → f ≡ fields_of r → ((k : Kind) → f.kind ≢ number_of k) → IsErr x → x ≡ entry_of len r
    unfolding entry_of
    kind_unknown {f} {x} d h e =
        let t : told len (fields_of r) ≡ bad = told_none (fields_of r) (λ k. subst (λ (g : Fields). g.kind ≢ number_of k) d (h k)) in
        is_bad x e ∙ by (eqb (length r) 32 && clean (uses_of (fields_of r).kind) (fields_of r)) t
      where
        by : (b : Bool) → told len (fields_of r) ≡ bad → bad ≡ cond b (told len (fields_of r)) bad
        by true t = sym t
        by false t = refl

    -- a record of another length than 32 is bad
    pub length_other : (length r ≡ 32 → ⊥) → bad ≡ entry_of len r
    unfolding entry_of
    length_other n = rw (ne_eqb (length r) 32 n)

  -- ---- a guest store is of a byte, inside memory

  abbrev Fits : Result Entry BadRecord → Type 0
  Fits (Ok (Store b)) = (b.address < len) × (b.value < 256)
  Fits (Ok (Call c)) = Unit {0}
  Fits (Err e) = Unit {0}

  store_fits : (f : Fields) → Fits (store_of len f)
  store_fits f = by_tests (ltb f.value 256) (ltb f.pointer len) refl refl
    where
      by_tests : (v p : Bool) → ltb f.value 256 ≡ v → ltb f.pointer len ≡ p → Fits (store_of len f)
      by_tests true true e d = rw (e, d) (ltb-true f.pointer len d, ltb-true f.value 256 e)
      by_tests true false e d = rw (e, d) tt
      by_tests false p e d = rw e tt

  -- each of some entries does
  abbrev Each : List (Result Entry BadRecord) → Type 0
  Each [] = Unit {0}
  Each (x ∷ l) = Fits x × Each l

  each_at : (l : List (Result Entry BadRecord)) (k : ℕ) → Each l → Fits (get_or l k bad)
  each_at [] k h = tt
  each_at (x ∷ l) zero h = h.0
  each_at (x ∷ l) (suc k) h = each_at l k h.1

  told_fits : (f : Fields) → Fits (told len f)
  unfolding told
  told_fits f =
      each_at (entries len f) f.kind
      (tt, (tt, (tt, (tt, (tt, (tt, (tt, (tt, (tt, (tt, (tt, (tt, (tt, (tt, (tt, (tt, (tt, (tt, (store_fits f, tt)))))))))))))))))))

  entry_fits : (r : List ℕ) → Fits (entry_of len r)
  unfolding entry_of
  entry_fits r = by_test (eqb (length r) 32 && clean (uses_of (fields_of r).kind) (fields_of r))
    where
      by_test : (b : Bool) → Fits (cond b (told len (fields_of r)) bad)
      by_test true = told_fits (fields_of r)
      by_test false = tt

  pub entry_stores : (r : List ℕ) {b : Byte} → entry_of len r ≡ Ok (Store b) → (b.address < len) × (b.value < 256)
  entry_stores r {b} e = let w : Fits (Ok (Store b)) = rw e at (entry_fits r) in w
