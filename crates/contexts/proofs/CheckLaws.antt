-- What the code of the context check does is what the definition's program does. The last section is for callers.
-- Assumes nothing.
use mathlib.Core.Path.{◌≡◌, refl, sym, ◌∙◌}
use mathlib.Core.Logic.{inl, inr}
use mathlib.Core.Bool.{Bool, true, false, cond}
use Prim.Native.Nat.{ℕ, zero, suc, ◌+◌, ◌-◌, ◌*◌, ◌^◌, ◌≤◌, ◌<◌}
use native.Mathlib.Omega.{arith}
use borrow.Author.Tests.{ne_eqb}
use lib.ListN.{length}
use Rattle.guest.specs.Bytes.{number, ◌⊕◌, inside, located, bit, set_bits, type_of}
use Rattle.guest.specs.Prog.{Mem, Prog, done, block, run, Ends, Result, ok, refuse, and_then}
use Rattle.std.specs.Prelude.{Option, Some, None, Ok, Err}
use Rattle.std.specs.Prelude as std
use Rattle.std.specs.Option.{ok_or}
use Rattle.guest.proofs.RunLaws.{run_done, run_get, inside_yes, inside_no, need_yes, need_no, passes, refuses, located_at, located_outside, ends_test}
use Rattle.guest.proofs.LoopLaws.{Checking, checking_begins, checking_goes, checking_skips, checking_refuses, checking_ends}
use Rattle.definition.specs.Commands.{usb_types, check_type, context_check}
use Rattle.definition.specs.declared.Refusal.{Refusal}
use Rattle.definition.specs.declared.Refusal.TheVariants.{EndpointType, Outside}
use Rattle.definition.specs.Refusals.{code_of}
use Rattle.contexts.specs.Checks.{Checks, Judges, ChecksTypes}
use Rattle.guest.proofs.BitLaws.{flag_set, flag_clear, flags_done}

-- ---- the accepted types

pub type_low : (k : ℕ) → k < 2 → false ≡ usb_types k
type_low zero h = refl
type_low (suc zero) h = refl
type_low (suc (suc k)) h = absurd (omega arith)

pub type_other : (k : ℕ) → 2 ≤ k → (k ≡ 5 → ⊥) → true ≡ usb_types k
type_other k h n = rw (ne_eqb k 0 (λ e. omega arith), ne_eqb k 1 (λ e. omega arith), ne_eqb k 5 n)

-- ---- the two cases of an answer

ok_err : {A : Type 0} (x : A) (e : Refusal) → ◌≡◌ {A = std.Result A Refusal} (Ok x) (Err e) → ⊥
ok_err x e h = let z : ◌≡◌ {A = ℕ} 0 1 = cc in omega arith

-- ---- what an `ok_or` that passes or refuses tells of the Option

pub found_some : {A : Type 0} (o : Option A) (e : Refusal) {x : A} → ok_or o e ≡ Ok x → o ≡ Some x
found_some None e {x} h = absurd (ok_err x e (sym h))
found_some (Some y) e h = cc

pub refused_none : {A : Type 0} (o : Option A) (e : Refusal) {d : Refusal} → ok_or o e ≡ Err d → (o ≡ None) × (d ≡ e)
refused_none None e h = (refl, cc)
refused_none (Some y) e {d} h = absurd (ok_err y d h)

-- ---- one type byte

abbrev type_at : ℕ → ℕ → ℕ
type_at P i = P ⊕ (32 * (i + 1) + 4)

-- as the code finds its place, reads it and judges it
module _ (P i : ℕ) (m : Mem) {address : ℕ} {place : Option ℕ} (a : address ≡ type_at P i) (found : place ≡ located (length m) address 1) where
  pub type_outside : place ≡ None → Judges P i m (Err Outside)
  unfolding check_type run
  type_outside o =
      let h = inside_no _ _ _ (located_outside (length m) (type_at P i) 1 (rw a at (sym found ∙ o))) in
      record { ends = record { ends = rw (need_no _ _ _ _ h) }; codes = λ e d. let z : Outside ≡ e = cc in inr (sym z) }

  module _ {at byte kind : ℕ} {good : Bool} (here : place ≡ Some at) (b : byte ≡ number (block m at 1)) (k : kind ≡ type_of byte) (g : good ≡ usb_types kind) where
    lies : (at ≡ type_at P i) × (inside (length m) (type_at P i) 1 ≡ true)
    lies = located_at (length m) (type_at P i) 1 (rw a at (sym found ∙ here))

    judged : usb_types (type_of (number (block m (type_at P i) 1))) ≡ good
    judged = sym (g ∙ rw (k, b, lies.0))

    type_ends : Ends (check_type usb_types (length m) P i) m 0 (cond good (ok tt) (refuse 17)) m 0
    unfolding check_type
    type_ends = record { ends = rw (need_yes _ _ _ _ (inside_yes _ _ _ lies.1), run_get, judged) (ends_test _ _ m 0 good).ends }

    pub type_refused : good ≡ false → Judges P i m (Err EndpointType)
    type_refused d = record { ends = rw d at type_ends; codes = λ e h. let z : EndpointType ≡ e = cc in inl (sym z) }

    pub type_passes : good ≡ true → Judges P i m (Ok tt)
    type_passes d = record { ends = rw d at type_ends; codes = λ e h. absurd (ok_err tt e h) }

-- ---- the loop over the flags

module _ (P adds : ℕ) (m : Mem) where
  abbrev One : ℕ → Prog (Result Unit)
  One = check_type usb_types (length m) P

  -- those before i have passed
  abbrev pub CheckedTo : ℕ → Type 0
  CheckedTo i = Checking One (done (ok adds)) m 0 (set_bits 31 1 adds) (set_bits (32 - i) i adds)

  pub types_begin : CheckedTo 1
  types_begin = checking_begins One (done (ok adds)) m 0 (set_bits 31 1 adds)

  -- the turn at i
  module _ (i : ℕ) {flag : Bool} (left : i < 32) (f : flag ≡ bit adds i) (t : CheckedTo i) where
    pub type_skipped : flag ≡ false → CheckedTo (i + 1)
    type_skipped e = checking_skips One (done (ok adds)) t (flag_clear 32 i adds left (sym f ∙ e))

    module _ {r : std.Result Unit Refusal} (set : flag ≡ true) (j : Judges P i m r) where
      pub type_passed : r ≡ Ok tt → CheckedTo (i + 1)
      type_passed e = checking_goes One (done (ok adds)) t (flag_set 32 i adds left (sym f ∙ set)) (rw e at j.ends)

      pub type_failed : {e : Refusal} → r ≡ Err e → ChecksTypes P adds m (Err e)
      type_failed {e} h =
          let d : Ends (One i) m 0 (refuse (code_of e)) m 0 = rw h at j.ends in
          record {
            ends = checking_refuses One (done (ok adds)) t (flag_set 32 i adds left (sym f ∙ set)) d;
            flags = λ x k. absurd (ok_err x e (sym k));
            codes = λ c k. let z : e ≡ c = cc in rw z at (j.codes e h);
          }

  pub types_end : (i : ℕ) → 32 ≤ i → CheckedTo i → ChecksTypes P adds m (Ok adds)
  types_end i h t =
      record {
        ends = record { ends = checking_ends One (done (ok adds)) t (flags_done 32 i adds h) ∙ run_done (ok adds) m 0 };
        flags = λ x e. cc;
        codes = λ c e. absurd (ok_err adds c e);
      }

-- ---- the whole: the add flags are found, read, and handed to the loop

module _ (P : ℕ) (m : Mem) {address : ℕ} {place : Option ℕ} (a : address ≡ P ⊕ 4) (found : place ≡ located (length m) address 4) where
  pub flags_outside : place ≡ None → Checks P m (Err Outside)
  unfolding context_check run
  flags_outside o =
      let h = inside_no _ _ _ (located_outside (length m) (P ⊕ 4) 4 (rw a at (sym found ∙ o))) in
      record {
        ends = record { ends = rw (need_no _ _ _ _ h) };
        flags = λ x e. absurd (ok_err x Outside (sym e));
        fits = λ x e. absurd (ok_err x Outside (sym e));
        codes = λ c e. let z : Outside ≡ c = cc in inr (sym z);
      }

  pub flags_checked : {at adds : ℕ} {r : std.Result ℕ Refusal} → place ≡ Some at → adds ≡ number (block m at 4) → adds < 2 ^ 32 → ChecksTypes P adds m r → Checks P m r
  unfolding context_check
  flags_checked {at} {adds} {r} here b small w =
      let p = located_at (length m) (P ⊕ 4) 4 (rw a at (sym found ∙ here)) in
      let e : adds ≡ number (block m (P ⊕ 4) 4) = b ∙ rw p.0 in
      record {
        ends = record { ends = rw (need_yes _ _ _ _ (inside_yes _ _ _ p.1), run_get) (rw e at w.ends.ends) };
        flags = λ x d. w.flags x d ∙ e;
        fits = λ x d. omega (arith, w.flags x d);
        codes = w.codes;
      }

-- ---- for callers: a command goes on with the add flags, or is refused as a whole

module _ {B : Type 0} (P : ℕ) (m : Mem) (f : ℕ → Prog (Result B)) {r : std.Result ℕ Refusal} (w : Checks P m r) where
  pub check_goes_on : {adds : ℕ} → r ≡ Ok adds → run (and_then (context_check usb_types (length m) P) f) m 0 ≡ run (f adds) m 0
  check_goes_on {adds} e = let d : Ends (context_check usb_types (length m) P) m 0 (ok adds) m 0 = rw e at w.ends in passes f d

  pub check_refuses : {c : Refusal} → r ≡ Err c → Ends (and_then (context_check usb_types (length m) P) f) m 0 (refuse (code_of c)) m 0
  check_refuses {c} e = let d : Ends (context_check usb_types (length m) P) m 0 (refuse (code_of c)) m 0 = rw e at w.ends in refuses f d
