-- A trace's records one after the other, and the answers' numbers one behind the other.
-- Assumes nothing.
use mathlib.Core.Path.{◌≡◌, refl, sym, ap, ◌∙◌}
use mathlib.Core.List.{List, [], ◌∷◌, ◌++◌, append_assoc, append-nil}
use Prim.Native.Nat.{ℕ, suc, ◌+◌, ◌-◌, ◌*◌, ◌≤◌, ◌<◌, min}
use native.Mathlib.Omega.{arith}
use native.Mathlib.Decide.{dec_le}
use lib.ListN.{length, take, drop, length-append, length-drop, drop_of_length-le}
use lib.Seq.{take_all, drop-drop}
use borrow.Rule.Slice.PartMut.{put_mid}
use Rattle.guest.specs.Prog.{splice}
use Rattle.guest.proofs.SpliceLaws.{splice_parts}
use Rattle.std.proofs.Math.Seq.{take-append_seam, drop-append_seam}
use Rattle.std.proofs.lemmas.List.{nil_from_length}
use Rattle.definition.specs.declared.Answer.{Answer}
use Rattle.trace.specs.Records.{entry_of}
use Rattle.session.specs.Sessions.{records, records_in, entries, numbers, all_numbers}

-- ---- the records

-- none are left
pub entries_none : (len : ℕ) (bs : List ℕ) → length bs ≡ 0 → entries len bs ≡ []
unfolding entries records
entries_none len bs e = let z : records_in (length bs) ≡ 0 = omega (arith, e) in rw z

-- the first, and the others
pub entries_more : (len : ℕ) (bs : List ℕ) → 0 < length bs → entries len bs ≡ entry_of len (take 32 bs) ∷ entries len (drop 32 bs)
unfolding entries records
entries_more len bs h =
    let s : records_in (length bs) ≡ suc (records_in (length (drop 32 bs))) = omega (arith, length-drop 32 bs) in
    rw s

-- the first is x, and the others are those of l'
pub entries_first : (len : ℕ) {l : List ℕ} (x l' : List ℕ) → l ≡ x ++ l' → length x ≡ min 32 (length l) → 0 < length l → entries len l ≡ entry_of len x ∷ entries len l'
entries_first len {l} x l' p n h =
    let sum : length l ≡ length x + length l' = ap length p ∙ length-append x l' in
    entries_more len l h ∙ (λ i. entry_of len (first sum i) ∷ entries len (others sum i))
  where
    first : length l ≡ length x + length l' → take 32 l ≡ x
    first sum = elim (dec_le 32 (length l)) [
      | yes w ↦ (let e : 32 ≡ length x = omega arith in rw (p, e) (take-append_seam x l'))
      | no s ↦ (let e : length l ≤ 32 = omega arith in let z : l' ≡ [] = nil_from_length l' (omega arith) in take_all 32 l e ∙ p ∙ rw z (append-nil x))
    ]

    others : length l ≡ length x + length l' → drop 32 l ≡ l'
    others sum = elim (dec_le 32 (length l)) [
      | yes w ↦ (let e : 32 ≡ length x = omega arith in rw (p, e) (drop-append_seam x l'))
      | no s ↦ (let z : l' ≡ [] = nil_from_length l' (omega arith) in rw z (drop_of_length-le l {i = 32} (omega arith)))
    ]

-- ---- the answers

pub numbers_length : (xs : List Answer) → length (all_numbers xs) ≡ 8 * length xs
unfolding all_numbers
numbers_length [] = refl
numbers_length (a ∷ xs) = omega (arith, numbers_length xs)

pub numbers_append : (xs ys : List Answer) → all_numbers (xs ++ ys) ≡ all_numbers xs ++ all_numbers ys
unfolding all_numbers
numbers_append [] ys = refl
numbers_append (a ∷ xs) ys = ap (λ (l : List ℕ). numbers a ++ l) (numbers_append xs ys) ∙ sym (append_assoc (numbers a) (all_numbers xs) (all_numbers ys))

-- eight numbers were put at a
pub put_numbers : (ns : List ℕ) (at : ℕ) (a : Answer) {ys : List ℕ} → at + 8 ≤ length ns → ys ≡ numbers a → put_mid at (at + 8 - at) ns ys ≡ splice ns at (numbers a)
put_numbers ns at a {ys} h e =
    let k : at + 8 - at ≡ 8 = omega arith in
    rw (k, e, drop-drop 8 at ns) (sym (splice_parts ns at (numbers a) h))
