-- A part of memory that is lent, `&mut m[a..]`, and comes back.
-- Assumes nothing.
use Rattle.std.proofs.Common.{◌≡◌, ℕ, zero, suc, ◌+◌, ◌-◌, ◌≤◌, List, [], ◌∷◌, ◌++◌, length, take, drop, ap, ◌∙◌, append-nil, le_of_suc-le-suc, not-suc-le-zero, add-zero, suc-add, zero-add, arith, length-drop, drop_of_length-le, take_all}
use borrow.Rule.Slice.PartMut.{mid_of, put_mid}
use Rattle.guest.specs.Prog.{Mem, splice}

-- the part from a on
pub part_is : (m : Mem) (a : ℕ) → mid_of a (length m - a) m ≡ drop a m
part_is m a = take_all (length m - a) (drop a m) (omega (arith, length-drop a m))

-- what is read of it
pub part_take : (n : ℕ) (m : Mem) (a : ℕ) → take n (mid_of a (length m - a) m) ≡ take n (drop a m)
part_take n m a = rw (part_is m a)

-- a store in the part from a on is a store in the whole
pub splice_part : (m : Mem) (a b : ℕ) (bs : List ℕ) → a ≤ length m → take a m ++ splice (drop a m) b bs ≡ splice m (a + b) bs
unfolding splice
splice_part m zero b bs h = rw (zero-add b)
splice_part [] (suc a) b bs h = absurd (not-suc-le-zero h)
splice_part (x ∷ m) (suc a) b bs h = rw (suc-add a b, splice_part m a b bs (le_of_suc-le-suc h))

-- the part from a on was lent, and came back as ys, with bytes stored at b: they are stored at a + b
pub lent_splice : (m : Mem) (a b : ℕ) (bs ys : List ℕ) → a ≤ length m → ys ≡ splice (mid_of a (length m - a) m) b bs
    → put_mid a (length m - a) m ys ≡ splice m (a + b) bs
lent_splice m a b bs ys h e =
    let none : drop (length m - a) (drop a m) ≡ [] = drop_of_length-le (drop a m) {i = length m - a} (omega (arith, length-drop a m)) in
    rw (none, append-nil, e, part_is m a) (splice_part m a b bs h)

-- the same at the part's start
pub lent : (m : Mem) (a : ℕ) (bs ys : List ℕ) → a ≤ length m → ys ≡ splice (mid_of a (length m - a) m) 0 bs → put_mid a (length m - a) m ys ≡ splice m a bs
lent m a bs ys h e = lent_splice m a 0 bs ys h e ∙ ap (λ (k : ℕ). splice m k bs) (add-zero a)
