-- `guest::words::store` meets its contract. Assumes nothing.
use Rattle.std.proofs.Common.{◌≡◌, ◌+◌, ◌-◌, length, refl, arith, drop-drop}
use Rattle.guest.proofs.SpliceLaws.{splice_parts}
use Rattle.guest.proofs.words.store.Goals as goal

pub returns : goal.returns
returns c = let a = c.args in
    let n : a.at + length a.part.now - a.at ≡ length a.part.now = omega arith in
    rw (splice_parts a.mem.now a.at a.part.now c.requires, c.copy_from_slice.ensures.after, n, drop-drop (length a.part.now) a.at a.mem.now) refl
