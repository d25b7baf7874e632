-- Where the contexts of added endpoints lie.
-- Assumes nothing.
use Rattle.std.specs.Prelude.{Bool, ◌&&◌, ℕ, ◌+◌, ◌*◌}
use Rattle.guest.specs.Bytes.{◌⊕◌, inside, set_bits}
use Rattle.guest.specs.Prog.{all}

-- both contexts of endpoint i lie in a memory of len bytes: "copy from P+32(i+1) to base+32i"
unfoldable pub both_inside : ℕ → ℕ → ℕ → ℕ → Bool
both_inside len P base i = inside len (P ⊕ 32 * (i + 1)) 32 && inside len (base ⊕ 32 * i) 32

-- those of every added endpoint do: "Bits 2..31 only."
abbrev pub ranges_inside : ℕ → ℕ → ℕ → ℕ → Bool
ranges_inside len P base adds = all (set_bits 30 2 adds) (both_inside len P base)
