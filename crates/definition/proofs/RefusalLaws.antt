-- The refusals' codes: above 1, at most 198, and no two are the same.
-- Assumes nothing.
use mathlib.Core.Path.{◌≡◌, refl, sym, ap, ◌∙◌}
use mathlib.Core.Bool.{cond}
use Prim.Native.Nat.{ℕ, ◌≤◌, ◌<◌}
use lib.Dec.{eqb, lit<, lit≤}
use Rattle.definition.specs.declared.Refusal.{Refusal}
use Rattle.definition.specs.declared.Refusal.TheVariants.{NoFreeSlot, NoSlot, NoEndpoint, EndpointType, State, Outside, OtherMemory, Unaligned, Stray, TooLarge, Malformed}
use Rattle.definition.specs.Refusals.{code_of}

pub code_above : (x : Refusal) → (1 < code_of x) × (code_of x ≤ 198)
code_above NoFreeSlot = (lit< tt, lit≤ tt)
code_above NoSlot = (lit< tt, lit≤ tt)
code_above NoEndpoint = (lit< tt, lit≤ tt)
code_above EndpointType = (lit< tt, lit≤ tt)
code_above State = (lit< tt, lit≤ tt)
code_above Outside = (lit< tt, lit≤ tt)
code_above OtherMemory = (lit< tt, lit≤ tt)
code_above Unaligned = (lit< tt, lit≤ tt)
code_above Stray = (lit< tt, lit≤ tt)
code_above TooLarge = (lit< tt, lit≤ tt)
code_above Malformed = (lit< tt, lit≤ tt)

-- the refusal of a code
abbrev back : ℕ → Refusal
back n =
    cond (eqb n 9) NoFreeSlot
    (cond (eqb n 11) NoSlot
    (cond (eqb n 12) NoEndpoint
    (cond (eqb n 17) EndpointType
    (cond (eqb n 19) State
    (cond (eqb n 193) Outside
    (cond (eqb n 194) OtherMemory
    (cond (eqb n 195) Unaligned (cond (eqb n 196) Stray (cond (eqb n 197) TooLarge Malformed)))))))))

is_back : (x : Refusal) → back (code_of x) ≡ x
is_back NoFreeSlot = refl
is_back NoSlot = refl
is_back NoEndpoint = refl
is_back EndpointType = refl
is_back State = refl
is_back Outside = refl
is_back OtherMemory = refl
is_back Unaligned = refl
is_back Stray = refl
is_back TooLarge = refl
is_back Malformed = refl

pub one_code : (x y : Refusal) → code_of x ≡ code_of y → x ≡ y
one_code x y e = sym (is_back x) ∙ ap back e ∙ is_back y
