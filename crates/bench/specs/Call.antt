-- The calls that the bench's loops take, by number.
-- Assumes nothing.
use Rattle.std.specs.Prelude.{◌≡◌, ℕ, ◌<◌, Result, MatchResult}
use Rattle.bench.specs.declared.Call.{Call}
use Rattle.bench.specs.declared.Call.TheVariants.{Enable, Disable, Address, Configure, Evaluate, Stop, SetDequeue, Reset, Doorbell}
use Rattle.bench.specs.declared.NoCall.{NoCall}

-- the number that stands for a call
abbrev pub number_of : Call → ℕ
number_of Enable = 0
number_of Disable = 1
number_of Address = 2
number_of Configure = 3
number_of Evaluate = 4
number_of Stop = 5
number_of SetDequeue = 6
number_of Reset = 7
number_of Doorbell = 8

-- the result is the call with this number, or an error with a number that no call has
abbrev pub Names : ℕ → Result Call NoCall → Type 0
Names n r = MatchResult r (λ call. number_of call ≡ n) (λ e. (e.0 ≡ n) × (8 < n))
