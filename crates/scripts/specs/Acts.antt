-- How many acts a script has.
use Rattle.std.specs.Prelude.{ℕ, length}
use Rattle.scripts.specs.declared.act.Script.{Script}

abbrev pub acts_in : Script → ℕ
acts_in s = length s.acts.now
