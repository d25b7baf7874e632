-- `bench::bench_formed` meets its contract. Assumes nothing.
use Rattle.std.proofs.Common.{rules}
use denote.Param.Always.{mut_by}
use Rattle.formed.proofs.CallLaws.{ready_checked}
use Rattle.formed.specs.Promises.{Ready}
use Rattle.bench.proofs.bench_formed.Goals as goal

-- The start stays, and memory keeps its length: so each turn may be made, as the first may.

pub turns-requires : goal.turns-requires
turns-requires c =
    mut_by _ (λ s. Ready s.0.now s.1.now) (λ s a i. search rules) (λ s a r t i e. let m = e.met in search rules) _ (ready_checked c.checks.ensures c.in-Ok.is)

pub turns-requires-in-Stop : goal.turns-requires-in-Stop
turns-requires-in-Stop c =
    mut_by _ (λ s. Ready s.0.now s.1.now) (λ s a i. search rules) (λ s a r t i e. let m = e.met in search rules) _ (ready_checked c.checks.ensures c.in-Ok.is)

pub turns-requires-in_default-named : goal.turns-requires-in_default-named
turns-requires-in_default-named c =
    mut_by _ (λ s. Ready s.0.now s.1.now) (λ s a i. search rules) (λ s a r t i e. let m = e.met in search rules) _ (ready_checked c.checks.ensures c.in-Ok.is)

pub enable_formed-requires : goal.enable_formed-requires
enable_formed-requires c = (ready_checked {m = c.life-start.new.mem} c.checks.ensures c.in-Ok.is).formed
