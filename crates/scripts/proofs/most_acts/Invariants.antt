-- Before endpoint e, e - 1 acts are in their places: the input context's first 8 bytes, and a byte for each endpoint before it. Each slot has 4 more.
use Rattle.std.proofs.Common.{◌≡◌, ◌+◌, ◌*◌}
use Rattle.scripts.proofs.most_acts.Given as goal

abbrev pub invariant-loop-endpoint : goal.invariant-loop-endpoint
invariant-loop-endpoint l = l.next + 1 ≡ l.endpoint

abbrev pub invariant-loop-id : goal.invariant-loop-id
invariant-loop-id l = l.next ≡ 27 + 4 * l.id
