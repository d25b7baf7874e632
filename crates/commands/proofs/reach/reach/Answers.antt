-- `commands::reach::reach` meets its contract. Assumes nothing.
use mathlib.Core.Path.{◌≡◌}
use mathlib.Core.Bool.{false, ◌&&◌}
use Prim.Native.Nat.{◌≤◌}
use borrow.Author.Rules.{rules}
use lib.Dec.{leb}
use Rattle.definition.specs.Table.{endpoint_of}
use Rattle.commands.proofs.ReachLaws.{own_record, settle_ready, reach_outside, reach_absent, reach_refuses, reach_applies}
use Rattle.commands.proofs.reach.reach.Goals as goal

pub returns-then-not-contains : goal.returns-then-not-contains
returns-then-not-contains c = let a = c.args in
    let out : (leb 1 a.i && leb a.i 31) ≡ false = search rules in
    rw c.refused.ensures (reach_outside a.absent a.t a.id a.i a.input a.slot a.mem.now out)

pub settle-requires : goal.settle-requires
unfolding endpoint_of
settle-requires c = let a = c.args in
    let low : 1 ≤ a.i = search rules in
    let high : a.i ≤ 31 = search rules in
    let q = c.requires in
    settle_ready a.t a.id a.i a.slot a.mem.now q.2 q.3 q.0 q.1 q.4 (own_record a.t a.id a.i low high)

pub returns-in_default : goal.returns-in_default
unfolding endpoint_of
returns-in_default c = let a = c.args in
    let low : 1 ≤ a.i = search rules in
    let high : a.i ≤ 31 = search rules in
    rw c.refused-in_default.ensures
    (reach_absent c.settle.ensures a.absent a.id a.t (own_record a.t a.id a.i low high) c.in_default.is)

pub returns-in-Err : goal.returns-in-Err
unfolding endpoint_of
returns-in-Err c = let a = c.args in
    let low : 1 ≤ a.i = search rules in
    let high : a.i ≤ 31 = search rules in
    rw c.refuse.ensures
    (reach_refuses c.settle.ensures a.absent a.id a.t (own_record a.t a.id a.i low high) c.in-Some.is c.in-Err.is)

pub returns : goal.returns
unfolding endpoint_of
returns c = let a = c.args in
    let low : 1 ≤ a.i = search rules in
    let high : a.i ≤ 31 = search rules in
    rw (c.applied.ensures, c.answer_of.ensures)
    (reach_applies c.settle.ensures a.absent a.id a.t (own_record a.t a.id a.i low high) c.in-Some.is c.in-Ok.is)
