-- `scan::find` meets its contract. Assumes nothing.
use mathlib.Core.Path.{sym, ◌∙◌}
use native.Mathlib.Omega.{arith}
use Rattle.std.proofs.Common.{inl, inr}
use borrow.Author.Tests.{le-leb, lt-leb}
use Rattle.scan.specs.Heads.{found_in}
use Rattle.scan.proofs.find.Goals as goal

pub returns-then-id-eq0 : goal.returns-then-id-eq0
unfolding found_in
returns-then-id-eq0 c = let a = c.args in
    elim c.then-id-eq0.either [ inl e ↦ rw (lt-leb 1 a.id (omega arith)) | inr e ↦ rw (le-leb 1 a.id (omega arith), lt-leb a.id 16 e.1) ]

pub returns-then-is_free : goal.returns-then-is_free
unfolding found_in
returns-then-is_free c = let a = c.args in
    simp (le-leb 1 a.id (omega arith), le-leb a.id 16 c.if-id-gt16.false, sym c.is_free.ensures ∙ c.if-is_free.true)

pub returns : goal.returns
unfolding found_in
returns c = let a = c.args in
    simp (le-leb 1 a.id (omega arith), le-leb a.id 16 c.if-id-gt16.false, sym c.is_free.ensures ∙ c.if-is_free.false)
