-- `scan::records::slot_ok` meets its contract. Assumes nothing.
use Rattle.std.proofs.Common.{inl, inr}
use borrow.Author.Tests.{eq-eqb, ne_eqb}
use Rattle.scan.specs.Records.{own_ok}
use Rattle.scan.proofs.records.slot_ok.Goals as goal

pub returns-then-slot-eq0 : goal.returns-then-slot-eq0
unfolding own_ok
returns-then-slot-eq0 c = simp (c.in-Free.is, eq-eqb _ _ c.if-slot-eq0.true)

pub returns-else-slot-eq0 : goal.returns-else-slot-eq0
unfolding own_ok
returns-else-slot-eq0 c = simp (c.in-Free.is, ne_eqb _ _ c.if-slot-eq0.false)

pub returns-in-Enabled : goal.returns-in-Enabled
unfolding own_ok
returns-in-Enabled c = simp c.in-Enabled.is

pub returns-in-Default : goal.returns-in-Default
unfolding own_ok
returns-in-Default c =
    elim c.in-Default.is [ inl e ↦ simp e c.in_use.ensures | inr q ↦ elim q [ inl e ↦ simp e c.in_use.ensures | inr e ↦ simp e c.in_use.ensures ] ]
