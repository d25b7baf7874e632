-- `addressing::attempt` meets its contract. Assumes nothing.
use Rattle.std.proofs.lemmas.Result.{err_from_is_err_and}
use Rattle.definition.specs.Commands.{plan}
use Rattle.addressing.proofs.AddressLaws.{plan_in, plan_other, attempt_unchecked, attempt_goes, attempt_never}
use Rattle.addressing.proofs.attempt.Goals as goal

pub returns-in_err-context_check : goal.returns-in_err-context_check
returns-in_err-context_check c = let a = c.args in
    let p = err_from_is_err_and c.from_residual.result c.from_residual.ensures.1 in
    rw (p.1, p.2) (λ id t q. attempt_unchecked a.slot a.pointer a.bsr a.mem.now c.context_check.ensures id t c.in_err-context_check.was)

pub returns-in-Enabled-true : goal.returns-in-Enabled-true
unfolding plan
returns-in-Enabled-true c = let a = c.args in
    λ id t q.
    attempt_goes a.slot a.pointer a.bsr a.mem.now c.context_check.ensures id t c.in_ok-context_check.was (plan_in c.in-Enabled-true.is-0 c.in-Enabled-true.is-1) (c.first_address.ensures id t q)

pub returns-in-Enabled-false : goal.returns-in-Enabled-false
unfolding plan
returns-in-Enabled-false c = let a = c.args in
    λ id t q.
    attempt_goes a.slot a.pointer a.bsr a.mem.now c.context_check.ensures id t c.in_ok-context_check.was (plan_in c.in-Enabled-false.is-0 c.in-Enabled-false.is-1) (c.first_address-in-Enabled-false.ensures id t q)

pub returns-in-Default-false : goal.returns-in-Default-false
unfolding plan
returns-in-Default-false c = let a = c.args in
    λ id t q.
    attempt_goes a.slot a.pointer a.bsr a.mem.now c.context_check.ensures id t c.in_ok-context_check.was (plan_in c.in-Default-false.is-0 c.in-Default-false.is-1) (c.second_address.ensures id t q)

pub returns-in_default : goal.returns-in_default
unfolding plan
returns-in_default c = let a = c.args in
    λ id t q.
    attempt_never a.slot a.pointer a.bsr a.mem.now c.context_check.ensures id t c.in_ok-context_check.was (plan_in c.in_default.is-0 c.in_default.is-1)

pub returns-in_default-2 : goal.returns-in_default-2
unfolding plan
returns-in_default-2 c = let a = c.args in
    λ id t q.
    attempt_never a.slot a.pointer a.bsr a.mem.now c.context_check.ensures id t c.in_ok-context_check.was (plan_other a.slot.state _ c.in_default.not-Enabled-0 c.in_default.not-Default-0)
