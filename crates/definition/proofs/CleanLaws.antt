-- No call refuses behind a store.
-- Assumes nothing.
use mathlib.Core.Bool.{true, false}
use mathlib.Core.List.{List, [], ◌∷◌}
use Prim.Native.Nat.{ℕ}
use Rattle.guest.specs.Prog.{Prog, Result, ok, refuse, passed}
use Rattle.guest.specs.Forms.{Firm, Clean}
use Rattle.guest.proofs.FormLaws.{firm_clean, firm_bind, firm_choose, firm_ok, clean_done, clean_choose, clean_then, clean_firm}
use Rattle.definition.specs.Types.{Option, Some, None, Endpoint, Input, Row, Table}
use Rattle.definition.specs.Steps.{entry, report_of, put_byte, step_by, step}
use Rattle.definition.specs.Commands as commands
use Rattle.definition.specs.Commands.{usb_types, endpoint_call, enable_one}
use Rattle.definition.specs.Calls.{Call, set_limit, set_dcbaap, enable_slot, disable_slot, address_device, configure_endpoint, evaluate_context, reset_device, reset_all, stop_endpoint, reset_endpoint, set_dequeue, doorbell, host_ok, host_stall, host_transaction_error, host_trb_error, meaning}
use Rattle.definition.proofs.CheckLaws.{check_quiet}
use Rattle.definition.proofs.AddressLaws.{carry_clean}
use Rattle.definition.proofs.ConfigureLaws.{settled_clean, deconfigure_clean, reconfigure_clean}
use Rattle.definition.proofs.HeadLaws.{slot_clean, endpoint_clean}

-- ---- no refusal behind a store

step_clean : (e : Endpoint) (i : Input) (at : ℕ) → Clean (step e i at)
unfolding step step_by passed Clean Firm
step_clean e i at = by_entry (entry e.state i)
  where
    by_byte : {A : Type 0} (b : Option ℕ) (p : Prog (Result A)) → Firm p → Clean p → Clean (put_byte b at p)
    by_byte None p f c = c
    by_byte (Some b) p f c = f

    by_entry : (x : Result Row) → Clean (passed (λ r. step_by r e (report_of i) at) x)
    by_entry (ok r) = clean_choose _ _ _ tt (by_byte r.byte _ (firm_choose _ _ _ tt tt) (clean_choose _ _ _ tt tt))
    by_entry (refuse c) = tt

endpoint_call_clean : (a b id i : ℕ) (input : Input) (len : ℕ) (t : Table) → Clean (endpoint_call a b id i input len t)
unfolding endpoint_call
endpoint_call_clean a b id i input len t =
    slot_clean a t len id _ (λ s. endpoint_clean b t id i _ (λ e. clean_firm _ _ (step_clean e input _) (λ r. firm_ok _)))

enable_clean : (t : Table) (ids : List ℕ) → Clean (enable_one t ids)
unfolding enable_one
enable_clean t [] = clean_done _
enable_clean t (id ∷ ids) = clean_done _

pub call_clean : (c : Call) (len : ℕ) (t : Table) → Clean (meaning c len t)
unfolding meaning commands.set_limit commands.set_dcbaap commands.enable_slot commands.disable_slot commands.address_device commands.configure_endpoint commands.evaluate_context commands.reset_device commands.reset_all commands.formed commands.lent
call_clean (set_limit n) len t = clean_choose _ _ _ (clean_choose _ _ _ (clean_done _) (clean_done _)) (clean_done _)
call_clean (set_dcbaap a) len t = clean_choose _ _ _ (clean_done _) (clean_done _)
call_clean enable_slot len t = clean_choose _ _ _ (enable_clean t _) (clean_done _)
call_clean (disable_slot id) len t = slot_clean _ t len id _ (λ s. firm_clean _ (firm_bind _ _ (λ w. firm_ok _)))
call_clean (address_device id P bsr) len t =
    slot_clean _ t len id _ (λ s. clean_then _ _ (check_quiet usb_types len P) (λ adds. carry_clean len P t id s _))
call_clean (configure_endpoint id P true) len t = slot_clean _ t len id _ (λ s. settled_clean s.state _ (deconfigure_clean id s _ t))
call_clean (configure_endpoint id P false) len t = slot_clean _ t len id _ (λ s. settled_clean s.state _ (reconfigure_clean usb_types id P s len t))
call_clean (evaluate_context id P) len t = slot_clean _ t len id _ (λ s. clean_then _ _ (check_quiet usb_types len P) (λ adds. clean_done _))
call_clean (reset_device id) len t = slot_clean _ t len id _ (λ s. settled_clean s.state _ (deconfigure_clean id s _ t))
call_clean reset_all len t =
    clean_choose _ _ _ (clean_choose _ _ _ (firm_clean _ (firm_bind _ _ (λ u. firm_ok _))) (clean_done _)) (clean_done _)
call_clean (stop_endpoint id i) len t = endpoint_call_clean _ _ id i _ len t
call_clean (reset_endpoint id i) len t = endpoint_call_clean _ _ id i _ len t
call_clean (set_dequeue id i d) len t = endpoint_call_clean _ _ id i _ len t
call_clean (doorbell id i l) len t = endpoint_call_clean _ _ id i _ len t
call_clean (host_ok id i l) len t = endpoint_call_clean _ _ id i _ len t
call_clean (host_stall id i g) len t = endpoint_call_clean _ _ id i _ len t
call_clean (host_transaction_error id i g) len t = endpoint_call_clean _ _ id i _ len t
call_clean (host_trb_error id i) len t = endpoint_call_clean _ _ id i _ len t
