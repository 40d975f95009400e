-- A check with the options that ask for nothing writes the whole report.
use Rattle.std.proofs.Common.{◌≡◌, inl, inr, ℕ, false, List, Option, Some, None, arith, subst}
use Rattle.std.specs.Prelude.{IfSome}
use Rattle.snap_check.specs.declared.options.CheckOptions.{CheckOptions}
use Rattle.snap_check.specs.declared.fault.RunFault.{RunFault}
use Rattle.snap_check.specs.declared.fault.RunFault.TheVariants as faults
use Rattle.snap_check.specs.Options.{IsReportWith, IsWritten}
use Rattle.snap_core.specs.UsualLimits.{usual_limit}
use Rattle.snap_core.specs.Sending.{SendsFront}
use Rattle.snap_check.specs.Runs.{FailedBy, WroteFront, WroteWhole}
use Rattle.snap_check.specs.declared.status.Status.{Status}
use Rattle.snap_check.specs.Reports.{IsReport}
use Rattle.snap_check.proofs.Runs.{with_text}

pub report_plain : (options : CheckOptions) → options.quiet ≡ false → options.limit ≡ usual_limit → (text : List ℕ) (status : Status) (out : List ℕ) → IsReportWith options text (Some status) out → IsReport usual_limit text status out
report_plain options quiet limit text status out is = subst (λ n. IsReport n text status out) limit (within is)
  where
    within : IsReportWith options text (Some status) out → IsReport options.limit text status out
    within (inl refused) = inl refused
    within (inr judged) =
        inr (record { events = judged.events; history = judged.history; verdict = subst (λ q. IsWritten q options.limit.writers judged.events status out) quiet judged.verdict.1 })

pub wrote_plain : (options : CheckOptions) → options.quiet ≡ false → options.limit ≡ usual_limit → (known held new : Option (List ℕ)) (answer : Option Status) (status : Status) → answer ≡ Some status →
    IfSome known (λ text. WroteWhole (IsReportWith options text) held new answer) → IfSome known (λ text. WroteWhole (IsReport usual_limit text) held new status)
wrote_plain options quiet limit known held new answer status is h =
    with_text (λ text. WroteWhole (IsReportWith options text) held new (Some status)) _ known
    (subst (λ (a : Option Status). IfSome known (λ text. WroteWhole (IsReportWith options text) held new a)) is h)
    (λ text w. (w.0, report_plain options quiet limit text status w.0 w.1, w.2))

none_plain : (options : CheckOptions) → options.views ≡ 0 → (text out : List ℕ) → IsReportWith options text None out → ⊥
none_plain options views text out (inl refused) = refused
none_plain options views text out (inr judged) = omega (arith, views, judged.verdict.0)

pub failed_plain : (options : CheckOptions) → options.quiet ≡ false → options.limit ≡ usual_limit → options.views ≡ 0 → (known held new : Option (List ℕ)) (fault : RunFault) →
    FailedBy (IsReportWith options) known held new fault → FailedBy (IsReport usual_limit) known held new fault
failed_plain options quiet limit views known held new faults.Read h = h
failed_plain options quiet limit views known held new faults.Write h =
    with_text _ _ known h (λ text w. front text w.0 w.1 w.2 w.3)
  where
    front : (text : List ℕ) (answer : Option Status) (out : List ℕ) → IsReportWith options text answer out → SendsFront held new out → WroteFront (IsReport usual_limit text) held new
    front text (Some status) out is sent = (status, out, report_plain options quiet limit text status out is, sent)
    front text None out is sent = absurd (none_plain options views text out is)
failed_plain options quiet limit views known held new faults.Memory h = h
