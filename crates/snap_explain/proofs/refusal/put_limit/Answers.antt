use Rattle.std.proofs.Common.{◌≡◌, ◌++◌, ℕ, List, [], append-nil, ap, refl, sym, ◌∙◌}
use Rattle.snap_core.specs.declared.limit.Limit.{Limit}
use Rattle.snap_text.specs.declared.fault.TextFault.{TextFault}
use Rattle.snap_text.specs.declared.fault.TextFault.TheVariants as faults
use Rattle.snap_explain.specs.Refusals.{limit_of}
use Rattle.snap_explain.proofs.refusal.put_limit.Goals as goal

-- the rule of any other fault is no limit
no_limit : (limit : Limit) (fault : TextFault) → (fault ≡ faults.TooMany → ⊥) → (fault ≡ faults.TooLong → ⊥) → limit_of limit fault ≡ []
no_limit limit faults.Header a b = refl
no_limit limit faults.Fields a b = refl
no_limit limit faults.TooMany a b = absurd (a refl)
no_limit limit faults.BadEvent a b = refl
no_limit limit faults.BadProcess a b = refl
no_limit limit faults.BadOp a b = refl
no_limit limit faults.BadData a b = refl
no_limit limit faults.Busy a b = refl
no_limit limit faults.Idle a b = refl
no_limit limit faults.OtherOp a b = refl
no_limit limit faults.Writer a b = refl
no_limit limit faults.Number a b = refl
no_limit limit faults.Order a b = refl
no_limit limit faults.TooLong a b = absurd (b refl)
no_limit limit faults.BadAt a b = refl
no_limit limit faults.Repeated a b = refl

pub returns-in_default : goal.returns-in_default
returns-in_default c =
    sym (ap (λ (t : List ℕ). c.args.out.now.items ++ t) (no_limit c.args.limit c.args.fault c.in_default.not-TooMany c.in_default.not-TooLong) ∙ append-nil c.args.out.now.items)
