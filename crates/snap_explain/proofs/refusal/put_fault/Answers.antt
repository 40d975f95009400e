use Rattle.std.proofs.Common.{◌≡◌, ◌++◌, ℕ, List, [], Option, append-nil, ap, map, refl, sym, ◌∙◌}
use Rattle.std.specs.Prelude.{option_map}
use Rattle.snap_text.specs.Fields.{Fields}
use Rattle.snap_text.specs.declared.fault.TextFault.{TextFault}
use Rattle.snap_text.specs.declared.fault.TextFault.TheVariants as faults
use Rattle.snap_explain.specs.Refusals.{fault_told}
use Rattle.snap_explain.proofs.refusal.put_fault.Goals as goal

-- of any other fault nothing is told
nothing : (fault : TextFault) (found : Option Fields) → (fault ≡ faults.Header → ⊥) → (fault ≡ faults.BadData → ⊥) → fault_told fault found ≡ []
nothing faults.Header found g h = absurd (g refl)
nothing faults.Fields found g h = refl
nothing faults.TooMany found g h = refl
nothing faults.BadEvent found g h = refl
nothing faults.BadProcess found g h = refl
nothing faults.BadOp found g h = refl
nothing faults.BadData found g h = absurd (h refl)
nothing faults.Busy found g h = refl
nothing faults.Idle found g h = refl
nothing faults.OtherOp found g h = refl
nothing faults.Writer found g h = refl
nothing faults.Number found g h = refl
nothing faults.Order found g h = refl
nothing faults.TooLong found g h = refl
nothing faults.BadAt found g h = refl
nothing faults.Repeated found g h = refl

pub returns-in_default : goal.returns-in_default
returns-in_default c =
    let found = option_map (λ fields. map (λ f. f.items) fields.now) c.args.found in
    sym (ap (λ (t : List ℕ). c.args.out.now.items ++ t) (nothing c.args.fault found c.in_default.not-Header c.in_default.not-BadData) ∙ append-nil c.args.out.now.items)
