-- What was written into memory is all that there is.
use Rattle.std.proofs.Common.{◌≡◌, ◌++◌, [], ◌∙◌, ℕ, List, Option, Some, Ok, sym, ap, subst}
use Rattle.std.specs.Prelude.{IfSome}
use Rattle.std.specs.Global.{Vec}
use Rattle.snap_check.specs.Runs.{WroteBy, WroteWhole}
use Rattle.snap_check.proofs.Runs.{with_text}

pub into_memory : {A : Type 0} (Is : List ℕ → A → List ℕ → Type 0) (known : Option (List ℕ)) (answer : A) (start end out : Vec ℕ) → start.items ≡ [] → out ≡ end →
    WroteBy Is known (Some (start.items)) (Some (end.items)) (Ok answer) → IfSome known (λ text. Is text answer (out.items))
into_memory {A = A} Is known answer start end out empty is wrote =
    with_text (λ text. WroteWhole (Is text) (Some (start.items)) (Some (end.items)) answer) (λ text. Is text answer (out.items)) known wrote
    (λ text whole. subst (Is text answer) (sym (ap (λ (v : Vec ℕ). v.items) is ∙ whole.2 ∙ ap (λ (l : List ℕ). l ++ whole.0) empty)) whole.1)
