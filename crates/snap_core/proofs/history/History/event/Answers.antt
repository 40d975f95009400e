use Rattle.std.proofs.Common.{◌≡◌, ◌∙◌, ap, sym, ℕ, List, length, get_or, nat_lt, Bor, Option, Some, None}
use Rattle.std.specs.List.{slice_get}
use Rattle.std.specs.Option.{option_copied, is_some}
use Rattle.std.specs.Prelude.{IfSome}
use Rattle.std.proofs.lemmas.Bool.{ltb-true, ltb-false}
use Rattle.std.proofs.lemmas.Option.{slice_get_past, slice_get-get_or}
use Rattle.snap_core.proofs.history.History.event.Goals as goal

got : {T : Type 0} (r : Option (Bor T)) (xs : List T) (i : ℕ) → is_some r ≡ nat_lt i (length xs) → IfSome r (λ x. x.now ≡ get_or xs i x.now) → option_copied r ≡ slice_get xs i
got None xs i e f = sym (slice_get_past xs i (ltb-false i (length xs) (sym e)))
got (Some x) xs i e f = ap Some f ∙ sym (slice_get-get_or xs i x.now (ltb-true i (length xs) (sym e)))

pub returns : goal.returns
returns g c = rw (← c.self.view_is, ← c.deref.ensures.value) (got c.get.result c.deref.result.now c.args.i c.get.ensures.lookup.0 c.get.ensures.lookup.1)
