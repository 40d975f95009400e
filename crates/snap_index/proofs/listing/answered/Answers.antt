use Rattle.std.proofs.Common.{◌≡◌, ℕ, List, length, get_or, nat_lt, Bor, Option, Some, sym, ap, ◌∙◌}
use Rattle.std.specs.Prelude.{is_some, IfSome}
use Rattle.std.specs.Option.{option_and_then, option_copied}
use Rattle.snap_core.specs.Calls.{answer_at}
use Rattle.snap_core.specs.declared.event.Event.{Event}
use Rattle.snap_index.specs.Answered.{answered_at}
use Rattle.snap_index.proofs.Ends.{no_answer}
use Rattle.snap_index.proofs.IndexedCalls.{got}
use Rattle.snap_index.proofs.listing.answered.Goals as goal

-- what the event at an end answers, by what a slice of the events gives there
read : (events : List Event) (n : ℕ) (ended : Option ℕ) (r o : Option (Bor Event)) → ended ≡ Some n → is_some r ≡ nat_lt n (length events) → IfSome r (λ x. x.now ≡ get_or events n x.now) → r ≡ o → option_and_then answer_at (option_copied o) ≡ answered_at events ended
read events n ended r o e s h is = ap (λ z. option_and_then answer_at (option_copied z)) (sym is) ∙ ap (option_and_then answer_at) (got events r n s h) ∙ ap (answered_at events) (sym e)

pub returns-in_err-view : goal.returns-in_err-view
returns-in_err-view c =
    ap option_copied c.from_residual-in_err-view.ensures
    ∙ read c.args.events.now c.in_ok-ended.field-0 c.args.ended c.get.result _ c.in_ok-ended.was c.get.ensures.lookup.0 c.get.ensures.lookup.1 c.in_err-view.was

pub returns-in-EndView : goal.returns-in-EndView
returns-in-EndView c =
    ap answer_at (sym c.in-EndView.is)
    ∙ read c.args.events.now c.in_ok-ended.field-0 c.args.ended c.get.result _ c.in_ok-ended.was c.get.ensures.lookup.0 c.get.ensures.lookup.1 c.in_ok-view.was

pub returns-in_default : goal.returns-in_default
returns-in_default c =
    sym (no_answer _ (λ p s e. c.in_default.not-EndView p s e))
    ∙ read c.args.events.now c.in_ok-ended.field-0 c.args.ended c.get.result _ c.in_ok-ended.was c.get.ensures.lookup.0 c.get.ensures.lookup.1 c.in_ok-view.was
