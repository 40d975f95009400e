use Rattle.std.proofs.Common.{[], append-nil, sym, ◌∙◌, List, ℕ, subst}
use Rattle.snap_text.specs.inside.Fronts.{EntryThen}
use Rattle.snap_text.proofs.FrontFacts.{entry_goes_on, entry_missing, entry_whole}
use Rattle.snap_text.proofs.entries.entry_of.Goals as goal

pub returns-in_err-entry : goal.returns-in_err-entry
returns-in_err-entry c =
    let text = c.args.text.now in
    c.from_residual.ensures ∙ sym (entry_missing text [] tt (λ e more then. c.in_err-entry.ensures e more (subst (λ (t : List ℕ). EntryThen e more t) (append-nil text) then)))

pub returns-then-is_empty : goal.returns-then-is_empty
returns-then-is_empty c = sym (entry_whole c.args.text.now c.in_ok-entry.entry c.in_ok-entry.rest.now c.in_ok-entry.ensures (sym c.if-is_empty.ensures))

pub returns-else-is_empty : goal.returns-else-is_empty
returns-else-is_empty c = sym (entry_goes_on c.args.text.now c.in_ok-entry.entry c.in_ok-entry.rest.now c.in_ok-entry.ensures (sym c.if-is_empty.ensures))
