use Rattle.std.proofs.Common.{◌≡◌, Some, sym, ap, ◌∙◌, subst}
use Rattle.std.specs.Prelude.{option_map, option_copied, slice_get}
use Rattle.std.proofs.lemmas.Option.{slice_get-get_or}
use Rattle.snap_core.specs.Entries.{AreEntries}
use Rattle.snap_core.specs.Calls.{calls_of, views_of, nobody}
use Rattle.snap_index.specs.IndexedCalls.{as_indexed, number_of, entries_shown}
use Rattle.snap_views.specs.Seen.{view_in}
use Rattle.snap_views.proofs.Viewed.{view_at_number}
use Rattle.snap_views.proofs.seen.view_at.Goals as goal

pub unreachable-requires-in_default-call : goal.unreachable-requires-in_default-call
unreachable-requires-in_default-call g c =
    let es = c.args.index.now in
    let there = slice_get-get_or (views_of (calls_of es)) c.args.place nobody c.requires in
    let number : Some c.in-Some.call_number ≡ Some (view_in (calls_of es) c.args.place).number = sym c.in-Some.is ∙ c.view_call.ensures ∙ ap (option_map number_of) there in
    let same : c.in-Some.call_number ≡ (view_in (calls_of es) c.args.place).number = cc in
    let read = c.call.ensures ∙ ap (λ n. option_map as_indexed (slice_get (calls_of es) n)) same ∙ ap (option_map as_indexed) (view_at_number es c.args.place c.requires) in
    let gone = ap option_copied c.in_default-call.is in
    cc

pub unreachable-requires-in_default-view : goal.unreachable-requires-in_default-view
unreachable-requires-in_default-view g c =
    let there = slice_get-get_or (views_of (calls_of c.args.index.now)) c.args.place nobody c.requires in
    let gone = sym (ap option_copied c.in_default-view.is) ∙ c.view.ensures ∙ ap (option_map entries_shown) there in
    cc

pub returns : goal.returns
returns g c =
    let es = c.args.index.now in
    let r = view_in (calls_of es) c.args.place in
    let there = slice_get-get_or (views_of (calls_of es)) c.args.place nobody c.requires in
    let number : Some c.in-Some.call_number ≡ Some r.number = sym c.in-Some.is ∙ c.view_call.ensures ∙ ap (option_map number_of) there in
    let same : c.in-Some.call_number ≡ r.number = cc in
    let read : Some c.in-Some-call.call.now ≡ Some (as_indexed r) = sym (ap option_copied c.in-Some-call.is) ∙ c.call.ensures ∙ ap (λ n. option_map as_indexed (slice_get (calls_of es) n)) same ∙ ap (option_map as_indexed) (view_at_number es c.args.place c.requires) in
    let shows : Some c.in-Some-view.view.now ≡ Some (entries_shown r) = sym (ap option_copied c.in-Some-view.is) ∙ c.view.ensures ∙ ap (option_map entries_shown) there in
    let listed : c.in-Some-view.view.now ≡ entries_shown r = cc in
    record { number = same; call = cc; entries = c.entries.ensures.entries ∙ listed; shape = subst AreEntries listed c.entries.ensures.view }
