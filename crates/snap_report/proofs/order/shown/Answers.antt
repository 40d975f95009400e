use Rattle.std.proofs.Common.{◌≡◌, None, Some, sym, ap, ◌∙◌}
use Rattle.std.specs.Option.{option_copied}
use Rattle.snap_core.specs.declared.view.View.{View}
use Rattle.snap_core.specs.Calls.{call_numbered, calls_of, entries_of}
use Rattle.snap_index.proofs.Known.{answer_within}
use Rattle.snap_report.proofs.order.shown.Goals as goal

pub unreachable-requires : goal.unreachable-requires
unreachable-requires g c =
    let entries = entries_of (call_numbered (calls_of c.args.index.now) c.args.call).operation in
    let gone : None ≡ Some entries = ap (option_copied {T = View}) (sym c.in_default.is) ∙ c.answer.ensures ∙ answer_within (calls_of c.args.index.now) c.args.call c.requires.below c.requires.view in
    cc

pub returns : goal.returns
returns g c =
    let entries = entries_of (call_numbered (calls_of c.args.index.now) c.args.call).operation in
    let found : Some c.in-Some.view.now ≡ Some entries = ap (option_copied {T = View}) (sym c.in-Some.is) ∙ c.answer.ensures ∙ answer_within (calls_of c.args.index.now) c.args.call c.requires.below c.requires.view in
    let view : c.in-Some.view.now ≡ entries = cc in
    c.entries.ensures.entries ∙ view
