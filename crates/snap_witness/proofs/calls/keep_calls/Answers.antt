use Rattle.std.proofs.Common.{sym, ap, ◌∙◌, subst}
use Rattle.snap_core.specs.Calls.{calls_of}
use Rattle.snap_core.specs.Events.{IsHistory}
use Rattle.snap_theory.specs.Kept.{kept_from, is_among}
use Rattle.snap_witness.specs.inside.Places.{calls_numbered}
use Rattle.snap_theory.specs.Witness.{numbers_of}
use Rattle.snap_witness.proofs.Places.{kept_is_witness}
use Rattle.snap_theory.proofs.Witnesses.{ordered_witness_history}
use Rattle.snap_witness.proofs.calls.keep_calls.Goals as goal

pub keep-requires-clause-history : goal.keep-requires-clause-history
keep-requires-clause-history g c =
    let es = c.args.index.now in
    let rs = calls_numbered (calls_of es) c.args.views.now in
    let ps = c.args.updates.now in
    let listed = c.deref.ensures.value ∙ c.in_ok-places.ensures in
    let same = ap (kept_from (is_among c.deref.result.now) (numbers_of ps) 0) c.events.ensures.events ∙ kept_is_witness es rs ps c.deref.result.now listed in
    subst IsHistory (sym same) (ordered_witness_history es rs ps c.events.ensures.ordered.history c.requires.calls)

pub returns : goal.returns
returns g c =
    let es = c.args.index.now in
    let rs = calls_numbered (calls_of es) c.args.views.now in
    let ps = c.args.updates.now in
    let listed = c.deref.ensures.value ∙ c.in_ok-places.ensures in
    let same = ap (kept_from (is_among c.deref.result.now) (numbers_of ps) 0) c.events.ensures.events ∙ kept_is_witness es rs ps c.deref.result.now listed in
    rw same at c.keep.ensures
