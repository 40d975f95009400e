use Rattle.std.proofs.Common.{map, ap, ◌∙◌}
use Rattle.std.proofs.lemmas.Result.{IfOk-weaker}
use Rattle.snap_core.specs.Calls.{calls_of}
use Rattle.snap_theory.specs.Kept.{is_among, is_place_of}
use Rattle.snap_witness.proofs.Places.{among_places}
use Rattle.snap_witness.proofs.Numbers.{begun_same}
use Rattle.snap_theory.specs.Witness.{witness_calls}
use Rattle.snap_index.specs.IndexedCalls.{number_of}
use Rattle.snap_witness.specs.inside.Places.{calls_numbered}
use Rattle.snap_witness.proofs.calls.numbers_kept.Goals as goal

pub returns : goal.returns
returns g c =
    let calls = calls_of c.args.index.now in
    let chosen = witness_calls calls (calls_numbered calls c.args.views.now) c.args.updates.now in
    let same = begun_same (is_among c.deref.result.now) (is_place_of chosen) calls (λ place. ap (λ z. is_among z place) (c.deref.ensures.value ∙ c.in_ok-places.ensures) ∙ among_places chosen place) in
    IfOk-weaker c.numbers_among.result _ _ (λ numbers is. is ∙ ap (map number_of) same) c.numbers_among.ensures
