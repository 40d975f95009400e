use Rattle.std.proofs.Common.{◌≡◌, ◌++◌, ◌∷◌, ◌∙◌, [], map, take, sym, ap, arith}
use Rattle.std.proofs.lemmas.List.{map-append, take_more, take_all}
use Rattle.snap_core.specs.Calls.{calls_of, nobody}
use Rattle.snap_index.proofs.IndexedCalls.{call_count_within, count_is, word_fits}
use Rattle.snap_index.specs.IndexedCalls.{as_indexed}
use Rattle.snap_versions.specs.inside.Listed.{call_listed, calls_listed}
use Rattle.snap_versions.proofs.Answered.{told_there}
use Rattle.snap_versions.proofs.listed.listed_calls.Goals as goal

pub overflow_cast-place : goal.overflow_cast-place
overflow_cast-place c =
    let es = c.args.events.now in
    let calls = c.deref-call-items.result.now in
    let count = count_is es calls (c.deref-call-items.ensures.value ∙ c.in_ok-calls.ensures) in
    word_fits c.loop-place.place (omega (arith, count, call_count_within es, c.requires))

pub loop-place-preserved : goal.loop-place-preserved
loop-place-preserved c =
    let es = c.args.events.now in
    let calls = c.deref-call-items.result.now in
    let place = c.loop-place.place in
    let is : calls ≡ map as_indexed (calls_of es) = c.deref-call-items.ensures.value ∙ c.in_ok-calls.ensures in
    let told = c.with_answer.ensures ∙ told_there es calls place _ is c.loop-place-test.true in
    ap calls_listed c.in_ok-push.ensures.items
    ∙ map-append call_listed c.loop-place.with_answers.items (c.with_answer.result ∷ [])
    ∙ ap (λ z. z ++ call_listed c.with_answer.result ∷ []) c.loop-place.invariant
    ∙ ap (λ z. take place (calls_of es) ++ z ∷ []) told
    ∙ sym (take_more (calls_of es) place nobody (omega (arith, count_is es calls is)))

pub returns : goal.returns
returns c =
    let es = c.args.events.now in
    let calls = c.deref-call-items.result.now in
    c.loop-place.invariant ∙ take_all c.loop-place.place (calls_of es) (omega (arith, count_is es calls (c.deref-call-items.ensures.value ∙ c.in_ok-calls.ensures)))
