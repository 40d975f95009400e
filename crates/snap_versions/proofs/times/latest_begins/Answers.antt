use Rattle.std.proofs.Common.{◌∙◌, ◌++◌, ◌∷◌, [], map, take, None, sym, ap}
use Rattle.std.proofs.lemmas.List.{map_more}
use Rattle.snap_versions.specs.declared.update.Update.{Update}
use Rattle.snap_versions.specs.inside.Updates.{begin_among}
use Rattle.snap_versions.proofs.times.latest_begins.Goals as goal

abbrev nothing : Update
nothing = record { number = 0; process = 0; entry = record { component = 0; number = 0; value = 0 }; begun = 0; ended = None }

pub loop-i-preserved : goal.loop-i-preserved
loop-i-preserved c =
    let us = c.args.updates.now in
    let i = c.loop-i.i in
    c.in_ok-push.ensures.items ∙ ap (λ z. z ++ c.latest_begin.result ∷ []) c.loop-i.invariant ∙ ap (λ n. map (begin_among us) (take i us) ++ n ∷ []) (c.latest_begin.ensures nothing) ∙ sym (map_more (begin_among us) us i nothing c.loop-i-test.true)
