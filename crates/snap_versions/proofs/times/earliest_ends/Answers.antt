use Rattle.std.proofs.Common.{◌∙◌, None, sym, arith}
use Rattle.std.proofs.lemmas.List.{same_lists, length-map, get_or-map, get_or_default}
use Rattle.snap_versions.specs.declared.update.Update.{Update}
use Rattle.snap_versions.specs.inside.Updates.{end_among}
use Rattle.snap_versions.proofs.times.earliest_ends.Goals as goal

abbrev nothing : Update
nothing = record { number = 0; process = 0; entry = record { component = 0; number = 0; value = 0 }; begun = 0; ended = None }

pub returns : goal.returns
returns c =
    let us = c.args.updates.now in
    let i = c.loop-i.invariant in
    same_lists c.loop-i.ends.items _ (i.size ∙ sym (length-map us (end_among us))) (λ k d l.
    let size = i.size in
    get_or_default c.loop-i.ends.items k d None l ∙ i.each k nothing (omega arith) (omega (arith, l, size))
    ∙ sym (get_or-map (end_among us) us k nothing d (omega (arith, l, size))))
