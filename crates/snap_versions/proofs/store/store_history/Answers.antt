use Rattle.std.proofs.Common.{sym, subst, rules, ◌<◌, length}
use Rattle.snap_core.specs.Calls.{calls_of}
use Rattle.snap_theory.proofs.Numbered.{numbered_versions}
use Rattle.snap_theory.specs.Versioned.{AreVersioned}
use Rattle.snap_versions.specs.Cuts.{IsCut}
use Rattle.snap_versions.specs.Placed.{ArePlaced}
use Rattle.snap_versions.proofs.PlacedCalls.{numbered_are_placed}
use Rattle.snap_versions.proofs.StoreFacts.{is_cut_history, is_too_long, ordered_told}
use Rattle.snap_versions.proofs.store.store_history.Goals as goal

pub cut_rows-requires-clause-versioned : goal.cut_rows-requires-clause-versioned
cut_rows-requires-clause-versioned c =
    let stored = rw c.in_default.is at c.in_ok-place.ensures in
    subst AreVersioned (sym c.in_ok-rows.ensures) (numbered_versions (calls_of c.args.events.now) stored.versioned).alone

pub cut_rows-requires-clause-placed : goal.cut_rows-requires-clause-placed
cut_rows-requires-clause-placed c =
    let stored = rw c.in_default.is at c.in_ok-place.ensures in
    subst ArePlaced (sym c.in_ok-rows.ensures) (numbered_are_placed c.args.events.now stored.well_formed)

pub returns-in-Contradiction : goal.returns-in-Contradiction
returns-in-Contradiction c = record {
  stored = rw c.in_default.is at c.in_ok-place.ensures;
  contradicted = rw c.in-Contradiction.is at (subst (λ calls. IsCut calls c.in_ok-moments.field-0) c.in_ok-rows.ensures c.in_ok-moments.ensures);
}

pub returns-then-len-events : goal.returns-then-len-events
returns-then-len-events c =
    let stored = rw c.in_default.is at c.in_ok-place.ensures in
    let told = rw c.in-Told.is at (subst (λ calls. IsCut calls c.in_ok-moments.field-0) c.in_ok-rows.ensures c.in_ok-moments.ensures) in
    let more : c.args.limit.events < length c.in-Told.moments.items = search rules in
    is_too_long c.args.limit c.args.events.now c.in-Told.moments.items stored told more

pub history_told-requires-clause-ordered : goal.history_told-requires-clause-ordered
history_told-requires-clause-ordered c =
    let stored = rw c.in_default.is at c.in_ok-place.ensures in
    let told = rw c.in-Told.is at (subst (λ calls. IsCut calls c.in_ok-moments.field-0) c.in_ok-rows.ensures c.in_ok-moments.ensures) in
    ordered_told c.args.events.now c.in-Told.moments.items stored told

pub returns : goal.returns
returns c =
    let stored = rw c.in_default.is at c.in_ok-place.ensures in
    let told = rw c.in-Told.is at (subst (λ calls. IsCut calls c.in_ok-moments.field-0) c.in_ok-rows.ensures c.in_ok-moments.ensures) in
    let h = c.in_ok-history.ensures in
    is_cut_history c.args.limit c.args.events.now c.in-Told.moments.items c.in_ok-history.history c.in_ok-history.places.items stored told h.events h.limit h.places
