use Rattle.std.proofs.Common.{◌<◌, ◌≤◌, ◌∙◌, arith, length}
use Rattle.std.specs.Prelude.{option_map}
use Rattle.snap_names.specs.Lists.{byte_lists}
use Rattle.snap_names.proofs.WalkFacts.{walk_ends, walk_more, walk_stops}
use Rattle.snap_names.proofs.walk.names_below.Goals as goal

pub loop-at-preserved : goal.loop-at-preserved
loop-at-preserved g c =
    let below : c.loop-at.at < length c.loop-at.waiting.items = omega arith in
    let folder = c.as_slice-folder.result.now in
    let listing = option_map (λ entries. entries.items) c.in_ok-listing.listing in
    let more = walk_more (g.F.Folders.lists c.args.folders.now) c.args.start.now c.loop-at.at c.loop-at.waiting.items (byte_lists c.loop-at.names.items) folder listing below (c.as_slice-folder.ensures.value ∙ (rw c.deref.ensures.value at c.in_ok-copy.ensures)) c.in_ok-listing.ensures c.loop-at.invariant.walked in
    record {
      within = omega arith;
      walked = rw (c.in_ok-take_listing.ensures.waiting, c.in_ok-take_listing.ensures.names) more;
    }

pub returns-clause-walk : goal.returns-clause-walk
returns-clause-walk g c =
    let all : length c.loop-at.waiting.items ≤ c.loop-at.at = omega arith in
    walk_ends (g.F.Folders.lists c.args.folders.now) c.args.start.now c.loop-at.at c.loop-at.waiting.items c.loop-at.names.items c.sort_unstable.new.self.items all c.loop-at.invariant.walked c.sort_unstable.ensures.permutation c.sort_unstable.ensures.sorted

pub returns-then-at-eq-FOLDER_LIMIT-clause-refused : goal.returns-then-at-eq-FOLDER_LIMIT-clause-refused
returns-then-at-eq-FOLDER_LIMIT-clause-refused g c =
    let below : c.loop-at.at < length c.loop-at.waiting.items = omega arith in
    walk_stops (g.F.Folders.lists c.args.folders.now) c.args.start.now c.loop-at.at c.loop-at.waiting.items (byte_lists c.loop-at.names.items) below (omega arith) c.loop-at.invariant.walked
