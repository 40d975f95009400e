use Rattle.std.proofs.Common.{◌≡◌, ◌||◌, not, take, count_by}
use Rattle.snap_stats.specs.inside.Spans.{meets_some, meets_two}
use Rattle.snap_stats.proofs.overlaps.count_overlaps.Given as goal

abbrev pub invariant-loop-span : goal.invariant-loop-span
invariant-loop-span l = record {
  update : l.update ≡ count_by (meets_some l.updates) (take l.span-index l.views);
  view : l.view ≡ count_by (meets_two l.views) (take l.span-index l.views);
  nothing : l.nothing ≡ count_by (λ r. not (meets_some l.updates r || meets_two l.views r)) (take l.span-index l.views);
}
