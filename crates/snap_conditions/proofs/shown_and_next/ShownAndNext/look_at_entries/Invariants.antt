use Rattle.std.proofs.Common.{◌≡◌, ◌<◌, ℕ, false, get_or}
use Rattle.snap_core.specs.Calls.{calls_of}
use Rattle.snap_conditions.specs.inside.ShownAndNext.{AreAround, AreFrom}
use Rattle.snap_views.specs.Rows.{number_among}
use Rattle.snap_conditions.proofs.shown_and_next.ShownAndNext.look_at_entries.Given as goal

abbrev pub invariant-loop-k : goal.invariant-loop-k
invariant-loop-k g l = record {
  limit : l.self.limit ≡ l.fn.self.limit;
  left : AreFrom l.k l.entries l.left;
  numbers : (j : ℕ) → j < l.k → get_or l.self.numbers j 0 ≡ number_among l.entries j;
  around : AreAround (calls_of l.index) l.self;
  written : l.self.written ≡ false;
}
