use Rattle.std.proofs.Common.{◌≡◌, ◌<◌, ℕ, ◌-◌, IsTrue, List, length, get_or}
use Rattle.std.specs.List.{All}
use Rattle.snap_core.specs.declared.entry.Entry.{Entry}
use Rattle.snap_core.specs.declared.event.Event.{Event}
use Rattle.snap_core.specs.Calls.{calls_of}
use Rattle.snap_conditions.specs.declared.shown_and_next.Along.TheVariants.{Same}
use Rattle.snap_conditions.specs.declared.shown_and_next.ShownAndNext.{ShownAndNext}
use Rattle.snap_conditions.specs.inside.ShownAndNext.{AreAround, IsWritten}
use Rattle.snap_views.specs.Rows.{number_among}
use Rattle.snap_conditions.proofs.Exchanged.{exchanged}
use Rattle.snap_conditions.proofs.shown_and_next.ShownAndNext.look_along.Given as goal

-- the numbers are those of the view before, but for the entries before place i
abbrev IsLookedUp : (es : List Event) (bound : ℕ) (old new : List Entry) (i : ℕ) (updates : ShownAndNext) → Type 0
IsLookedUp es bound old new i updates = record {
  limit : updates.limit ≡ bound;
  numbers : (k : ℕ) → k < bound → get_or updates.numbers k 0 ≡ number_among (exchanged old new i) k;
  around : AreAround (calls_of es) updates;
  written : IsTrue updates.written → All (IsWritten (calls_of es)) (exchanged old new i);
}

abbrev pub invariant-loop-i : goal.invariant-loop-i
invariant-loop-i g l = IsLookedUp l.index l.fn.self.limit l.before l.entries l.i l.self

abbrev pub invariant-loop-begin : goal.invariant-loop-begin
invariant-loop-begin g l = record {
  looked_up : IsLookedUp l.index l.fn.self.limit l.before l.entries l.begin l.self;
  same : l.along ≡ Same → l.before ≡ exchanged l.before l.entries l.begin;
  unchanged : l.along ≡ Same → l.self ≡ l.fn.self;
}

abbrev pub decreases-loop-begin : goal.decreases-loop-begin
decreases-loop-begin g l = length l.entries - l.begin
