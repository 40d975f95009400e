-- The shapes of some calls that are drawn.
use Rattle.std.specs.Prelude.{ℕ, Bool, List, ◌≡◌, ◌==◌, ◌++◌, length, nat_lt, Option, Some, None, count_by, filter, map}
use Rattle.std.specs.List.{filter_map, list_any, position, range_with_len}
use Rattle.snap_core.specs.Calls.{Call}
use Rattle.snap_conditions.specs.declared.tally.Tally.{Tally}
use Rattle.snap_draw.specs.declared.drawn.Drawn.{Drawn}
use Rattle.snap_draw.specs.declared.marks.Mark.{Mark}
use Rattle.snap_draw.specs.declared.shapes.Bar.{Bar}
use Rattle.snap_draw.specs.declared.shapes.Shapes.{Shapes}
use Rattle.snap_draw.specs.Calls.{drawn_call}
use Rattle.snap_draw.specs.Marks.{marks_of}
use Rattle.snap_draw.specs.declared.window.Window.{Window}
use Rattle.snap_draw.specs.Window.{drawn_in}

abbrev pub has_process : List Drawn → ℕ → Bool
has_process calls process = list_any (λ (d : Drawn). d.call.process == process) calls

-- the processes of the calls below a number, each once, in order
abbrev pub lanes_below : ℕ → List Drawn → List ℕ
lanes_below limit calls = filter (has_process calls) (range_with_len 0 limit)

-- processes are numbers of 16 bits
unfoldable pub lanes_of : List Drawn → List ℕ
lanes_of calls = lanes_below 65536 calls

-- the places of the events of the calls
abbrev pub places_of : List Drawn → List ℕ
places_of calls = map (λ (d : Drawn). d.call.begun) calls ++ filter_map (λ (d : Drawn). d.call.ended) calls

-- the column of the event at a place: the number of drawn events before it
abbrev pub column_of : List ℕ → ℕ → ℕ
column_of places place = count_by (λ other. nat_lt other place) places

-- a pending call has no end
abbrev pub end_column : List ℕ → Option ℕ → Option ℕ
end_column places None = None
end_column places (Some place) = Some (column_of places place)

-- the lane of a process: the number of lanes before it
abbrev pub lane_of : List ℕ → ℕ → ℕ
lane_of lanes process = count_by (λ lane. nat_lt lane process) lanes

-- the place of a call in an order
abbrev pub place_of : List ℕ → ℕ → Option ℕ
place_of order number = position (λ other. other == number) order

abbrev pub bar_of : List ℕ → List ℕ → List ℕ → Drawn → Bar
bar_of lanes places order d =
    record {
      drawn = d;
      lane = lane_of lanes d.call.process;
      begin = column_of places d.call.begun;
      end = end_column places d.call.ended;
      place = place_of order d.number;
    }

-- the bar of each call that is drawn
abbrev pub bars_of : List ℕ → List Drawn → List Bar
bars_of order calls = map (bar_of (lanes_of calls) (places_of calls) order) calls

-- the calls of a history that are drawn in a window
abbrev pub calls_drawn : Window → List Call → Tally → List Drawn
calls_drawn window calls t = drawn_in window.place window.calls (marks_of calls t) (map drawn_call calls)

-- the shapes of the calls that are drawn, with an order and with marks. They have a lane for each process, a bar for each call and no
-- other, and a column for each event
pub record AreShapes (order : List ℕ) (marks : List Mark) (calls : List Drawn) (shapes : Shapes) : Type 0 where
  pub lanes : shapes.lanes.items ≡ lanes_of calls
  pub bars : shapes.bars.items ≡ bars_of order calls
  pub columns : shapes.columns ≡ length (places_of calls)
  pub marked : shapes.marks.items ≡ marks
