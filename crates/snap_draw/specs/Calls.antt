-- A call with its number, as it is drawn.
use Rattle.snap_core.specs.Calls.{Call}
use Rattle.snap_index.specs.IndexedCalls.{as_indexed}
use Rattle.snap_draw.specs.declared.drawn.Drawn.{Drawn}

abbrev pub drawn_call : Call → Drawn
drawn_call c = record { number = c.number; call = as_indexed c }
