-- A call with its number.
use Rattle.std.proofs.Common.{◌≡◌, ℕ, ap, sym, ◌∙◌}
use Rattle.snap_core.specs.Calls.{Call}
use Rattle.snap_index.specs.IndexedCalls.{as_indexed}
use Rattle.snap_index.specs.declared.call.Call.{Call as IndexedCall}
use Rattle.snap_draw.specs.declared.drawn.Drawn.{Drawn}
use Rattle.snap_draw.specs.Calls.{drawn_call}

abbrev made : ℕ → IndexedCall → Drawn
made n b = record { number = n; call = b }

pub same_drawn : (n : ℕ) (b : IndexedCall) (c : Call) → b ≡ as_indexed c → c.number ≡ n → made n b ≡ drawn_call c
same_drawn n b c e f = ap (λ z. made n z) e ∙ ap (λ z. made z (as_indexed c)) (sym f)
