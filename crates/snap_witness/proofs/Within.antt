-- A call begins and ends within its history.
use Rattle.std.proofs.Common.{◌<◌, ℕ, List, ◌∷◌, length, ap, arith}
use Rattle.std.specs.Option.{ForSome}
use Rattle.std.proofs.lemmas.List.{length-append}
use Rattle.std.proofs.lemmas.Option.{slice_get_within}
use Rattle.snap_core.specs.declared.event.Event.{Event}
use Rattle.snap_core.specs.Calls.{Call, call_numbered, calls_of, nobody}
use Rattle.snap_core.specs.Ordered.{IsOrdered}
use Rattle.snap_core.proofs.Ends.{begun_of, call_end}
use Rattle.snap_core.proofs.Lists.{Contains-from_In, In-get_or}

-- the events of a call are among those of its history
pub record IsWithin (es : List Event) (c : Call) : Type 0 where
  pub begun : c.begun < length es
  pub ended : ForSome c.ended (λ place. place < length es)

-- where the call of a number, as an index keeps it, begins and ends
pub call_is_within : (es : List Event) → IsOrdered es → (n : ℕ) → n < length (calls_of es) → IsWithin es (call_numbered (calls_of es) n)
call_is_within es h n l =
    let c = call_numbered (calls_of es) n in
    let there = Contains-from_In (calls_of es) c (In-get_or (calls_of es) n nobody l) in
    let b = begun_of es c there in
    record {
      begun = omega (arith, b.at_place, ap length b.split, length-append b.before (b.event ∷ b.after));
      ended = λ place e. let end = call_end es h.well_formed c place there e in slice_get_within es place end.event end.there;
    }
