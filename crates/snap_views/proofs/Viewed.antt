-- Calls and completed views of a history, by number and by place.
use Rattle.std.proofs.Common.{◌≡◌, ℕ, ◌<◌, List, length, Some, sym, ap, ◌∙◌}
use Rattle.std.specs.Prelude.{slice_get}
use Rattle.std.specs.List.{Contains}
use Rattle.std.proofs.lemmas.Option.{slice_get-get_or}
use Rattle.snap_core.specs.declared.event.Event.{Event}
use Rattle.snap_core.specs.Calls.{Call, calls_of, views_of, nobody}
use Rattle.snap_core.proofs.Lists.{In, In-get_or}
use Rattle.snap_core.proofs.Histories.{numbered_calls}
use Rattle.snap_views.specs.Seen.{view_in}
use Rattle.snap_theory.proofs.FaultLists.{from_views}

-- the place of a call is its number
pub call_at_number : (es : List Event) (c : Call) → Contains (calls_of es) c → slice_get (calls_of es) c.number ≡ Some c
call_at_number es c i =
    let n : c.number ≡ i.0 = ap (λ (z : Call). z.number) (sym i.2) ∙ numbered_calls es i.0 c i.1 in
    ap (slice_get (calls_of es)) n ∙ slice_get-get_or (calls_of es) i.0 c i.1 ∙ ap Some i.2

pub view_there : (es : List Event) (place : ℕ) → place < length (views_of (calls_of es)) → In (view_in (calls_of es) place) (views_of (calls_of es))
view_there es place l = In-get_or (views_of (calls_of es)) place nobody l

pub view_at_number : (es : List Event) (place : ℕ) → place < length (views_of (calls_of es)) → slice_get (calls_of es) (view_in (calls_of es) place).number ≡ Some (view_in (calls_of es) place)
view_at_number es place l = call_at_number es (view_in (calls_of es) place) (from_views (calls_of es) (view_in (calls_of es) place) (view_there es place l)).there
