-- One more row among the updates and the views.
use Rattle.std.proofs.Common.{◌≡◌, ℕ, Bool, true, false, cond, List, [], ◌∷◌, ◌++◌, append-nil, map, Option, sym, ap, ◌∙◌, get_or, ◌<◌, length, arith}
use Rattle.std.specs.Prelude.{not}
use Rattle.std.specs.List.{filter, flat_map, Contains}
use Rattle.std.proofs.lemmas.Grind.{flat_map-append}
use Rattle.std.proofs.lemmas.List.{map-append, map_push, get_or-map, length-map}
use Rattle.std.proofs.lemmas.List.Elements.{filter-append}
use Rattle.snap_core.specs.declared.entry.Entry.{Entry}
use Rattle.snap_core.specs.Calls.{Call, Updates, Views}
use Rattle.snap_core.specs.Calls.{Operation as SpecOperation}
use Rattle.snap_core.specs.Orders.{is_update, is_writing}
use Rattle.snap_versions.specs.declared.row.Operation.TheVariants.{Update, View}
use Rattle.snap_versions.specs.declared.row.Row.{Row}
use Rattle.snap_versions.specs.declared.moments.Ranked.{Ranked}
use Rattle.snap_versions.specs.declared.update.Update.{Update as UpdateRow}
use Rattle.snap_versions.specs.Rows.{operation_of, call_of}
use Rattle.snap_versions.specs.inside.RankedMoments.{ranked, ranked_whole}
use Rattle.snap_versions.specs.inside.Updates.{update_call, update_calls}

pub is_update_of : (c : Call) (e : Entry) → c.operation ≡ Updates e → is_update c ≡ true
unfolding is_update
is_update_of c e w = ap is_writing w

pub is_no_update : (c : Call) (answer : Option (List Entry)) → c.operation ≡ Views answer → is_update c ≡ false
unfolding is_update
is_no_update c answer w = ap is_writing w

abbrev is_other : Call → Bool
is_other c = not (is_update c)

filter_pushed : (p : Call → Bool) (rows : List Row) (row : Row) (b : Bool) → p (call_of row) ≡ b → filter p (map call_of (rows ++ row ∷ [])) ≡ filter p (map call_of rows) ++ cond b (call_of row ∷ []) []
filter_pushed p rows row b h =
    ap (filter p) (map_push call_of rows row) ∙ filter-append p (map call_of rows) (call_of row ∷ []) ∙ ap (λ t. filter p (map call_of rows) ++ cond t (call_of row ∷ []) []) h

-- the call of a row with an operation
abbrev row_call : Row → SpecOperation → Call
row_call row o = record { number = row.number; process = row.process; operation = o; begun = row.begun; ended = row.ended }

-- an update comes to the updates
pub update_comes : (rows : List Row) (row : Row) (e : Entry) → row.operation ≡ Update e → (updates new : List UpdateRow) → update_calls updates ≡ filter is_update (map call_of rows) →
    new ≡ updates ++ record { number = row.number; process = row.process; entry = e; begun = row.begun; ended = row.ended } ∷ [] → update_calls new ≡ filter is_update (map call_of (rows ++ row ∷ []))
update_comes rows row e w updates new were is =
    ap update_calls is ∙ map-append update_call updates _ ∙ ap (λ z. z ++ row_call row (Updates e) ∷ []) were
    ∙ ap (λ o. filter is_update (map call_of rows) ++ row_call row o ∷ []) (sym written) ∙ sym (filter_pushed is_update rows row true (is_update_of (call_of row) e written))
  where
    written : operation_of row.operation ≡ Updates e
    written = ap operation_of w

-- and not to the views
pub update_stays_out : (rows : List Row) (row : Row) (e : Entry) → row.operation ≡ Update e → filter is_other (map call_of (rows ++ row ∷ [])) ≡ filter is_other (map call_of rows)
update_stays_out rows row e w = filter_pushed is_other rows row false (ap not (is_update_of (call_of row) e (ap operation_of w))) ∙ append-nil _

-- a view comes to the views
pub view_comes : (rows : List Row) (row : Row) (answer : Option (List Entry)) → row.operation ≡ View answer → (moments new : List Ranked) → moments ≡ flat_map ranked_whole (filter is_other (map call_of rows)) →
    new ≡ moments ++ ranked row.process (Views answer) row.begun row.ended row.begun row.ended → new ≡ flat_map ranked_whole (filter is_other (map call_of (rows ++ row ∷ [])))
view_comes rows row answer w moments new were is =
    is ∙ ap (λ z. z ++ ranked row.process (Views answer) row.begun row.ended row.begun row.ended) were
    ∙ ap (λ o. flat_map ranked_whole (filter is_other (map call_of rows)) ++ ranked row.process o row.begun row.ended row.begun row.ended) (sym written)
    ∙ ap (λ z. flat_map ranked_whole (filter is_other (map call_of rows)) ++ z) (sym (append-nil _))
    ∙ sym (flat_map-append ranked_whole (filter is_other (map call_of rows)) (call_of row ∷ []))
    ∙ ap (flat_map ranked_whole) (sym (filter_pushed is_other rows row true (ap not (is_no_update (call_of row) answer written))))
  where
    written : operation_of row.operation ≡ Views answer
    written = ap operation_of w

-- and not to the updates
pub view_stays_out : (rows : List Row) (row : Row) (answer : Option (List Entry)) → row.operation ≡ View answer → filter is_update (map call_of (rows ++ row ∷ [])) ≡ filter is_update (map call_of rows)
view_stays_out rows row answer w = filter_pushed is_update rows row false (is_no_update (call_of row) answer (ap operation_of w)) ∙ append-nil _

-- the call of a row is among those of the rows
pub call_there : (rows : List Row) (row : Row) (i : ℕ) → i < length rows → row ≡ get_or rows i row → Contains (map call_of rows) (call_of row)
call_there rows row i l is = let size = length-map rows call_of in (i, omega (arith, l, size), get_or-map call_of rows i row (call_of row) l ∙ ap call_of (sym is))
