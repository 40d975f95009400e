-- Calls of which pending updates that no view shows are left out, and the others get their ranks as numbers.
use Rattle.std.proofs.Common.{◌≡◌, ◌⊎◌, ◌↔◌, ◌<◌, ◌≤◌, true, List, Option, Some, None, refl, sym, ap, ◌∙◌, inl, inr, arith}
use Rattle.std.specs.List.{list_any}
use Rattle.std.proofs.lemmas.Bool.{false≢true, and_parts, cases_lt, cases_order, eqb-true}
use Rattle.snap_core.specs.declared.entry.Entry.{Entry}
use Rattle.snap_core.specs.Calls.{Call, is_view, shown}
use Rattle.snap_core.specs.Regular.{IsUpdateOf, IsViewOf}
use Rattle.snap_core.proofs.Facts.{precedes_from, shown_in}
use Rattle.snap_core.proofs.Lists.{In-from_Contains, Contains-from_In, In-from_filter, any_to}
use Rattle.snap_core.proofs.Members.{In-map, In-from_map}
use Rattle.snap_theory.specs.CutEvents.{LeavesSome}
use Rattle.snap_theory.specs.Intervals.{AreVersions, latest_begin}
use Rattle.snap_theory.specs.Versioned.{AgreeWithTime, AreVersioned, counted, counted_entry, is_version, kept_calls, numbered_calls, shows_version, stays_as}
use Rattle.snap_theory.specs.Versions.{IsAtomicInOrder}
use Rattle.snap_theory.proofs.Counted.{counted_option, counting, one_rank, same_rank, shown_counted, update_was}
use Rattle.snap_theory.proofs.CutCalls.{own_up}
use Rattle.snap_theory.proofs.Intervals.{Begins, Ends, earliest, latest}
use Rattle.snap_theory.proofs.LeftOut.{is_left, leaving_out, view_stays, was_there}
use Rattle.snap_theory.proofs.Timed.{AreMade, AreTimed, counted_times, kept_made}

-- an update of the numbered calls, as it was
pub record NumberedUpdate (calls : List Call) (c : Call) (e : Entry) : Type 0 where
  pub call : Call
  pub entry : Entry
  pub update : IsUpdateOf (kept_calls calls) call entry
  pub is : counted (kept_calls calls) call ≡ c
  pub counts : counted_entry (kept_calls calls) entry ≡ e

pub numbered_update : (calls : List Call) (c : Call) (e : Entry) → IsUpdateOf (numbered_calls calls) c e → NumberedUpdate calls c e
numbered_update calls c e u =
    let o = In-from_map (counted (kept_calls calls)) (kept_calls calls) c (In-from_Contains _ _ u.there) in
    let w = update_was (kept_calls calls) o.it e (ap (λ (z : Call). z.operation) o.is ∙ u.writes) in
    record { call = o.it; entry = w.entry; update = record { there = Contains-from_In _ _ o.there; writes = w.writes }; is = o.is; counts = w.is }

-- a pending update that stays is one that a view shows
record ShownBy (calls : List Call) (e : Entry) : Type 0 where
  view : Call
  entry : Entry
  is_one : IsViewOf calls view
  shows : shown view e.component ≡ Some entry
  number : entry.number ≡ e.number

shown_by : (calls : List Call) (c : Call) (e : Entry) → IsUpdateOf (kept_calls calls) c e → c.ended ≡ None → ShownBy calls e
shown_by calls c e u pending =
    let stays = (In-from_filter (λ c. stays_as calls c.ended c.operation) calls c (In-from_Contains _ _ u.there)).1 in
    let any : list_any (shows_version e) calls ≡ true = sym (ap (λ o. stays_as calls o c.operation) pending ∙ ap (stays_as calls None) u.writes) ∙ stays in
    let r = any_to (shows_version e) calls any in
    let p = and_parts (is_view r.it) (is_version e (shown r.it e.component)) r.passes in
    at r.it (record { there = Contains-from_In _ _ r.there; completed = p.0 }) (shown r.it e.component) refl p.1
  where
    at : (r : Call) → IsViewOf calls r → (o : Option Entry) → shown r e.component ≡ o → is_version e o ≡ true → ShownBy calls e
    at r v None s t = absurd (false≢true t)
    at r v (Some d) s t = record { view = r; entry = d; is_one = v; shows = s; number = eqb-true d.number e.number t }

-- each number is that of one update, and each pending update has a view that shows it
pub numbered_versions : (calls : List Call) → AreVersioned calls → AreVersions (numbered_calls calls)
numbered_versions calls versioned = record { alone = alone; known = known }
  where
    kept : List Call
    kept = kept_calls calls

    f : Call → Call
    f = counted kept

    was : (c : Call) (e : Entry) → IsUpdateOf kept c e → IsUpdateOf calls c e
    was c e u = record { there = was_there calls c u.there; writes = u.writes }

    alone : (a b : Call) (d e : Entry) → IsUpdateOf (numbered_calls calls) a d → IsUpdateOf (numbered_calls calls) b e → d.component ≡ e.component → d.number ≡ e.number → a ≡ b
    alone a b d e u w same n =
        let x = numbered_update calls a d u in
        let y = numbered_update calls b e w in
        let component : x.entry.component ≡ y.entry.component = ap (λ (z : Entry). z.component) x.counts ∙ same ∙ sym (ap (λ (z : Entry). z.component) y.counts) in
        let number = one_rank kept y.call x.entry y.entry y.update component (ap (λ (z : Entry). z.number) x.counts ∙ n ∙ sym (ap (λ (z : Entry). z.number) y.counts)) in
        sym x.is ∙ ap f (versioned x.call y.call x.entry y.entry (was x.call x.entry x.update) (was y.call y.entry y.update) component number) ∙ y.is

    known : (c : Call) (e : Entry) → IsUpdateOf (numbered_calls calls) c e → c.ended ≡ None → (r : Call) × (s : Entry) × IsViewOf (numbered_calls calls) r × (shown r e.component ≡ Some s) × (s.number ≡ e.number)
    known c e u pending =
        let x = numbered_update calls c e u in
        let s = shown_by calls x.call x.entry x.update (ap (λ (z : Call). z.ended) x.is ∙ pending) in
        let stays = is_left calls s.view s.is_one.there (view_stays calls s.view s.is_one.completed) in
        let component : x.entry.component ≡ e.component = ap (λ (z : Entry). z.component) x.counts in
        let own = (shown_in s.view x.entry.component s.entry s.shows).1 in (
          f s.view,
          counted_entry kept s.entry,
          record { there = Contains-from_In _ _ (In-map f kept s.view (In-from_Contains _ _ stays)); completed = (counted_times kept).view s.view ∙ s.is_one.completed },
          ap (shown (f s.view)) (sym component) ∙ shown_counted kept s.view x.entry.component ∙ ap (counted_option kept) s.shows,
          same_rank kept s.entry x.entry own s.number ∙ ap (λ (z : Entry). z.number) x.counts,
        )

-- they are atomic exactly when the calls are
pub numbering : (calls : List Call) → AreMade calls → IsAtomicInOrder calls ↔ IsAtomicInOrder (numbered_calls calls)
numbering calls made =
    let left = leaving_out calls in
    let ranks = counting (kept_calls calls) (kept_made calls made) in
    (λ a. ranks.0 (left.0 a), λ a. left.1 (ranks.1 a))

-- if no two updates contradict time, something is left of each once it is cut
pub agreeing_leaves_some : (calls : List Call) → AreTimed calls → AreVersions calls → AgreeWithTime calls → LeavesSome calls
agreeing_leaves_some calls t versions agree c e place u end = go (cases_order place (latest_begin calls e))
  where
    x : Ends calls e place
    x = earliest calls e place end

    y : Begins calls e (latest_begin calls e)
    y = latest calls e c (In-from_Contains _ _ u.there) (own_up c e u.writes)

    high : IsUpdateOf calls x.call x.is.entry
    high = record { there = Contains-from_In _ _ x.there; writes = x.is.writes }

    low : IsUpdateOf calls y.call y.is.entry
    low = record { there = Contains-from_In _ _ y.there; writes = y.is.writes }

    component : y.is.entry.component ≡ x.is.entry.component
    component = y.is.component ∙ sym x.is.component

    go : (place ≡ latest_begin calls e) ⊎ ((place < latest_begin calls e) ⊎ (latest_begin calls e < place)) → latest_begin calls e < place
    go (inr (inr more)) = more
    go (inl same) = absurd (t.apart x.call y.call place high.there low.there x.ended (y.begun ∙ sym same))
    go (inr (inl less)) = by (cases_lt y.is.entry.number x.is.entry.number)
      where
        by : (y.is.entry.number < x.is.entry.number) ⊎ (x.is.entry.number ≤ y.is.entry.number) → latest_begin calls e < place
        by (inl lower) = absurd (agree y.call x.call (record { low = y.is.entry; high = x.is.entry; is_low = low; is_high = high; component = component; version = lower; time = precedes_from x.call y.call (record { place = place; ends = x.ended; before = omega (arith, less, y.begun) }) }))
        by (inr rest) =
            let from = x.is.number in
            let up = y.is.number in
            let one = versions.alone y.call x.call y.is.entry x.is.entry low high component (omega (arith, rest, from, up)) in
            let rises = t.made.rises x.call place high.there x.ended in
            absurd (omega (arith, rises, less, y.begun, ap (λ (z : Call). z.begun) one))
