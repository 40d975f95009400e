-- What the tables say of a history.
use Rattle.std.proofs.Common.{◌≡◌, ◌<◌, ℕ, suc, ◌+◌, ◌%◌, Bool, true, false, not, ◌&&◌, List, [], ◌∷◌, length, Option, Some, None, refl, sym, ap, ◌∙◌, arith}
use Rattle.std.specs.Prelude.{◌==◌, is_some, nat_le, nat_lt, slice_index_or}
use Rattle.std.specs.List.{list_any}
use Rattle.std.proofs.lemmas.Bool.{eq-eqb, false_from_ne_true, not-true, lt-leb, leb-false, lt-ltb, ltb-true, ltb-false, and_parts, and_from}
use Rattle.snap_core.specs.declared.entry.Entry.{Entry}
use Rattle.snap_core.specs.declared.event.Begun.TheVariants as begun
use Rattle.snap_core.specs.declared.tables.Tables.{Tables}
use Rattle.snap_core.specs.declared.writers.Writers.{Writers}
use Rattle.snap_core.specs.Events.{Event, BeginUpdate, BeginView, EndUpdate, EndView, process_of, IsBegin, Ends, TakeTurns, events_of}
use Rattle.snap_core.specs.Calls.{Call, calls_of}
use Rattle.snap_core.specs.Ordered.{IsOrdered}
use Rattle.snap_core.specs.Refusals.{ends_early, has_open, has_open_below, is_open_below, last_event, is_busy, is_idle, is_begin, writes_below}
use Rattle.snap_core.specs.Regular.{IsUpdateOf}
use Rattle.snap_core.specs.inside.Tables.{begun_by, begun_in, call_in, writer_in, count_in, ended_in, is_written_by_other, Recalls, IsRecalled}
use Rattle.snap_core.proofs.Histories.{earlier_part}
use Rattle.snap_core.proofs.Lists.{In-from_Contains, Contains-from_In, any_from, any_to}
use Rattle.snap_core.proofs.OrderedPushes.{is_ordered_by, open_below}
use Rattle.snap_core.proofs.Pushed.{open_update}
use Rattle.snap_core.proofs.Pushes.{last_of, last_is, count_is}

-- a process whose last event begins a call has an odd count of events

begins : (b : Event) → IsBegin b → is_some (begun_by b) ≡ true
begins (BeginUpdate p e) h = refl
begins (BeginView p) h = refl
begins (EndUpdate p) h = absurd h
begins (EndView p es) h = absurd h

ended : (b e : Event) → Ends b e → is_some (begun_by e) ≡ false
ended (BeginUpdate p d) (EndUpdate q) h = refl
ended (BeginView p) (EndView q es) h = refl
ended (BeginUpdate p d) (BeginUpdate q c) h = absurd h
ended (BeginUpdate p d) (BeginView q) h = absurd h
ended (BeginUpdate p d) (EndView q es) h = absurd h
ended (BeginView p) (BeginUpdate q c) h = absurd h
ended (BeginView p) (BeginView q) h = absurd h
ended (BeginView p) (EndUpdate q) h = absurd h
ended (EndUpdate p) e h = absurd h
ended (EndView p es) e h = absurd h

two_more : (n : ℕ) → (n % 2 == 1) ≡ (suc (suc n) % 2 == 1)
two_more n = let e : n % 2 ≡ suc (suc n) % 2 = omega arith in ap (λ m. m == 1) e

open_turns : (zs : List Event) (o : Option Event) → TakeTurns zs → is_some (begun_in o) ≡ false → is_some (begun_in (last_of o zs)) ≡ (length zs % 2 == 1)
open_turns [] o t h = h
open_turns (b ∷ []) o t h = begins b t
open_turns (b ∷ x ∷ rest) o t h = open_turns rest (Some x) t.1 (ended b x t.0) ∙ two_more (length rest)

open_is : (writers : Writers) (t : Tables) (es : List Event) (p : ℕ) → IsRecalled writers t es → is_some (call_in t p) ≡ has_open p es
open_is writers t es p r =
    ap is_some (r.recalls.calls p ∙ ap begun_in (last_is p None es)) ∙ open_turns (events_of p es) None ((is_ordered_by writers es r.kept.history).well_formed p) refl
    ∙ ap (λ n. n % 2 == 1) (count_is p es)

pub busy_is : (writers : Writers) (t : Tables) (es : List Event) (e : Event) → IsRecalled writers t es → (is_begin e && is_some (call_in t (process_of e))) ≡ is_busy es e
busy_is writers t es e r = ap (λ b. is_begin e && b) (open_is writers t es (process_of e) r)

pub idle_is : (writers : Writers) (t : Tables) (es : List Event) (e : Event) → IsRecalled writers t es → (not (is_begin e) && not (is_some (call_in t (process_of e)))) ≡ is_idle es e
idle_is writers t es e r = ap (λ b. not (is_begin e) && not b) (open_is writers t es (process_of e) r)

-- an end out of order, by the tables

-- an update that an open call of a process is
open_entry : (o : Option Event) (e : Entry) → begun_in o ≡ Some (begun.Update e) → (q : ℕ) × (o ≡ Some (BeginUpdate q e))
open_entry None e h = absurd (cc)
open_entry (Some (BeginUpdate q d)) e h = let same : d ≡ e = cc in (q, ap (λ z. Some (BeginUpdate q z)) same)
open_entry (Some (BeginView q)) e h = absurd (cc)
open_entry (Some (EndUpdate q)) e h = absurd (cc)
open_entry (Some (EndView q s)) e h = absurd (cc)

-- where the open call of the process is no update, its end is not early
pub no_update_early : (writers : Writers) (t : Tables) (es : List Event) (p : ℕ) → IsRecalled writers t es → ((e : Entry) → call_in t p ≡ Some (begun.Update e) → ⊥) → ends_early es (EndUpdate p) ≡ false
no_update_early writers t es p r n = go (last_event p None es) (r.recalls.calls p)
  where
    go : (o : Option Event) → call_in t p ≡ begun_in o → has_open_below (calls_of es) o ≡ false
    go None h = refl
    go (Some (BeginUpdate q e)) h = absurd (n e h)
    go (Some (BeginView q)) h = refl
    go (Some (EndUpdate q)) h = refl
    go (Some (EndView q s)) h = refl

-- an update ends early exactly if the one numbered one above those that ended is below it
pub early_is : (writers : Writers) (t : Tables) (es : List Event) (p : ℕ) (e : Entry) → IsRecalled writers t es → call_in t p ≡ Some (begun.Update e) → ends_early es (EndUpdate p) ≡ nat_lt (ended_in (writer_in t e.component) + 1) e.number
early_is writers t es p e r h =
    let o = open_entry (last_event p None es) e (sym (r.recalls.calls p) ∙ h) in
    ap (has_open_below (calls_of es)) o.1 ∙ sides (nat_lt (m + 1) e.number) refl o
  where
    m : ℕ
    m = ended_in (writer_in t e.component)

    ordered : IsOrdered es
    ordered = is_ordered_by writers es r.kept.history

    sides : (b : Bool) → nat_lt (m + 1) e.number ≡ b → (q : ℕ) × (last_event p None es ≡ Some (BeginUpdate q e)) → list_any (is_open_below e) (calls_of es) ≡ nat_lt (m + 1) e.number
    sides true l o =
        let less = ltb-true (m + 1) e.number l in
        let b = open_update es (EndUpdate p) p o.0 e refl o.1 in
        let f = earlier_part es ordered.numbered b.call e (m + 1) b.update (omega arith) (omega (arith, less)) in
        let g = ends_at f.call f.entry f.update f.component (omega (arith, f.number)) in
        any_from (is_open_below e) (calls_of es) f.call (In-from_Contains _ _ f.update.there)
        (and_from _ _ (ap (λ z. writes_below z e) f.update.writes ∙ and_from _ _ (eq-eqb _ _ f.component) (lt-ltb f.entry.number e.number (omega (arith, f.number, less)))) (ap not g))
        ∙ sym l
      where
        ends_at : (c : Call) (d : Entry) → IsUpdateOf (calls_of es) c d → d.component ≡ e.component → m < d.number → is_some c.ended ≡ false
        ends_at c d u same more = r.recalls.ended c d u ∙ ap (λ z. nat_le d.number (ended_in (writer_in t z))) same ∙ lt-leb d.number m more
    sides false l o = false_from_ne_true _ none ∙ sym l
      where
        none : list_any (is_open_below e) (calls_of es) ≡ true → ⊥
        none t' =
            let z = any_to (is_open_below e) (calls_of es) t' in
            let parts = and_parts _ _ z.passes in
            let d = open_below z.it.operation e parts.0 in
            let u : IsUpdateOf (calls_of es) z.it d.0 = record { there = Contains-from_In _ _ z.there; writes = d.1 } in
            let pending : is_some z.it.ended ≡ false = not-true _ parts.1 in
            let more : m < d.0.number = leb-false d.0.number m (sym (ap (λ z. nat_le d.0.number (ended_in (writer_in t z))) d.2) ∙ sym (r.recalls.ended z.it d.0 u) ∙ pending) in
            let few = ltb-false (m + 1) e.number l in
            omega (arith, more, few, d.3)

-- the tables of the history without events
pub none_recalled : (writers : Writers) (t : Tables) → t.calls.items ≡ [] → t.writers.items ≡ [] → Recalls writers t []
unfolding calls_of
none_recalled writers t calls rows = record {
  calls = λ p. ap (λ z. slice_index_or z p None) calls;
  counts = λ k. ap (λ z. count_in (slice_index_or z k None)) rows;
  writer = λ o k p. ap (λ z. is_written_by_other p (slice_index_or z k None)) rows;
  ended = λ c e i. absurd (In-from_Contains [] c i.there);
  few = λ k. omega (arith, ap (λ z. ended_in (slice_index_or z k None)) rows);
}
