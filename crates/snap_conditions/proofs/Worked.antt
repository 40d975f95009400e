-- The faults of worked histories, by computation.
use Rattle.std.specs.Prelude.{ℕ, List, [], ◌∷◌, ◌≡◌, Some, refl, length}
use Rattle.snap_core.specs.declared.event.Event.{Event}
use Rattle.snap_core.specs.Calls.{calls_of, precedes, is_view, shown, shown_number, is_update_numbered, views_of}
use Rattle.snap_theory.specs.Faults.{exceeds, integrity_fault, old_fault, early_fault, read_fault, write_fault, integrity_faults, proximity_faults, read_faults, write_faults, is_stale, stale_count}
use Rattle.snap_conditions.specs.declared.tally.Tally.{Tally}
use Rattle.snap_conditions.specs.declared.fault.Side.TheVariants.{Old}
use Rattle.snap_conditions.specs.Tally.{tally_of, no_fault}
use Rattle.snap_views.specs.Seen.{views_between}
use Rattle.snap_theory.specs.Faults.{least_exceeding}
use Rattle.snap_core.proofs.Worked as worked

-- how many integrity, proximity, read and write faults, and how many stale views
abbrev counts : List Event → List ℕ
unfolding calls_of precedes is_view shown shown_number is_update_numbered exceeds integrity_fault old_fault early_fault read_fault write_fault views_of integrity_faults proximity_faults read_faults write_faults is_stale stale_count
counts es =
    let calls = calls_of es in
    length (integrity_faults calls (views_of calls)) ∷ length (proximity_faults calls (views_of calls)) ∷
    length (read_faults calls (views_of calls)) ∷ length (write_faults calls (views_of calls)) ∷ stale_count calls (views_of calls) ∷ []

stale_view : counts worked.stale_view ≡ 0 ∷ 1 ∷ 0 ∷ 0 ∷ 0 ∷ []
unfolding counts
stale_view = refl

view_of_the_future : counts worked.view_of_the_future ≡ 0 ∷ 1 ∷ 0 ∷ 0 ∷ 0 ∷ []
unfolding counts
view_of_the_future = refl

new_then_old : counts worked.new_then_old ≡ 0 ∷ 0 ∷ 1 ∷ 0 ∷ 1 ∷ []
unfolding counts
new_then_old = refl

crossed_views : counts worked.crossed_views ≡ 0 ∷ 0 ∷ 2 ∷ 0 ∷ 0 ∷ []
unfolding counts
crossed_views = refl

missed_update : counts worked.missed_update ≡ 0 ∷ 0 ∷ 0 ∷ 1 ∷ 0 ∷ []
unfolding counts
missed_update = refl

atomic_run : counts worked.atomic_run ≡ 0 ∷ 0 ∷ 0 ∷ 0 ∷ 0 ∷ []
unfolding counts
atomic_run = refl

wrong_value : counts worked.wrong_value ≡ 1 ∷ 0 ∷ 0 ∷ 0 ∷ 0 ∷ []
unfolding counts
wrong_value = refl

largest_number : counts worked.largest_number ≡ 1 ∷ 0 ∷ 0 ∷ 0 ∷ 0 ∷ []
unfolding counts
largest_number = refl

stale_and_wrong : counts worked.stale_and_wrong ≡ 1 ∷ 1 ∷ 0 ∷ 0 ∷ 0 ∷ []
unfolding counts
stale_and_wrong = refl

-- the tally of the views from one place to before another
abbrev tally_between : List Event → ℕ → ℕ → Tally
unfolding calls_of precedes is_view shown shown_number is_update_numbered exceeds integrity_fault old_fault early_fault read_fault write_fault least_exceeding views_of integrity_faults proximity_faults read_faults write_faults is_stale stale_count tally_of
tally_between es from to = tally_of (calls_of es) (views_between (calls_of es) from to)

crossed_first : tally_between worked.crossed_views 0 1 ≡ record no_fault { read = record { count = 1; first = Some (record { view = 2; other = 3; component = 0 }) } }
unfolding tally_between
crossed_first = refl

crossed_second : tally_between worked.crossed_views 1 2 ≡ record no_fault { read = record { count = 1; first = Some (record { view = 3; other = 2; component = 1 }) } }
unfolding tally_between
crossed_second = refl

crossed_both : tally_between worked.crossed_views 0 2 ≡ record no_fault { read = record { count = 2; first = Some (record { view = 2; other = 3; component = 0 }) } }
unfolding tally_between
crossed_both = refl

stale_first : tally_between worked.stale_and_wrong 0 1 ≡ record no_fault { proximity = record { count = 1; first = Some (record { view = 1; component = 0; number = 0; side = Old }) } }
unfolding tally_between
stale_first = refl

wrong_second : tally_between worked.stale_and_wrong 1 2 ≡ record no_fault { integrity = record { count = 1; first = Some (record { view = 2; entry = worked.entry 0 1 9 }) } }
unfolding tally_between
wrong_second = refl

missed : tally_between worked.missed_update 0 1 ≡ record no_fault { write = record { count = 1; first = Some (record { view = 0; missed_component = 0; missed_number = 1; shown_component = 1; shown_number = 1 }) } }
unfolding tally_between
missed = refl

nothing : tally_between worked.crossed_views 1 1 ≡ no_fault
unfolding tally_between
nothing = refl
