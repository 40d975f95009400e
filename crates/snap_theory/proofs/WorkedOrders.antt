-- The printed orders of worked histories, by computation.
use Rattle.std.specs.Prelude.{ℕ, List, [], ◌∷◌, ◌≡◌, refl, map}
use Rattle.snap_core.specs.declared.event.Event.{Event}
use Rattle.snap_core.specs.Calls.{calls_of, precedes, is_view, shown, shown_number}
use Rattle.snap_theory.specs.Faults.{exceeds}
use Rattle.snap_theory.specs.Levels.{update_level, view_level, rank, is_printed, printed_order}
use Rattle.snap_core.proofs.Worked as worked

-- the numbers of the printed calls
abbrev printed : List Event → List ℕ
unfolding calls_of precedes is_view shown shown_number exceeds update_level view_level rank is_printed printed_order
printed es = map (λ c. c.number) (printed_order (calls_of es))

seen_pending : printed worked.seen_pending ≡ 0 ∷ 2 ∷ []
unfolding printed
seen_pending = refl

view_before_update : printed worked.view_before_update ≡ 1 ∷ 0 ∷ []
unfolding printed
view_before_update = refl

atomic_run : printed worked.atomic_run ≡ 0 ∷ 2 ∷ 1 ∷ 3 ∷ 4 ∷ []
unfolding printed
atomic_run = refl

all_pending : printed worked.all_pending ≡ []
unfolding printed
all_pending = refl

-- twice the level of each call, and one more for a view
abbrev ranks : List Event → List ℕ
unfolding calls_of precedes is_view shown shown_number exceeds update_level view_level rank
ranks es = map (rank (calls_of es)) (calls_of es)

seen_pending_ranks : ranks worked.seen_pending ≡ 0 ∷ 2 ∷ 1 ∷ []
unfolding ranks
seen_pending_ranks = refl

view_before_update_ranks : ranks worked.view_before_update ≡ 2 ∷ 1 ∷ []
unfolding ranks
view_before_update_ranks = refl

atomic_run_ranks : ranks worked.atomic_run ≡ 0 ∷ 2 ∷ 1 ∷ 2 ∷ 3 ∷ []
unfolding ranks
atomic_run_ranks = refl
