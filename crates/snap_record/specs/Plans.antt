-- Plans, and the calls that a script asks for.
use Rattle.std.specs.Prelude.{◌≡◌, ℕ, zero, suc, ◌+◌, ◌-◌, ◌*◌, ◌&&◌, nat_le, Bool, true, false, ◌<◌, ◌≤◌, not, nat_lt, if◌then◌else◌, List, [], ◌∷◌, ◌++◌, map, length, ⊤, Option, Some, None, Vec, vec_items, slice_index_or}
use Rattle.std.specs.declared.alloc.Global.{Global}
use Rattle.snap_core.specs.declared.event.Event.{Event}
use Rattle.snap_core.specs.declared.event.Event.TheVariants.{BeginUpdate, BeginView, EndUpdate, EndView}
use Rattle.snap_core.specs.Events.{events_of, event_cap}
use Rattle.snap_core.specs.Sums.{total}
use Rattle.snap_board.specs.Settled.{falling}
use Rattle.snap_record.specs.Choices.{chosen, left_out, LeavesScans, scans_in, stores_but, views_in}
use Rattle.snap_record.specs.declared.plan.Step.{Step}
use Rattle.snap_record.specs.declared.plan.Step.TheVariants.{Store, View, Scan}
use Rattle.snap_record.specs.declared.plan.TheConstants.{LEAST_WORKERS, ROUND_LIMIT, ROUND_TRIES, TICKS_AN_EVENT, TRY_LIMIT, VALUES_EACH, WORKER_LIMIT}
use Rattle.snap_record.specs.declared.plan.PlanRefusal.{PlanRefusal}
use Rattle.snap_record.specs.declared.plan.PlanRefusal.TheVariants.{Workers, TooLong, Memory}

-- what contracts see of a plan: its scripts, and their limit of events together
pub record PlanView : Type 0 where
  pub scripts : List (List Step)
  pub limit : ℕ

abbrev pub lists_of : List (Vec Step Global) → List (List Step)
lists_of vs = map (λ v. vec_items v) vs

-- the number of steps of all scripts together
abbrev pub steps_in : List (List Step) → ℕ
steps_in [] = 0
steps_in (s ∷ ss) = length s + steps_in ss

-- the greatest number of ticks that a step may draw
abbrev pub step_ticks : Step → ℕ
step_ticks (Store v) = 2
step_ticks View = 2
step_ticks (Scan tries) = tries + 2

-- a scan has at least one try, and at most `TRY_LIMIT`
abbrev pub has_tries : Step → Bool
has_tries (Store v) = true
has_tries View = true
has_tries (Scan tries) = nat_lt 0 tries && nat_le tries TRY_LIMIT

-- the steps draw at most `room` ticks, and their scans have tries
abbrev pub draws_within : ℕ → List Step → Bool
draws_within room [] = true
draws_within room (s ∷ ss) = (has_tries s && nat_le (step_ticks s) room) && draws_within (room - step_ticks s) ss

abbrev pub each_draws : ℕ → List (List Step) → Bool
each_draws most [] = true
each_draws most (s ∷ ss) = draws_within most s && each_draws most ss

-- the greatest number of ticks of a script, by the limit of events of all scripts together
abbrev pub ticks_within : ℕ → ℕ
ticks_within events = TICKS_AN_EVENT * events

-- the greatest number of workers of a plan
abbrev pub worker_limit : ℕ
worker_limit = WORKER_LIMIT

abbrev pub are_workers : ℕ → Bool
are_workers n = nat_le LEAST_WORKERS n && nat_le n worker_limit

-- the first refusal that applies, by the limit of events of all scripts together, and the limit of ticks of each
abbrev pub plan_refusal : ℕ → ℕ → List (List Step) → Option PlanRefusal
plan_refusal events ticks ss = if not (are_workers (length ss)) then Some Workers else if nat_lt events (2 * steps_in ss) then Some TooLong else if each_draws ticks ss then None else Some TooLong

abbrev pub last_step : Bool → Step
last_step true = Scan ROUND_TRIES
last_step false = View

-- in each round a store and then a view or a scan: in round i worker w stores w * VALUES_EACH + i
abbrev pub round_script : Bool → ℕ → ℕ → List Step
round_script scan w zero = []
round_script scan w (suc i) = round_script scan w i ++ Store (w * VALUES_EACH + i + 1) ∷ last_step scan ∷ []

-- the scripts of the workers from 0 on
abbrev pub rounds_scripts : Bool → ℕ → ℕ → List (List Step)
rounds_scripts scan zero rounds = []
rounds_scripts scan (suc w) rounds = rounds_scripts scan w rounds ++ round_script scan w rounds ∷ []

abbrev pub AreWorkers : ℕ → Type 0
AreWorkers n = (LEAST_WORKERS ≤ n) × (n ≤ worker_limit)

-- the greatest number of rounds if no limit of events is chosen
abbrev pub round_limit : ℕ
round_limit = ROUND_LIMIT

abbrev pub AreUsualRounds : ℕ → Type 0
AreUsualRounds rounds = (0 < rounds) × (rounds ≤ round_limit)

-- two calls in each round of each of the most workers have at most `events` events
abbrev pub AreRoundsWithin : ℕ → ℕ → Type 0
AreRoundsWithin events rounds = (0 < rounds) × (4 * worker_limit * rounds ≤ events)

-- this many rounds fit by the greatest limit of events
abbrev pub AreRounds : ℕ → Type 0
AreRounds rounds = AreRoundsWithin event_cap rounds

-- why there is no plan with these numbers of workers and rounds; `MayBe` is true of the numbers of rounds that may be
abbrev pub IsRoundsRefusal : (ℕ → Type 0) → ℕ → ℕ → PlanRefusal → Type 0
IsRoundsRefusal MayBe workers rounds Workers = AreWorkers workers → ⊥
IsRoundsRefusal MayBe workers rounds TooLong = AreWorkers workers × (MayBe rounds → ⊥)
IsRoundsRefusal MayBe workers rounds Memory = AreWorkers workers × MayBe rounds

-- the number of values of worker w before those of worker w + 1
abbrev pub values_each : ℕ
values_each = VALUES_EACH

-- the events of a process that did each step of a script once, in order, on component w
abbrev pub IsRun : ℕ → List Step → List Event → Type 0
IsRun w [] [] = ⊤
IsRun w (Store v ∷ steps) (BeginUpdate p e ∷ EndUpdate q ∷ es) = (e.component ≡ w) × (e.value ≡ v) × IsRun w steps es
IsRun w (View ∷ steps) (BeginView p ∷ EndView q shown ∷ es) = IsRun w steps es
IsRun w (Scan tries ∷ steps) (BeginView p ∷ EndView q shown ∷ es) = IsRun w steps es
IsRun w _ _ = ⊥

-- each worker w, as process w, did its script, and no other process did anything
abbrev pub HasWholeScripts : List (List Step) → List Event → Type 0
HasWholeScripts scripts es = (w : ℕ) → IsRun w (slice_index_or scripts w []) (events_of w es)

-- no script has a collect
abbrev pub HasNoViews : List (List Step) → Type 0
HasNoViews scripts = (w : ℕ) → views_in (slice_index_or scripts w []) ≡ 0

-- no script has a scan
abbrev pub HasNoScans : List (List Step) → Type 0
HasNoScans scripts = (w : ℕ) → scans_in (slice_index_or scripts w []) ≡ 0

-- Each worker w, as process w, did its script except the scans that the choices leave out: `interfered` scans in all. No other
-- process did anything.
pub record HasScripts (scripts : List (List Step)) (es : List Event) (interfered : ℕ) : Type 0 where
  pub choices : ℕ → List Bool
  pub scans : (w : ℕ) → LeavesScans (choices w) (slice_index_or scripts w [])
  pub each : (w : ℕ) → IsRun w (chosen (choices w) (slice_index_or scripts w [])) (events_of w es)
  pub left : total (λ w. length (left_out (choices w) (slice_index_or scripts w []))) (falling (length scripts)) ≡ interfered
  -- their tries add up to at most the number of stores of the other scripts
  pub tries : (w : ℕ) → total (λ x. x) (left_out (choices w) (slice_index_or scripts w [])) ≤ stores_but w scripts
