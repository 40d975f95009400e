-- The events that end views, and the completed views that they end.
use Rattle.std.proofs.Common.{◌≡◌, ◌⊎◌, ◌↔◌, ℕ, suc, ◌<◌, Bool, true, false, cond, List, [], ◌∷◌, ◌++◌, Option, Some, None, refl, sym, ap, ◌∙◌, subst, inl, inr}
use Rattle.std.specs.Prelude.{◌==◌}
use Rattle.std.specs.List.{All}
use Rattle.std.proofs.lemmas.Bool.{eqb-true, eq-eqb, false≢true}
use Rattle.std.proofs.lemmas.List.Elements.{All-contains}
use Rattle.snap_core.specs.declared.entry.Entry.{Entry}
use Rattle.snap_core.specs.declared.event.Event.{Event}
use Rattle.snap_core.specs.declared.event.Event.TheVariants.{BeginUpdate, BeginView, EndUpdate, EndView}
use Rattle.snap_core.specs.Entries.{number_in}
use Rattle.snap_core.specs.Events.{process_of, TakeTurns, events_of, IsWellFormed}
use Rattle.snap_core.specs.Calls.{Call, Operation, Updates, Views, answer_at, next_answer, calls_from, calls_of, is_answer, is_view, shown, shown_number}
use Rattle.snap_core.specs.Regular.{IsViewOf}
use Rattle.snap_core.proofs.Lists.{In, In-from_Contains, Contains-from_In, In-append_right}
use Rattle.snap_core.proofs.Begun.{begun, operation_at}
use Rattle.snap_theory.specs.Renumbered.{ShowsNoLess}
use Rattle.snap_theory.proofs.Orders.{All-from_In}
use Rattle.snap_windows.specs.Missed.{EventShowsNoLess, ShowsNoLess as shows_entries}

-- a call that answered so
record Answered (answer : List Entry) (calls : List Call) : Type 0 where
  call : Call
  there : In call calls
  is : call.operation ≡ Views (Some answer)

answered_later : (s : List Entry) (n m place : ℕ) (x : Event) (es : List Event) → ((c : Call) → In c (calls_from m (suc place) es) → In c (calls_from n place (x ∷ es))) → Answered s (calls_from m (suc place) es) → Answered s (calls_from n place (x ∷ es))
answered_later s n m place x es f a = record { call = a.call; there = f a.call a.there; is = a.is }

-- an update that is open ends before its process answers a view
no_answer : (p q : ℕ) (e : Entry) (es : List Event) (s : List Entry) → TakeTurns (BeginUpdate q e ∷ events_of p es) → next_answer p es ≡ Some s → ⊥
no_answer p q e [] s t h = let g : None ≡ Some s = h in cc
no_answer p q e (x ∷ es) s t h = go (process_of x == p) t h (no_answer p q e es s)
  where
    at : (x : Event) (zs : List Event) → TakeTurns (BeginUpdate q e ∷ x ∷ zs) → answer_at x ≡ Some s → ⊥
    at (BeginUpdate r d) zs t h = t.0
    at (BeginView r) zs t h = t.0
    at (EndUpdate r) zs t h = let g : None ≡ Some s = h in cc
    at (EndView r d) zs t h = t.0

    go : (b : Bool) → TakeTurns (BeginUpdate q e ∷ cond b (x ∷ events_of p es) (events_of p es)) → cond b (answer_at x) (next_answer p es) ≡ Some s → (TakeTurns (BeginUpdate q e ∷ events_of p es) → next_answer p es ≡ Some s → ⊥) → ⊥
    go true t h r = at x (events_of p es) t h
    go false t h r = r t h

-- where no call of the process is open, and where one is
abbrev Ends : ℕ → List Entry → List Event → Type 0
Ends p s es =
    ((n place : ℕ) → TakeTurns (events_of p es) → Answered s (calls_from n place es))
    × ((b : Event) (n place : ℕ) → TakeTurns (b ∷ events_of p es) → (next_answer p es ≡ Some s) ⊎ Answered s (calls_from n place es))

-- what a begin adds
begun_answer : (p : ℕ) (s : List Entry) (x : Event) (es : List Event) (n place : ℕ) → process_of x ≡ p → TakeTurns (x ∷ events_of p es) → Ends p s es → Answered s (calls_from n place (x ∷ es))
begun_answer p s (BeginUpdate q e) es n place same t r = elim (r.1 (BeginUpdate q e) (suc n) (suc place) t) [
  | inl h ↦ absurd (no_answer p q e es s t h)
  | inr a ↦ answered_later s n (suc n) place (BeginUpdate q e) es (λ c i. inr i) a
]
begun_answer p s (BeginView q) es n place same t r = elim (r.1 (BeginView q) (suc n) (suc place) t) [
  | inl h ↦ record { call = _; there = inl refl; is = ap Views (ap (λ z. next_answer z es) same ∙ h) }
  | inr a ↦ answered_later s n (suc n) place (BeginView q) es (λ c i. inr i) a
]
begun_answer p s (EndUpdate q) es n place same t r = absurd (no_end q es t)
  where
    no_end : (q : ℕ) (es : List Event) → TakeTurns (EndUpdate q ∷ events_of p es) → ⊥
    no_end q es t = go (events_of p es) t
      where
        go : (zs : List Event) → TakeTurns (EndUpdate q ∷ zs) → ⊥
        go [] t = t
        go (z ∷ zs) t = t.0
begun_answer p s (EndView q d) es n place same t r = absurd (go (events_of p es) t)
  where
    go : (zs : List Event) → TakeTurns (EndView q d ∷ zs) → ⊥
    go [] t = t
    go (z ∷ zs) t = t.0

-- calls of later events stand among those of all
later_calls : (x : Event) (es : List Event) (n place : ℕ) → (m : ℕ) × ((c : Call) → In c (calls_from m (suc place) es) → In c (calls_from n place (x ∷ es)))
later_calls (BeginUpdate q e) es n place = (suc n, λ c i. inr i)
later_calls (BeginView q) es n place = (suc n, λ c i. inr i)
later_calls (EndUpdate q) es n place = (n, λ c i. i)
later_calls (EndView q d) es n place = (n, λ c i. i)

ends : (p : ℕ) (s : List Entry) (es : List Event) → In (EndView p s) es → Ends p s es
ends p s [] i = absurd i
ends p s (x ∷ es) (inl h) = (λ n place t. absurd (closed n place t), λ b n place t. inl (ap (next_answer p) (ap (λ z. z ∷ es) h) ∙ ap (λ b. cond b (Some s) (next_answer p es)) (eq-eqb p p refl)))
  where
    closed : (n place : ℕ) → TakeTurns (events_of p (x ∷ es)) → ⊥
    closed n place t = go (events_of p es) (subst TakeTurns (ap (λ z. events_of p (z ∷ es)) h ∙ ap (λ b. cond b (EndView p s ∷ events_of p es) (events_of p es)) (eq-eqb p p refl)) t)
      where
        go : (zs : List Event) → TakeTurns (EndView p s ∷ zs) → ⊥
        go [] t = t
        go (z ∷ zs) t = t.0
ends p s (x ∷ es) (inr i) = go (process_of x == p) refl (ends p s es i)
  where
    go : (b : Bool) → (process_of x == p) ≡ b → Ends p s es → Ends p s (x ∷ es)
    go true t r = (
      λ n place turns. begun_answer p s x es n place (eqb-true _ _ t) (subst TakeTurns (ap (λ b. cond b (x ∷ events_of p es) (events_of p es)) t) turns) r,
      λ b n place turns.
          let rest = (subst TakeTurns (ap (λ z. b ∷ cond z (x ∷ events_of p es) (events_of p es)) t) turns).1 in
          let l = later_calls x es n place in
          inr (answered_later s n l.0 place x es l.1 (r.0 l.0 (suc place) rest)),
    )
    go false t r = (
      λ n place turns.
          let l = later_calls x es n place in
          answered_later s n l.0 place x es l.1 (r.0 l.0 (suc place) (subst TakeTurns (ap (λ b. cond b (x ∷ events_of p es) (events_of p es)) t) turns)),
      λ b n place turns.
          let l = later_calls x es n place in
          elim (r.1 b l.0 (suc place) (subst TakeTurns (ap (λ z. b ∷ cond z (x ∷ events_of p es) (events_of p es)) t) turns)) [
            | inl h ↦ inl (ap (λ b. cond b (answer_at x) (next_answer p es)) t ∙ h)
            | inr a ↦ inr (answered_later s n l.0 place x es l.1 a)
          ],
    )

-- the event that answered a view
record Answers (s : List Entry) (es : List Event) : Type 0 where
  process : ℕ
  there : In (EndView process s) es

answer_event : (p : ℕ) (s : List Entry) (es : List Event) → next_answer p es ≡ Some s → Answers s es
answer_event p s [] h = absurd (let g : None ≡ Some s = h in cc)
answer_event p s (x ∷ es) h = go (process_of x == p) h (answer_event p s es)
  where
    at : (x : Event) → answer_at x ≡ Some s → Answers s (x ∷ es)
    at (BeginUpdate q e) h = absurd (let g : None ≡ Some s = h in cc)
    at (BeginView q) h = absurd (let g : None ≡ Some s = h in cc)
    at (EndUpdate q) h = absurd (let g : None ≡ Some s = h in cc)
    at (EndView q d) h = let g : Some d ≡ Some s = h in let same : d ≡ s = cc in record { process = q; there = inl (ap (EndView q) same) }

    go : (b : Bool) → cond b (answer_at x) (next_answer p es) ≡ Some s → (next_answer p es ≡ Some s → Answers s es) → Answers s (x ∷ es)
    go true h r = at x h
    go false h r = let a = r h in record { process = a.process; there = inr a.there }

answer_of : (o : Operation) → is_answer o ≡ true → (s : List Entry) × (o ≡ Views (Some s))
answer_of (Updates e) h = absurd (false≢true h)
answer_of (Views None) h = absurd (false≢true h)
answer_of (Views (Some s)) h = (s, refl)

view_event : (es : List Event) (r : Call) (s : List Entry) → In r (calls_of es) → r.operation ≡ Views (Some s) → Answers s es
unfolding calls_of
view_event es r s i is = let b = begun 0 0 es r i in go b.event b.before b.after b.split (sym (ap (λ (z : Call). z.operation) b.is) ∙ is)
  where
    go : (x : Event) (before after : List Event) → es ≡ before ++ x ∷ after → operation_at x after ≡ Views (Some s) → Answers s es
    go (BeginUpdate p e) before after split h = absurd (cc)
    go (BeginView p) before after split h =
        let answer : next_answer p after ≡ Some s = cc in
        let a = answer_event p s after answer in
        record { process = a.process; there = subst (In (EndView a.process s)) (sym split) (In-append_right _ before (BeginView p ∷ after) (inr a.there)) }
    go (EndUpdate p) before after split h = absurd (cc)
    go (EndView p d) before after split h = absurd (cc)

-- what a view shows is what its answer has
shows_answer : (left : ℕ → Option Entry) (r : Call) (s : List Entry) → r.operation ≡ Views (Some s) → ((k : ℕ) → (shown r k ≡ left k) ⊎ (number_in (left k) < shown_number r k)) ↔ shows_entries left s
unfolding shown shown_number
shows_answer left r s is = rw is (λ h. h, λ h. h)

view_of : (calls : List Call) (r : Call) (s : List Entry) → In r calls → r.operation ≡ Views (Some s) → IsViewOf calls r
unfolding is_view
view_of calls r s i is = record { there = Contains-from_In calls r i; completed = ap is_answer is }

answer_in : (r : Call) → is_view r ≡ true → (s : List Entry) × (r.operation ≡ Views (Some s))
unfolding is_view
answer_in r h = answer_of r.operation h

answered_event : (es : List Event) → IsWellFormed es → (p : ℕ) (s : List Entry) → In (EndView p s) es → Answered s (calls_of es)
unfolding calls_of
answered_event es w p s i = (ends p s es i).0 0 0 (w p)

-- the views show what was left or more exactly where the events that end them do
pub shows_by_events : (left : ℕ → Option Entry) (es : List Event) → IsWellFormed es → ShowsNoLess left (calls_of es) ↔ All (EventShowsNoLess left) es
shows_by_events left es w = (λ h. All-from_In (EventShowsNoLess left) es (λ x i. to h x i), λ h r k v. from h r v k)
  where
    to : ShowsNoLess left (calls_of es) → (x : Event) → In x es → EventShowsNoLess left x
    to h (BeginUpdate p e) i = tt
    to h (BeginView p) i = tt
    to h (EndUpdate p) i = tt
    to h (EndView p s) i =
        let a = answered_event es w p s i in
        (shows_answer left a.call s a.is).0 (λ k. h a.call k (view_of (calls_of es) a.call s a.there a.is))

    from : All (EventShowsNoLess left) es → (r : Call) → IsViewOf (calls_of es) r → (k : ℕ) → (shown r k ≡ left k) ⊎ (number_in (left k) < shown_number r k)
    from h r v =
        let s = answer_in r v.completed in
        let a = view_event es r s.0 (In-from_Contains _ _ v.there) s.1 in
        (shows_answer left r s.0 s.1).1 (All-contains (EventShowsNoLess left) es (EndView a.process s.0) h (Contains-from_In _ _ a.there))
