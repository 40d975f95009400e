-- Reading the records of a text with stamps, and their events in turn.
use Rattle.std.proofs.Common.{◌≡◌, ◌<◌, ◌≤◌, ◌+◌, ◌^◌, ◌++◌, inl, inr, ℕ, suc, true, false, List, [], ◌∷◌, length, get_or, take, drop, Some, None, Result, Ok, Err, refl, arith, ◌∙◌, sym, ap, subst, add-one}
use Rattle.snap_core.specs.declared.limit.Limit.{Limit}
use Rattle.std.specs.Prelude.{◌==◌, ◌≢◌, nat_le}
use Rattle.std.specs.Global.{Vec}
use Rattle.std.specs.List.Sorted.{IsPermutation, IsStrictlyIncreasing}
use borrow.Author.Count.{below_more}
use Rattle.std.proofs.lemmas.Bool.{cases_lt, le-leb}
use Rattle.std.proofs.lemmas.Bool.Decides.{nat_tests}
use Rattle.std.proofs.lemmas.List.Sorted.{length_permutation}
use Rattle.std.proofs.lemmas.List.{drop_all, get_or_append_left, length-append, length-drop, map-append}
use Rattle.std.proofs.Math.Seq.{drop-cons, get_or-append_seam, take-suc}
use Rattle.snap_core.specs.Limited.{LimitedEvents}
use Rattle.snap_core.specs.declared.event.Event.{Event}
use Rattle.snap_text.specs.declared.fault.TextFault.{TextFault}
use Rattle.snap_text.specs.declared.fault.TextFault.TheVariants as faults
use Rattle.snap_format.specs.declared.refusal.ReadRefusal.{ReadRefusal}
use Rattle.snap_format.specs.declared.refusal.ReadRefusal.TheVariants as refusals
use Rattle.snap_format.specs.declared.stamped.Stamped.{Stamped}
use Rattle.snap_text.specs.Fields.{Fields, event_of, number_at}
use Rattle.snap_format.specs.Stamps.{InOrder, NoneOf, events_of, nothing, order_at, places_of, repeat_fault, shape_fault, stamped_from, stamped_in, stamped_row, stamps_of, with_stamped}
use Rattle.snap_format.specs.StampedTexts.{AreStamped, RefusesShapes}
use Rattle.snap_format.specs.Stamping.{AnswersStamps, FirstRecords, IsRecord, ReadsStamped, RefusesNext, RefusesStamped, RefusesStamps, RefusesTurns, TakesStamped, TakesTurns}
use Rattle.snap_format.specs.Taking.{FailsFields, TakesEvent}
use Rattle.snap_format.proofs.ReadFacts.{at_drop, full_fails}

-- ---- one record

pub row_short : (limit : Limit) (n : ℕ) (earlier : List ℕ) (r : Fields) → length r ≢ 5 → shape_fault limit n earlier r ≡ Some faults.Fields
unfolding shape_fault
row_short limit n earlier r h = let test : (length r == 5) ≡ false = grind (arith, nat_tests) in rw test refl

five_long : (r : Fields) (t a p o d : List ℕ) → r ≡ t ∷ a ∷ p ∷ o ∷ d ∷ [] → (length r == 5) ≡ true
five_long r t a p o d e = rw e refl

pub row_full : (limit : Limit) (n : ℕ) (earlier : List ℕ) (r : Fields) (t a p o d : List ℕ) → r ≡ t ∷ a ∷ p ∷ o ∷ d ∷ [] → limit.events ≤ n → shape_fault limit n earlier r ≡ Some faults.TooMany
unfolding shape_fault
row_full limit n earlier r t a p o d e h =
    let test : nat_le limit.events n ≡ true = le-leb _ _ h in
    rw (five_long r t a p o d e, test) refl

row_fits : (limit : Limit) (n : ℕ) (earlier : List ℕ) (r : Fields) (t a p o d : List ℕ) → r ≡ t ∷ a ∷ p ∷ o ∷ d ∷ [] → n < limit.events → shape_fault limit n earlier r ≡ repeat_fault earlier (stamped_row r)
unfolding shape_fault
row_fits limit n earlier r t a p o d e h =
    let test : nat_le limit.events n ≡ false = grind (arith, nat_tests) in
    rw (five_long r t a p o d e, test) refl

pub no_stamp : (t a p o d : List ℕ) → None ≡ number_at (2 ^ 64) t → stamped_row (t ∷ a ∷ p ∷ o ∷ d ∷ []) ≡ Err faults.BadAt
unfolding stamped_row
no_stamp t a p o d h = rw (← h) refl

pub no_event : (place : ℕ) (t a p o d : List ℕ) (at : ℕ) (e : ReadRefusal) → Some at ≡ number_at (2 ^ 64) t → FailsFields place e (event_of a p o d) → FailsFields place e (stamped_row (t ∷ a ∷ p ∷ o ∷ d ∷ []))
unfolding stamped_row
no_event place t a p o d at (refusals.Text q f) h g = (g.0, rw (← h, g.1) refl)
no_event place t a p o d at refusals.Device h g = g
no_event place t a p o d at refusals.Memory h g = tt

pub has_event : (t a p o d : List ℕ) (at : ℕ) (x : Event) → Some at ≡ number_at (2 ^ 64) t → event_of a p o d ≡ Ok x → stamped_row (t ∷ a ∷ p ∷ o ∷ d ∷ []) ≡ Ok (at, x)
unfolding stamped_row
has_event t a p o d at x h g = rw (← h, g) refl

-- a record is taken only where the history is not full
pub has_room : (limit : Limit) (n : ℕ) (earlier : List ℕ) (r : Fields) → shape_fault limit n earlier r ≡ None → n < limit.events
unfolding shape_fault
has_room limit n earlier r h = elim (cases_lt n limit.events) [
  | inl lt ↦ lt
  | inr le ↦ absurd (full_fails (length r == 5) (nat_le limit.events n) faults.Fields faults.TooMany (repeat_fault earlier (stamped_row r)) (le-leb _ _ le) h)
]

pub one_longer : (limit : Limit) (place : ℕ) (old new : List Stamped) (r : Fields) → TakesStamped limit place old new r (Ok tt) → (length old < limit.events) × (length new ≡ length old + 1)
one_longer limit place old new r (none, x, is, longer) = (has_room limit _ _ r none, rw longer (omega (arith, length-append old (record { at = x.0; place = place; event = x.1 } ∷ []))))

pub row_fails : (limit : Limit) (place : ℕ) (old : List Stamped) (r : Fields) (t a p o d : List ℕ) (e : ReadRefusal) → r ≡ t ∷ a ∷ p ∷ o ∷ d ∷ [] → length old < limit.events
    → FailsFields place e (stamped_row r) → RefusesStamped limit place old r e
row_fails limit place old r t a p o d (refusals.Text q f) e lt g = (g.0, row_fits limit (length old) [] r t a p o d e lt ∙ ap (repeat_fault []) g.1)
row_fails limit place old r t a p o d refusals.Device e lt g = g
row_fails limit place old r t a p o d refusals.Memory e lt g = tt

pub row_taken : (limit : Limit) (place : ℕ) (old new : List Stamped) (r : Fields) (t a p o d : List ℕ) (x : ℕ × Event) → r ≡ t ∷ a ∷ p ∷ o ∷ d ∷ [] → length old < limit.events
    → stamped_row r ≡ Ok x → new ≡ old ++ record { at = x.0; place = place; event = x.1 } ∷ [] → TakesStamped limit place old new r (Ok tt)
row_taken limit place old new r t a p o d x e lt g is = (row_fits limit (length old) [] r t a p o d e lt ∙ ap (repeat_fault []) g, x, g, is)

-- ---- one record after the other

-- what is left to be read is the records from place i under the header on, and the stamped events are those of the records before it
pub record MidStamped (limit : Limit) (rows : List Fields) (Left : List Fields → Type 0) (xs : List Stamped) (i : ℕ) : Type 0 where
  pub left : Left (drop i rows)
  pub count : length xs ≡ i
  pub first : FirstRecords limit rows xs

pub begun : (limit : Limit) (rows : List Fields) (Left : List Fields → Type 0) (xs : List Stamped) → Left rows → xs ≡ [] → MidStamped limit rows Left xs 0
begun limit rows Left xs s none = rw none (record { left = s; count = refl; first = record { within = omega arith; each = λ j lt. absurd (omega arith) } })

pub done : (limit : Limit) (rows : List Fields) (Left : List Fields → Type 0) (xs : List Stamped) (i : ℕ) (m : MidStamped limit rows Left xs i) → drop i rows ≡ [] → ReadsStamped limit rows xs (Ok tt)
done limit rows Left xs i m e = (m.first, omega (arith, m.count, m.first.within, length-drop i rows, ap length e))

pub stopped : (limit : Limit) (rows : List Fields) (Left : List Fields → Type 0) (xs new : List Stamped) (i : ℕ) (m : MidStamped limit rows Left xs i) (row : Fields) (rest : List Fields) (e : ReadRefusal)
    → drop i rows ≡ row ∷ rest → TakesStamped limit (i + 2) xs new row (Err e) → ReadsStamped limit rows new (Err e)
stopped limit rows Left xs new i m row rest e d (same, t) = rw same (m.first, next e t)
  where
    next : (e : ReadRefusal) → RefusesStamped limit (i + 2) xs row e → RefusesNext limit rows (length xs) e
    next (refusals.Text p f) t = let (lt, here, more) = at_drop rows i row rest d in (omega (arith, m.count, lt), rw m.count t.0, rw (m.count, here) (rw m.count at t.1))
    next refusals.Device t = t
    next refusals.Memory t = tt

pub more : (limit : Limit) (rows : List Fields) (A B : List Fields → Type 0) (old new : List Stamped) (i : ℕ) (m : MidStamped limit rows A old i) (row : Fields)
    → (rest : List Fields) × (drop i rows ≡ row ∷ rest) × B rest → TakesStamped limit (i + 2) old new row (Ok tt) → MidStamped limit rows B new (i + 1)
more limit rows A B old new i m row (rest, d, s) (none, x, is, longer) =
    let (lt, here, next) = at_drop rows i row rest d in
    let y : Stamped = record { at = x.0; place = i + 2; event = x.1 } in
    let size : length (old ++ y ∷ []) ≡ length old + 1 = length-append old (y ∷ []) in
    let of_old = λ (j : ℕ) (l : j < length old). subst (IsRecord limit j (get_or rows j [])) (sym (get_or_append_left old (y ∷ []) nothing j l)) (m.first.each j l) in
    let last : get_or (old ++ y ∷ []) (length old) nothing ≡ y = get_or-append_seam old y [] nothing in
    let row_is : get_or rows (length old) [] ≡ row = rw m.count here in
    let of_last : IsRecord limit (length old) (get_or rows (length old) []) (get_or (old ++ y ∷ []) (length old) nothing) =
    rw (last, row_is) (record { fine = none; spells = is; numbered = omega (arith, m.count) }) in
    rw longer (record {
      left = rw next s;
      count = omega (arith, size, m.count);
      first = record {
        within = omega (arith, size, m.count, lt);
        each = λ j l. below_more (λ k. IsRecord limit k (get_or rows k []) (get_or (old ++ y ∷ []) k nothing)) (length old) of_old of_last j (omega (arith, size, l));
      };
    })

-- ---- one event after the other

-- so many events in order are taken as the history has
pub record MidTurns (limit : Limit) (xs left : List Stamped) (events : List Event) : Type 0 where
  pub within : length events ≤ length xs
  pub left_is : left ≡ drop (length events) xs
  pub history : events ≡ events_of (take (length events) xs)
  pub fine : NoneOf (order_at limit xs) (length events)

turn_drop : (xs : List Stamped) (i : ℕ) (y : Stamped) (rest : List Stamped) → y ∷ rest ≡ drop i xs → (i < length xs) × (get_or xs i nothing ≡ y) × (rest ≡ drop (i + 1) xs)
turn_drop xs i y rest e = elim (cases_lt i (length xs)) [
  | inl lt ↦
      let here = drop-cons xs i nothing lt in
      let both : get_or xs i nothing ∷ drop (suc i) xs ≡ y ∷ rest = sym here ∙ sym e in
      let next : rest ≡ drop (i + 1) xs = rw add-one (cc) in
      (lt, cc, next)
  | inr le ↦ let none = drop_all i xs le in absurd (cc)
]

pub turns_stopped : (limit : Limit) (xs left rest : List Stamped) (events : List Event) (y : Stamped) (place : ℕ) (x : Event) (e : ReadRefusal) → MidTurns limit xs left events → left ≡ y ∷ rest → y.place ≡ place → y.event ≡ x
    → TakesEvent limit place events events x (Err e) → RefusesTurns limit xs e
turns_stopped limit xs left rest events y place x (refusals.Text p f) m l yp yx t =
    let (lt, here, next) = turn_drop xs (length events) y rest (sym l ∙ m.left_is) in (
      length events,
      record { below = lt; here = rw (here, ← m.history, yx) t.1; first = m.fine },
      t.0 ∙ sym yp ∙ ap (λ (z : Stamped). z.place) (sym here),
    )
turns_stopped limit xs left rest events y place x refusals.Device m l yp yx t = t
turns_stopped limit xs left rest events y place x refusals.Memory m l yp yx t = tt

pub turns_more : (limit : Limit) (xs left rest : List Stamped) (old new : List Event) (y : Stamped) (place : ℕ) (x : Event) → MidTurns limit xs left old → left ≡ y ∷ rest → y.event ≡ x
    → TakesEvent limit place old new x (Ok tt) → MidTurns limit xs rest new
turns_more limit xs left rest old new y place x m l yx t =
    let (lt, here, next) = turn_drop xs (length old) y rest (sym l ∙ m.left_is) in
    let size : length new ≡ length old + 1 = rw t.1 (omega (arith, length-append old (x ∷ []))) in
    let taken : take (length old + 1) xs ≡ take (length old) xs ++ y ∷ [] = rw (add-one, take-suc xs (length old) nothing lt, here) refl in
    let events : new ≡ events_of (take (length old + 1) xs) =
    t.1 ∙ ap (λ (z : Event). old ++ z ∷ []) (sym yx) ∙ ap (λ (es : List Event). es ++ y.event ∷ []) m.history
    ∙ sym (map-append (λ (z : Stamped). z.event) (take (length old) xs) (y ∷ [])) ∙ ap events_of (sym taken) in
    let clean : order_at limit xs (length old) ≡ None = rw (here, ← m.history, yx) t.0 in
    record {
      within = omega arith;
      left_is = rw size next;
      history = events ∙ ap (λ n. events_of (take n xs)) (sym size);
      fine = subst (λ n. NoneOf (order_at limit xs) n) (sym size) (below_more (λ j. order_at limit xs j ≡ None) (length old) m.fine clean);
    }

-- ---- the whole

pub in_order : (rows : List Fields) (xs ys : List Stamped) → xs ≡ stamped_in rows → IsPermutation xs ys → IsStrictlyIncreasing (stamps_of ys) → InOrder rows ys
in_order rows xs ys read p up = record { same = subst (λ (z : List Stamped). IsPermutation z ys) read p; rising = up }

pub whole : (limit : Limit) (rows : List Fields) (ys : List Stamped) (h : LimitedEvents) (places : Vec ℕ) → AreStamped limit rows ys
    → TakesTurns limit ys (Ok h) → places.items ≡ places_of ys → AnswersStamps limit rows (Ok (h, places))
whole limit rows ys h places are t is = (record { shapes = are.shapes; sorted = ys; order = are.order; fine = t.0; history = t.1 }, is, t.2)

pub turns_stop : (limit : Limit) (rows : List Fields) (ys : List Stamped) (e : ReadRefusal) → AreStamped limit rows ys → RefusesTurns limit ys e → RefusesStamps limit rows e
turns_stop limit rows ys (refusals.Text q f) are t = inr (record { shapes = are.shapes; sorted = ys; order = are.order; i = t.0; first = t.1; record_is = t.2 })
turns_stop limit rows ys refusals.Device are t = t
turns_stop limit rows ys refusals.Memory are t = tt

pub shapes_stop : (limit : Limit) (rows : List Fields) (e : ReadRefusal) → RefusesShapes limit rows e → RefusesStamps limit rows e
shapes_stop limit rows (refusals.Text q f) r = inl r
shapes_stop limit rows refusals.Device r = r
shapes_stop limit rows refusals.Memory r = tt

-- no more events than the limit are taken
fewer : (place : ℕ) (rows : List Fields) → length (stamped_from place rows) ≤ length rows
fewer place [] = omega arith
fewer place (r ∷ rows) = go (stamped_row r) (fewer (place + 1) rows)
  where
    go : (x : Result (ℕ × Event) TextFault) → length (stamped_from (place + 1) rows) ≤ length rows → length (with_stamped place x (stamped_from (place + 1) rows)) ≤ suc (length rows)
    go (Ok x) h = omega (arith, h)
    go (Err f) h = omega (arith, h)

pub stamped_short : (limit : Limit) (rows : List Fields) (sorted : List Stamped) → AreStamped limit rows sorted → length sorted ≤ limit.events
stamped_short limit [] sorted are = let same = length_permutation _ _ are.order.same in omega (arith, same)
stamped_short limit (r ∷ rows) sorted are =
    let same = length_permutation _ _ are.order.same in
    let few = fewer 2 (r ∷ rows) in
    let room = has_room limit (length rows) _ (get_or (r ∷ rows) (length rows) []) (are.shapes (length rows) (omega arith)) in
    omega (arith, same, few, room)
