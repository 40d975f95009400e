-- Worked histories with two writers of one component, by computation.
use Rattle.std.proofs.Common.{◌≡◌, ◌≢◌, ℕ, suc, Bool, true, false, cond, ◌&&◌, ◌||◌, not, List, [], ◌∷◌, ◌++◌, append_assoc, append-nil, Option, Some, None, refl, sym, ap, ◌∙◌, subst, inl, inr, arith}
use Rattle.std.specs.Prelude.{◌==◌, nat_lt}
use Rattle.std.specs.List.{list_all, count_by}
use Rattle.std.proofs.lemmas.Bool.{false≢true, and_parts, and_from, eqb-true, eq-eqb, lt-ltb}
use Rattle.snap_core.specs.declared.entry.Entry.{Entry}
use Rattle.snap_core.specs.declared.event.Event.{Event}
use Rattle.snap_core.specs.declared.event.Event.TheVariants.{BeginUpdate, BeginView, EndUpdate, EndView}
use Rattle.snap_core.specs.Events.{process_of, IsBegin, Ends, TakeTurns, events_of, begins_update_of, IsWellFormed, IsSingleWriter, IsNumbered, HasByteComponents}
use Rattle.snap_core.specs.Calls.{Call, Operation, Updates, Views, calls_of, is_before, precedes, is_view, shown, shown_number, is_update_numbered, views_of, call_numbered}
use Rattle.snap_core.specs.Orders.{IsLegalOrder, IsAtomic, is_completed, is_update, last_written}
use Rattle.snap_core.specs.Regular.{IsViewOf, IsUpdateOf, IsRegular}
use Rattle.snap_core.proofs.Lists.{In, In-from_Contains, Contains-from_In, In-from_filter, Pairs, AllPairs-from_Pairs}
use Rattle.snap_core.proofs.Worked.{entry}
use Rattle.snap_core.specs.Ordered.{EndInOrder, IsOrdered}
use Rattle.snap_theory.specs.Faults.{HasNoFault, HasNoLocalFault, integrity_fault, old_fault, early_fault, integrity_faults, proximity_faults}
use Rattle.snap_theory.proofs.Legal.{Stands}
use Rattle.snap_theory.proofs.Orders.{All-from_In}
use Rattle.snap_theory.proofs.OrderLaws.{atomic_in_order_exactly}
use Rattle.snap_theory.proofs.WorkedVerdicts.{IsWorkedInOrder, local_faults, faults, stale_views, bytes_by, by_counts_in_order}

-- a test of ordered histories

abbrev is_begin : Event → Bool
is_begin (BeginUpdate p e) = true
is_begin (BeginView p) = true
is_begin _ = false

abbrev is_end : Event → Event → Bool
is_end (BeginUpdate p e) (EndUpdate q) = true
is_end (BeginView p) (EndView q s) = true
is_end _ _ = false

abbrev take_turns : List Event → Bool
take_turns [] = true
take_turns (b ∷ []) = is_begin b
take_turns (b ∷ e ∷ rest) = is_end b e && take_turns rest

abbrev all_take_turns : List Event → Bool
all_take_turns es = list_all (λ x. take_turns (events_of (process_of x) es)) es

abbrev are_numbered : List Event → List Event → Bool
are_numbered before [] = true
are_numbered before (BeginUpdate p e ∷ es) = (e.number == suc (count_by (begins_update_of e.component) before)) && are_numbered (before ++ BeginUpdate p e ∷ []) es
are_numbered before (x ∷ es) = are_numbered (before ++ x ∷ []) es

abbrev ends_first : Option ℕ → Option ℕ → Bool
ends_first o None = true
ends_first o (Some place) = is_before o place

-- if they are updates of a component, they end in the order of their numbers
abbrev operations_in_order : Option ℕ → Option ℕ → Operation → Operation → Bool
operations_in_order m n (Updates d) (Updates e) = not ((d.component == e.component) && nat_lt d.number e.number) || ends_first m n
operations_in_order m n _ _ = true

abbrev pair_in_order : Call → Call → Bool
pair_in_order a b = operations_in_order a.ended b.ended a.operation b.operation

abbrev end_in_order : List Call → Bool
end_in_order calls = list_all (λ a. list_all (pair_in_order a) calls) calls

abbrev are_ordered : List Event → Bool
are_ordered es = all_take_turns es && (are_numbered [] es && end_in_order (calls_of es))

-- what passes the test is ordered

pub all_in : {X : Type 0} (p : X → Bool) (xs : List X) (x : X) → list_all p xs ≡ true → In x xs → p x ≡ true
all_in p [] x h i = absurd i
all_in p (y ∷ ys) x h (inl e) = subst (λ z. p z ≡ true) e (and_parts (p y) (list_all p ys) h).0
all_in p (y ∷ ys) x h (inr i) = all_in p ys x (and_parts (p y) (list_all p ys) h).1 i

begins_by : (b : Event) → is_begin b ≡ true → IsBegin b
begins_by (BeginUpdate p e) h = tt
begins_by (BeginView p) h = tt
begins_by (EndUpdate p) h = absurd (false≢true h)
begins_by (EndView p s) h = absurd (false≢true h)

ends_by : (b e : Event) → is_end b e ≡ true → Ends b e
ends_by (BeginUpdate p d) (EndUpdate q) h = tt
ends_by (BeginView p) (EndView q s) h = tt
ends_by (BeginUpdate p d) (BeginUpdate q e) h = absurd (false≢true h)
ends_by (BeginUpdate p d) (BeginView q) h = absurd (false≢true h)
ends_by (BeginUpdate p d) (EndView q s) h = absurd (false≢true h)
ends_by (BeginView p) (BeginUpdate q e) h = absurd (false≢true h)
ends_by (BeginView p) (BeginView q) h = absurd (false≢true h)
ends_by (BeginView p) (EndUpdate q) h = absurd (false≢true h)
ends_by (EndUpdate p) e h = absurd (false≢true h)
ends_by (EndView p s) e h = absurd (false≢true h)

turns_by : (es : List Event) → take_turns es ≡ true → TakeTurns es
turns_by [] h = tt
turns_by (b ∷ []) h = begins_by b h
turns_by (b ∷ e ∷ rest) h = let p = and_parts (is_end b e) (take_turns rest) h in (ends_by b e p.0, turns_by rest p.1)

pub well_formed_by : (es : List Event) → all_take_turns es ≡ true → IsWellFormed es
well_formed_by es h p = go (events_of p es) refl
  where
    go : (own : List Event) → events_of p es ≡ own → TakeTurns (events_of p es)
    go [] e = subst TakeTurns (sym e) tt
    go (x ∷ own) e =
        let i = In-from_filter (λ z. process_of z == p) es x (subst (In x) (sym e) (inl refl)) in
        subst (λ q. TakeTurns (events_of q es)) (eqb-true (process_of x) p i.1) (turns_by (events_of (process_of x) es) (all_in (λ x. take_turns (events_of (process_of x) es)) es x h i.0))

numbered_by : (front es : List Event) → are_numbered front es ≡ true → (before after : List Event) (p : ℕ) (e : Entry) → es ≡ before ++ BeginUpdate p e ∷ after → e.number ≡ suc (count_by (begins_update_of e.component) (front ++ before))
numbered_by front [] h [] after p e s = absurd (cc)
numbered_by front [] h (x ∷ before) after p e s = absurd (cc)
numbered_by front (BeginUpdate q d ∷ es) h [] after p e s =
    let same : d ≡ e = cc in
    let n : d.number ≡ suc (count_by (begins_update_of d.component) front) = eqb-true _ _ (and_parts (d.number == suc (count_by (begins_update_of d.component) front)) (are_numbered (front ++ BeginUpdate q d ∷ []) es) h).0 in
    subst (λ z. z.number ≡ suc (count_by (begins_update_of z.component) (front ++ []))) same (n ∙ ap (λ z. suc (count_by (begins_update_of d.component) z)) (sym (append-nil front)))
numbered_by front (BeginView q ∷ es) h [] after p e s = absurd (cc)
numbered_by front (EndUpdate q ∷ es) h [] after p e s = absurd (cc)
numbered_by front (EndView q v ∷ es) h [] after p e s = absurd (cc)
numbered_by front (y ∷ es) h (x ∷ before) after p e s =
    let same : y ≡ x = cc in
    numbered_by (front ++ y ∷ []) es (rest y h) before after p e (cc)
    ∙ ap (λ z. suc (count_by (begins_update_of e.component) z)) (append_assoc front (y ∷ []) before ∙ ap (λ z. front ++ z ∷ before) same)
  where
    rest : (y : Event) → are_numbered front (y ∷ es) ≡ true → are_numbered (front ++ y ∷ []) es ≡ true
    rest (BeginUpdate q d) h = (and_parts (d.number == suc (count_by (begins_update_of d.component) front)) (are_numbered (front ++ BeginUpdate q d ∷ []) es) h).1
    rest (BeginView q) h = h
    rest (EndUpdate q) h = h
    rest (EndView q v) h = h

in_order_by : (calls : List Call) → end_in_order calls ≡ true → EndInOrder calls
in_order_by calls h a b d e place u w same less end =
    let t = all_in (pair_in_order a) calls b (all_in (λ a. list_all (pair_in_order a) calls) calls a h (In-from_Contains calls a u.there)) (In-from_Contains calls b w.there) in
    let lower : ((d.component == e.component) && nat_lt d.number e.number) ≡ true = and_from _ _ (eq-eqb _ _ same) (lt-ltb _ _ less) in
    sym (ap (ends_first a.ended) end) ∙ sym (ap (λ z. not z || ends_first a.ended b.ended) lower)
    ∙ sym (ap (λ z. operations_in_order a.ended b.ended z b.operation) u.writes ∙ ap (operations_in_order a.ended b.ended (Updates d)) w.writes) ∙ t

ordered_by : (es : List Event) → are_ordered es ≡ true → IsOrdered es
ordered_by es h =
    let p = and_parts (all_take_turns es) (are_numbered [] es && end_in_order (calls_of es)) h in
    let q = and_parts (are_numbered [] es) (end_in_order (calls_of es)) p.1 in
    record { well_formed = well_formed_by es p.0; numbered = numbered_by [] es q.0; in_order = in_order_by (calls_of es) q.1 }

-- two writers of one component, whose updates overlap

-- beside both updates a view shows the first, and after them a view shows the second
abbrev versions_in_order : List Event
versions_in_order =
    BeginUpdate 0 (entry 0 1 7) ∷ BeginUpdate 1 (entry 0 2 8) ∷ BeginView 2 ∷ EndView 2 (entry 0 1 7 ∷ []) ∷
    EndUpdate 0 ∷ EndUpdate 1 ∷ BeginView 2 ∷ EndView 2 (entry 0 2 8 ∷ []) ∷ []

-- beside both updates a view shows the second, and a later view the first
abbrev versions_back : List Event
versions_back =
    BeginUpdate 0 (entry 0 1 7) ∷ BeginUpdate 1 (entry 0 2 8) ∷ BeginView 2 ∷ EndView 2 (entry 0 2 8 ∷ []) ∷
    BeginView 2 ∷ EndView 2 (entry 0 1 7 ∷ []) ∷ EndUpdate 0 ∷ EndUpdate 1 ∷ []

-- after both updates a view shows the first
abbrev version_lost : List Event
version_lost =
    BeginUpdate 0 (entry 0 1 7) ∷ BeginUpdate 1 (entry 0 2 8) ∷ EndUpdate 0 ∷ EndUpdate 1 ∷ BeginView 2 ∷ EndView 2 (entry 0 1 7 ∷ []) ∷ []

in_order : IsWorkedInOrder versions_in_order true true true
unfolding local_faults faults stale_views calls_of
in_order = by_counts_in_order versions_in_order (ordered_by versions_in_order refl) refl

back : IsWorkedInOrder versions_back true false false
unfolding local_faults faults stale_views calls_of
back = by_counts_in_order versions_back (ordered_by versions_back refl) refl

lost : IsWorkedInOrder version_lost false true false
unfolding local_faults faults stale_views calls_of
lost = by_counts_in_order version_lost (ordered_by version_lost refl) refl

-- the second of these updates belongs to another process, so they make no history with one writer
two_processes_write : IsSingleWriter versions_in_order → ⊥
two_processes_write s = absurd (omega (arith, s 0 1 (entry 0 1 7) (entry 0 2 8) (Contains-from_In versions_in_order _ (inl refl)) (Contains-from_In versions_in_order _ (inr (inl refl))) refl))

-- neither update precedes the other
the_updates_overlap : precedes (call_numbered (calls_of versions_in_order) 0) (call_numbered (calls_of versions_in_order) 1) ≡ false
unfolding calls_of precedes
the_updates_overlap = refl

-- a legal order with the second update before the first one, and then the view of the first

abbrev first_update : Call
first_update = record { number = 0; process = 0; operation = Updates (entry 0 1 7); begun = 0; ended = Some 2 }

abbrev second_update : Call
second_update = record { number = 1; process = 1; operation = Updates (entry 0 2 8); begun = 1; ended = Some 3 }

abbrev view_of_the_first : Call
view_of_the_first = record { number = 2; process = 2; operation = Views (Some (entry 0 1 7 ∷ [])); begun = 4; ended = Some 5 }

abbrev an_order_back : List Call
an_order_back = second_update ∷ first_update ∷ view_of_the_first ∷ []

stands : (c : Call) → In c an_order_back → Stands (calls_of version_lost) c
unfolding calls_of is_completed is_update
stands c (inl e) = subst (Stands (calls_of version_lost)) e (Contains-from_In (calls_of version_lost) second_update (inr (inl refl)), inl refl)
stands c (inr (inl e)) = subst (Stands (calls_of version_lost)) e (Contains-from_In (calls_of version_lost) first_update (inl refl), inl refl)
stands c (inr (inr (inl e))) = subst (Stands (calls_of version_lost)) e (Contains-from_In (calls_of version_lost) view_of_the_first (inr (inr (inl refl))), inl refl)
stands c (inr (inr (inr i))) = absurd i

has_all : (c : Call) → In c (calls_of version_lost) → In c an_order_back
unfolding calls_of
has_all c (inl e) = inr (inl e)
has_all c (inr (inl e)) = inl e
has_all c (inr (inr (inl e))) = inr (inr (inl e))
has_all c (inr (inr (inr i))) = absurd i

-- what holds of each two calls of the order
of_pairs : (R : Call → Call → Type 0) → R second_update first_update → R second_update view_of_the_first → R first_update view_of_the_first → Pairs R an_order_back
of_pairs R p q r = (of_second, (of_first, (λ c i. absurd i, tt)))
  where
    of_first : (c : Call) → In c (view_of_the_first ∷ []) → R first_update c
    of_first c (inl e) = subst (R first_update) e r
    of_first c (inr i) = absurd i

    of_second : (c : Call) → In c (first_update ∷ view_of_the_first ∷ []) → R second_update c
    of_second c (inl e) = subst (R second_update) e p
    of_second c (inr (inl e)) = subst (R second_update) e q
    of_second c (inr (inr i)) = absurd i

shows_the_last : (before after : List Call) (r : Call) → an_order_back ≡ before ++ r ∷ after → is_view r ≡ true → (k : ℕ) → shown r k ≡ last_written k None before
unfolding is_view shown
shows_the_last [] after r s v k = let same : r ≡ second_update = cc in absurd (false≢true (ap (λ z. is_view z) (sym same) ∙ v))
shows_the_last (x ∷ []) after r s v k = let same : r ≡ first_update = cc in absurd (false≢true (ap (λ z. is_view z) (sym same) ∙ v))
shows_the_last (x ∷ y ∷ []) after r s v k =
    let same : r ≡ view_of_the_first = cc in
    let one : second_update ≡ x = cc in
    let two : first_update ≡ y = cc in
    ap (λ z. shown z k) same ∙ go (0 == k) ∙ ap (λ z. last_written k None (z ∷ first_update ∷ [])) one ∙ ap (λ z. last_written k None (x ∷ z ∷ [])) two
  where
    go : (b : Bool) → cond b (Some (entry 0 1 7)) None ≡ cond b (Some (entry 0 1 7)) (cond b (Some (entry 0 2 8)) None)
    go true = refl
    go false = refl
shows_the_last (x ∷ y ∷ z ∷ []) after r s v k = absurd (cc)
shows_the_last (x ∷ y ∷ z ∷ w ∷ before) after r s v k = absurd (cc)

it_is_legal : IsLegalOrder (calls_of version_lost) an_order_back
unfolding precedes
it_is_legal = record {
  only = All-from_In (Stands (calls_of version_lost)) an_order_back stands;
  distinct = AllPairs-from_Pairs (λ a b. a ≢ b) an_order_back (of_pairs (λ a b. a ≢ b) (other second_update first_update (λ e. absurd (omega (arith, e)))) (other second_update view_of_the_first (λ e. absurd (omega (arith, e)))) (other first_update view_of_the_first (λ e. absurd (omega (arith, e)))));
  completed = λ c i done. Contains-from_In an_order_back c (has_all c (In-from_Contains (calls_of version_lost) c i));
  precedence = AllPairs-from_Pairs (λ a b. precedes b a ≡ false) an_order_back (of_pairs (λ a b. precedes b a ≡ false) refl refl refl);
  latest = shows_the_last;
}
  where
    other : (a b : Call) → a.number ≢ b.number → a ≢ b
    other a b n e = n (ap (λ (z : Call). z.number) e)

-- so the law is false of orders that let a lower number follow a higher one
the_numbers_must_rise : ((es : List Event) → IsOrdered es → IsAtomic (calls_of es) → HasNoFault (calls_of es)) → ⊥
the_numbers_must_rise law = absurd (false≢true (lost.atomic_exactly.1 ((atomic_in_order_exactly version_lost lost.ordered (bytes_by version_lost refl)).1 (law version_lost lost.ordered (an_order_back, it_is_legal)))))

-- updates that begin in the order of their numbers, and end in the other order; between the ends a view shows neither

abbrev ends_back : List Event
ends_back = BeginUpdate 0 (entry 0 1 7) ∷ BeginUpdate 1 (entry 0 2 8) ∷ EndUpdate 1 ∷ BeginView 2 ∷ EndView 2 [] ∷ EndUpdate 0 ∷ []

-- the update that it misses next is still open
it_has_no_fault : HasNoLocalFault (calls_of ends_back)
unfolding calls_of precedes is_view shown shown_number is_update_numbered integrity_fault old_fault early_fault views_of integrity_faults proximity_faults
it_has_no_fault = record { integrity = refl; proximity = refl }

it_is_not_regular : IsRegular (calls_of ends_back) → ⊥
unfolding calls_of precedes is_view shown shown_number
it_is_not_regular r =
    let calls = calls_of ends_back in
    let view : IsViewOf calls (call_numbered calls 2) = record { there = Contains-from_In calls _ (inr (inr (inl refl))); completed = refl } in
    let update : IsUpdateOf calls (call_numbered calls 1) (entry 0 2 8) = record { there = Contains-from_In calls _ (inr (inl refl)); writes = refl } in
    absurd (false≢true (sym (r.not_old (call_numbered calls 2) (call_numbered calls 1) (entry 0 2 8) view update (omega arith))))

-- so the law is false of updates that end in another order
the_ends_must_be_in_order : ((es : List Event) → IsWellFormed es → IsNumbered es → HasByteComponents es → HasNoLocalFault (calls_of es) → IsRegular (calls_of es)) → ⊥
the_ends_must_be_in_order law = it_is_not_regular (law ends_back (well_formed_by ends_back refl) (numbered_by [] ends_back refl) (bytes_by ends_back refl) it_has_no_fault)
