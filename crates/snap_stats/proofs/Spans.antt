-- What counts over spans say of calls.
use Rattle.std.proofs.Common.{Bor, option_to_list, get_or, ◌≡◌, ◌≤◌, ◌<◌, ◌+◌, ◌-◌, ℕ, suc, Bool, true, false, cond, not, ◌&&◌, ◌||◌, List, [], ◌∷◌, ◌++◌, append-nil, length, map, filter, take, count_by, Some, None, Option, All, refl, sym, ap, ◌∙◌, subst, inl, inr, arith}
use Rattle.std.specs.Prelude.{is_some, nat_lt, ◌==◌}
use Rattle.std.specs.List.{list_any, fold}
use Rattle.std.specs.List.Sorted.{IsPermutation}
use Rattle.std.specs.Option.{option_copied}
use Rattle.std.proofs.lemmas.List.Sums.{count_by_more_no, count_by_more_yes, sum_by_more, sum_by_push}
use Rattle.std.proofs.lemmas.Bool.{ltb-false, ltb-true, lt-ltb, le-ltb, false≢true, ne_eqb, eq-eqb}
use Rattle.std.proofs.lemmas.List.{map-append}
use Rattle.std.proofs.lemmas.List.Elements.{filter_more}
use Rattle.snap_core.specs.Calls.{Call, Operation, Updates, Views, call_numbered, is_answer, is_before, is_view, nobody, precedes, views_of}
use Rattle.snap_core.specs.declared.entry.Entry.{Entry}
use Rattle.snap_core.specs.Orders.{is_update, is_writing}
use Rattle.snap_core.proofs.Ordered.{AreOrderedCalls}
use Rattle.snap_core.proofs.Lists.{In, Contains-from_In, In-get_or, In-from_filter, Pairs, Pairs-filter, count-cons}
use Rattle.snap_core.proofs.Members.{In-from_map}
use Rattle.snap_index.specs.declared.call.Call.{Call as IndexedCall}
use Rattle.snap_index.specs.declared.call.CallOp.{CallOp}
use Rattle.snap_index.specs.declared.call.CallOp.TheVariants.{Update}
use Rattle.snap_index.specs.IndexedCalls.{answered_by, as_indexed, indexed_op}
use Rattle.snap_stats.specs.Overlaps.{all_updates, greatest, call_length, is_open_at, longest_call, most_open, open_with, overlaps, overlaps_nothing, overlaps_update, overlaps_view}
use Rattle.snap_stats.specs.Stats.{overlapping_of}
use Rattle.snap_stats.specs.declared.overlaps.Overlapping.{Overlapping}
use Rattle.snap_stats.specs.declared.span.Span.{Span}
use Rattle.snap_stats.specs.inside.Spans.{AreTimesOf, Rises, meets, meets_some, meets_span, meets_two, open_in, overlapping_in, span_length, span_of}
use Rattle.snap_stats.proofs.Counts.{any_count, count-map, count_moved, count_same, greatest-map, greatest_same}

all_from : {X : Type 0} (P : X → Type 0) (xs : List X) → ((x : X) → In x xs → P x) → All P xs
all_from P xs h = λ k d l. h _ (In-get_or xs k d l)

-- calls end after they begin
pub spans_rise : (calls : List Call) → AreOrderedCalls calls → (p : Call → Bool) → All Rises (map span_of (filter p calls))
spans_rise calls f p = all_from Rises (map span_of (filter p calls)) one
  where
    one : (s : Span) → In s (map span_of (filter p calls)) → Rises s
    one s i =
        let o = In-from_map span_of (filter p calls) s i in
        let there = Contains-from_In calls o.it (In-from_filter p calls o.it o.there).0 in
        λ end e. let l = f.rises o.it end there (ap (λ (z : Span). z.ended) o.is ∙ e) in omega (arith, l, ap (λ (z : Span). z.begun) o.is)

-- of the spans that begin by an end some end before a begin, and the others meet both
met_one : (s : Span) (begun : ℕ) (ended : Option ℕ) → Rises s → ((e : ℕ) → ended ≡ Some e → begun ≤ e) →
    cond (not (is_before ended s.begun)) 1 0 ≡ cond (meets begun ended s) 1 0 + cond (is_before s.ended begun) 1 0
met_one s begun ended rises order = go (is_before ended s.begun) refl (is_before s.ended begun) refl
  where
    both : (o p : Option ℕ) → ended ≡ o → s.ended ≡ p → is_before o s.begun ≡ true → is_before p begun ≡ true → ⊥
    both None p a b t u = false≢true t
    both (Some e) None a b t u = false≢true u
    both (Some e) (Some f) a b t u = absurd (omega (arith, ltb-true e s.begun t, ltb-true f begun u, order e a, rises f b))

    go : (a : Bool) → is_before ended s.begun ≡ a → (b : Bool) → is_before s.ended begun ≡ b →
        cond (not (is_before ended s.begun)) 1 0 ≡ cond (not (is_before ended s.begun) && not (is_before s.ended begun)) 1 0 + cond (is_before s.ended begun) 1 0
    go true x true y = absurd (both ended s.ended refl refl x y)
    go true x false y = rw x (rw y refl)
    go false x true y = rw x (rw y refl)
    go false x false y = rw x (rw y refl)

met_count : (spans : List Span) (begun : ℕ) (ended : Option ℕ) → ((s : Span) → In s spans → Rises s) → ((e : ℕ) → ended ≡ Some e → begun ≤ e) →
    count_by (λ s. not (is_before ended s.begun)) spans ≡ count_by (meets begun ended) spans + count_by (λ s. is_before s.ended begun) spans
met_count [] begun ended rise order = refl
met_count (s ∷ spans) begun ended rise order =
    omega (
      arith,
      count-cons (λ (z : Span). not (is_before ended z.begun)) s spans,
      count-cons (meets begun ended) s spans,
      count-cons (λ (z : Span). is_before z.ended begun) s spans,
      met_one s begun ended (rise s (inl refl)) order,
      met_count spans begun ended (λ z i. rise z (inr i)) order,
    )

in_from_all : {X : Type 0} (P : X → Type 0) (xs : List X) → All P xs → (x : X) → In x xs → P x
in_from_all P xs h x i = let k = Contains-from_In xs x i in subst P k.2 (h k.0 x k.1)

-- what a timeline counts
pub timeline_met : (spans : List Span) (begins ends : List ℕ) (begun : ℕ) (ended : Option ℕ) → AreTimesOf spans begins ends → All Rises spans → ((e : ℕ) → ended ≡ Some e → begun ≤ e) →
    count_by (λ x. not (is_before ended x)) begins - count_by (λ x. nat_lt x begun) ends ≡ count_by (meets begun ended) spans
timeline_met spans begins ends begun ended is rise order =
    omega (arith, is.begins_are ended, is.ends_are begun, met_count spans begun ended (in_from_all Rises spans rise) order)

-- a span meets another as the calls overlap
pub met_calls : (r : Call) (cs : List Call) → count_by (meets_span (span_of r)) (map span_of cs) ≡ count_by (overlaps r) cs
unfolding overlaps precedes
met_calls r cs = count-map (meets_span (span_of r)) span_of cs

overlaps_itself : (calls : List Call) → AreOrderedCalls calls → (r : Call) → In r calls → overlaps r r ≡ true
unfolding overlaps precedes
overlaps_itself calls f r i = rw (late r.ended refl) refl
  where
    late : (o : Option ℕ) → r.ended ≡ o → is_before o r.begun ≡ false
    late None e = refl
    late (Some end) e = le-ltb end r.begun (let l = f.rises r end (Contains-from_In calls r i) e in omega (arith, l))

abbrev is_another : Call → Call → Bool
is_another r s = overlaps r s && not (s.number == r.number)

-- among other calls
none_itself : (r : Call) (cs : List Call) → ((s : Call) → In s cs → s.number ≡ r.number → ⊥) → list_any (is_another r) cs ≡ nat_lt 0 (count_by (overlaps r) cs)
none_itself r cs other =
    any_count (is_another r) cs
    ∙ ap (nat_lt 0) (count_same (is_another r) (overlaps r) cs (λ s i. ap (λ b. overlaps r s && not b) (ne_eqb s.number r.number (other s i)) ∙ true_right (overlaps r s)))
  where
    true_right : (b : Bool) → (b && true) ≡ b
    true_right true = refl
    true_right false = refl

-- a call among others is counted
counted_once : (r : Call) (cs : List Call) → In r cs → overlaps r r ≡ true → 0 < count_by (overlaps r) cs
counted_once r [] i self = absurd i
counted_once r (c ∷ cs) (inl e) self =
    let one : cond (overlaps r c) 1 0 ≡ 1 = ap {B = ℕ} (λ b. cond b 1 0) (ap (overlaps r) e ∙ self) in
    omega (arith, count-cons (overlaps r) c cs, one)
counted_once r (c ∷ cs) (inr i) self = omega (arith, count-cons (overlaps r) c cs, counted_once r cs i self)

one_more : (n : ℕ) (b : Bool) → nat_lt 0 n ≡ b → nat_lt 0 n ≡ nat_lt 1 (suc n)
one_more n true e = e ∙ sym (lt-ltb 1 (suc n) (omega (arith, ltb-true 0 n e)))
one_more n false e = e ∙ sym (le-ltb 1 (suc n) (omega (arith, ltb-false 0 n e)))

-- a call meets two where it meets another, since it meets itself
pub another_by_count : (r : Call) (cs : List Call) → Pairs (λ a b. a.number < b.number) cs → In r cs → overlaps r r ≡ true → list_any (is_another r) cs ≡ nat_lt 1 (count_by (overlaps r) cs)
another_by_count r [] p i self = absurd i
another_by_count r (c ∷ cs) p (inl e) self =
    let mine : overlaps r c ≡ true = ap (overlaps r) e ∙ self in
    let same : (c.number == r.number) ≡ true = eq-eqb c.number r.number (ap (λ (z : Call). z.number) e) in
    let rest = none_itself r cs (λ s j q. let l = p.0 s j in omega (arith, l, q, ap (λ (z : Call). z.number) e)) in
    let one : cond (overlaps r c) 1 0 ≡ 1 = ap {B = ℕ} (λ b. cond b 1 0) mine in
    let more : count_by (overlaps r) (c ∷ cs) ≡ suc (count_by (overlaps r) cs) = omega (arith, count-cons (overlaps r) c cs, one) in
    ap (λ b. (overlaps r c && not b) || list_any (is_another r) cs) same ∙ ap (λ b. (b && false) || list_any (is_another r) cs) mine ∙ rest
    ∙ shifted (count_by (overlaps r) cs) ∙ sym (ap (nat_lt 1) more)
  where
    shifted : (n : ℕ) → nat_lt 0 n ≡ nat_lt 1 (suc n)
    shifted n = one_more n (nat_lt 0 n) refl
another_by_count r (c ∷ cs) p (inr i) self =
    let differs : (c.number == r.number) ≡ false = ne_eqb c.number r.number (λ q. let l = p.0 r i in omega (arith, l, q)) in
    let rest = another_by_count r cs p.1 i self in
    ap (λ b. (overlaps r c && not b) || list_any (is_another r) cs) differs ∙ go (overlaps r c) refl rest
  where
    go : (b : Bool) → overlaps r c ≡ b → list_any (is_another r) cs ≡ nat_lt 1 (count_by (overlaps r) cs) → ((b && true) || list_any (is_another r) cs) ≡ nat_lt 1 (count_by (overlaps r) (c ∷ cs))
    go true e rest =
        let one : cond (overlaps r c) 1 0 ≡ 1 = ap {B = ℕ} (λ z. cond z 1 0) e in
        sym (lt-ltb 1 (count_by (overlaps r) (c ∷ cs)) (omega (arith, count-cons (overlaps r) c cs, one, counted_once r cs i self)))
    go false e rest =
        let none : cond (overlaps r c) 1 0 ≡ 0 = ap {B = ℕ} (λ z. cond z 1 0) e in
        let same : count_by (overlaps r) (c ∷ cs) ≡ count_by (overlaps r) cs = omega (arith, count-cons (overlaps r) c cs, none) in
        rest ∙ sym (ap (nat_lt 1) same)

-- the three counts of views

update_met : (calls : List Call) (r : Call) → meets_some (map span_of (filter is_update calls)) (span_of r) ≡ overlaps_update calls r
unfolding overlaps_update all_updates
update_met calls r = ap (nat_lt 0) (met_calls r (filter is_update calls)) ∙ sym (any_count (overlaps r) (filter is_update calls))

view_met : (calls : List Call) → AreOrderedCalls calls → (r : Call) → In r (filter is_view calls) → meets_two (map span_of (filter is_view calls)) (span_of r) ≡ overlaps_view calls r
unfolding overlaps_view views_of
view_met calls f r i =
    ap (nat_lt 1) (met_calls r (filter is_view calls))
    ∙ sym (another_by_count r (filter is_view calls) (Pairs-filter (λ a b. a.number < b.number) is_view calls f.numbered) i (overlaps_itself calls f r (In-from_filter is_view calls r i).0))

abbrev counted : ℕ → ℕ → ℕ → Overlapping
counted a b c = record { update = a; view = b; nothing = c }

pub overlapping_is : (calls : List Call) → AreOrderedCalls calls → overlapping_in (map span_of (filter is_update calls)) (map span_of (filter is_view calls)) ≡ overlapping_of calls
unfolding views_of overlaps_nothing
overlapping_is calls f =
    ap (λ n. counted n (count_by (meets_two (map span_of vs)) (map span_of vs)) (count_by (λ r. not (meets_some us r || meets_two (map span_of vs) r)) (map span_of vs)))
    (count-map (meets_some us) span_of vs ∙ count_same _ (overlaps_update calls) vs (λ r i. update_met calls r))
    ∙ ap (λ n. counted (count_by (overlaps_update calls) vs) n (count_by (λ r. not (meets_some us r || meets_two (map span_of vs) r)) (map span_of vs)))
    (count-map (meets_two (map span_of vs)) span_of vs ∙ count_same _ (overlaps_view calls) vs (λ r i. view_met calls f r i))
    ∙ ap (counted (count_by (overlaps_update calls) vs) (count_by (overlaps_view calls) vs))
    (count-map (λ r. not (meets_some us r || meets_two (map span_of vs) r)) span_of vs
    ∙ count_same _ (overlaps_nothing calls) vs (λ r i. ap (λ b. not (b || meets_two (map span_of vs) (span_of r))) (update_met calls r) ∙ ap (λ b. not (overlaps_update calls r || b)) (view_met calls f r i)))
  where
    vs : List Call
    vs = filter is_view calls

    us : List Span
    us = map span_of (filter is_update calls)

-- the most open calls, by spans
pub most_open_is : (calls : List Call) → greatest (open_in (map span_of calls)) (map span_of calls) ≡ most_open calls
unfolding most_open open_with is_open_at
most_open_is calls =
    greatest-map (open_in (map span_of calls)) span_of calls
    ∙ greatest_same (λ c. open_in (map span_of calls) (span_of c)) (open_with calls) calls (λ c. count-map (meets c.begun (Some c.begun)) span_of calls)

pub longest_is : (calls : List Call) → greatest span_length (map span_of calls) ≡ longest_call calls
unfolding longest_call call_length
longest_is calls = greatest-map span_length span_of calls

-- one call more
abbrev pub spans_in : (Call → Bool) → List Call → List Span
spans_in p calls = map span_of (filter p calls)

spans_step : (p : Call → Bool) (calls : List Call) (i : ℕ) → i < length calls →
    spans_in p (take (i + 1) calls) ≡ map span_of (filter p (take i calls) ++ cond (p (call_numbered calls i)) (call_numbered calls i ∷ []) [])
spans_step p calls i l = ap (map span_of) (filter_more p calls i nobody l)

pub spans_more : (p : Call → Bool) (calls : List Call) (i : ℕ) → i < length calls → p (call_numbered calls i) ≡ true →
    spans_in p (take (i + 1) calls) ≡ spans_in p (take i calls) ++ span_of (call_numbered calls i) ∷ []
spans_more p calls i l t =
    spans_step p calls i l ∙ ap (λ b. map span_of (filter p (take i calls) ++ cond b (call_numbered calls i ∷ []) [])) t
    ∙ map-append span_of (filter p (take i calls)) (call_numbered calls i ∷ [])

pub spans_same : (p : Call → Bool) (calls : List Call) (i : ℕ) → i < length calls → p (call_numbered calls i) ≡ false →
    spans_in p (take (i + 1) calls) ≡ spans_in p (take i calls)
spans_same p calls i l f =
    spans_step p calls i l ∙ ap (λ b. map span_of (filter p (take i calls) ++ cond b (call_numbered calls i ∷ []) [])) f
    ∙ ap (map span_of) (append-nil (filter p (take i calls)))

-- the span of an indexed call
abbrev pub span_at : IndexedCall → Span
span_at c = record { begun = c.begun; ended = c.ended }

pub span_indexed : (c : IndexedCall) (d : Call) → c ≡ as_indexed d → span_at c ≡ span_of d
span_indexed c d e = ap span_at e

-- what an answer says of a call
pub view_answered : (o : Operation) → is_some (answered_by o) ≡ is_answer o
view_answered (Updates e) = refl
view_answered (Views a) = refl

pub writing_not : (o : Operation) (b : CallOp) → b ≡ indexed_op o → ((e : Entry) → b ≡ Update e → ⊥) → false ≡ is_writing o
writing_not (Updates e) b h others = absurd (others e h)
writing_not (Views a) b h others = refl

pub some_copied : {X : Type 0} (r : Option (Bor X)) → is_some r ≡ is_some (option_copied r)
some_copied None = refl
some_copied (Some x) = refl

-- a begin more, and an end if there is one
pub times_more : (spans : List Span) (i : ℕ) (d : Span) (begins ends new_begins new_ends : List ℕ) → i < length spans → AreTimesOf (take i spans) begins ends →
    new_begins ≡ begins ++ (get_or spans i d).begun ∷ [] → new_ends ≡ ends ++ option_to_list (get_or spans i d).ended → AreTimesOf (take (i + 1) spans) new_begins new_ends
times_more spans i d begins ends new_begins new_ends l h b e = record { begins_are = more_begins; ends_are = more_ends }
  where
    s : Span
    s = get_or spans i d

    more_begins : (ended : Option ℕ) → count_by (λ x. not (is_before ended x)) new_begins ≡ count_by (λ (z : Span). not (is_before ended z.begun)) (take (i + 1) spans)
    more_begins ended =
        ap (count_by (λ x. not (is_before ended x))) b
        ∙ omega (arith, sum_by_push (λ x. cond (not (is_before ended x)) 1 0) begins s.begun, h.begins_are ended, sum_by_more (λ (z : Span). cond (not (is_before ended z.begun)) 1 0) spans i d l)

    ended_one : (place : ℕ) (o : Option ℕ) → count_by (λ x. nat_lt x place) (ends ++ option_to_list o) ≡ count_by (λ x. nat_lt x place) ends + cond (is_before o place) 1 0
    ended_one place None = omega (arith, ap (count_by (λ x. nat_lt x place)) (append-nil ends))
    ended_one place (Some x) = sum_by_push (λ z. cond (nat_lt z place) 1 0) ends x

    more_ends : (place : ℕ) → count_by (λ x. nat_lt x place) new_ends ≡ count_by (λ (z : Span). is_before z.ended place) (take (i + 1) spans)
    more_ends place =
        ap (count_by (λ x. nat_lt x place)) e
        ∙ omega (arith, ended_one place s.ended, h.ends_are place, sum_by_more (λ (z : Span). cond (is_before z.ended place) 1 0) spans i d l)

-- sorted, they are counted as before
pub times_sorted : (spans : List Span) (begins ends new_begins new_ends : List ℕ) → AreTimesOf spans begins ends → IsPermutation begins new_begins → IsPermutation ends new_ends → AreTimesOf spans new_begins new_ends
times_sorted spans begins ends new_begins new_ends h b e = record {
  begins_are = λ ended. count_moved (λ x. not (is_before ended x)) begins new_begins b ∙ h.begins_are ended;
  ends_are = λ place. count_moved (λ x. nat_lt x place) ends new_ends e ∙ h.ends_are place;
}

pub no_times : AreTimesOf [] [] []
no_times = record { begins_are = λ ended. refl; ends_are = λ place. refl }

-- what a timeline counts for a span of a list
pub met_by : (spans others : List Span) (begins ends : List ℕ) (i : ℕ) (d : Span) (met : ℕ) → i < length others → All Rises spans → All Rises others → AreTimesOf spans begins ends →
    met ≡ count_by (λ x. not (is_before (get_or others i d).ended x)) begins - count_by (λ x. nat_lt x (get_or others i d).begun) ends →
    count_by (meets_span (get_or others i d)) spans ≡ met
met_by spans others begins ends i d met l rise rises times is =
    sym (is ∙ timeline_met spans begins ends (get_or others i d).begun (get_or others i d).ended times rise (λ e h. rises i d l e h))

pub open_by : (spans : List Span) (begins ends : List ℕ) (begun met : ℕ) → All Rises spans → AreTimesOf spans begins ends →
    met ≡ count_by (λ x. not (is_before (Some begun) x)) begins - count_by (λ x. nat_lt x begun) ends → met ≡ count_by (meets begun (Some begun)) spans
open_by spans begins ends begun met rise times is =
    is ∙ timeline_met spans begins ends begun (Some begun) times rise (λ e h. let same : begun ≡ e = cc in omega (arith, same))

-- a count of views, one view more

pub met_yes : (limit : ℕ) (spans others : List Span) (i : ℕ) (d : Span) (met m n : ℕ) → i < length others → count_by (meets_span (get_or others i d)) spans ≡ met → limit < met → n ≡ m + 1 →
    m ≡ count_by (λ r. nat_lt limit (count_by (meets_span r) spans)) (take i others) → n ≡ count_by (λ r. nat_lt limit (count_by (meets_span r) spans)) (take (i + 1) others)
met_yes limit spans others i d met m n l is more e so_far =
    omega (arith, e, so_far, count_by_more_yes (λ r. nat_lt limit (count_by (meets_span r) spans)) others i d l (ap (nat_lt limit) is ∙ lt-ltb limit met more))

pub met_no : (limit : ℕ) (spans others : List Span) (i : ℕ) (d : Span) (met m n : ℕ) → i < length others → count_by (meets_span (get_or others i d)) spans ≡ met → met ≤ limit → n ≡ m →
    m ≡ count_by (λ r. nat_lt limit (count_by (meets_span r) spans)) (take i others) → n ≡ count_by (λ r. nat_lt limit (count_by (meets_span r) spans)) (take (i + 1) others)
met_no limit spans others i d met m n l is few e so_far =
    omega (arith, e, so_far, count_by_more_no (λ r. nat_lt limit (count_by (meets_span r) spans)) others i d l (ap (nat_lt limit) is ∙ le-ltb limit met few))

abbrev is_alone : List Span → List Span → Span → Bool
is_alone updates views r = not (meets_some updates r || meets_two views r)

alone_is : (updates views : List Span) (r : Span) (met other : ℕ) → count_by (meets_span r) updates ≡ met → count_by (meets_span r) views ≡ other → is_alone updates views r ≡ not (nat_lt 0 met || nat_lt 1 other)
alone_is updates views r met other u v =
    ap (λ n. not (nat_lt 0 n || nat_lt 1 (count_by (meets_span r) views))) u ∙ ap (λ n. not (nat_lt 0 met || nat_lt 1 n)) v

pub alone_yes : (updates views : List Span) (i : ℕ) (d : Span) (met other m n : ℕ) (b : Bool) → i < length views → count_by (meets_span (get_or views i d)) updates ≡ met → count_by (meets_span (get_or views i d)) views ≡ other →
    b ≡ not (nat_lt 0 met || nat_lt 1 other) → b ≡ true → n ≡ m + 1 → m ≡ count_by (λ r. not (meets_some updates r || meets_two views r)) (take i views) →
    n ≡ count_by (λ r. not (meets_some updates r || meets_two views r)) (take (i + 1) views)
alone_yes updates views i d met other m n b l u v is t e so_far =
    omega (arith, e, so_far, count_by_more_yes (is_alone updates views) views i d l (alone_is updates views (get_or views i d) met other u v ∙ sym is ∙ t))

pub alone_no : (updates views : List Span) (i : ℕ) (d : Span) (met other m n : ℕ) (b : Bool) → i < length views → count_by (meets_span (get_or views i d)) updates ≡ met → count_by (meets_span (get_or views i d)) views ≡ other →
    b ≡ not (nat_lt 0 met || nat_lt 1 other) → b ≡ false → n ≡ m → m ≡ count_by (λ r. not (meets_some updates r || meets_two views r)) (take i views) →
    n ≡ count_by (λ r. not (meets_some updates r || meets_two views r)) (take (i + 1) views)
alone_no updates views i d met other m n b l u v is f e so_far =
    omega (arith, e, so_far, count_by_more_no (is_alone updates views) views i d l (alone_is updates views (get_or views i d) met other u v ∙ sym is ∙ f))
