-- A worked store whose updates are numbered, cut and told, by computation.
use Rattle.std.proofs.Common.{◌≡◌, ◌⊎◌, ℕ, Bool, true, ◌&&◌, ◌||◌, not, List, [], ◌∷◌, Some, None, refl, sym, ap, ◌∙◌, subst, inl, inr, arith}
use Rattle.std.specs.Prelude.{◌==◌, nat_lt}
use Rattle.std.specs.List.{list_all}
use Rattle.std.proofs.lemmas.Bool.{false≢true, and_from, eq-eqb, eqb-true, lt-ltb}
use Rattle.snap_core.specs.declared.event.Event.{Event}
use Rattle.snap_core.specs.declared.event.Event.TheVariants.{BeginUpdate, BeginView, EndUpdate, EndView}
use Rattle.snap_core.specs.Calls.{Call, Operation, Updates, Views, calls_of, is_update_numbered, is_view, precedes, shown}
use Rattle.snap_core.specs.Ordered.{IsOrdered}
use Rattle.snap_core.proofs.Lists.{In, In-from_Contains, Contains-from_In, Pairs, AllPairs-from_Pairs}
use Rattle.snap_core.proofs.Worked.{entry}
use Rattle.snap_theory.specs.Intervals.{cut_calls}
use Rattle.snap_theory.specs.Telling.{Moment, begin_of, end_of, IsBefore, IsMomentOf, Tells}
use Rattle.snap_theory.specs.Versioned.{AgreeWithTime, AreCut, AreVersioned, counted_number, kept_calls, numbered_calls}
use Rattle.snap_theory.proofs.Telling.{before_all}
use Rattle.snap_theory.proofs.Timed.{made}
use Rattle.snap_theory.proofs.Versioned.{versions_are_ordered}
use Rattle.snap_theory.proofs.WorkedVersions.{all_in, well_formed_by}

-- The updates with versions 3 and 7 overlap, and the higher one begins first and ends first. Two updates are pending: that with
-- version 5, which no view shows, and one of another component, which the view shows.
abbrev store : List Event
store =
    BeginUpdate 1 (entry 0 7 8) ∷ BeginUpdate 0 (entry 0 3 7) ∷ BeginUpdate 2 (entry 0 5 9) ∷ BeginUpdate 4 (entry 1 4 6) ∷
    EndUpdate 1 ∷ EndUpdate 0 ∷ BeginView 3 ∷ EndView 3 (entry 0 7 8 ∷ entry 1 4 6 ∷ []) ∷ []

-- its calls, numbered and cut: both updates begin at one place, and end at one place
abbrev higher : Call
higher = record { number = 0; process = 1; operation = Updates (entry 0 2 8); begun = 1; ended = Some 4 }

abbrev lower : Call
lower = record { number = 1; process = 0; operation = Updates (entry 0 1 7); begun = 1; ended = Some 4 }

abbrev pending : Call
pending = record { number = 3; process = 4; operation = Updates (entry 1 1 6); begun = 3; ended = None }

abbrev a_view : Call
a_view = record { number = 4; process = 3; operation = Views (Some (entry 0 2 8 ∷ entry 1 1 6 ∷ [])); begun = 6; ended = Some 7 }

abbrev the_calls : List Call
the_calls = higher ∷ lower ∷ pending ∷ a_view ∷ []

they_are_cut : cut_calls (numbered_calls (calls_of store)) ≡ the_calls
unfolding calls_of is_update_numbered is_view shown
they_are_cut = refl

-- the ranks of versions 3 and 7, and the number of a version that no update has
ranks : (counted_number (kept_calls (calls_of store)) (entry 0 3 7) ≡ 1) × (counted_number (kept_calls (calls_of store)) (entry 0 7 8) ≡ 2) × (counted_number (kept_calls (calls_of store)) (entry 0 5 9) ≡ 3)
unfolding calls_of is_update_numbered is_view shown
ranks = (refl, refl, refl)

-- the events that tell them
abbrev told : List Event
told =
    BeginUpdate 0 (entry 0 1 7) ∷ BeginUpdate 1 (entry 0 2 8) ∷ BeginUpdate 4 (entry 1 1 6) ∷ EndUpdate 0 ∷ EndUpdate 1 ∷
    BeginView 3 ∷ EndView 3 (entry 0 2 8 ∷ entry 1 1 6 ∷ []) ∷ []

abbrev the_moments : List Moment
the_moments =
    begin_of lower ∷ begin_of higher ∷ begin_of pending ∷ end_of lower 4 ∷ end_of higher 4 ∷ begin_of a_view ∷
    end_of a_view 7 ∷ []

-- each moment is before the next one
abbrev Follow : List Moment → Type 0
Follow [] = Unit {0}
Follow (m ∷ []) = Unit {0}
Follow (m ∷ n ∷ ms) = IsBefore m n × Follow (n ∷ ms)

rising_by : (ms : List Moment) → Follow ms → Pairs IsBefore ms
rising_by [] f = tt
rising_by (m ∷ []) f = (λ x i. absurd i, tt)
rising_by (m ∷ n ∷ ms) f = go (rising_by (n ∷ ms) f.1)
  where
    go : Pairs IsBefore (n ∷ ms) → Pairs IsBefore (m ∷ n ∷ ms)
    go p = (λ x i. first x i, p)
      where
        first : (x : Moment) → In x (n ∷ ms) → IsBefore m x
        first x (inl e) = subst (IsBefore m) e f.0
        first x (inr i) = before_all m n x f.0 (p.0 x i)

-- at one place the lower number comes first
they_follow : Follow the_moments
they_follow = (inr (refl, omega arith), (inl (omega arith), (inl (omega arith), (inr (refl, omega arith), (inl (omega arith), (inl (omega arith), tt))))))

begins_it : (x c : Call) (m : Moment) → x ≡ c → m ≡ begin_of c → begin_of x ≡ m
begins_it x c m same is = ap begin_of same ∙ sym is

ends_it : (x c : Call) (m : Moment) (end : ℕ) → x.ended ≡ Some end → x ≡ c → (place : ℕ) × (c.ended ≡ Some place) × (m ≡ end_of c place) → end_of x end ≡ m
ends_it x c m end e same (place, h, is) =
    let q : Some end ≡ Some place = sym e ∙ ap (λ (z : Call). z.ended) same ∙ h in
    let at : end ≡ place = cc in
    ap (λ z. end_of z end) same ∙ ap (end_of c) at ∙ sym is

has_all : (m : Moment) (c : Call) → In c the_calls → (m ≡ begin_of c) ⊎ ((place : ℕ) × (c.ended ≡ Some place) × (m ≡ end_of c place)) → In m the_moments
has_all m c (inl e) (inl w) = inr (inl (begins_it higher c m e w))
has_all m c (inl e) (inr w) = inr (inr (inr (inr (inl (ends_it higher c m 4 refl e w)))))
has_all m c (inr (inl e)) (inl w) = inl (begins_it lower c m e w)
has_all m c (inr (inl e)) (inr w) = inr (inr (inr (inl (ends_it lower c m 4 refl e w))))
has_all m c (inr (inr (inl e))) (inl w) = inr (inr (inl (begins_it pending c m e w)))
has_all m c (inr (inr (inl e))) (inr (place, h, w)) = absurd (let q : None ≡ Some place = ap (λ (z : Call). z.ended) e ∙ h in cc)
has_all m c (inr (inr (inr (inl e)))) (inl w) = inr (inr (inr (inr (inr (inl (begins_it a_view c m e w))))))
has_all m c (inr (inr (inr (inl e)))) (inr w) = inr (inr (inr (inr (inr (inr (inl (ends_it a_view c m 7 refl e w)))))))
has_all m c (inr (inr (inr (inr i)))) w = absurd i

has_only : (m : Moment) → In m the_moments → IsMomentOf the_calls m
has_only m (inl e) = (lower, Contains-from_In the_calls lower (inr (inl refl)), inl (sym e))
has_only m (inr (inl e)) = (higher, Contains-from_In the_calls higher (inl refl), inl (sym e))
has_only m (inr (inr (inl e))) = (pending, Contains-from_In the_calls pending (inr (inr (inl refl))), inl (sym e))
has_only m (inr (inr (inr (inl e)))) = (lower, Contains-from_In the_calls lower (inr (inl refl)), inr (4, refl, sym e))
has_only m (inr (inr (inr (inr (inl e))))) = (higher, Contains-from_In the_calls higher (inl refl), inr (4, refl, sym e))
has_only m (inr (inr (inr (inr (inr (inl e)))))) = (a_view, Contains-from_In the_calls a_view (inr (inr (inr (inl refl)))), inl (sym e))
has_only m (inr (inr (inr (inr (inr (inr (inl e))))))) = (a_view, Contains-from_In the_calls a_view (inr (inr (inr (inl refl)))), inr (7, refl, sym e))
has_only m (inr (inr (inr (inr (inr (inr (inr i))))))) = absurd i

they_are_told : Tells the_calls told
they_are_told = record {
  moments = the_moments;
  told = refl;
  rising = AllPairs-from_Pairs IsBefore the_moments (rising_by the_moments they_follow);
  all = λ m w. Contains-from_In the_moments m (has_all m w.0 (In-from_Contains the_calls w.0 w.1) w.2);
  only = λ m i. has_only m (In-from_Contains the_moments m i);
}

-- tests of two calls

abbrev versions_apart : Operation → Operation → Bool → Bool
versions_apart (Updates d) (Updates e) same = not ((d.component == e.component) && (d.number == e.number)) || same
versions_apart _ _ same = true

abbrev are_apart : Call → Call → Bool
are_apart a b = versions_apart a.operation b.operation (a.number == b.number)

versioned_by : (es : List Event) → list_all (λ a. list_all (are_apart a) (calls_of es)) (calls_of es) ≡ true → AreVersioned (calls_of es)
versioned_by es h a b d e u w same n =
    let t = all_in (are_apart a) (calls_of es) b (all_in (λ a. list_all (are_apart a) (calls_of es)) (calls_of es) a h (In-from_Contains _ _ u.there)) (In-from_Contains _ _ w.there) in
    let one : ((d.component == e.component) && (d.number == e.number)) ≡ true = and_from _ _ (eq-eqb _ _ same) (eq-eqb _ _ n) in
    (made es).one a b u.there w.there (eqb-true _ _ (sym (ap (λ z. not z || (a.number == b.number)) one)
    ∙ sym (ap (λ z. versions_apart z b.operation (a.number == b.number)) u.writes ∙ ap (λ z. versions_apart (Updates d) z (a.number == b.number)) w.writes) ∙ t))

abbrev versions_agree : Operation → Operation → Bool → Bool
versions_agree (Updates d) (Updates e) first = not ((d.component == e.component) && nat_lt d.number e.number) || not first
versions_agree _ _ first = true

abbrev do_agree : Call → Call → Bool
do_agree a b = versions_agree a.operation b.operation (precedes b a)

agree_by : (calls : List Call) → list_all (λ a. list_all (do_agree a) calls) calls ≡ true → AgreeWithTime calls
agree_by calls h a b x =
    let t = all_in (do_agree a) calls b (all_in (λ a. list_all (do_agree a) calls) calls a h (In-from_Contains _ _ x.is_low.there)) (In-from_Contains _ _ x.is_high.there) in
    let below : ((x.low.component == x.high.component) && nat_lt x.low.number x.high.number) ≡ true = and_from _ _ (eq-eqb _ _ x.component) (lt-ltb _ _ x.version) in
    false≢true (sym (ap (λ z. not z || not (precedes b a)) below ∙ ap not x.time)
    ∙ sym (ap (λ z. versions_agree z b.operation (precedes b a)) x.is_low.writes ∙ ap (λ z. versions_agree (Updates x.low) z (precedes b a)) x.is_high.writes) ∙ t)

-- so the law speaks of this store
the_store_is_cut : AreCut store told
unfolding calls_of is_update_numbered is_view precedes shown
the_store_is_cut = record {
  well_formed = well_formed_by store refl;
  versioned = versioned_by store refl;
  agree = agree_by (numbered_calls (calls_of store)) refl;
  tells = subst (λ z. Tells z told) (sym they_are_cut) they_are_told;
}

what_is_told_is_ordered : IsOrdered told
what_is_told_is_ordered = versions_are_ordered store told the_store_is_cut
