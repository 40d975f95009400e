-- Where the conditions hold, the printed order is legal.
use Rattle.std.proofs.Common.{◌≡◌, ◌≢◌, ◌⊎◌, ℕ, ◌<◌, ◌≤◌, true, false, ◌&&◌, List, ◌∷◌, ◌++◌, Option, Some, None, refl, sym, ap, ◌∙◌, subst, inl, inr, arith}
use Rattle.std.specs.Prelude.{is_some, nat_le}
use Rattle.std.specs.List.{Contains}
use Rattle.std.proofs.lemmas.Bool.{false≢true, false_from_ne_true, and_from, or_left, or_right, le-leb, cases_order}
use Rattle.snap_core.specs.declared.entry.Entry.{Entry}
use Rattle.snap_core.specs.Calls.{Call, Operation, Updates, Views, precedes, is_view, is_answer, shown, shown_number}
use Rattle.snap_core.specs.Regular.{IsViewOf, IsUpdateOf}
use Rattle.snap_theory.specs.Conditions.{MeetsConditions}
use Rattle.snap_core.specs.Orders.{IsLegalOrder, is_completed, is_update, is_writing, last_written}
use Rattle.snap_theory.specs.Versions.{IsLaterVersion, IsLegalInOrder}
use Rattle.snap_theory.specs.Levels.{rank, is_printed, stands_by, printed_order}
use Rattle.snap_core.proofs.Lists.{In, In-from_Contains, Contains-from_In, In-append_left, In-append_right, In-append_cases, In-get_or, Pairs, Pairs-left, Pairs-right, Pairs-across, Pairs-weaker, AllPairs-from_Pairs, any_from, Around, around}
use Rattle.snap_core.proofs.Facts.{shown_in, shown_number_at, shown_number_none, precedes_to}
use Rattle.snap_theory.proofs.Chain.{view_update_levels, update_view_levels, update_update_levels}
use Rattle.snap_theory.proofs.Ranks.{Kind, an_update, a_view, kind_of, precedes_ranks, update_rank, view_rank}
use Rattle.snap_theory.proofs.Printed.{Earlier, in_printed, to_printed, printed_pairs}
use Rattle.snap_theory.proofs.Legal.{completed_view}
use Rattle.snap_theory.proofs.LastWritten.{Writes, last_written_none, last_written_at}
use Rattle.snap_core.proofs.Ordered.{AreOrderedCalls}

-- which of two calls stands first settles their ranks and numbers
not_earlier : (calls : List Call) (a b : Call) → Earlier calls a b → rank calls b ≤ rank calls a → b.number ≤ a.number → ⊥
not_earlier calls a b (inl l) r n = omega arith
not_earlier calls a b (inr p) r n = omega (arith, p.1)

earlier_rank : (calls : List Call) (a b : Call) → Earlier calls a b → rank calls a ≤ rank calls b
earlier_rank calls a b (inl l) = omega arith
earlier_rank calls a b (inr p) = omega (arith, p.0)

printed_completed : (calls : List Call) → AreOrderedCalls calls → (c : Call) → Contains calls c → is_completed c ≡ true → is_printed calls c ≡ true
unfolding is_completed is_printed
printed_completed calls f c i h = go c.operation refl
  where
    go : (o : Operation) → c.operation ≡ o → stands_by calls c.ended o ≡ true
    go (Updates e) s = or_left _ _ h
    go (Views (Some es)) s = refl
    go (Views None) s = absurd (false≢true (sym (ap is_some (f.unanswered c i s)) ∙ h))

printed_shown : (calls : List Call) (c r : Call) (e : Entry) → IsUpdateOf calls c e → IsViewOf calls r → e.number ≤ shown_number r e.component → is_printed calls c ≡ true
unfolding is_printed
printed_shown calls c r e u v l =
    ap (stands_by calls c.ended) u.writes
    ∙ or_right _ _ (any_from (λ s. is_view s && nat_le e.number (shown_number s e.component)) calls r (In-from_Contains calls r v.there) (and_from _ _ v.completed (le-leb _ _ l)))

update_is : (c : Call) (e : Entry) → c.operation ≡ Updates e → is_update c ≡ true
unfolding is_update
update_is c e h = ap is_writing h

view_no_update : (c : Call) (e : Entry) → c.operation ≡ Updates e → is_view c ≡ true → ⊥
unfolding is_view
view_no_update c e h v = false≢true (sym (ap is_answer h) ∙ v)

only_part : (calls : List Call) → AreOrderedCalls calls → (c : Call) → In c (printed_order calls) → Contains calls c × ((is_completed c ≡ true) ⊎ (is_update c ≡ true))
only_part calls f c i = go (kind_of calls c p.1)
  where
    p : In c calls × (is_printed calls c ≡ true)
    p = in_printed calls c i

    go : Kind calls c → Contains calls c × ((is_completed c ≡ true) ⊎ (is_update c ≡ true))
    go (an_update e w k) = (Contains-from_In calls c p.0, inr (update_is c e w))
    go (a_view v k) = (Contains-from_In calls c p.0, inl (completed_view calls f c (record { there = Contains-from_In calls c p.0; completed = v })))

ordered_part : (calls : List Call) → AreOrderedCalls calls → MeetsConditions calls → (a b : Call) → In a (printed_order calls) → In b (printed_order calls) → Earlier calls a b → precedes b a ≡ false
ordered_part calls f m a b i j e = false_from_ne_true (precedes b a) wrong
  where
    p : In a calls × (is_printed calls a ≡ true)
    p = in_printed calls a i

    q : In b calls × (is_printed calls b ≡ true)
    q = in_printed calls b j

    wrong : precedes b a ≡ true → ⊥
    wrong h =
        let ca : Contains calls a = Contains-from_In calls a p.0 in
        let cb : Contains calls b = Contains-from_In calls b q.0 in
        let r = precedes_ranks calls m b a cb ca (kind_of calls b q.1) (kind_of calls a p.1) h in
        let t = precedes_to b a h in
        let n = f.ordered b a cb ca (omega (arith, t.before, f.rises b t.place cb t.ends)) in
        not_earlier calls a b e r (omega (arith, n))

-- no update of a component stands after one of it with as great a number
none_behind : (calls : List Call) → AreOrderedCalls calls → (c u : Call) (e d : Entry) → IsUpdateOf calls c e → IsUpdateOf calls u d → d.component ≡ e.component → d.number ≤ e.number → Earlier calls c u → ⊥
none_behind calls f c u e d x y same le b = elim (cases_order d.number e.number) [
  | inl eq ↦ let one = f.one u c d e y x same eq in not_earlier calls c u b (le_at (λ z. rank calls z) u c one) (le_at (λ z. z.number) u c one)
  | inr (inl l) ↦
      let shows : (t : Call) → IsViewOf calls t → e.number ≤ shown_number t e.component → d.number ≤ shown_number t d.component = λ t v g. subst (λ k. d.number ≤ shown_number t k) (sym same) (omega (arith, l, g)) in
      let level = update_update_levels calls d e shows in
      not_earlier calls c u b (omega (arith, level, update_rank calls u d y.writes, update_rank calls c e x.writes)) (let n = f.ordered u c y.there x.there (f.begins u c d e y x same l) in omega arith)
  | inr (inr l) ↦ omega arith
]
  where
    le_at : (g : Call → ℕ) (a z : Call) → a ≡ z → g a ≤ g z
    le_at g a z eq = let q : g a ≡ g z = ap g eq in omega arith

-- at each view's place the last update of k is the one that it shows
latest_part : (calls : List Call) → AreOrderedCalls calls → MeetsConditions calls → (before after : List Call) (r : Call) → printed_order calls ≡ before ++ r ∷ after → is_view r ≡ true → (k : ℕ) → shown r k ≡ last_written k None before
latest_part calls f m before after r split v k = go (shown r k) refl
  where
    pairs : Pairs (Earlier calls) (before ++ r ∷ after)
    pairs = subst (Pairs (Earlier calls)) split (printed_pairs calls f.numbered)

    in_order : (c : Call) → In c (before ++ r ∷ after) → In c (printed_order calls)
    in_order c i = subst (In c) (sym split) i

    in_calls : (c : Call) → In c (before ++ r ∷ after) → Contains calls c
    in_calls c i = Contains-from_In calls c (in_printed calls c (in_order c i)).0

    view : IsViewOf calls r
    view = record { there = in_calls r (In-append_right r before (r ∷ after) (inl refl)); completed = v }

    -- an update of k before r is one that r shows
    no_more : (u : Call) (d : Entry) → In u before → Writes k u d → d.number ≤ shown_number r k
    no_more u d i w =
        let e : Earlier calls u r = Pairs-across (Earlier calls) before (r ∷ after) pairs u r i (inl refl) in
        let not_less : ¬ (shown_number r d.component < d.number) = λ l. let lv = view_update_levels calls r d view l in omega (arith, lv, earlier_rank calls u r e, update_rank calls u d w.writes, view_rank calls r v) in
        subst (λ c. d.number ≤ shown_number r c) w.component (omega (arith, not_less))

    go : (o : Option Entry) → shown r k ≡ o → o ≡ last_written k None before
    go None s = sym (last_written_none k None before (λ u d i w.
        let uc : IsUpdateOf calls u d = record { there = in_calls u (In-append_left u before (r ∷ after) i); writes = w.writes } in
        omega (arith, no_more u d i w, shown_number_none r k s, f.positive u d uc)))
    go (Some e) s = found
      where
        comp : e.component ≡ k
        comp = (shown_in r k e s).1

        source : (c : Call) × IsUpdateOf calls c e
        source = m.integrity r k e view s

        shows : e.number ≤ shown_number r e.component
        shows = let eq : shown_number r k ≡ e.number = shown_number_at r k e s in subst (λ c. e.number ≤ shown_number r c) (sym comp) (omega arith)

        level : rank calls source.0 < rank calls r
        level = let l = update_view_levels calls m r e view shows in omega (arith, l, update_rank calls source.0 e source.1.writes, view_rank calls r v)

        there : In source.0 (before ++ r ∷ after)
        there = subst (In source.0) split (to_printed calls source.0 (In-from_Contains calls source.0 source.1.there) (printed_shown calls source.0 r e source.1 view shows))

        in_before : In source.0 before
        in_before = elim (In-append_cases source.0 before (r ∷ after) there) [
          | inl i ↦ i
          | inr (inl i) ↦ absurd (view_no_update source.0 e source.1.writes (subst (λ c. is_view c ≡ true) i v))
          | inr (inr i) ↦ absurd (let x = earlier_rank calls r source.0 ((Pairs-right (Earlier calls) before (r ∷ after) pairs).0 source.0 i) in omega (arith, x, level))
        ]

        part : Around source.0 before
        part = around source.0 before in_before

        none : (u : Call) (d : Entry) → In u part.after → Writes k u d → ⊥
        none u d i w =
            let j : In u before = subst (In u) (sym part.same) (In-append_right u part.before (source.0 ∷ part.after) (inr i)) in
            let uc : IsUpdateOf calls u d = record { there = in_calls u (In-append_left u before (r ∷ after) j); writes = w.writes } in
            let ps : Pairs (Earlier calls) (part.before ++ source.0 ∷ part.after) = subst (Pairs (Earlier calls)) part.same (Pairs-left (Earlier calls) before (r ∷ after) pairs) in
            none_behind calls f source.0 u e d source.1 uc (w.component ∙ sym comp) (omega (arith, no_more u d j w, shown_number_at r k e s)) ((Pairs-right (Earlier calls) part.before (source.0 ∷ part.after) ps).0 u i)

        found : Some e ≡ last_written k None before
        found = sym (ap (last_written k None) part.same ∙ last_written_at k None part.before part.after source.0 e (record { writes = source.1.writes; component = comp }) none)

-- of two updates of a component the one that stands first has the lower number
rising_part : (calls : List Call) → AreOrderedCalls calls → (a b : Call) → In a (printed_order calls) → In b (printed_order calls) → Earlier calls a b → IsLaterVersion a b
rising_part calls f a b i j first d e v w same =
    let x : IsUpdateOf calls a d = record { there = Contains-from_In calls a (in_printed calls a i).0; writes = v } in
    let y : IsUpdateOf calls b e = record { there = Contains-from_In calls b (in_printed calls b j).0; writes = w } in
    let not_less : ¬ (e.number ≤ d.number) = λ l. none_behind calls f a b d e x y (sym same) l first in
    omega (arith, not_less)

-- with the conditions, the printed order is legal
pub printed_legal : (calls : List Call) → AreOrderedCalls calls → MeetsConditions calls → IsLegalInOrder calls (printed_order calls)
printed_legal calls f m = record { legal = legal; rising = AllPairs-from_Pairs IsLaterVersion (printed_order calls) (Pairs-weaker (Earlier calls) IsLaterVersion (printed_order calls) (rising_part calls f) pairs) }
  where
    pairs : Pairs (Earlier calls) (printed_order calls)
    pairs = printed_pairs calls f.numbered

    apart : (a b : Call) → In a (printed_order calls) → In b (printed_order calls) → Earlier calls a b → a ≢ b
    apart a b i j e s = not_earlier calls a b e (let q : rank calls a ≡ rank calls b = ap (rank calls) s in omega arith) (let q : a.number ≡ b.number = ap (λ (z : Call). z.number) s in omega arith)

    legal : IsLegalOrder calls (printed_order calls)
    legal = record {
      only = λ i d l. only_part calls f _ (In-get_or (printed_order calls) i d l);
      distinct = AllPairs-from_Pairs (λ a b. a ≢ b) (printed_order calls) (Pairs-weaker (Earlier calls) (λ a b. a ≢ b) (printed_order calls) apart pairs);
      completed = λ c i h. Contains-from_In (printed_order calls) c (to_printed calls c (In-from_Contains calls c i) (printed_completed calls f c i h));
      precedence = AllPairs-from_Pairs (λ a b. precedes b a ≡ false) (printed_order calls) (Pairs-weaker (Earlier calls) (λ a b. precedes b a ≡ false) (printed_order calls) (ordered_part calls f m) pairs);
      latest = latest_part calls f m;
    }
