-- Events that tell calls whose updates of each component begin and end in the order of their numbers 1, 2, 3, are ordered.
use Rattle.std.proofs.Common.{◌≡◌, ◌≢◌, ◌⊎◌, ℕ, suc, ◌<◌, ◌≤◌, Bool, true, List, ◌∷◌, Option, Some, None, refl, sym, ap, ◌∙◌, subst, inl, inr, arith}
use Rattle.std.specs.List.{Contains, count_by}
use Rattle.std.proofs.lemmas.Bool.{false≢true, cases_order, eq-eqb, eqb-true, lt-ltb}
use Rattle.snap_core.specs.declared.entry.Entry.{Entry}
use Rattle.snap_core.specs.declared.event.Event.{Event}
use Rattle.snap_core.specs.declared.event.Event.TheVariants.{BeginUpdate}
use Rattle.snap_core.specs.Events.{process_of, IsBegin, begins_update_of, IsNumbered}
use Rattle.snap_core.specs.Calls.{Call, Operation, Updates, Views, calls_of, is_before}
use Rattle.snap_core.specs.Ordered.{EndInOrder, IsOrdered}
use Rattle.snap_core.specs.Refusals.{writes_below}
use Rattle.snap_core.specs.Regular.{IsUpdateOf}
use Rattle.snap_core.proofs.Lists.{In, In-from_Contains, Contains-from_In, In-append_left, In-append_right, Pairs, Pairs-left, Pairs-weaker}
use Rattle.snap_theory.specs.Telling.{Moment, begin_event, begin_of, end_event, end_of, number_of, AreSequential, IsBefore, IsMomentOf, Tells}
use Rattle.snap_theory.proofs.Counted.{below, below_from, below_to}
use Rattle.snap_theory.proofs.Images.{SplitOrigin, split_origin}
use Rattle.snap_theory.proofs.Matched.{count-map, count_matched, Match}
use Rattle.snap_theory.proofs.Telling.{ahead, begin_in, early, end_in, ended_in, index, not_both, not_itself, not_opening, process_begin, rising, told_from}
use Rattle.snap_theory.proofs.ToldOrders.{index_rises}
use Rattle.snap_theory.proofs.TurnsTold.{one_begin, told_well_formed}

-- the updates of each component are numbered from 1, and begin and end in the order of their numbers, or together
pub record AreRanked (calls : List Call) : Type 0 where
  pub distinct : Pairs (λ a b. a ≢ b) calls
  pub alone : (a b : Call) (d e : Entry) → IsUpdateOf calls a d → IsUpdateOf calls b e → d.component ≡ e.component → d.number ≡ e.number → a ≡ b
  pub begins : (a b : Call) (d e : Entry) → IsUpdateOf calls a d → IsUpdateOf calls b e → d.component ≡ e.component → d.number < e.number → a.begun ≤ b.begun
  pub ends : (a b : Call) (d e : Entry) (place : ℕ) → IsUpdateOf calls a d → IsUpdateOf calls b e → d.component ≡ e.component → d.number < e.number → b.ended ≡ Some place → (end : ℕ) × (a.ended ≡ Some end) × (end ≤ place)
  pub counted : (c : Call) (e : Entry) → IsUpdateOf calls c e → e.number ≡ suc (below calls e)

begins_update : (p q : ℕ) (o : Operation) (e : Entry) → begin_event p o ≡ BeginUpdate q e → o ≡ Updates e
begins_update p q (Updates d) e h = let same : d ≡ e = cc in ap Updates same
begins_update p q (Views answer) e h = absurd (cc)

-- the update whose begin an event is
record UpdateBegin (k : ℕ) (o : Operation) : Type 0 where
  entry : Entry
  writes : o ≡ Updates entry
  component : entry.component ≡ k

update_begin : (k p : ℕ) (o : Operation) → begins_update_of k (begin_event p o) ≡ true → UpdateBegin k o
update_begin k p (Updates e) t = record { entry = e; writes = refl; component = eqb-true _ _ t }
update_begin k p (Views answer) t = absurd (false≢true t)

no_update_ends : (k p : ℕ) (o : Operation) → begins_update_of k (end_event p o) ≡ true → ⊥
no_update_ends k p (Updates e) t = false≢true t
no_update_ends k p (Views None) t = false≢true t
no_update_ends k p (Views (Some es)) t = false≢true t

number_at : (c : Call) (e : Entry) → c.operation ≡ Updates e → number_of c.operation ≡ e.number
number_at c e w = ap number_of w

module _ (calls : List Call) (events : List Event) (s : AreSequential calls) (t : Tells calls events) (r : AreRanked calls) where
  begins_before : (a b : Call) (d e : Entry) → IsUpdateOf calls a d → IsUpdateOf calls b e → d.component ≡ e.component → d.number < e.number → IsBefore (begin_of a) (begin_of b)
  begins_before a b d e u w same less = go (cases_order a.begun b.begun)
    where
      go : (a.begun ≡ b.begun) ⊎ ((a.begun < b.begun) ⊎ (b.begun < a.begun)) → IsBefore (begin_of a) (begin_of b)
      go (inl one) = inr (one, omega (arith, number_at a d u.writes, number_at b e w.writes, less))
      go (inr (inl first)) = inl first
      go (inr (inr last)) = absurd (let l = r.begins a b d e u w same less in omega (arith, l, last))

  numbered : IsNumbered events
  numbered before after p e split = by owned.2
    where
      o : SplitOrigin (λ (m : Moment). m.event) t.moments before (BeginUpdate p e) after
      o = split_origin (λ m. m.event) t.moments before after (BeginUpdate p e) (sym t.told ∙ split)

      owned : IsMomentOf calls o.it
      owned = t.only o.it (Contains-from_In _ _ (subst (In o.it) (sym o.split) (In-append_right o.it o.front (o.it ∷ o.back) (inl refl))))

      k : ℕ
      k = e.component

      begins_it : Moment → Bool
      begins_it m = begins_update_of k m.event

      in_front : (m : Moment) → In m o.front → IsMomentOf calls m
      in_front m i = t.only m (Contains-from_In _ _ (subst (In m) (sym o.split) (In-append_left m o.front (o.it ∷ o.back) i)))

      apart : Pairs (λ a b. a ≢ b) o.front
      apart = Pairs-weaker IsBefore (λ a b. a ≢ b) o.front (λ a b i j h q. not_itself a (subst (IsBefore a) (sym q) h)) (Pairs-left IsBefore o.front (o.it ∷ o.back) (subst (Pairs IsBefore) o.split (rising calls events s t)))

      counted : (c : Call) → Contains calls c → o.it ≡ begin_of c → e.number ≡ suc (count_by (begins_update_of k) before)
      counted c i is =
          let u : IsUpdateOf calls c e = record { there = i; writes = w } in
          omega (arith, r.counted c e u, ap (count_by (begins_update_of k)) o.is_front, count-map (begins_update_of k) (λ m. m.event) o.front, no_more u, no_fewer u)
        where
          w : c.operation ≡ Updates e
          w = begins_update c.process p c.operation e (sym (ap (λ (z : Moment). z.event) is) ∙ o.is)

          -- each begin in front is that of a lower number
          lower : IsUpdateOf calls c e → (m : Moment) → In m o.front → (x : Call) → Contains calls x → m ≡ begin_of x → UpdateBegin k x.operation → Match (λ (m : Moment) x. m ≡ begin_of x) (λ x. writes_below x.operation e) m calls
          lower u m j x ix same z = go (cases_order z.entry.number e.number)
            where
              ux : IsUpdateOf calls x z.entry
              ux = record { there = ix; writes = z.writes }

              first : IsBefore (begin_of x) (begin_of c)
              first = subst (IsBefore (begin_of x)) is (subst (λ q. IsBefore q o.it) same (early calls events s t o.front o.it o.back o.split m j))

              go : (z.entry.number ≡ e.number) ⊎ ((z.entry.number < e.number) ⊎ (e.number < z.entry.number)) → Match (λ (m : Moment) x. m ≡ begin_of x) (λ x. writes_below x.operation e) m calls
              go (inl one) = absurd (not_itself (begin_of c) (subst (λ q. IsBefore (begin_of q) (begin_of c)) (r.alone x c z.entry e ux u z.component one) first))
              go (inr (inl less)) = record { it = x; there = In-from_Contains _ _ ix; passes = below_from x.operation e (record { entry = z.entry; writes = z.writes; component = z.component; number = less }); matches = same }
              go (inr (inr more)) = absurd (not_both (begin_of x) (begin_of c) first (begins_before c x e z.entry u ux (sym z.component) more))

          no_more : IsUpdateOf calls c e → count_by begins_it o.front ≤ below calls e
          no_more u = count_matched (λ (m : Moment) x. m ≡ begin_of x) begins_it (λ x. writes_below x.operation e) o.front calls apart (λ m j h. by_moment m j h (in_front m j)) (λ a b x ia ib p q. p ∙ sym q)
            where
              by_moment : (m : Moment) → In m o.front → begins_it m ≡ true → IsMomentOf calls m → Match (λ (m : Moment) x. m ≡ begin_of x) (λ x. writes_below x.operation e) m calls
              by_moment m j h (x, ix, inl same) = lower u m j x ix same (update_begin k x.process x.operation (sym (ap begins_it same) ∙ h))
              by_moment m j h (x, ix, inr (place, end, same)) = absurd (no_update_ends k x.process x.operation (sym (ap begins_it same) ∙ h))

          -- each lower number begins in front
          no_fewer : IsUpdateOf calls c e → below calls e ≤ count_by begins_it o.front
          no_fewer u = count_matched (λ x (m : Moment). m ≡ begin_of x) (λ x. writes_below x.operation e) begins_it calls o.front r.distinct ahead_of one
            where
              ahead_of : (x : Call) → In x calls → writes_below x.operation e ≡ true → Match (λ x (m : Moment). m ≡ begin_of x) begins_it x o.front
              ahead_of x ix h =
                  let z = below_to x.operation e h in
                  let ux : IsUpdateOf calls x z.entry = record { there = Contains-from_In _ _ ix; writes = z.writes } in
                  let first = subst (IsBefore (begin_of x)) (sym is) (begins_before x c z.entry e ux u z.component z.number) in
                  record {
                    it = begin_of x;
                    there = ahead calls events s t o.front o.it o.back o.split (begin_of x) (begin_in calls events s t x (Contains-from_In _ _ ix)) first;
                    passes = ap (λ q. begins_update_of k (begin_event x.process q)) z.writes ∙ eq-eqb z.entry.component k z.component;
                    matches = refl;
                  }

              one : (a b : Call) (m : Moment) → In a calls → In b calls → m ≡ begin_of a → m ≡ begin_of b → a ≡ b
              one a b m ia ib p q =
                  let same : begin_of a ≡ begin_of b = sym p ∙ q in
                  one_begin calls events s t a b (Contains-from_In _ _ ia) (Contains-from_In _ _ ib)
                  (sym (process_begin a.process a.operation) ∙ ap (λ (z : Moment). process_of z.event) same ∙ process_begin b.process b.operation) (ap (λ (z : Moment). z.place) same)

      by : (o.it ≡ begin_of owned.0) ⊎ ((place : ℕ) × (owned.0.ended ≡ Some place) × (o.it ≡ end_of owned.0 place)) → e.number ≡ suc (count_by (begins_update_of k) before)
      by (inl is) = counted owned.0 owned.1 is
      by (inr (place, end, is)) = absurd (not_opening owned.0.process owned.0.operation (subst IsBegin (sym o.is ∙ ap (λ (z : Moment). z.event) is) tt))

  -- the end that is told
  end_told : (c : Call) (place : ℕ) → ended_in (λ q. index t.moments (end_of c q)) c.ended ≡ Some place → (q : ℕ) × (c.ended ≡ Some q) × (index t.moments (end_of c q) ≡ place)
  end_told c place h = go c.ended refl h
    where
      go : (x : Option ℕ) → c.ended ≡ x → ended_in (λ q. index t.moments (end_of c q)) x ≡ Some place → (q : ℕ) × (c.ended ≡ Some q) × (index t.moments (end_of c q) ≡ place)
      go None e h = absurd (cc)
      go (Some q) e h = (q, e, cc)

  in_order : EndInOrder (calls_of events)
  in_order a b d e place u w same less end =
      let x = told_from calls events s t a u.there in
      let y = told_from calls events s t b w.there in
      let ux : IsUpdateOf calls x.0 d = record { there = x.1; writes = ap (λ (z : Call). z.operation) x.2 ∙ u.writes } in
      let uy : IsUpdateOf calls y.0 e = record { there = y.1; writes = ap (λ (z : Call). z.operation) y.2 ∙ w.writes } in
      let q = end_told y.0 place (ap (λ (z : Call). z.ended) y.2 ∙ end) in
      let p = r.ends x.0 y.0 d e q.0 ux uy same less q.1 in
      let first = index_rises t.moments (end_of x.0 p.0) (end_of y.0 q.0) (end_in calls events s t x.0 p.0 x.1 p.1) (ends_before x.0 y.0 d e p.0 q.0 ux.writes uy.writes less p.2) in
      ap (λ z. is_before z place) (sym (ap (λ (z : Call). z.ended) x.2) ∙ ap (ended_in (λ z. index t.moments (end_of x.0 z))) p.1)
      ∙ lt-ltb (index t.moments (end_of x.0 p.0)) place (omega (arith, first, q.2))
    where
      ends_before : (x y : Call) (d e : Entry) (p q : ℕ) → x.operation ≡ Updates d → y.operation ≡ Updates e → d.number < e.number → p ≤ q → IsBefore (end_of x p) (end_of y q)
      ends_before x y d e p q v z less early = elim (cases_order p q) [
        | inl one ↦ inr (one, omega (arith, number_at x d v, number_at y e z, less))
        | inr (inl first) ↦ inl first
        | inr (inr last) ↦ absurd (omega (arith, early, last))
      ]

  pub told_ordered : IsOrdered events
  told_ordered = record { well_formed = told_well_formed calls events s t; numbered = numbered; in_order = in_order }
