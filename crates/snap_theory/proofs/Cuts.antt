-- Calls that fall into a front and a back, where each call of the front precedes each of the back.
use Rattle.std.proofs.Common.{◌≡◌, ◌⊎◌, ℕ, ◌<◌, ◌≤◌, true, false, List, ◌++◌, Option, Some, None, refl, sym, ap, ◌∙◌, subst, inl, inr, arith}
use Rattle.std.specs.List.{Contains}
use Rattle.std.proofs.lemmas.Bool.{false≢true, cases_order, false_from_ne_true}
use Rattle.snap_core.specs.declared.entry.Entry.{Entry}
use Rattle.snap_core.specs.Entries.{number_in}
use Rattle.snap_core.specs.Calls.{Call, Updates, precedes, shown, shown_number}
use Rattle.snap_core.specs.Monotone.{IsMonotone}
use Rattle.snap_core.specs.Orders.{is_completed, last_written}
use Rattle.snap_core.specs.Regular.{IsRegular, IsViewOf, IsUpdateOf, IsBegunBeforeEnd}
use Rattle.snap_core.proofs.Lists.{In, In-from_Contains, Contains-from_In, In-append_left, In-append_right, In-append_cases, Pairs, Pairs-left, Pairs-weaker}
use Rattle.snap_core.proofs.Facts.{precedes_to, shown_in, shown_number_at, shown_number_none}
use Rattle.snap_core.proofs.Ordered.{AreOrderedCalls, begins_no_later}
use Rattle.snap_theory.specs.Windows.{IsRegularFrom}
use Rattle.snap_theory.specs.Versions.{IsLaterVersion}
use Rattle.snap_theory.proofs.Last.{LastOf, NoneOf, last_of}

pub record IsCut (front back : List Call) : Type 0 where
  pub calls : AreOrderedCalls (front ++ back)
  pub completed : (a : Call) → In a front → is_completed a ≡ true
  pub across : (a b : Call) → In a front → In b back → precedes a b ≡ true

-- what the front leaves
abbrev pub left_of : List Call → ℕ → Option Entry
left_of front k = last_written k None front

pub in_front : (front back : List Call) (c : Call) → Contains front c → Contains (front ++ back) c
in_front front back c i = Contains-from_In _ _ (In-append_left c front back (In-from_Contains _ _ i))

pub in_back : (front back : List Call) (c : Call) → Contains back c → Contains (front ++ back) c
in_back front back c i = Contains-from_In _ _ (In-append_right c front back (In-from_Contains _ _ i))

side : (front back : List Call) (c : Call) → Contains (front ++ back) c → Contains front c ⊎ Contains back c
side front back c i = elim (In-append_cases c front back (In-from_Contains _ _ i)) [ inl j ↦ inl (Contains-from_In _ _ j) | inr j ↦ inr (Contains-from_In _ _ j) ]

front_view : (front back : List Call) (r : Call) → IsViewOf front r → IsViewOf (front ++ back) r
front_view front back r v = record { there = in_front front back r v.there; completed = v.completed }

back_view : (front back : List Call) (r : Call) → IsViewOf back r → IsViewOf (front ++ back) r
back_view front back r v = record { there = in_back front back r v.there; completed = v.completed }

view_side : (front back : List Call) (r : Call) → IsViewOf (front ++ back) r → IsViewOf front r ⊎ IsViewOf back r
view_side front back r v = elim (side front back r v.there) [ inl i ↦ inl (record { there = i; completed = v.completed }) | inr i ↦ inr (record { there = i; completed = v.completed }) ]

front_update : (front back : List Call) (c : Call) (e : Entry) → IsUpdateOf front c e → IsUpdateOf (front ++ back) c e
front_update front back c e u = record { there = in_front front back c u.there; writes = u.writes }

back_update : (front back : List Call) (c : Call) (e : Entry) → IsUpdateOf back c e → IsUpdateOf (front ++ back) c e
back_update front back c e u = record { there = in_back front back c u.there; writes = u.writes }

update_side : (front back : List Call) (c : Call) (e : Entry) → IsUpdateOf (front ++ back) c e → IsUpdateOf front c e ⊎ IsUpdateOf back c e
update_side front back c e u = elim (side front back c u.there) [ inl i ↦ inl (record { there = i; writes = u.writes }) | inr i ↦ inr (record { there = i; writes = u.writes }) ]

-- no call precedes itself
pub not_itself : (calls : List Call) → AreOrderedCalls calls → (a : Call) → Contains calls a → precedes a a ≡ true → ⊥
not_itself calls f a i h = let p = precedes_to a a h in omega (arith, p.before, f.rises a p.place i p.ends)

-- a call of the front precedes one of the back, as the two know it
record Across (a b : Call) : Type 0 where
  place : ℕ
  ends : a.ended ≡ Some place
  before : place < b.begun
  begun : a.begun < place

across : (front back : List Call) → IsCut front back → (a b : Call) → Contains front a → Contains back b → Across a b
across front back x a b i j =
    let p = precedes_to a b (x.across a b (In-from_Contains _ _ i) (In-from_Contains _ _ j)) in
    record { place = p.place; ends = p.ends; before = p.before; begun = x.calls.rises a p.place (in_front front back a i) p.ends }

-- no call of the back precedes one of the front
pub not_back : (front back : List Call) → IsCut front back → (a b : Call) → Contains front a → Contains back b → precedes b a ≡ false
not_back front back x a b i j = false_from_ne_true _ (λ h.
    let p = across front back x a b i j in
    let q = precedes_to b a h in
    omega (arith, p.before, p.begun, q.before, x.calls.rises b q.place (in_back front back b j) q.ends))

-- updates of the front stand in the order of their numbers
pub front_rises : (front back : List Call) → IsCut front back → Pairs IsLaterVersion front
front_rises front back x = Pairs-weaker (λ a b. a.number < b.number) IsLaterVersion front step (Pairs-left (λ a b. a.number < b.number) front back x.calls.numbered)
  where
    step : (a b : Call) → In a front → In b front → a.number < b.number → IsLaterVersion a b
    step a b i j l d e v w same = elim (cases_order d.number e.number) [
      | inl eq ↦ absurd (omega (arith, l, ap (λ (z : Call). z.number) (x.calls.one a b d e ua ub same eq)))
      | inr (inl less) ↦ less
      | inr (inr more) ↦ absurd (omega (arith, l, x.calls.ordered b a ub.there ua.there (x.calls.begins b a e d ub ua (sym same) more)))
    ]
      where
        ua : IsUpdateOf (front ++ back) a d
        ua = record { there = in_front front back a (Contains-from_In _ _ i); writes = v }

        ub : IsUpdateOf (front ++ back) b e
        ub = record { there = in_front front back b (Contains-from_In _ _ j); writes = w }

-- what the front leaves of a component
pub front_last : (front back : List Call) → IsCut front back → (k : ℕ) → NoneOf k front None (left_of front k) ⊎ LastOf k front (left_of front k)
front_last front back x k = last_of k None front (front_rises front back x)

-- an update of the front has at most the number left
pub front_most : (front back : List Call) → IsCut front back → (c : Call) (e : Entry) → IsUpdateOf front c e → e.number ≤ number_in (left_of front e.component)
front_most front back x c e u = elim (front_last front back x e.component) [
  | inl n ↦ absurd (n.none c e (In-from_Contains _ _ u.there) u.writes refl)
  | inr w ↦ omega (arith, w.most c e (In-from_Contains _ _ u.there) u.writes refl, ap number_in w.is)
]

-- an update of the back has a greater one
pub back_more : (front back : List Call) → IsCut front back → (c : Call) (e : Entry) → IsUpdateOf back c e → number_in (left_of front e.component) < e.number
back_more front back x c e u = elim (front_last front back x e.component) [
  | inl n ↦ omega (arith, x.calls.positive c e (back_update front back c e u), ap number_in n.is)
  | inr w ↦ omega (arith, ap number_in w.is, less w)
]
  where
    less : (w : LastOf e.component front (left_of front e.component)) → ¬ (e.number ≤ w.entry.number)
    less w l =
        let i = Contains-from_In front w.call w.there in
        let p = across front back x w.call c i u.there in
        let z : IsUpdateOf front w.call w.entry = record { there = i; writes = w.writes } in
        omega (arith, p.before, p.begun, begins_no_later (front ++ back) x.calls c w.call e w.entry (back_update front back c e u) (front_update front back w.call w.entry z) (sym w.component) l)

-- what is left was written: it has a number, and is of its component
pub left_positive : (front back : List Call) → IsCut front back → (k : ℕ) (l : Entry) → left_of front k ≡ Some l → (0 < l.number) × (l.component ≡ k)
left_positive front back x k l s = go (front_last front back x k)
  where
    go : NoneOf k front None (left_of front k) ⊎ LastOf k front (left_of front k) → (0 < l.number) × (l.component ≡ k)
    go (inl n) = absurd (let q : None ≡ Some l = sym n.is ∙ s in cc)
    go (inr w) =
        let q : Some w.entry ≡ Some l = sym w.is ∙ s in
        let same : w.entry ≡ l = cc in
        let z : IsUpdateOf front w.call w.entry = record { there = Contains-from_In _ _ w.there; writes = w.writes } in
        (subst (λ (d : Entry). 0 < d.number) same (x.calls.positive w.call w.entry (front_update front back w.call w.entry z)), subst (λ (d : Entry). d.component ≡ k) same w.component)

-- regular: each side of a regular whole

front_regular : (front back : List Call) → IsCut front back → IsRegular (front ++ back) → IsRegular front
front_regular front back x h = record {
  not_old = λ r c e v u l. h.not_old r c e (front_view front back r v) (front_update front back c e u) l;
  not_early = not_early;
}
  where
    not_early : (r : Call) (k : ℕ) (e : Entry) → IsViewOf front r → shown r k ≡ Some e → (c : Call) × IsUpdateOf front c e × IsBegunBeforeEnd c r
    not_early r k e v s = let w = h.not_early r k e (front_view front back r v) s in elim (update_side front back w.0 e w.1) [
      | inl u ↦ (w.0, u, w.2)
      | inr u ↦ absurd (
          let p = across front back x r w.0 v.there u.there in
          let same : p.place ≡ w.2.place = cc (p.ends, w.2.ends) in
          omega (arith, p.before, w.2.before, same))
    ]

back_not_less : (front back : List Call) → IsCut front back → IsRegular (front ++ back) → (r : Call) (k : ℕ) → IsViewOf back r → number_in (left_of front k) ≤ shown_number r k
back_not_less front back x h r k v = elim (front_last front back x k) [
  | inl n ↦ omega (arith, ap number_in n.is)
  | inr w ↦ omega (arith, ap number_in w.is, ap (shown_number r) w.component, shows w)
]
  where
    shows : (w : LastOf k front (left_of front k)) → ¬ (shown_number r w.entry.component < w.entry.number)
    shows w l =
        let u : IsUpdateOf front w.call w.entry = record { there = Contains-from_In _ _ w.there; writes = w.writes } in
        false≢true (sym (h.not_old r w.call w.entry (back_view front back r v) (front_update front back w.call w.entry u) l) ∙ x.across w.call r w.there (In-from_Contains _ _ v.there))

same_written : (a b : Call) (d e : Entry) → a ≡ b → a.operation ≡ Updates d → b.operation ≡ Updates e → d ≡ e
same_written a b d e s v w = let h : Updates d ≡ Updates e = sym v ∙ ap (λ (z : Call). z.operation) s ∙ w in cc

back_regular : (front back : List Call) → IsCut front back → IsRegular (front ++ back) → IsRegularFrom (left_of front) back
back_regular front back x h = record {
  not_old = λ r c e v u l. h.not_old r c e (back_view front back r v) (back_update front back c e u) l;
  not_less = back_not_less front back x h;
  not_early = not_early;
}
  where
    -- an update of the front that a view of the back shows is the last one
    is_left : (r c : Call) (k : ℕ) (e : Entry) → IsViewOf back r → shown r k ≡ Some e → IsUpdateOf front c e → left_of front k ≡ Some e
    is_left r c k e v s u = go (front_last front back x k)
      where
        component : e.component ≡ k
        component = (shown_in r k e s).1

        go : NoneOf k front None (left_of front k) ⊎ LastOf k front (left_of front k) → left_of front k ≡ Some e
        go (inl n) = absurd (n.none c e (In-from_Contains _ _ u.there) u.writes component)
        go (inr w) =
            let more = w.most c e (In-from_Contains _ _ u.there) u.writes component in
            let less = back_not_less front back x h r k v in
            let number : w.entry.number ≡ e.number = omega (arith, more, less, ap number_in w.is, shown_number_at r k e s) in
            let z : IsUpdateOf front w.call w.entry = record { there = Contains-from_In _ _ w.there; writes = w.writes } in
            let one = x.calls.one w.call c w.entry e (front_update front back w.call w.entry z) (front_update front back c e u) (w.component ∙ sym component) number in
            w.is ∙ ap Some (same_written w.call c w.entry e one w.writes u.writes)

    not_early : (r : Call) (k : ℕ) (e : Entry) → IsViewOf back r → shown r k ≡ Some e → (left_of front k ≡ Some e) ⊎ ((c : Call) × IsUpdateOf back c e × IsBegunBeforeEnd c r)
    not_early r k e v s = let w = h.not_early r k e (back_view front back r v) s in elim (update_side front back w.0 e w.1) [
      | inl u ↦ inl (is_left r w.0 k e v s u)
      | inr u ↦ inr (w.0, u, w.2)
    ]

-- regular: a whole of two regular sides

both_regular : (front back : List Call) → IsCut front back → IsRegular front → IsRegularFrom (left_of front) back → IsRegular (front ++ back)
both_regular front back x g h = record { not_old = not_old; not_early = not_early }
  where
    not_old : (r c : Call) (e : Entry) → IsViewOf (front ++ back) r → IsUpdateOf (front ++ back) c e → shown_number r e.component < e.number → precedes c r ≡ false
    not_old r c e v u l = go (view_side front back r v) (update_side front back c e u)
      where
        go : IsViewOf front r ⊎ IsViewOf back r → IsUpdateOf front c e ⊎ IsUpdateOf back c e → precedes c r ≡ false
        go (inl w) (inl z) = g.not_old r c e w z l
        go (inl w) (inr z) = not_back front back x r c w.there z.there
        go (inr w) (inl z) = absurd (omega (arith, l, h.not_less r e.component w, front_most front back x c e z))
        go (inr w) (inr z) = h.not_old r c e w z l

    from_front : (r : Call) (k : ℕ) (e : Entry) → IsViewOf back r → left_of front k ≡ Some e → (c : Call) × IsUpdateOf (front ++ back) c e × IsBegunBeforeEnd c r
    from_front r k e v s = go (front_last front back x k)
      where
        go : NoneOf k front None (left_of front k) ⊎ LastOf k front (left_of front k) → (c : Call) × IsUpdateOf (front ++ back) c e × IsBegunBeforeEnd c r
        go (inl n) = absurd (let q : None ≡ Some e = sym n.is ∙ s in cc)
        go (inr w) =
            let q : Some w.entry ≡ Some e = sym w.is ∙ s in
            let same : w.entry ≡ e = cc in
            let i = Contains-from_In front w.call w.there in
            let p = across front back x w.call r i v.there in
            let end = x.calls.answered r (back_view front back r v) in
            let rise = x.calls.rises r end.place (in_back front back r v.there) end.ends in
            (w.call, record { there = in_front front back w.call i; writes = w.writes ∙ ap Updates same }, record { place = end.place; ends = end.ends; before = omega (arith, p.before, p.begun, rise) })

    not_early : (r : Call) (k : ℕ) (e : Entry) → IsViewOf (front ++ back) r → shown r k ≡ Some e → (c : Call) × IsUpdateOf (front ++ back) c e × IsBegunBeforeEnd c r
    not_early r k e v s = go (view_side front back r v)
      where
        go : IsViewOf front r ⊎ IsViewOf back r → (c : Call) × IsUpdateOf (front ++ back) c e × IsBegunBeforeEnd c r
        go (inl w) = let z = g.not_early r k e w s in (z.0, front_update front back z.0 e z.1, z.2)
        go (inr w) = elim (h.not_early r k e w s) [
          | inl l ↦ from_front r k e w l
          | inr z ↦ (z.0, back_update front back z.0 e z.1, z.2)
        ]

pub regular_sides : (front back : List Call) → IsCut front back → IsRegular (front ++ back) → IsRegular front × IsRegularFrom (left_of front) back
regular_sides front back x h = (front_regular front back x h, back_regular front back x h)

pub regular_whole : (front back : List Call) → IsCut front back → IsRegular front × IsRegularFrom (left_of front) back → IsRegular (front ++ back)
regular_whole front back x h = both_regular front back x h.0 h.1

-- monotone

pub monotone_sides : (front back : List Call) → IsMonotone (front ++ back) → IsMonotone front × IsMonotone back
monotone_sides front back h = (
  λ r s v w. h r s (front_view front back r v) (front_view front back s w),
  λ r s v w. h r s (back_view front back r v) (back_view front back s w),
)

pub monotone_whole : (front back : List Call) → IsCut front back → IsRegular (front ++ back) → IsMonotone front × IsMonotone back → IsMonotone (front ++ back)
monotone_whole front back x h m r s v w before k = go (view_side front back r v) (view_side front back s w)
  where
    -- a view of the front shows no more than one of the back
    no_more : IsViewOf front r → IsViewOf back s → (o : Option Entry) → shown r k ≡ o → shown_number r k ≤ shown_number s k
    no_more a b None q = omega (arith, shown_number_none r k q)
    no_more a b (Some e) q =
        let z = (front_regular front back x h).not_early r k e a q in
        let component = (shown_in r k e q).1 in
        let there = x.across z.0 s (In-from_Contains _ _ z.1.there) (In-from_Contains _ _ b.there) in
        let not_less : ¬ (shown_number s e.component < e.number) = λ l. false≢true (sym (h.not_old s z.0 e w (front_update front back z.0 e z.1) l) ∙ there) in
        omega (arith, not_less, ap (shown_number s) component, shown_number_at r k e q)

    go : IsViewOf front r ⊎ IsViewOf back r → IsViewOf front s ⊎ IsViewOf back s → shown_number r k ≤ shown_number s k
    go (inl a) (inl b) = m.0 r s a b before k
    go (inl a) (inr b) = no_more a b (shown r k) refl
    go (inr a) (inl b) = absurd (false≢true (sym (not_back front back x s r b.there a.there) ∙ before))
    go (inr a) (inr b) = m.1 r s a b before k
