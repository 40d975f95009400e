-- Regular, monotone and atomic from what was left, and of the renumbered history.
use Rattle.std.proofs.Common.{◌≡◌, ◌⊎◌, ℕ, ◌-◌, ◌<◌, ◌≤◌, Bool, true, false, cond, List, [], ◌∷◌, map, Option, Some, None, refl, sym, ap, ◌∙◌, subst, inl, inr, arith}
use Rattle.std.specs.Prelude.{◌==◌}
use Rattle.std.proofs.lemmas.Bool.{ltb-true, lt-ltb, eqb-true, cases_order, false_from_ne_true}
use Rattle.std.proofs.lemmas.List.Elements.{All-contains}
use Rattle.snap_core.specs.declared.entry.Entry.{Entry}
use Rattle.snap_core.specs.Entries.{number_in}
use Rattle.snap_core.specs.Calls.{Call, Operation, Updates, Views, precedes, is_view, shown, shown_number}
use Rattle.snap_core.specs.Monotone.{IsMonotone}
use Rattle.snap_core.specs.Orders.{is_completed, last_written, written_by}
use Rattle.snap_core.specs.Regular.{IsRegular, IsViewOf, IsUpdateOf, IsBegunBeforeEnd}
use Rattle.snap_core.proofs.Lists.{In, In-from_Contains, Contains-from_In, In-append_left, around}
use Rattle.snap_core.proofs.Facts.{shown_in, shows_positive, shown_number_at, shown_number_none}
use Rattle.snap_core.specs.declared.writers.Writers.{Writers}
use Rattle.snap_core.specs.declared.writers.Writers.TheVariants.{One, Many}
use Rattle.snap_theory.specs.Versions.{IsLaterVersion}
use Rattle.snap_theory.specs.Windows.{nothing, IsRegularFrom, IsLegalOrderFrom, IsAtomicFromBy}
use Rattle.snap_theory.specs.Renumbered.{renumbered_entry, is_later, ShowsNoLess}
use Rattle.snap_theory.proofs.Legal.{Stands}
use Rattle.snap_theory.proofs.Images.{IsImage, Among, Shows, atomic_image, atomic_origin, in_order_image, in_order_origin}
use Rattle.snap_core.proofs.Members.{In-map, In-from_map}
use Rattle.snap_theory.proofs.Renumbered.{call_by, operation_by, lowered, Rises, shown_by, number_by, by_view, by_precedes, update_by}

-- what was left, as the calls after it know it
pub record IsBeginning (left : ℕ → Option Entry) (calls : List Call) : Type 0 where
  pub component : (k : ℕ) (l : Entry) → left k ≡ Some l → l.component ≡ k
  pub positive : (k : ℕ) (l : Entry) → left k ≡ Some l → 0 < l.number
  pub later : (c : Call) (e : Entry) → In c calls → c.operation ≡ Updates e → number_in (left e.component) < e.number
  pub rises : (c : Call) → In c calls → Rises c
  pub answered : (r : Call) → IsViewOf calls r → is_completed r ≡ true

-- the entry of a later number
record IsLater (left : ℕ → Option Entry) (k : ℕ) (o : Option Entry) : Type 0 where
  entry : Entry
  is : o ≡ Some entry
  component : entry.component ≡ k
  more : number_in (left k) < entry.number

-- what was left, or the entry of a later number
abbrev Fresh : (ℕ → Option Entry) → ℕ → Option Entry → Type 0
Fresh left k o = (o ≡ left k) ⊎ IsLater left k o

is_later_at : (left : ℕ → Option Entry) (k : ℕ) (e : Entry) → e.component ≡ k → number_in (left k) < e.number → is_later left e ≡ true
is_later_at left k e c l = lt-ltb (number_in (left e.component)) e.number (omega (arith, l, ap (λ z. number_in (left z)) c))

lowered_later : (left : ℕ → Option Entry) (k : ℕ) (e : Entry) → e.component ≡ k → number_in (left k) < e.number → lowered left (Some e) ≡ Some (renumbered_entry left e)
lowered_later left k e c l = ap (λ b. cond b (Some (renumbered_entry left e)) None) (is_later_at left k e c l)

lowered_left : (left : ℕ → Option Entry) (calls : List Call) → IsBeginning left calls → (k : ℕ) → lowered left (left k) ≡ None
lowered_left left calls b k = go (left k) refl
  where
    go : (o : Option Entry) → left k ≡ o → lowered left o ≡ None
    go None e = refl
    go (Some l) e = ap (λ z. cond z (Some (renumbered_entry left l)) None) (false_from_ne_true (is_later left l) (λ t.
        let same : number_in (left l.component) ≡ l.number = ap (λ z. number_in (left z)) (b.component k l e) ∙ ap number_in e in
        omega (arith, ltb-true (number_in (left l.component)) l.number t, same)))

abbrev made : ℕ → ℕ → ℕ → Entry
made k n v = record { component = k; number = n; value = v }

-- later entries are alike where they are alike when renumbered
same_later : (left : ℕ → Option Entry) (k : ℕ) (d e : Entry) → d.component ≡ k → e.component ≡ k → number_in (left k) < d.number → number_in (left k) < e.number → renumbered_entry left d ≡ renumbered_entry left e → d ≡ e
same_later left k d e c g l m s =
    let n : d.number - number_in (left d.component) ≡ e.number - number_in (left e.component) = ap (λ (z : Entry). z.number) s in
    let number : d.number ≡ e.number = omega (arith, n, l, m, ap (λ z. number_in (left z)) c, ap (λ z. number_in (left z)) g) in
    ap (λ z. made z d.number d.value) (c ∙ sym g) ∙ ap (λ z. made e.component z d.value) number ∙ ap (λ z. made e.component e.number z) (ap (λ (z : Entry). z.value) s)

lowered_one : (left : ℕ → Option Entry) (calls : List Call) → IsBeginning left calls → (k : ℕ) (o p : Option Entry) → Fresh left k o → Fresh left k p → lowered left o ≡ lowered left p → o ≡ p
lowered_one left calls b k o p (inl x) (inl y) s = x ∙ sym y
lowered_one left calls b k o p (inl x) (inr y) s = absurd (
    let g : None ≡ Some (renumbered_entry left y.entry) = sym (lowered_left left calls b k) ∙ ap (lowered left) (sym x) ∙ s ∙ ap (lowered left) y.is ∙ lowered_later left k y.entry y.component y.more in
    cc)
lowered_one left calls b k o p (inr x) (inl y) s = absurd (
    let g : Some (renumbered_entry left x.entry) ≡ None = sym (lowered_later left k x.entry x.component x.more) ∙ ap (lowered left) (sym x.is) ∙ s ∙ ap (lowered left) y ∙ lowered_left left calls b k in
    cc)
lowered_one left calls b k o p (inr x) (inr y) s =
    let g : Some (renumbered_entry left x.entry) ≡ Some (renumbered_entry left y.entry) = sym (lowered_later left k x.entry x.component x.more) ∙ ap (lowered left) (sym x.is) ∙ s ∙ ap (lowered left) y.is ∙ lowered_later left k y.entry y.component y.more in
    let same : renumbered_entry left x.entry ≡ renumbered_entry left y.entry = cc in
    x.is ∙ ap Some (same_later left k x.entry y.entry x.component y.component x.more y.more same) ∙ sym y.is

-- what a view shows is fresh

shown_fresh : (left : ℕ → Option Entry) (r : Call) (k : ℕ) → (shown r k ≡ left k) ⊎ (number_in (left k) < shown_number r k) → Fresh left k (shown r k)
shown_fresh left r k (inl s) = inl s
shown_fresh left r k (inr l) =
    let p = shows_positive r k (omega (arith, l)) in
    inr (record { entry = p.entry; is = p.is; component = (shown_in r k p.entry p.is).1; more = omega (arith, l, shown_number_at r k p.entry p.is) })

fresh_shown : (left : ℕ → Option Entry) (r : Call) (k : ℕ) → Fresh left k (shown r k) → (shown r k ≡ left k) ⊎ (number_in (left k) < shown_number r k)
fresh_shown left r k (inl s) = inl s
fresh_shown left r k (inr x) = inr (omega (arith, x.more, shown_number_at r k x.entry x.is))

written_fresh : (left : ℕ → Option Entry) (calls : List Call) → IsBeginning left calls → (k : ℕ) (o : Option Entry) (c : Call) → In c calls → Fresh left k o → Fresh left k (written_by c.operation k o)
written_fresh left calls b k o c i f = go c.operation refl
  where
    go : (q : Operation) → c.operation ≡ q → Fresh left k (written_by q k o)
    go (Views answer) s = f
    go (Updates e) s = at (e.component == k) refl
      where
        at : (t : Bool) → (e.component == k) ≡ t → Fresh left k (cond t (Some e) o)
        at true t = let same = eqb-true e.component k t in inr (record { entry = e; is = refl; component = same; more = omega (arith, b.later c e i s, ap (λ z. number_in (left z)) same) })
        at false t = f

last_fresh : (left : ℕ → Option Entry) (calls : List Call) → IsBeginning left calls → (k : ℕ) (o : Option Entry) (xs : List Call) → Among calls xs → Fresh left k o → Fresh left k (last_written k o xs)
last_fresh left calls b k o [] among f = f
last_fresh left calls b k o (x ∷ xs) among f = last_fresh left calls b k (written_by x.operation k o) xs (λ c i. among c (inr i)) (written_fresh left calls b k o x (among x (inl refl)) f)

-- the last update of the renumbered calls
written_lowered : (left : ℕ → Option Entry) (calls : List Call) → IsBeginning left calls → (k : ℕ) (o : Option Entry) (c : Call) → In c calls → written_by (operation_by left c.operation) k (lowered left o) ≡ lowered left (written_by c.operation k o)
written_lowered left calls b k o c i = go c.operation refl
  where
    at : (e : Entry) → number_in (left e.component) < e.number → (t : Bool) → cond t (Some (renumbered_entry left e)) (lowered left o) ≡ lowered left (cond t (Some e) o)
    at e l true = sym (lowered_later left e.component e refl l)
    at e l false = refl

    go : (q : Operation) → c.operation ≡ q → written_by (operation_by left q) k (lowered left o) ≡ lowered left (written_by q k o)
    go (Views answer) s = refl
    go (Updates e) s = at e (b.later c e i s) (e.component == k)

last_lowered : (left : ℕ → Option Entry) (calls : List Call) → IsBeginning left calls → (k : ℕ) (o : Option Entry) (xs : List Call) → Among calls xs → last_written k (lowered left o) (map (call_by left) xs) ≡ lowered left (last_written k o xs)
last_lowered left calls b k o [] among = refl
last_lowered left calls b k o (x ∷ xs) among =
    ap (λ z. last_written k z (map (call_by left) xs)) (written_lowered left calls b k o x (among x (inl refl)))
    ∙ last_lowered left calls b k (written_by x.operation k o) xs (λ c i. among c (inr i))

left_lowered : (left : ℕ → Option Entry) (calls : List Call) → IsBeginning left calls → (k : ℕ) (xs : List Call) → Among calls xs → last_written k None (map (call_by left) xs) ≡ lowered left (last_written k (left k) xs)
left_lowered left calls b k xs among = ap (λ z. last_written k z (map (call_by left) xs)) (sym (lowered_left left calls b k)) ∙ last_lowered left calls b k (left k) xs among

-- atomic

order_shows : (left : ℕ → Option Entry) (calls order : List Call) → IsBeginning left calls → IsLegalOrderFrom left calls order → ShowsNoLess left calls
order_shows left calls order b a r k v =
    let i = In-from_Contains order r (a.completed r v.there (b.answered r v)) in
    let p = around r order i in
    let among : Among calls p.before = λ c j. In-from_Contains _ _ (All-contains (Stands calls) order c a.only (Contains-from_In order c (subst (In c) (sym p.same) (In-append_left c p.before (r ∷ p.after) j)))).0 in
    fresh_shown left r k (subst (Fresh left k) (sym (a.latest p.before p.after r p.same v.completed k)) (last_fresh left calls b k (left k) p.before among (inl refl)))

-- a view shows the last update of the renumbered calls as of the others
renumbered_shows : (left : ℕ → Option Entry) (calls : List Call) → IsBeginning left calls → (before : List Call) (r : Call) → Among calls before → In r calls → Shows left r before → Shows nothing (call_by left r) (map (call_by left) before)
renumbered_shows left calls b before r among i s k = shown_by left r k (b.rises r i) ∙ ap (lowered left) (s k) ∙ sym (left_lowered left calls b k before among)

shows_renumbered : (left : ℕ → Option Entry) (calls : List Call) → IsBeginning left calls → ShowsNoLess left calls → (before : List Call) (r : Call) → Among calls before → In r calls → is_view r ≡ true → Shows nothing (call_by left r) (map (call_by left) before) → Shows left r before
shows_renumbered left calls b no_less before r among i v s k =
    lowered_one left calls b k (shown r k) (last_written k (left k) before)
    (shown_fresh left r k (no_less r k (record { there = Contains-from_In _ _ i; completed = v })))
    (last_fresh left calls b k (left k) before among (inl refl))
    (sym (shown_by left r k (b.rises r i)) ∙ s k ∙ left_lowered left calls b k before among)

-- of two later updates of a component the same one has the greater number
later_by : (left : ℕ → Option Entry) (calls : List Call) → IsBeginning left calls → (c d : Call) → In c calls → In d calls → IsLaterVersion c d → IsLaterVersion (call_by left c) (call_by left d)
later_by left calls b c d i j less e f v w same =
    let x = update_by left c e v in
    let y = update_by left d f w in
    let component : x.entry.component ≡ y.entry.component = ap (λ (z : Entry). z.component) x.is ∙ same ∙ sym (ap (λ (z : Entry). z.component) y.is) in
    let nx : x.entry.number - number_in (left x.entry.component) ≡ e.number = ap (λ (z : Entry). z.number) x.is in
    let ny : y.entry.number - number_in (left y.entry.component) ≡ f.number = ap (λ (z : Entry). z.number) y.is in
    omega (arith, less x.entry y.entry x.writes y.writes component, b.later c x.entry i x.writes, b.later d y.entry j y.writes, nx, ny, ap (λ z. number_in (left z)) component)

later_from : (left : ℕ → Option Entry) (c d : Call) → IsLaterVersion (call_by left c) (call_by left d) → IsLaterVersion c d
later_from left c d less e f v w same =
    let l : e.number - number_in (left e.component) < f.number - number_in (left f.component) = less (renumbered_entry left e) (renumbered_entry left f) (ap (operation_by left) v) (ap (operation_by left) w) same in
    omega (arith, l, ap (λ z. number_in (left z)) same)

pub atomic_renumbered : (writers : Writers) (left : ℕ → Option Entry) (calls : List Call) → IsBeginning left calls → IsImage (call_by left) calls → IsAtomicFromBy writers left calls → ShowsNoLess left calls × IsAtomicFromBy writers nothing (map (call_by left) calls)
atomic_renumbered One left calls b m a = (
  order_shows left calls a.0 b a.1,
  atomic_image (call_by left) calls left nothing m (λ before r among i v. renumbered_shows left calls b before r among i) a,
)
atomic_renumbered Many left calls b m a = (
  order_shows left calls a.0 b a.1.legal,
  in_order_image (call_by left) calls left nothing m (λ before r among i v. renumbered_shows left calls b before r among i) (later_by left calls b) a,
)

pub atomic_from_renumbered : (writers : Writers) (left : ℕ → Option Entry) (calls : List Call) → IsBeginning left calls → IsImage (call_by left) calls → ShowsNoLess left calls × IsAtomicFromBy writers nothing (map (call_by left) calls) → IsAtomicFromBy writers left calls
atomic_from_renumbered One left calls b m a = atomic_origin (call_by left) calls left nothing m (shows_renumbered left calls b a.0) a.1
atomic_from_renumbered Many left calls b m a = in_order_origin (call_by left) calls left nothing m (shows_renumbered left calls b a.0) (λ c d i j. later_from left c d) a.1

-- views and updates

view_by : (left : ℕ → Option Entry) (calls : List Call) (r : Call) → IsViewOf calls r → IsViewOf (map (call_by left) calls) (call_by left r)
view_by left calls r v = record { there = Contains-from_In _ _ (In-map (call_by left) calls r (In-from_Contains _ _ v.there)); completed = by_view left r ∙ v.completed }

update_to : (left : ℕ → Option Entry) (calls : List Call) (c : Call) (e : Entry) → IsUpdateOf calls c e → IsUpdateOf (map (call_by left) calls) (call_by left c) (renumbered_entry left e)
update_to left calls c e u = record { there = Contains-from_In _ _ (In-map (call_by left) calls c (In-from_Contains _ _ u.there)); writes = ap (operation_by left) u.writes }

pub regular_renumbered : (left : ℕ → Option Entry) (calls : List Call) → IsBeginning left calls → IsRegularFrom left calls → ShowsNoLess left calls × IsRegular (map (call_by left) calls)
regular_renumbered left calls b h = (shows, record { not_old = not_old; not_early = not_early })
  where
    in_calls : (r : Call) → IsViewOf calls r → In r calls
    in_calls r v = In-from_Contains _ _ v.there

    shows : ShowsNoLess left calls
    shows r k v = elim (cases_order (number_in (left k)) (shown_number r k)) [
      | inl eq ↦ same (shown r k) refl (left k) refl eq
      | inr (inl less) ↦ inr less
      | inr (inr more) ↦ absurd (omega (arith, more, h.not_less r k v))
    ]
      where
        same : (o : Option Entry) → shown r k ≡ o → (p : Option Entry) → left k ≡ p → number_in (left k) ≡ shown_number r k → (shown r k ≡ left k) ⊎ (number_in (left k) < shown_number r k)
        same None s None q eq = inl (s ∙ sym q)
        same None s (Some l) q eq = absurd (omega (arith, b.positive k l q, eq, ap number_in q, shown_number_none r k s))
        same (Some d) s p q eq = elim (h.not_early r k d v s) [
          | inl t ↦ inl (s ∙ sym t)
          | inr u ↦ absurd (omega (arith, b.later u.0 d (In-from_Contains _ _ u.1.there) u.1.writes, ap (λ z. number_in (left z)) (shown_in r k d s).1, eq, shown_number_at r k d s))
        ]

    not_old : (r c : Call) (e : Entry) → IsViewOf (map (call_by left) calls) r → IsUpdateOf (map (call_by left) calls) c e → shown_number r e.component < e.number → precedes c r ≡ false
    not_old r c e v u l =
        let o = In-from_map (call_by left) calls r (In-from_Contains _ _ v.there) in
        let q = In-from_map (call_by left) calls c (In-from_Contains _ _ u.there) in
        let view : IsViewOf calls o.it = record { there = Contains-from_In _ _ o.there; completed = sym (by_view left o.it) ∙ ap is_view o.is ∙ v.completed } in
        let w = update_by left q.it e (ap (λ (z : Call). z.operation) q.is ∙ u.writes) in
        let number = number_by left o.it e.component (b.rises o.it o.there) in
        let same : w.entry.component ≡ e.component = ap (λ (z : Entry). z.component) w.is in
        let less : w.entry.number - number_in (left w.entry.component) ≡ e.number = ap (λ (z : Entry). z.number) w.is in
        let old : shown_number o.it w.entry.component < w.entry.number = omega (arith, l, number, less, ap (λ z. shown_number z e.component) o.is, ap (shown_number o.it) same, ap (λ z. number_in (left z)) same) in
        ap (λ z. precedes z r) (sym q.is) ∙ ap (precedes (call_by left q.it)) (sym o.is) ∙ by_precedes left q.it o.it ∙ h.not_old o.it q.it w.entry view (record { there = Contains-from_In _ _ q.there; writes = w.writes }) old

    begun : (c r : Call) → IsBegunBeforeEnd c r → IsBegunBeforeEnd (call_by left c) (call_by left r)
    begun c r x = record { place = x.place; ends = x.ends; before = x.before }

    early : (r : Call) (k : ℕ) (e : Entry) → IsViewOf calls r → (o : Option Entry) → shown r k ≡ o → lowered left o ≡ Some e → (c : Call) × IsUpdateOf (map (call_by left) calls) c e × IsBegunBeforeEnd c (call_by left r)
    early r k e v None s g = absurd (let q : None ≡ Some e = g in cc)
    early r k e v (Some d) s g = at (is_later left d) refl g
      where
        at : (t : Bool) → is_later left d ≡ t → cond t (Some (renumbered_entry left d)) None ≡ Some e → (c : Call) × IsUpdateOf (map (call_by left) calls) c e × IsBegunBeforeEnd c (call_by left r)
        at false t f = absurd (let q : None ≡ Some e = f in cc)
        at true t f = elim (h.not_early r k d v s) [
          | inl l ↦ absurd (omega (arith, ltb-true (number_in (left d.component)) d.number t, ap (λ z. number_in (left z)) (shown_in r k d s).1, ap number_in l))
          | inr u ↦ (call_by left u.0, subst (IsUpdateOf (map (call_by left) calls) (call_by left u.0)) (let q : Some (renumbered_entry left d) ≡ Some e = f in let same : renumbered_entry left d ≡ e = cc in same) (update_to left calls u.0 d u.1), begun u.0 r u.2)
        ]

    not_early : (r : Call) (k : ℕ) (e : Entry) → IsViewOf (map (call_by left) calls) r → shown r k ≡ Some e → (c : Call) × IsUpdateOf (map (call_by left) calls) c e × IsBegunBeforeEnd c r
    not_early r k e v s =
        let o = In-from_map (call_by left) calls r (In-from_Contains _ _ v.there) in
        let view : IsViewOf calls o.it = record { there = Contains-from_In _ _ o.there; completed = sym (by_view left o.it) ∙ ap is_view o.is ∙ v.completed } in
        let x = early o.it k e view (shown o.it k) refl (sym (shown_by left o.it k (b.rises o.it o.there)) ∙ ap (λ z. shown z k) o.is ∙ s) in
        (x.0, x.1, subst (IsBegunBeforeEnd x.0) o.is x.2)

number_left : (left : ℕ → Option Entry) (r : Call) (k : ℕ) → shown r k ≡ left k → number_in (left k) ≤ shown_number r k
unfolding shown_number
number_left left r k s = omega (arith, ap number_in s)

pub regular_from_renumbered : (left : ℕ → Option Entry) (calls : List Call) → IsBeginning left calls → ShowsNoLess left calls × IsRegular (map (call_by left) calls) → IsRegularFrom left calls
regular_from_renumbered left calls b h = record { not_old = not_old; not_less = not_less; not_early = not_early }
  where
    not_old : (r c : Call) (e : Entry) → IsViewOf calls r → IsUpdateOf calls c e → shown_number r e.component < e.number → precedes c r ≡ false
    not_old r c e v u l =
        let more = b.later c e (In-from_Contains _ _ u.there) u.writes in
        sym (by_precedes left c r) ∙ h.1.not_old (call_by left r) (call_by left c) (renumbered_entry left e) (view_by left calls r v) (update_to left calls c e u)
        (omega (arith, l, more, number_by left r e.component (b.rises r (In-from_Contains _ _ v.there))))

    not_less : (r : Call) (k : ℕ) → IsViewOf calls r → number_in (left k) ≤ shown_number r k
    not_less r k v = elim (h.0 r k v) [ inl s ↦ number_left left r k s | inr l ↦ omega (arith, l) ]

    not_early : (r : Call) (k : ℕ) (e : Entry) → IsViewOf calls r → shown r k ≡ Some e → (left k ≡ Some e) ⊎ ((c : Call) × IsUpdateOf calls c e × IsBegunBeforeEnd c r)
    not_early r k e v s = elim (h.0 r k v) [ inl q ↦ inl (sym q ∙ s) | inr l ↦ inr (at l) ]
      where
        component : e.component ≡ k
        component = (shown_in r k e s).1

        at : number_in (left k) < shown_number r k → (c : Call) × IsUpdateOf calls c e × IsBegunBeforeEnd c r
        at l =
            let more : number_in (left k) < e.number = omega (arith, l, shown_number_at r k e s) in
            let x = h.1.not_early (call_by left r) k (renumbered_entry left e) (view_by left calls r v) (shown_by left r k (b.rises r (In-from_Contains _ _ v.there)) ∙ ap (lowered left) s ∙ lowered_later left k e component more) in
            let o = In-from_map (call_by left) calls x.0 (In-from_Contains _ _ x.1.there) in
            let w = update_by left o.it (renumbered_entry left e) (ap (λ (z : Call). z.operation) o.is ∙ x.1.writes) in
            let same : w.entry.component ≡ k = ap (λ (z : Entry). z.component) w.is ∙ component in
            let later = b.later o.it w.entry o.there w.writes in
            let one = same_later left k w.entry e same component (omega (arith, later, ap (λ z. number_in (left z)) same)) more w.is in
            let begun : IsBegunBeforeEnd (call_by left o.it) (call_by left r) = subst (λ z. IsBegunBeforeEnd z (call_by left r)) (sym o.is) x.2 in
            (o.it, record { there = Contains-from_In _ _ o.there; writes = w.writes ∙ ap Updates one }, record { place = begun.place; ends = begun.ends; before = begun.before })

pub monotone_renumbered : (left : ℕ → Option Entry) (calls : List Call) → IsBeginning left calls → ShowsNoLess left calls → IsMonotone calls → IsMonotone (map (call_by left) calls)
monotone_renumbered left calls b h m r s v w before k =
    let o = In-from_map (call_by left) calls r (In-from_Contains _ _ v.there) in
    let q = In-from_map (call_by left) calls s (In-from_Contains _ _ w.there) in
    let view : IsViewOf calls o.it = record { there = Contains-from_In _ _ o.there; completed = sym (by_view left o.it) ∙ ap is_view o.is ∙ v.completed } in
    let other : IsViewOf calls q.it = record { there = Contains-from_In _ _ q.there; completed = sym (by_view left q.it) ∙ ap is_view q.is ∙ w.completed } in
    let l = m o.it q.it view other (sym (by_precedes left o.it q.it) ∙ ap (λ z. precedes z (call_by left q.it)) o.is ∙ ap (precedes r) q.is ∙ before) k in
    omega (arith, l, number_by left o.it k (b.rises o.it o.there), number_by left q.it k (b.rises q.it q.there), ap (λ z. shown_number z k) o.is, ap (λ z. shown_number z k) q.is)

pub monotone_from_renumbered : (left : ℕ → Option Entry) (calls : List Call) → IsBeginning left calls → ShowsNoLess left calls → IsMonotone (map (call_by left) calls) → IsMonotone calls
monotone_from_renumbered left calls b h m r s v w before k =
    let l = m (call_by left r) (call_by left s) (view_by left calls r v) (view_by left calls s w) (by_precedes left r s ∙ before) k in
    omega (arith, l, no_less r v, no_less s w, number_by left r k (b.rises r (In-from_Contains _ _ v.there)), number_by left s k (b.rises s (In-from_Contains _ _ w.there)))
  where
    no_less : (z : Call) → IsViewOf calls z → number_in (left k) ≤ shown_number z k
    no_less z x = elim (h z k x) [ inl t ↦ number_left left z k t | inr t ↦ omega (arith, t) ]
