-- Cutting the updates of a store that tells their order keeps whether some legal order keeps the numbers rising.
use Rattle.std.proofs.Common.{◌≡◌, ◌≢◌, ◌↔◌, ◌⊎◌, ℕ, ◌<◌, ◌≤◌, suc, Bool, true, false, List, [], ◌∷◌, ◌++◌, map, length, get_or, Option, Some, None, refl, sym, ap, ◌∙◌, subst, inl, inr, arith}
use Rattle.std.specs.Prelude.{is_some}
use Rattle.std.specs.List.{AllPairs, Contains}
use Rattle.std.proofs.lemmas.Bool.{false≢true, cases_lt}
use Rattle.std.proofs.Math.Path.{subst₂}
use Rattle.std.proofs.lemmas.List.{map-append, get_or-map, get_or_default, length-map}
use Rattle.std.proofs.lemmas.List.Elements.{All-contains}
use Rattle.snap_core.specs.declared.entry.Entry.{Entry}
use Rattle.snap_core.specs.Entries.{entry_of}
use Rattle.snap_core.specs.Calls.{Call, Operation, Updates, Views, calls_of, entries_of, is_answer, precedes, is_view, shown}
use Rattle.snap_core.specs.Orders.{IsLegalOrder, is_completed, is_update, is_writing, last_written, written_by}
use Rattle.snap_core.specs.Regular.{IsViewOf, IsUpdateOf}
use Rattle.snap_core.proofs.Facts.{precedes_to, precedes_from}
use Rattle.snap_core.proofs.Lists.{In, In-from_Contains, Contains-from_In, In-append_left, In-get_or, around, Pairs-weaker, Pairs-from_AllPairs, AllPairs-from_Pairs}
use Rattle.snap_core.proofs.Members.{In-map, In-from_map, Pairs-map, Pairs-from_map}
use Rattle.snap_theory.specs.Versions.{IsAtomicInOrder, IsLaterVersion, IsLegalInOrder}
use Rattle.snap_theory.specs.Intervals.{AreVersions, CutCallsAreInOrder, cut, cut_by, cut_calls, CuttingKeepsAtomic, earliest_end, latest_begin, NothingLeftIsNotAtomic}
use Rattle.snap_theory.proofs.Intervals.{UpTo, FromOn, begins_by, latest, ends_by, earliest}
use Rattle.snap_theory.proofs.Images.{origins, split_origin}
use Rattle.snap_theory.proofs.LastWritten.{last_written_from}
use Rattle.snap_theory.proofs.Legal.{Kept, Stands}
use Rattle.snap_theory.proofs.Timed.{AreMade, made}
use Rattle.snap_theory.proofs.Orders.{All-from_In}

-- what a cut keeps of a call

pub same_operation : (calls : List Call) (c : Call) → (cut calls c).operation ≡ c.operation
same_operation calls c = go c.operation refl
  where
    go : (o : Operation) → c.operation ≡ o → (cut_by calls o c).operation ≡ o
    go (Updates e) w = refl
    go (Views answer) w = w

pub same_number : (calls : List Call) (c : Call) → (cut calls c).number ≡ c.number
same_number calls c = go c.operation
  where
    go : (o : Operation) → (cut_by calls o c).number ≡ c.number
    go (Updates e) = refl
    go (Views answer) = refl

pub cut_update : (calls : List Call) (c : Call) (e : Entry) → c.operation ≡ Updates e → cut calls c ≡ cut_by calls (Updates e) c
cut_update calls c e w = ap (λ o. cut_by calls o c) w

-- a call is an update, or the same when it is cut
pub kind : (calls : List Call) (c : Call) → ((e : Entry) × (c.operation ≡ Updates e)) ⊎ (cut calls c ≡ c)
kind calls c = go c.operation refl
  where
    go : (o : Operation) → c.operation ≡ o → ((e : Entry) × (c.operation ≡ Updates e)) ⊎ (cut_by calls o c ≡ c)
    go (Updates e) w = inl (e, w)
    go (Views answer) w = inr refl

update_kept : (calls : List Call) (c : Call) → is_update (cut calls c) ≡ is_update c
unfolding is_update
update_kept calls c = ap is_writing (same_operation calls c)

update_is : (c : Call) (e : Entry) → c.operation ≡ Updates e → is_update c ≡ true
unfolding is_update
update_is c e w = ap is_writing w

view_kept : (calls : List Call) (c : Call) → is_view (cut calls c) ≡ is_view c
unfolding is_view
view_kept calls c = ap is_answer (same_operation calls c)

shown_kept : (calls : List Call) (c : Call) (k : ℕ) → shown (cut calls c) k ≡ shown c k
unfolding shown
shown_kept calls c k = ap (λ o. entry_of k (entries_of o)) (same_operation calls c)

written_kept : (calls : List Call) (k : ℕ) (last : Option Entry) (xs : List Call) → last_written k last (map (cut calls) xs) ≡ last_written k last xs
written_kept calls k last [] = refl
written_kept calls k last (x ∷ xs) = written_kept calls k (written_by (cut calls x).operation k last) xs ∙ ap (λ o. last_written k (written_by o k last) xs) (same_operation calls x)

later_kept : (calls : List Call) (a b : Call) → IsLaterVersion a b → IsLaterVersion (cut calls a) (cut calls b)
later_kept calls a b h d e u w = h d e (sym (same_operation calls a) ∙ u) (sym (same_operation calls b) ∙ w)

later_back : (calls : List Call) (a b : Call) → IsLaterVersion (cut calls a) (cut calls b) → IsLaterVersion a b
later_back calls a b h d e u w = h d e (same_operation calls a ∙ u) (same_operation calls b ∙ w)

pub own_up : (c : Call) (e : Entry) → c.operation ≡ Updates e → UpTo e c
own_up c e w = record { entry = e; writes = w; component = refl; number = omega arith }

pub own_from : (c : Call) (e : Entry) → c.operation ≡ Updates e → FromOn e c
own_from c e w = record { entry = e; writes = w; component = refl; number = omega arith }

-- a cut call begins no earlier, and ends no later

begins_later : (calls : List Call) (c : Call) → In c calls → c.begun ≤ (cut calls c).begun
begins_later calls c i = elim (kind calls c) [
  | inl u ↦ subst (λ z. c.begun ≤ z.begun) (sym (cut_update calls c u.0 u.1)) (begins_by calls u.0 c i (own_up c u.0 u.1))
  | inr same ↦ subst (λ z. c.begun ≤ z.begun) (sym same) (omega arith)
]

record EndsNoLater (calls : List Call) (c : Call) (place : ℕ) : Type 0 where
  end : ℕ
  is : (cut calls c).ended ≡ Some end
  by : end ≤ place

ends_earlier : (calls : List Call) (c : Call) (place : ℕ) → In c calls → c.ended ≡ Some place → EndsNoLater calls c place
ends_earlier calls c place i is = elim (kind calls c) [
  | inl u ↦ let b = ends_by calls u.0 c place i (own_from c u.0 u.1) is in record { end = b.end; is = ap (λ z. z.ended) (cut_update calls c u.0 u.1) ∙ b.is; by = b.by }
  | inr same ↦ record { end = place; is = ap (λ z. z.ended) same ∙ is; by = omega arith }
]

done_of : (c : Call) (place : ℕ) → c.ended ≡ Some place → is_completed c ≡ true
unfolding is_completed
done_of c place e = ap is_some e

-- so what precedes still does
pub precedes_still : (calls : List Call) (a b : Call) → In a calls → In b calls → precedes a b ≡ true → precedes (cut calls a) (cut calls b) ≡ true
precedes_still calls a b i j h =
    let p = precedes_to a b h in
    let end = ends_earlier calls a p.place i p.ends in
    let begun = begins_later calls b j in
    precedes_from (cut calls a) (cut calls b) (record { place = end.end; ends = end.is; before = omega (arith, p.before, end.by, begun) })

kept_back : (calls : List Call) (a b : Call) → In a calls → In b calls → Kept (cut calls a) (cut calls b) → Kept a b
kept_back calls a b i j h = go (precedes b a) refl
  where
    go : (t : Bool) → precedes b a ≡ t → precedes b a ≡ false
    go true t = absurd (false≢true (sym h ∙ precedes_still calls b a j i t))
    go false t = t

done_still : (calls : List Call) (c : Call) → In c calls → is_completed c ≡ true → is_completed (cut calls c) ≡ true
unfolding is_completed
done_still calls c i d = go c.ended refl d
  where
    go : (o : Option ℕ) → c.ended ≡ o → is_some o ≡ true → is_some (cut calls c).ended ≡ true
    go (Some place) e t = ap is_some (ends_earlier calls c place i e).is
    go None e t = absurd (false≢true t)

apart_by : (calls : List Call) → AreMade calls → (a b : Call) → In a calls → In b calls → cut calls a ≡ cut calls b → a ≡ b
apart_by calls made a b i j e = made.one a b (Contains-from_In _ _ i) (Contains-from_In _ _ j) (sym (same_number calls a) ∙ ap (λ z. z.number) e ∙ same_number calls b)

-- the place of a call in a list

record Placed (c : Call) (xs : List Call) : Type 0 where
  place : ℕ
  within : place < length xs
  is : (d : Call) → get_or xs place d ≡ c

placed : (xs : List Call) (c : Call) → In c xs → Placed c xs
placed [] c i = absurd i
placed (x ∷ xs) c (inl e) = record { place = 0; within = omega arith; is = λ d. e }
placed (x ∷ xs) c (inr i) = let p = placed xs c i in record { place = suc p.place; within = let l = p.within in omega (arith, l); is = p.is }

-- calls of an order that end or begin at a place, and stand no earlier or no later than another

record EndIn (order : List Call) (low place : ℕ) : Type 0 where
  call : Call
  at : Placed call order
  after : low ≤ at.place
  ended : call.ended ≡ Some place

record BeginIn (order : List Call) (high place : ℕ) : Type 0 where
  call : Call
  at : Placed call order
  before : at.place ≤ high
  begun : call.begun ≡ place

stands_in : (calls : List Call) (order : List Call) → IsLegalInOrder calls order → (c : Call) → In c order → Stands calls c
stands_in calls order o c i = All-contains (Stands calls) order c o.legal.only (Contains-from_In order c i)

among_calls : (calls : List Call) (order : List Call) → IsLegalInOrder calls order → (c : Call) → In c order → In c calls
among_calls calls order o c i = In-from_Contains _ _ (stands_in calls order o c i).0

-- each update stands in a legal order: it has ended, or a view shows it
each_stands : (calls : List Call) → AreMade calls → AreVersions calls → (order : List Call) → IsLegalInOrder calls order → (c : Call) (e : Entry) → In c calls → c.operation ≡ Updates e → In c order
each_stands calls made versions order o c e i w = go c.ended refl
  where
    u : IsUpdateOf calls c e
    u = record { there = Contains-from_In _ _ i; writes = w }

    shown_one : (r : Call) (s : Entry) → IsViewOf calls r → shown r e.component ≡ Some s → s.number ≡ e.number → In c order
    shown_one r s v h n =
        let r_done = made.answered r v in
        let there = In-from_Contains _ _ (o.legal.completed r v.there (done_of r r_done.place r_done.ends)) in
        let a = around r order there in
        let last = sym (o.legal.latest a.before a.after r a.same v.completed e.component) ∙ h in
        elim (last_written_from e.component None a.before) [
          | inl none ↦ absurd (let g : None ≡ Some s = sym none ∙ last in cc)
          | inr x ↦
              let front : In x.call order = subst (In x.call) (sym a.same) (In-append_left x.call a.before (r ∷ a.after) x.there) in
              let entry : x.entry ≡ s = let g : Some x.entry ≡ Some s = sym x.last ∙ last in cc in
              let other : IsUpdateOf calls x.call x.entry = record { there = Contains-from_In _ _ (among_calls calls order o x.call front); writes = x.writes.writes } in
              subst (λ z. In z order) (versions.alone x.call c x.entry e other u x.writes.component (ap (λ z. z.number) entry ∙ n)) front
        ]

    go : (p : Option ℕ) → c.ended ≡ p → In c order
    go (Some place) t = In-from_Contains _ _ (o.legal.completed c (Contains-from_In _ _ i) (done_of c place t))
    go None t = let k = versions.known c e u t in shown_one k.0 k.1 k.2 k.3 k.4

-- of two updates of a component in such an order, the lower number stands no later
stands_no_later : {calls : List Call} (order : List Call) → IsLegalInOrder calls order → (a b : Call) (d e : Entry) → a.operation ≡ Updates d → b.operation ≡ Updates e → d.component ≡ e.component → d.number ≤ e.number →
    (p : Placed a order) (q : Placed b order) → p.place ≤ q.place
stands_no_later order o a b d e u w same l p q = elim (cases_lt q.place p.place) [
  | inl less ↦
      let later = o.rising q.place p.place a less p.within in
      let n = subst₂ IsLaterVersion (q.is a) (p.is a) later e d w u (sym same) in
      absurd (omega (arith, n, l))
  | inr more ↦ more
]

-- a legal order of the calls, which keeps the numbers rising, and of the calls as they are cut

cut_order : (calls : List Call) → AreMade calls → AreVersions calls → (order : List Call) → IsLegalInOrder calls order → IsLegalInOrder (cut_calls calls) (map (cut calls) order)
cut_order calls made versions order o = record { legal = legal; rising = rising }
  where
    f : Call → Call
    f = cut calls

    among : (c : Call) → In c order → In c calls
    among c i = among_calls calls order o c i

    each : (c : Call) (e : Entry) → In c calls → c.operation ≡ Updates e → In c order
    each c e i w = each_stands calls made versions order o c e i w

    rising : AllPairs IsLaterVersion (map f order)
    rising = AllPairs-from_Pairs IsLaterVersion (map f order) (Pairs-map IsLaterVersion f order (Pairs-weaker IsLaterVersion (λ a b. IsLaterVersion (f a) (f b)) order (λ a b i j h. later_kept calls a b h) (Pairs-from_AllPairs IsLaterVersion order o.rising)))

    no_later : (a b : Call) (d e : Entry) → a.operation ≡ Updates d → b.operation ≡ Updates e → d.component ≡ e.component → d.number ≤ e.number → (p : Placed a order) (q : Placed b order) → p.place ≤ q.place
    no_later a b d e u w same l p q = stands_no_later order o a b d e u w same l p q

    end_in : (b : Call) (q : Placed b order) (place : ℕ) → In b order → (f b).ended ≡ Some place → EndIn order q.place place
    end_in b q place i is = elim (kind calls b) [
      | inl u ↦
          let x = earliest calls u.0 place (sym (ap (λ z. z.ended) (cut_update calls b u.0 u.1)) ∙ is) in
          let at = placed order x.call (each x.call x.is.entry x.there x.is.writes) in
          record { call = x.call; at = at; after = no_later b x.call u.0 x.is.entry u.1 x.is.writes (sym x.is.component) x.is.number q at; ended = x.ended }
      | inr same ↦ record { call = b; at = q; after = omega arith; ended = sym (ap (λ z. z.ended) same) ∙ is }
    ]

    begin_in : (a : Call) (p : Placed a order) → In a order → BeginIn order p.place (f a).begun
    begin_in a p i = elim (kind calls a) [
      | inl u ↦
          let x = latest calls u.0 a (among a i) (own_up a u.0 u.1) in
          let at = placed order x.call (each x.call x.is.entry x.there x.is.writes) in
          record { call = x.call; at = at; before = no_later x.call a x.is.entry u.0 x.is.writes u.1 x.is.component x.is.number at p; begun = x.begun ∙ sym (ap (λ z. z.begun) (cut_update calls a u.0 u.1)) }
      | inr same ↦ record { call = a; at = p; before = omega arith; begun = sym (ap (λ z. z.begun) same) }
    ]

    -- a cut call that stands later than another does not precede it
    kept : (a b : Call) (p : Placed a order) (q : Placed b order) → In a order → In b order → p.place < q.place → Kept (f a) (f b)
    kept a b p q i j less = go (precedes (f b) (f a)) refl
      where
        go : (t : Bool) → precedes (f b) (f a) ≡ t → precedes (f b) (f a) ≡ false
        go false t = t
        go true t =
            let h = precedes_to (f b) (f a) t in
            let x = end_in b q h.place j h.ends in
            let y = begin_in a p i in
            let apart = o.legal.precedence y.at.place x.at.place a (omega (arith, less, x.after, y.before)) x.at.within in
            let not = subst₂ Kept (y.at.is a) (x.at.is a) apart in
            absurd (false≢true (sym not ∙ precedes_from x.call y.call (record { place = h.place; ends = x.ended; before = omega (arith, h.before, y.begun) })))

    at_place : (xs : List Call) (place : ℕ) (d : Call) → place < length xs → Placed (get_or xs place d) xs
    at_place xs place d l = record { place = place; within = l; is = λ e. get_or_default xs place e d l }

    legal : IsLegalOrder (cut_calls calls) (map f order)
    legal = record {
      only = All-from_In (Stands (cut_calls calls)) (map f order) (λ c i. let x = In-from_map f order c i in subst (Stands (cut_calls calls)) x.is (stands_cut x.it x.there));
      distinct = AllPairs-from_Pairs (λ a b. a ≢ b) (map f order) (Pairs-map (λ a b. a ≢ b) f order (Pairs-weaker (λ a b. a ≢ b) (λ a b. f a ≢ f b) order (λ a b i j n s. n (apart_by calls made a b (among a i) (among b j) s)) (Pairs-from_AllPairs (λ a b. a ≢ b) order o.legal.distinct)));
      completed = completed;
      precedence = precedence;
      latest = latest_in;
    }
      where
        stands_cut : (c : Call) → In c order → Stands (cut_calls calls) (f c)
        stands_cut c i = (Contains-from_In _ _ (In-map f calls c (among c i)), elim (stands_in calls order o c i).1 [ inl d ↦ inl (done_still calls c (among c i) d) | inr u ↦ inr (update_kept calls c ∙ u) ])

        completed : (c : Call) → Contains (cut_calls calls) c → is_completed c ≡ true → Contains (map f order) c
        completed c i d =
            let x = In-from_map f calls c (In-from_Contains _ _ i) in
            let there : In x.it order = elim (kind calls x.it) [
              | inl u ↦ each x.it u.0 x.there u.1
              | inr same ↦ In-from_Contains _ _ (o.legal.completed x.it (Contains-from_In _ _ x.there) (ap is_completed (sym same ∙ x.is) ∙ d))
            ] in
            subst (Contains (map f order)) x.is (Contains-from_In _ _ (In-map f order x.it there))

        precedence : AllPairs (λ a b. precedes b a ≡ false) (map f order)
        precedence i j d less within =
            let m : j < length order = omega (arith, within, length-map order f) in
            let l : i < length order = omega (arith, m, less) in
            let a = get_or order i d in
            let b = get_or order j d in
            subst₂ Kept (sym (get_or-map f order i d d l)) (sym (get_or-map f order j d d m)) (kept a b (at_place order i d l) (at_place order j d m) (In-get_or order i d l) (In-get_or order j d m) less)

        latest_in : (before after : List Call) (r : Call) → map f order ≡ before ++ r ∷ after → is_view r ≡ true → (k : ℕ) → shown r k ≡ last_written k None before
        latest_in before after r s v k =
            let x = split_origin f order before after r s in
            let view = sym (view_kept calls x.it) ∙ ap is_view x.is ∙ v in
            ap (λ z. shown z k) (sym x.is) ∙ shown_kept calls x.it k ∙ o.legal.latest x.front x.back x.it x.split view k ∙ sym (written_kept calls k None x.front) ∙ ap (last_written k None) x.is_front

order_cut : (calls : List Call) → AreMade calls → (order : List Call) → ((c : Call) → In c order → In c calls) → IsLegalInOrder (cut_calls calls) (map (cut calls) order) → IsLegalInOrder calls order
order_cut calls made order among o = record {
  legal = record {
    only = All-from_In (Stands calls) order only;
    distinct = AllPairs-from_Pairs (λ a b. a ≢ b) order (Pairs-weaker (λ a b. f a ≢ f b) (λ a b. a ≢ b) order (λ a b i j n s. n (ap f s)) (Pairs-from_map (λ a b. a ≢ b) f order (Pairs-from_AllPairs (λ a b. a ≢ b) (map f order) o.legal.distinct)));
    completed = completed;
    precedence = AllPairs-from_Pairs Kept order (Pairs-weaker (λ a b. Kept (f a) (f b)) Kept order (λ a b i j h. kept_back calls a b (among a i) (among b j) h) (Pairs-from_map Kept f order (Pairs-from_AllPairs Kept (map f order) o.legal.precedence)));
    latest = latest_in;
  };
  rising = AllPairs-from_Pairs IsLaterVersion order (Pairs-weaker (λ a b. IsLaterVersion (f a) (f b)) IsLaterVersion order (λ a b i j h. later_back calls a b h) (Pairs-from_map IsLaterVersion f order (Pairs-from_AllPairs IsLaterVersion (map f order) o.rising)));
}
  where
    f : Call → Call
    f = cut calls

    only : (c : Call) → In c order → Stands calls c
    only c i =
        let s = All-contains (Stands (cut_calls calls)) (map f order) (f c) o.legal.only (Contains-from_In _ _ (In-map f order c i)) in (
          Contains-from_In _ _ (among c i),
          elim (kind calls c) [
            | inl u ↦ inr (update_is c u.0 u.1)
            | inr same ↦ elim s.1 [ inl d ↦ inl (ap is_completed (sym same) ∙ d) | inr u ↦ inr (sym (update_kept calls c) ∙ u) ]
          ],
        )

    completed : (c : Call) → Contains calls c → is_completed c ≡ true → Contains order c
    completed c i d =
        let there = In-from_Contains _ _ i in
        let j = o.legal.completed (f c) (Contains-from_In _ _ (In-map f calls c there)) (done_still calls c there d) in
        let x = In-from_map f order (f c) (In-from_Contains _ _ j) in
        Contains-from_In _ _ (subst (λ z. In z order) (apart_by calls made x.it c (among x.it x.there) there x.is) x.there)

    latest_in : (before after : List Call) (r : Call) → order ≡ before ++ r ∷ after → is_view r ≡ true → (k : ℕ) → shown r k ≡ last_written k None before
    latest_in before after r s v k =
        let seen = o.legal.latest (map f before) (map f after) (f r) (ap (map f) s ∙ map-append f before (r ∷ after)) (view_kept calls r ∙ v) k in
        sym (shown_kept calls r k) ∙ seen ∙ written_kept calls k None before

-- cutting keeps whether some legal order keeps the numbers rising
pub cutting : (calls : List Call) → AreMade calls → AreVersions calls → IsAtomicInOrder calls ↔ IsAtomicInOrder (cut_calls calls)
cutting calls made versions = (
  λ a. (map (cut calls) a.0, cut_order calls made versions a.0 a.1),
  λ a.
      let among : (c : Call) → In c a.0 → In c (cut_calls calls) = λ c i. In-from_Contains _ _ (All-contains (Stands (cut_calls calls)) a.0 c a.1.legal.only (Contains-from_In a.0 c i)).0 in
      let x = origins (cut calls) calls a.0 among in
      (x.list, order_cut calls made x.list x.there (subst (IsLegalInOrder (cut_calls calls)) (sym x.is) a.1)),
)

-- an update of which nothing is left would have to stand both before and after another
pub nothing_left : (calls : List Call) → AreMade calls → AreVersions calls → (c : Call) (e : Entry) (place : ℕ) → IsUpdateOf calls c e → earliest_end calls e ≡ Some place → place < latest_begin calls e → IsAtomicInOrder calls → ⊥
nothing_left calls made versions c e place u end less a =
    let i = In-from_Contains _ _ u.there in
    let x = earliest calls e place end in
    let y = latest calls e c i (own_up c e u.writes) in
    let p = placed a.0 y.call (each_stands calls made versions a.0 a.1 y.call y.is.entry y.there y.is.writes) in
    let q = placed a.0 x.call (each_stands calls made versions a.0 a.1 x.call x.is.entry x.there x.is.writes) in
    let before = precedes_from x.call y.call (record { place = place; ends = x.ended; before = omega (arith, less, y.begun) }) in
    elim (cases_lt p.place q.place) [
      | inl first ↦ absurd (false≢true (sym (subst₂ Kept (p.is c) (q.is c) (a.1.legal.precedence p.place q.place c first q.within)) ∙ before))
      | inr later ↦
          let order = stands_no_later a.0 a.1 y.call x.call y.is.entry x.is.entry y.is.writes x.is.writes (y.is.component ∙ sym x.is.component) (omega (arith, y.is.number, x.is.number)) p q in
          let same : p.place ≡ q.place = omega (arith, order, later) in
          let one : x.call ≡ y.call = sym (q.is c) ∙ ap (λ n. get_or a.0 n c) (sym same) ∙ p.is c in
          absurd (let rises = made.rises x.call place (Contains-from_In _ _ x.there) x.ended in omega (arith, rises, less, y.begun, ap (λ z. z.begun) one))
    ]

-- once they are cut, updates of a component begin and end in the order of their numbers
pub cut_in_order : (calls : List Call) (a b : Call) (d e : Entry) → IsUpdateOf calls a d → IsUpdateOf calls b e → d.component ≡ e.component → d.number ≤ e.number →
    ((cut calls a).begun ≤ (cut calls b).begun) × ((place : ℕ) → (cut calls b).ended ≡ Some place → (end : ℕ) × ((cut calls a).ended ≡ Some end) × (end ≤ place))
cut_in_order calls a b d e u w same less =
    let first = cut_update calls a d u.writes in
    let second = cut_update calls b e w.writes in
    let x = latest calls d a (In-from_Contains _ _ u.there) (own_up a d u.writes) in (
      let up = begins_by calls e x.call x.there (record { entry = x.is.entry; writes = x.is.writes; component = x.is.component ∙ same; number = let l = x.is.number in omega (arith, l, less) }) in
          omega (arith, up, x.begun, ap (λ z. z.begun) first, ap (λ z. z.begun) second),
      λ place end.
          let y = earliest calls e place (sym (ap (λ z. z.ended) second) ∙ end) in
          let down = ends_by calls d y.call place y.there (record { entry = y.is.entry; writes = y.is.writes; component = y.is.component ∙ sym same; number = let l = y.is.number in omega (arith, l, less) }) y.ended in
          (down.end, ap (λ z. z.ended) first ∙ down.is, down.by),
    )

-- the same of the calls of events

pub cutting_keeps_atomic : CuttingKeepsAtomic
cutting_keeps_atomic es = cutting (calls_of es) (made es)

pub nothing_left_is_not_atomic : NothingLeftIsNotAtomic
nothing_left_is_not_atomic es = nothing_left (calls_of es) (made es)

pub cut_calls_are_in_order : CutCallsAreInOrder
cut_calls_are_in_order es = cut_in_order (calls_of es)
