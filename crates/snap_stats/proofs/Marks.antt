-- Marks of updates, and counts of components, one entry or view after the other.
use Rattle.std.proofs.Common.{◌≡◌, ◌≤◌, ◌<◌, ◌+◌, ℕ, Bool, true, false, cond, not, ◌&&◌, ◌||◌, List, [], ◌∷◌, length, get_or, set, map, take, find, count_by, Some, None, refl, sym, ap, ◌∙◌, inl, inr, arith, get_or-set_same, get_or-set_other, slice_get, All}
use Rattle.std.specs.Prelude.{is_some, nat_lt, ◌==◌}
use Rattle.std.specs.List.{list_any}
use Rattle.std.specs.Option.{option_map}
use Rattle.std.proofs.lemmas.Bool.{ltb-true, false≢true, ne_eqb, eq-eqb, eqb-true, cases_eq, and_parts}
use Rattle.std.proofs.lemmas.List.{ext_get_or, get_or-map, get_or_default, length-map}
use Rattle.std.proofs.lemmas.List.Folds.{list_any_more}
use Rattle.std.proofs.lemmas.List.Sums.{count_by-le-length, sum_by_more}
use Rattle.std.proofs.lemmas.Option.{slice_get-get_or}
use Rattle.snap_core.specs.declared.entry.Entry.{Entry}
use Rattle.snap_core.specs.declared.event.Event.{Event}
use Rattle.snap_core.specs.Calls.{Call, Operation, Updates, Views, calls_of, call_numbered, entries_of, is_update_numbered, nobody, shown, views_of, writes_number}
use Rattle.snap_core.specs.Entries.{component_count, entry_of, rises}
use Rattle.snap_core.specs.Orders.{is_update}
use Rattle.snap_core.specs.Ordered.{IsOrdered}
use Rattle.snap_core.specs.Regular.{IsUpdateOf}
use Rattle.snap_core.proofs.Ordered.{are_ordered_calls}
use Rattle.snap_core.proofs.Histories.{numbered_calls}
use Rattle.snap_core.proofs.Lists.{In, Contains-from_In, In-get_or, count-cons}
use Rattle.snap_core.proofs.Members.{In-find}
use Rattle.snap_index.specs.IndexedCalls.{entries_shown, number_of}
use Rattle.snap_index.proofs.IndexedCalls.{mapped_none, mapped_some}
use Rattle.snap_index.proofs.Known.{update_found}
use Rattle.snap_stats.specs.Shown.{is_listed, is_unshown, shows, shows_component}
use Rattle.snap_stats.proofs.Counts.{count-map}
use Rattle.snap_stats.specs.inside.Marks.{AreCountedMore, AreLeft, AreTaken, AreViewCounts}

record IsNumberedUpdate (calls : List Call) (k n : ℕ) (c : Call) : Type 0 where
  pub entry : Entry
  pub update : IsUpdateOf calls c entry
  pub component : entry.component ≡ k
  pub number : entry.number ≡ n

numbered_to : (calls : List Call) (k n : ℕ) (c : Call) → In c calls → is_update_numbered k n c ≡ true → IsNumberedUpdate calls k n c
unfolding is_update_numbered
numbered_to calls k n c i h = go c.operation refl h
  where
    go : (o : Operation) → c.operation ≡ o → writes_number o k n ≡ true → IsNumberedUpdate calls k n c
    go (Updates e) w t =
        let p = and_parts (e.component == k) (e.number == n) t in
        record { entry = e; update = record { there = Contains-from_In calls c i; writes = w }; component = eqb-true _ _ p.0; number = eqb-true _ _ p.1 }
    go (Views a) w t = absurd (false≢true t)

find_none : {X : Type 0} (p : X → Bool) (xs : List X) → find p xs ≡ None → (x : X) → In x xs → p x ≡ false
find_none p [] h x i = absurd i
find_none {X} p (y ∷ ys) h x i = go (p y) refl h i (λ g j. find_none p ys g x j)
  where
    go : (b : Bool) → p y ≡ b → cond b (Some y) (find p ys) ≡ None → In x (y ∷ ys) → (find p ys ≡ None → In x ys → p x ≡ false) → p x ≡ false
    go true e g j rest = absurd (cc g)
    go false e g (inl j) rest = ap p (sym j) ∙ e
    go false e g (inr j) rest = rest g j

-- no call is the update of a number that is not found
pub none_numbered : (es : List Event) (k n : ℕ) → option_map number_of (find (is_update_numbered k n) (calls_of es)) ≡ None → (c : ℕ) → c < length (calls_of es) → is_update_numbered k n (call_numbered (calls_of es) c) ≡ false
none_numbered es k n h c l = find_none (is_update_numbered k n) (calls_of es) (mapped_none number_of _ h) _ (In-get_or (calls_of es) c nobody l)

-- the call of the number that is found is the update, and no other one is
pub one_numbered : (es : List Event) → IsOrdered es → (k n u : ℕ) → option_map number_of (find (is_update_numbered k n) (calls_of es)) ≡ Some u → (c : ℕ) → c < length (calls_of es) → is_update_numbered k n (call_numbered (calls_of es) c) ≡ (c == u)
one_numbered es h k n u is c l = go (is_update_numbered k n (call_numbered (calls_of es) c)) refl
  where
    calls : List Call
    calls = calls_of es

    go : (b : Bool) → is_update_numbered k n (call_numbered calls c) ≡ b → b ≡ (c == u)
    go true t =
        let m = mapped_some number_of (find (is_update_numbered k n) calls) u is in
        let found = update_found es k n m.from m.is in
        let mine = numbered_to calls k n (call_numbered calls c) (In-get_or calls c nobody l) t in
        let same = (are_ordered_calls es h).one (call_numbered calls c) m.from mine.entry found.entry mine.update found.update (mine.component ∙ sym found.component) (mine.number ∙ sym found.number) in
        sym (eq-eqb c u (sym (numbered_calls es c nobody l) ∙ ap number_of same ∙ m.to))
    go false t = elim (cases_eq c u) [
      | inl e ↦ absurd (let m = mapped_some number_of (find (is_update_numbered k n) calls) u is in
          let found = update_found es k n m.from m.is in
          false≢true (sym t ∙ ap (λ z. is_update_numbered k n (call_numbered calls z)) (e ∙ sym m.to) ∙ ap (is_update_numbered k n) found.own ∙ (In-find (is_update_numbered k n) calls m.from m.is).1))
      | inr e ↦ sym (ne_eqb c u e)
    ]

-- a count of the entries of a component, where components rise

none_above : (k : ℕ) (e : Entry) (es : List Entry) → rises (e ∷ es) ≡ true → k ≤ e.component → count_by (λ d. d.component == k) es ≡ 0
none_above k e [] r l = refl
none_above k e (d ∷ es) r l =
    let p = and_parts (nat_lt e.component d.component) (rises (d ∷ es)) r in
    let up = ltb-true e.component d.component p.0 in
    let one : cond (d.component == k) 1 0 ≡ 0 = ap {B = ℕ} (λ b. cond b 1 0) (ne_eqb d.component k (λ q. omega (arith, q, up, l))) in
    omega (arith, count-cons (λ (z : Entry). z.component == k) d es, one, none_above k d es p.1 (omega (arith, up, l)))

rises_tail : (e : Entry) (es : List Entry) → rises (e ∷ es) ≡ true → rises es ≡ true
rises_tail e [] r = refl
rises_tail e (d ∷ es) r = (and_parts (nat_lt e.component d.component) (rises (d ∷ es)) r).1

pub one_entry : (k : ℕ) (es : List Entry) → rises es ≡ true → count_by (λ e. e.component == k) es ≡ cond (is_some (entry_of k es)) 1 0
one_entry k [] r = refl
one_entry k (e ∷ es) r = go (e.component == k) refl (one_entry k es (rises_tail e es r))
  where
    go : (b : Bool) → (e.component == k) ≡ b → count_by (λ d. d.component == k) es ≡ cond (is_some (entry_of k es)) 1 0 → count_by (λ d. d.component == k) (e ∷ es) ≡ cond (is_some (cond (e.component == k) (Some e) (entry_of k es))) 1 0
    go true t rest =
        let one : cond (e.component == k) 1 0 ≡ 1 = ap {B = ℕ} (λ b. cond b 1 0) t in
        let here : cond (is_some (cond (e.component == k) (Some e) (entry_of k es))) 1 0 ≡ 1 = ap {B = ℕ} (λ b. cond (is_some (cond b (Some e) (entry_of k es))) 1 0) t in
        omega (arith, count-cons (λ (z : Entry). z.component == k) e es, one, here, none_above k e es r (omega (arith, eqb-true e.component k t)))
    go false t rest =
        let none : cond (e.component == k) 1 0 ≡ 0 = ap {B = ℕ} (λ b. cond b 1 0) t in
        let later : cond (is_some (cond (e.component == k) (Some e) (entry_of k es))) 1 0 ≡ cond (is_some (entry_of k es)) 1 0 = ap {B = ℕ} (λ b. cond (is_some (cond b (Some e) (entry_of k es))) 1 0) t in
        omega (arith, count-cons (λ (z : Entry). z.component == k) e es, none, later, rest)

-- marks are taken entry by entry, and view by view

taken_one : (o l n : Bool) → n ≡ true → false ≡ (o && not (l || n))
taken_one o l n e = rw e (go o l)
  where
    go : (o l : Bool) → false ≡ (o && not (l || true))
    go true true = refl
    go true false = refl
    go false true = refl
    go false false = refl

left_one : (o l n : Bool) → n ≡ false → (o && not l) ≡ (o && not (l || n))
left_one o l n e = rw e (go o l)
  where
    go : (o l : Bool) → (o && not l) ≡ (o && not (l || false))
    go true true = refl
    go true false = refl
    go false true = refl
    go false false = refl

pub taken_more : (es : List Event) → IsOrdered es → (entries : List Entry) (i : ℕ) (d : Entry) (u : ℕ) (old marks new : List Bool) → i < length entries → u < length marks →
    option_map number_of (find (is_update_numbered (get_or entries i d).component (get_or entries i d).number) (calls_of es)) ≡ Some u →
    AreTaken (calls_of es) (take i entries) old marks → new ≡ set marks u false → AreTaken (calls_of es) (take (i + 1) entries) old new
taken_more es h entries i d u old marks new l fits is taken e c few =
    ap (λ z. get_or z c false) e
    ∙ elim (cases_eq u c) [
      | inl q ↦ ap (λ z. get_or (set marks u false) z false) (sym q) ∙ get_or-set_same marks u false false fits ∙ taken_one (get_or old c false) (is_listed (take i entries) call) _ (numbered ∙ eq-eqb c u (sym q))
      | inr q ↦ get_or-set_other marks u c false false (λ z. q (sym z)) ∙ taken c few ∙ left_one (get_or old c false) (is_listed (take i entries) call) _ (numbered ∙ ne_eqb c u (λ z. q (sym z)))
    ]
    ∙ sym (ap (λ b. get_or old c false && not b) (list_any_more listed entries i d l))
  where
    call : Call
    call = call_numbered (calls_of es) c

    listed : Entry → Bool
    listed x = is_update_numbered x.component x.number call

    numbered : is_update_numbered (get_or entries i d).component (get_or entries i d).number call ≡ (c == u)
    numbered = one_numbered es h (get_or entries i d).component (get_or entries i d).number u is c few

pub none_taken : (es : List Event) (entries : List Entry) (i : ℕ) (d : Entry) (old marks : List Bool) → i < length entries →
    option_map number_of (find (is_update_numbered (get_or entries i d).component (get_or entries i d).number) (calls_of es)) ≡ None →
    AreTaken (calls_of es) (take i entries) old marks → AreTaken (calls_of es) (take (i + 1) entries) old marks
none_taken es entries i d old marks l is taken c few =
    taken c few ∙ left_one (get_or old c false) (is_listed (take i entries) (call_numbered (calls_of es) c)) _ (none_numbered es (get_or entries i d).component (get_or entries i d).number is c few)
    ∙ sym (ap (λ b. get_or old c false && not b) (list_any_more (λ (x : Entry). is_update_numbered x.component x.number (call_numbered (calls_of es) c)) entries i d l))

both_left : (o a b : Bool) → ((o && not a) && not b) ≡ (o && not (a || b))
both_left true true b = refl
both_left true false b = refl
both_left false a b = refl

pub view_shown : (views : List Call) (i : ℕ) (entries : List Entry) → i < length views → Some entries ≡ option_map entries_shown (slice_get views i) → entries ≡ entries_of (call_numbered views i).operation
view_shown views i entries l h = let w = slice_get-get_or views i nobody l in cc

pub left_more : (calls views : List Call) (i : ℕ) (entries : List Entry) (marks new : List Bool) → i < length views → entries ≡ entries_of (call_numbered views i).operation →
    AreLeft calls (take i views) marks → AreTaken calls entries marks new → AreLeft calls (take (i + 1) views) new
unfolding shows
left_more calls views i entries marks new l is left taken c few =
    taken c few ∙ ap (λ b. b && not (is_listed entries call)) (left c few)
    ∙ both_left (is_update call) (list_any (λ r. is_listed (entries_of r.operation) call) (take i views)) (is_listed entries call)
    ∙ ap (λ es. is_update call && not (list_any (λ r. is_listed (entries_of r.operation) call) (take i views) || is_listed es call)) is
    ∙ sym (ap (λ b. is_update call && not b) (list_any_more (λ r. is_listed (entries_of r.operation) call) views i nobody l))
  where
    call : Call
    call = call_numbered calls c

-- the marks that are left are those of the updates that no view shows
pub unshown_is : (calls : List Call) (marks : List Bool) → length marks ≡ length calls → AreLeft calls (views_of calls) marks → count_by (λ mark. mark) marks ≡ count_by (is_unshown calls) calls
unfolding is_unshown
unshown_is calls marks size left =
    ap (count_by (λ mark. mark)) (ext_get_or false marks (map (is_unshown calls) calls) (size ∙ sym (length-map calls (is_unshown calls)))
    (λ k l. let few : k < length calls = omega (arith, l, size) in left k few ∙ sym (get_or-map (is_unshown calls) calls k nobody false few)))
    ∙ count-map (λ mark. mark) (is_unshown calls) calls

-- one view more of each component that it shows
pub counts_more : (views : List Call) (i : ℕ) (entries : List Entry) (counts new : List ℕ) → i < length views → entries ≡ entries_of (call_numbered views i).operation →
    AreViewCounts (take i views) counts → AreCountedMore entries counts new → AreViewCounts (take (i + 1) views) new
unfolding shows_component shown
counts_more views i entries counts new l is counted more k few =
    let one : cond (is_some (entry_of k entries)) 1 0 ≡ cond (is_some (entry_of k (entries_of (call_numbered views i).operation))) 1 0 = ap {B = ℕ} (λ es. cond (is_some (entry_of k es)) 1 0) is in
    omega (arith, more k few, counted k few, one, sum_by_more (λ (r : Call). cond (is_some (entry_of k (entries_of r.operation))) 1 0) views i nobody l)

pub counts_few : (views : List Call) (counts : List ℕ) (n : ℕ) → length counts ≡ component_count → length views ≤ n → AreViewCounts views counts → All (λ m. m ≤ n) counts
counts_few views counts n size few counted = λ k d l.
    omega (arith, get_or_default counts k d 0 l, counted k (omega (arith, l, size)), count_by-le-length (shows_component k) views, few)
