-- What views show by their answers, and which calls stay.
use Rattle.std.proofs.Common.{◌≡◌, ◌≤◌, ◌∷◌, [], inl, inr, ℕ, Bool, true, false, cond, not, ◌&&◌, ◌||◌, List, length, filter, map, Option, Some, None, refl, sym, ap, subst, ◌∙◌, arith}
use Rattle.std.specs.Prelude.{◌==◌, is_some, nat_lt}
use Rattle.std.specs.List.{list_any}
use Rattle.std.proofs.lemmas.Bool.{eq-eqb}
use Rattle.std.proofs.lemmas.List.{length-map}
use Rattle.std.proofs.lemmas.List.Sums.{count_by-le-length, length-filter}
use Rattle.snap_core.specs.declared.entry.Entry.{Entry}
use Rattle.snap_core.specs.Entries.{entry_of}
use Rattle.snap_core.specs.Calls.{Call, Operation, Updates, Views, entries_of, is_view, shown, writes_number}
use Rattle.snap_core.proofs.Lists.{In, any_from}
use Rattle.snap_index.specs.IndexedCalls.{answer_of}
use Rattle.snap_index.proofs.Ends.{entries_by_answer, view_by_answer}
use Rattle.snap_theory.specs.Versioned.{is_version, kept_calls, shows_version, stays_as}
use Rattle.snap_versions.specs.declared.listed.Listed.{Listed}
use Rattle.snap_versions.specs.inside.Listed.{call_listed, calls_listed}
use Rattle.snap_versions.specs.inside.Unshown.{AreUnshown, is_pending_update, is_open_update, is_pending_version, is_shown, stays_beside, stays_operation}
use Rattle.snap_versions.specs.inside.Versions.{AreVersionsOf, has_version, versions_in, writes_where}
use Rattle.snap_versions.proofs.Counts.{any_count, any_same}

-- what a call shows, by its answer
pub shows_none : (e : Entry) (c : Call) → answer_of c ≡ None → shows_version e c ≡ false
unfolding is_view
shows_none e c none = ap (λ b. b && is_version e (shown c e.component)) (view_by_answer c.operation ∙ ap is_some none)

pub shows_some : (e : Entry) (c : Call) (es : List Entry) → answer_of c ≡ Some es → shows_version e c ≡ is_version e (entry_of e.component es)
unfolding is_view shown
shows_some e c es some =
    ap (λ b. b && is_version e (entry_of e.component (entries_of c.operation))) (view_by_answer c.operation ∙ ap is_some some)
    ∙ ap (λ z. is_version e (entry_of e.component z)) (entries_by_answer c.operation es some)

any_filter : {X : Type 0} (p q : X → Bool) (xs : List X) → list_any p (filter q xs) ≡ list_any (λ x. q x && p x) xs
any_filter p q [] = refl
any_filter p q (x ∷ xs) = go (q x) ∙ ap (λ b. (q x && p x) || b) (any_filter p q xs)
  where
    go : (b : Bool) → list_any p (cond b (x ∷ filter q xs) (filter q xs)) ≡ ((b && p x) || list_any p (filter q xs))
    go true = refl
    go false = refl

pub pending_few : (calls pending : List Listed) → calls_listed pending ≡ filter is_pending_update (calls_listed calls) → length pending ≤ length calls
pending_few calls pending is =
    omega (arith, length-map pending call_listed, ap length is, length-filter is_pending_update (calls_listed calls), count_by-le-length is_pending_update (calls_listed calls), length-map calls call_listed)

-- the versions of pending updates
pub has_pending : (calls pending : List Call) (lists : List (List ℕ)) → pending ≡ filter is_pending_update calls → AreVersionsOf pending lists → (k n : ℕ) → has_version (versions_in lists k) n ≡ list_any (is_pending_version k n) calls
has_pending calls pending lists is h k n =
    any_count (λ m. m == n) (versions_in lists k)
    ∙ ap (λ m. nat_lt 0 m) (h.same k (λ m. m == n))
    ∙ sym (any_count (λ c. writes_where k (λ m. m == n) c.operation) pending)
    ∙ any_same (λ c. writes_where k (λ m. m == n) c.operation) (λ c. writes_number c.operation k n) pending (λ c i. same c.operation)
    ∙ ap (list_any (λ c. writes_number c.operation k n)) is
    ∙ any_filter (λ c. writes_number c.operation k n) is_pending_update calls
  where
    same : (o : Operation) → writes_where k (λ m. m == n) o ≡ writes_number o k n
    same (Updates e) = refl
    same (Views a) = refl

none_has : (lists : List (List ℕ)) → AreVersionsOf [] lists → (k n : ℕ) → has_version (versions_in lists k) n ≡ false
none_has lists h k n = any_count (λ m. m == n) (versions_in lists k) ∙ ap (λ m. nat_lt 0 m) (h.same k (λ m. m == n))

-- without pending updates nothing is left out
pub none_unshown : (calls pending : List Call) (lists : List (List ℕ)) → pending ≡ filter is_pending_update calls → pending ≡ [] → AreVersionsOf pending lists → AreUnshown calls lists
none_unshown calls pending lists is none h k n =
    let empty = none_has lists (subst (λ z. AreVersionsOf z lists) none h) k n in
    empty ∙ ap (λ b. b && not (is_shown calls k n)) (sym empty ∙ has_pending calls pending lists is h k n)

filter-map : {X Y : Type 0} (p : Y → Bool) (f : X → Y) (xs : List X) → filter p (map f xs) ≡ map f (filter (λ x. p (f x)) xs)
filter-map p f [] = refl
filter-map p f (x ∷ xs) = ap (λ z. cond (p (f x)) (f x ∷ z) z) (filter-map p f xs) ∙ back (p (f x))
  where
    back : (b : Bool) → cond b (f x ∷ map f (filter (λ y. p (f y)) xs)) (map f (filter (λ y. p (f y)) xs)) ≡ map f (cond b (x ∷ filter (λ y. p (f y)) xs) (filter (λ y. p (f y)) xs))
    back true = refl
    back false = refl

filter_same : {X : Type 0} (p q : X → Bool) (xs : List X) → ((x : X) → In x xs → p x ≡ q x) → filter p xs ≡ filter q xs
filter_same p q [] h = refl
filter_same p q (x ∷ xs) h =
    ap (λ b. cond b (x ∷ filter p xs) (filter p xs)) (h x (inl refl)) ∙ ap (λ z. cond (q x) (x ∷ z) z) (filter_same p q xs (λ y i. h y (inr i)))

not_not : (b : Bool) → not (not b) ≡ b
not_not true = refl
not_not false = refl

-- a call stays beside the unshown versions exactly if it ended or is shown
stays_same : (calls : List Call) (lists : List (List ℕ)) → AreUnshown calls lists → (c : Call) → In c calls → stays_beside lists c ≡ stays_as calls c.ended c.operation
stays_same calls lists h c i = go c.operation c.ended refl refl
  where
    pending : (e : Entry) → c.operation ≡ Updates e → c.ended ≡ None → is_pending_version e.component e.number c ≡ true
    pending e o n =
        ap (λ z. is_open_update z c.ended && writes_number z e.component e.number) o
        ∙ ap (λ z. not (is_some z) && ((e.component == e.component) && (e.number == e.number))) n
        ∙ ap (λ b. b && (e.number == e.number)) (eq-eqb e.component e.component refl)
        ∙ eq-eqb e.number e.number refl

    go : (o : Operation) (ended : Option ℕ) → c.operation ≡ o → c.ended ≡ ended → stays_operation lists o ended ≡ stays_as calls ended o
    go (Updates e) (Some place) o n = refl
    go (Updates e) None o n =
        ap not (h e.component e.number ∙ ap (λ b. b && not (is_shown calls e.component e.number)) (any_from (is_pending_version e.component e.number) calls c i (pending e o n)))
        ∙ not_not (is_shown calls e.component e.number)
    go (Views a) ended o n = refl

pub kept_listed : (calls kept : List Listed) (lists : List (List ℕ)) → AreUnshown (calls_listed calls) lists → kept ≡ filter (λ c. stays_beside lists (call_listed c)) calls → calls_listed kept ≡ kept_calls (calls_listed calls)
kept_listed calls kept lists h is =
    ap calls_listed is ∙ sym (filter-map (stays_beside lists) call_listed calls)
    ∙ filter_same (stays_beside lists) (λ c. stays_as (calls_listed calls) c.ended c.operation) (calls_listed calls) (stays_same (calls_listed calls) lists h)
