-- What the check of an order knows of the calls so far.
use Rattle.std.proofs.Common.{replicate, ◌≡◌, ◌⊎◌, ◌↔◌, ◌<◌, ◌≤◌, ◌+◌, max, ℕ, Bool, true, false, List, [], ◌∷◌, ◌++◌, length, length-set, take, set, get_or, get_or-set_same, get_or-set_other, Option, Some, None, refl, sym, ap, ◌∙◌, subst, inl, inr, arith}
use Rattle.std.specs.List.{Contains, All}
use Rattle.std.proofs.lemmas.List.{take_more, take_all, length-replicate, get_or-replicate}
use Rattle.std.proofs.lemmas.List.Elements.{Contains-get_or, All-contains}
use Rattle.std.proofs.lemmas.Bool.{false≢true, false_from_ne_true, ltb-false, le-ltb, cases_eq, cases_lt}
use Rattle.snap_core.specs.declared.entry.Entry.{Entry}
use Rattle.snap_core.specs.Entries.{HasByteComponent, component_count}
use Rattle.snap_core.specs.Calls.{Call, nobody, is_before, shown, entries_of}
use Rattle.snap_core.specs.Regular.{IsUpdateOf}
use Rattle.snap_core.specs.Orders.{is_completed, written_by, last_written}
use Rattle.snap_core.proofs.Lists.{In, In-from_Contains, Contains-from_In, In-append_left, In-append_right, In-append_cases}
use Rattle.snap_core.proofs.Facts.{precedes_to, precedes_from, shown_in}
use Rattle.snap_theory.specs.Starts.{IsLegalStart, MayFollow}
use Rattle.snap_order.specs.Numbers.{IsLegalList, picked}
use Rattle.snap_order.specs.inside.Stands.{MayStand, SeesCompleted}
use Rattle.snap_theory.proofs.LastWritten.{Writes, last_written-append, last_written_none}
use Rattle.snap_theory.proofs.Starts.{start_push, start_nil}
use Rattle.snap_core.proofs.Members.{Origin, In-from_map}
use Rattle.snap_order.proofs.Numbers.{AreNumbered, picks, picked-more, legal_next, legal_number, legal_completed, legal_list, placed_call}

-- the components of all updates and entries are bytes
pub record AreBytes (calls : List Call) : Type 0 where
  pub updates : (c : Call) (e : Entry) → IsUpdateOf calls c e → e.component < component_count
  pub views : (c : Call) → Contains calls c → All HasByteComponent (entries_of c.operation)

pub record IsState (calls : List Call) (ns : List ℕ) (i : ℕ) (seen : List Bool) (last : List (Option Entry)) (latest : ℕ) : Type 0 where
  pub below : (n : ℕ) → In n (take i ns) → n < length calls
  pub start : IsLegalStart calls (picked calls (take i ns))
  pub seen_size : length seen ≡ length calls
  pub last_size : length last ≡ component_count
  pub seen_to : (n : ℕ) → n < length calls → get_or seen n false ≡ true → In n (take i ns)
  pub seen_from : (n : ℕ) → In n (take i ns) → get_or seen n false ≡ true
  pub lasts : (k : ℕ) → k < component_count → get_or last k None ≡ last_written k None (picked calls (take i ns))
  pub most : (a : Call) → In a (picked calls (take i ns)) → a.begun ≤ latest
  pub one : (latest ≡ 0) ⊎ ((a : Call) × In a (picked calls (take i ns)) × (a.begun ≡ latest))

in_picked : (calls : List Call) (ns : List ℕ) (a : Call) → In a (picked calls ns) → Origin (λ n. get_or calls n nobody) ns a
unfolding picked
in_picked calls ns a i = In-from_map (λ n. get_or calls n nobody) ns a i

only_calls : (calls : List Call) (m : List ℕ) → ((n : ℕ) → In n m → n < length calls) → (a : Call) → In a (picked calls m) → Contains calls a
only_calls calls m below a i =
    let p = in_picked calls m a i in
    subst (Contains calls) p.is (Contains-get_or calls p.it nobody (below p.it p.there))

-- an end that is not before a place
pub not_before_to : (o : Option ℕ) (latest place : ℕ) → is_before o latest ≡ false → o ≡ Some place → latest ≤ place
not_before_to None latest place h e = absurd (cc e)
not_before_to (Some end) latest place h e = let q : end ≡ place = cc in let l = ltb-false end latest h in omega (arith, l, q)

pub not_before_from : (o : Option ℕ) (latest : ℕ) → ((place : ℕ) → o ≡ Some place → latest ≤ place) → is_before o latest ≡ false
not_before_from None latest h = refl
not_before_from (Some end) latest h = le-ltb end latest (h end refl)

-- with its tests passed, a call may follow
pub may_follow : (calls : List Call) (ns : List ℕ) (i n : ℕ) (seen : List Bool) (last : List (Option Entry)) (latest : ℕ) → AreNumbered calls → AreBytes calls → IsState calls ns i seen last latest →
    n < length calls → get_or seen n false ≡ false → MayStand (get_or calls n nobody) last latest → MayFollow calls (picked calls (take i ns)) (get_or calls n nobody)
unfolding shown
may_follow calls ns i n seen last latest p b s l unseen m = record {
  there = Contains-get_or calls n nobody l;
  stands = m.stands;
  fresh = λ a j e.
      let q = in_picked calls (take i ns) a (In-from_Contains _ _ j) in
      let same : q.it ≡ n = sym (p q.it nobody (s.below q.it q.there)) ∙ ap (λ (z : Call). z.number) (q.is ∙ e) ∙ p n nobody l in
      false≢true (sym unseen ∙ s.seen_from n (subst (λ z. In z (take i ns)) same q.there));
  precedence = λ a j. false_from_ne_true _ (λ h.
      let t = precedes_to (get_or calls n nobody) a h in
      omega (arith, t.before, not_before_to (get_or calls n nobody).ended latest t.place m.precedes_none t.ends, s.most a (In-from_Contains _ _ j)));
  latest = λ v k. elim (cases_lt k component_count) [
    | inl small ↦ m.shows v k small ∙ s.lasts k small
    | inr large ↦ nothing k large
  ];
}
  where
    nothing : (k : ℕ) → component_count ≤ k → shown (get_or calls n nobody) k ≡ last_written k None (picked calls (take i ns))
    nothing k large = shows_none (shown (get_or calls n nobody) k) refl ∙ sym (last_written_none k None (picked calls (take i ns)) none)
      where
        shows_none : (o : Option Entry) → shown (get_or calls n nobody) k ≡ o → shown (get_or calls n nobody) k ≡ None
        shows_none None e = e
        shows_none (Some d) e =
            let j = shown_in (get_or calls n nobody) k d e in
            absurd (let small = All-contains HasByteComponent (entries_of (get_or calls n nobody).operation) d (b.views (get_or calls n nobody) (Contains-get_or calls n nobody l)) (Contains-from_In _ _ j.0) in omega (arith, small, j.1))

        none : (u : Call) (d : Entry) → In u (picked calls (take i ns)) → Writes k u d → ⊥
        none u d j w = omega (arith, b.updates u d (record { there = only_calls calls (take i ns) s.below u j; writes = w.writes }), w.component)

-- in a legal list each call passes the tests
pub record Passed (calls : List Call) (n : ℕ) (seen : List Bool) (last : List (Option Entry)) (latest : ℕ) : Type 0 where
  pub below : n < length calls
  pub unseen : get_or seen n false ≡ false
  pub stands : MayStand (get_or calls n nobody) last latest

pub passed : (calls : List Call) (ns : List ℕ) (i : ℕ) (seen : List Bool) (last : List (Option Entry)) (latest : ℕ) → AreNumbered calls → IsState calls ns i seen last latest → i < length ns → IsLegalList calls ns → Passed calls (get_or ns i 0) seen last latest
unfolding shown
passed calls ns i seen last latest p s l h = record {
  below = below;
  unseen = false_from_ne_true _ (λ t. f.fresh (get_or calls n nobody) (Contains-from_In _ _ (picks calls (take i ns) n (s.seen_to n below t))) refl);
  stands = record {
    precedes_none = not_before_from (get_or calls n nobody).ended latest (λ place e. elim s.one [
      | inl z ↦ omega arith
      | inr a ↦ not_late place e a.0 a.1 a.2
    ]);
    stands = f.stands;
    shows = λ v k small. f.latest v k ∙ sym (s.lasts k small);
  };
}
  where
    n : ℕ
    n = get_or ns i 0

    f : MayFollow calls (picked calls (take i ns)) (get_or calls n nobody)
    f = legal_next calls ns p h i l

    below : n < length calls
    below = legal_number calls ns p h n (In-from_Contains _ _ (Contains-get_or ns i 0 l))

    not_late : (place : ℕ) → (get_or calls n nobody).ended ≡ Some place → (a : Call) → In a (picked calls (take i ns)) → a.begun ≡ latest → latest ≤ place
    not_late place e a j q =
        let early : ¬ (place < latest) = λ t. false≢true (sym (f.precedence a (Contains-from_In _ _ j)) ∙ precedes_from (get_or calls n nobody) a (record { place = place; ends = e; before = omega (arith, q) })) in
        omega (arith, early)

-- the state after one more call
pub next_state : (calls : List Call) (ns : List ℕ) (i n : ℕ) (seen : List Bool) (last after : List (Option Entry)) (latest later : ℕ) → AreNumbered calls → IsState calls ns i seen last latest → i < length ns → n ≡ get_or ns i 0 →
    n < length calls → MayFollow calls (picked calls (take i ns)) (get_or calls n nobody) → length after ≡ length last →
    ((k : ℕ) → k < component_count → get_or after k None ≡ written_by (get_or calls n nobody).operation k (get_or last k None)) →
    later ≡ max latest (get_or calls n nobody).begun →
    IsState calls ns (i + 1) (set seen n true) after later
next_state calls ns i n seen last after latest later p s l is below m size puts late = record {
  below = λ k j. elim (new k j) [
    | inl h ↦ s.below k h
    | inr h ↦ subst (λ z. z < length calls) (sym h) below
  ];
  start = subst (IsLegalStart calls) (sym grown) (start_push calls (picked calls (take i ns)) (get_or calls n nobody) s.start m);
  seen_size = length-set seen n true ∙ s.seen_size;
  last_size = size ∙ s.last_size;
  seen_to = λ k small t. elim (cases_eq k n) [
    | inl h ↦ subst (λ z. In z (take (i + 1) ns)) (sym h) there
    | inr h ↦ old k (s.seen_to k small (sym (get_or-set_other seen n k true false h) ∙ t))
  ];
  seen_from = λ k j. elim (cases_eq k n) [
    | inl h ↦ ap (λ z. get_or (set seen n true) z false) h ∙ get_or-set_same seen n true false (omega (arith, s.seen_size))
    | inr h ↦ get_or-set_other seen n k true false h ∙ elim (new k j) [
      | inl o ↦ s.seen_from k o
      | inr o ↦ absurd (h o)
    ]
  ];
  lasts = λ k small.
      puts k small ∙ ap (written_by (get_or calls n nobody).operation k) (s.lasts k small)
      ∙ sym (ap (last_written k None) grown ∙ last_written-append k None (picked calls (take i ns)) (get_or calls n nobody ∷ []));
  most = λ a j. most a (In-append_cases a (picked calls (take i ns)) (get_or calls n nobody ∷ []) (subst (In a) grown j));
  one = one (cases_lt latest (get_or calls n nobody).begun);
}
  where
    more : take (i + 1) ns ≡ take i ns ++ n ∷ []
    more = take_more ns i 0 l ∙ ap (λ z. take i ns ++ z ∷ []) (sym is)

    grown : picked calls (take (i + 1) ns) ≡ picked calls (take i ns) ++ get_or calls n nobody ∷ []
    grown = picked-more calls ns i l ∙ ap (λ z. picked calls (take i ns) ++ get_or calls z nobody ∷ []) (sym is)

    there : In n (take (i + 1) ns)
    there = subst (In n) (sym more) (In-append_right n (take i ns) (n ∷ []) (inl refl))

    old : (k : ℕ) → In k (take i ns) → In k (take (i + 1) ns)
    old k j = subst (In k) (sym more) (In-append_left k (take i ns) (n ∷ []) j)

    new : (k : ℕ) → In k (take (i + 1) ns) → In k (take i ns) ⊎ (k ≡ n)
    new k j = elim (In-append_cases k (take i ns) (n ∷ []) (subst (In k) more j)) [
      | inl o ↦ inl o
      | inr (inl o) ↦ inr (sym o)
      | inr (inr o) ↦ absurd o
    ]

    most : (a : Call) → In a (picked calls (take i ns)) ⊎ In a (get_or calls n nobody ∷ []) → a.begun ≤ later
    most a (inl j) = omega (arith, s.most a j, late)
    most a (inr (inl e)) = let q : (get_or calls n nobody).begun ≡ a.begun = ap (λ (z : Call). z.begun) e in omega (arith, q, late)
    most a (inr (inr e)) = absurd e

    one : (latest < (get_or calls n nobody).begun) ⊎ ((get_or calls n nobody).begun ≤ latest) → (later ≡ 0) ⊎ ((a : Call) × In a (picked calls (take (i + 1) ns)) × (a.begun ≡ later))
    one (inl x) = inr (get_or calls n nobody, subst (In (get_or calls n nobody)) (sym grown) (In-append_right (get_or calls n nobody) (picked calls (take i ns)) (get_or calls n nobody ∷ []) (inl refl)), omega (arith, late, x))
    one (inr x) = elim s.one [
      | inl z ↦ inl (omega (arith, late, x, z))
      | inr a ↦ inr (a.0, subst (In a.0) (sym grown) (In-append_left a.0 (picked calls (take i ns)) (get_or calls n nobody ∷ []) a.1), omega (arith, a.2, late, x))
    ]

pub first_state : (calls : List Call) (ns : List ℕ) → IsState calls ns 0 (replicate (length calls) false) (replicate component_count None) 0
unfolding picked
first_state calls ns = record {
  below = λ n i. absurd i;
  start = start_nil calls;
  seen_size = length-replicate (length calls) false;
  last_size = length-replicate {A = Option Entry} component_count None;
  seen_to = λ n l t. absurd (false≢true (sym (get_or-replicate (length calls) n false false l) ∙ t));
  seen_from = λ n i. absurd i;
  lasts = λ k l. get_or-replicate {A = Option Entry} component_count k None None l;
  most = λ a i. absurd i;
  one = inl refl;
}

-- at the end the list is legal exactly where each completed call was seen
pub last_state : (calls : List Call) (ns : List ℕ) (i : ℕ) (seen : List Bool) (last : List (Option Entry)) (latest : ℕ) → AreNumbered calls → IsState calls ns i seen last latest → length ns ≤ i →
    IsLegalList calls ns ↔ SeesCompleted calls seen
last_state calls ns i seen last latest p s l = (to, from)
  where
    all : take i ns ≡ ns
    all = take_all i ns l

    to : IsLegalList calls ns → (k : ℕ) → k < length calls → is_completed (get_or calls k nobody) ≡ true → get_or seen k false ≡ true
    to h k small t =
        let j = legal_completed calls ns p h (get_or calls k nobody) (Contains-get_or calls k nobody small) t in
        s.seen_from k (subst (λ z. In z (take i ns)) (p k nobody small) (subst (In (get_or calls k nobody).number) (sym all) j))

    from : ((k : ℕ) → k < length calls → is_completed (get_or calls k nobody) ≡ true → get_or seen k false ≡ true) → IsLegalList calls ns
    from h = legal_list calls ns p (λ n j. s.below n (subst (In n) (sym all) j)) (subst (λ z. IsLegalStart calls (picked calls z)) all s.start) completed
      where
        completed : (c : Call) → Contains calls c → is_completed c ≡ true → In c.number ns
        completed c j t =
            let q = placed_call calls p c j in
            subst (In c.number) all (s.seen_to c.number q.below (h c.number q.below (subst (λ z. is_completed z ≡ true) (sym q.at_number) t)))
