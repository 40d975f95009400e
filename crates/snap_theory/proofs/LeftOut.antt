-- Pending updates that no view shows may be left out.
use Rattle.std.proofs.Common.{◌≡◌, ◌≢◌, ◌↔◌, ℕ, Bool, true, false, cond, List, [], ◌∷◌, ◌++◌, Option, Some, None, refl, sym, ap, ◌∙◌, subst, inl, inr}
use Rattle.std.specs.Prelude.{◌==◌, filter, is_some}
use Rattle.std.specs.List.{Contains, list_any}
use Rattle.std.proofs.lemmas.Bool.{false≢true, and_from, eq-eqb, eqb-true, or_left, or_right}
use Rattle.std.proofs.lemmas.List.Elements.{All-contains}
use Rattle.snap_core.specs.declared.entry.Entry.{Entry}
use Rattle.snap_core.specs.Calls.{Call, Operation, Updates, Views, is_answer, is_view, shown}
use Rattle.snap_core.specs.Orders.{is_completed, last_written, written_by}
use Rattle.snap_core.proofs.Lists.{In, In-from_Contains, Contains-from_In, In-append_right, In-filter, In-from_filter, Pairs-filter, Pairs-from_AllPairs, AllPairs-from_Pairs, any_from}
use Rattle.snap_theory.specs.Versioned.{is_version, kept_calls, shows_version, stays_as}
use Rattle.snap_theory.specs.Versions.{IsAtomicInOrder, IsLaterVersion, IsLegalInOrder}
use Rattle.snap_theory.proofs.LastWritten.{Writes, last_written_from, written_at}
use Rattle.snap_theory.proofs.Legal.{Kept, Stands}
use Rattle.snap_theory.proofs.Orders.{All-from_In}

abbrev stays : List Call → Call → Bool
stays calls c = stays_as calls c.ended c.operation

pub was_there : (calls : List Call) (c : Call) → Contains (kept_calls calls) c → Contains calls c
was_there calls c i = Contains-from_In _ _ (In-from_filter (stays calls) calls c (In-from_Contains _ _ i)).0

pub is_left : (calls : List Call) (c : Call) → Contains calls c → stays_as calls c.ended c.operation ≡ true → Contains (kept_calls calls) c
is_left calls c i s = Contains-from_In _ _ (In-filter (stays calls) calls c (In-from_Contains _ _ i) s)

pub view_stays : (calls : List Call) (r : Call) → is_view r ≡ true → stays_as calls r.ended r.operation ≡ true
unfolding is_view
view_stays calls r v = go r.operation v
  where
    go : (o : Operation) → is_answer o ≡ true → stays_as calls r.ended o ≡ true
    go (Updates e) t = absurd (false≢true t)
    go (Views answer) t = refl

completed_stays : (calls : List Call) (c : Call) → is_completed c ≡ true → stays_as calls c.ended c.operation ≡ true
unfolding is_completed
completed_stays calls c d = go c.operation
  where
    go : (o : Operation) → stays_as calls c.ended o ≡ true
    go (Updates e) = or_left (is_some c.ended) (list_any (shows_version e) calls) d
    go (Views answer) = refl

-- an update whose entry some view shows
shown_stays : (calls : List Call) (c r : Call) (k : ℕ) (e : Entry) → Writes k c e → Contains calls r → is_view r ≡ true → shown r k ≡ Some e → stays_as calls c.ended c.operation ≡ true
shown_stays calls c r k e w i v s =
    let one = ap (is_version e) (ap (shown r) w.component ∙ s) ∙ eq-eqb e.number e.number refl in
    let any = any_from (shows_version e) calls r (In-from_Contains _ _ i) (and_from _ _ v one) in
    ap (stays_as calls c.ended) w.writes ∙ or_right (is_some c.ended) (list_any (shows_version e) calls) any

-- the last update of a list that is filtered

-- where some update writes, it doesn't matter what was there before
last_any : (k : ℕ) (o p : Option Entry) (xs : List Call) (u : Call) (e : Entry) → In u xs → Writes k u e → last_written k o xs ≡ last_written k p xs
last_any k o p [] u e i w = absurd i
last_any k o p (x ∷ xs) u e (inl same) w =
    let wx : Writes k x e = record { writes = ap (λ (z : Call). z.operation) same ∙ w.writes; component = w.component } in
    ap (λ z. last_written k z xs) (written_at k o x e wx ∙ sym (written_at k p x e wx))
last_any k o p (x ∷ xs) u e (inr i) w = last_any k (written_by x.operation k o) (written_by x.operation k p) xs u e i w

-- it stays if its writer does
last_filter : (p : Call → Bool) (k : ℕ) (o last : Option Entry) (xs : List Call) → last_written k o xs ≡ last → ((u : Call) (e : Entry) → In u xs → Writes k u e → last ≡ Some e → p u ≡ true) → last_written k o (filter p xs) ≡ last
last_filter p k o last [] is h = is
last_filter p k o last (x ∷ xs) is h = go (p x) refl (last_filter p k (written_by x.operation k o) last xs is (λ u e i. h u e (inr i)))
  where
    by : p x ≡ false → (w : Operation) → x.operation ≡ w → last_written k (written_by x.operation k o) (filter p xs) ≡ last → last_written k o (filter p xs) ≡ last
    by f (Views answer) s rest = ap (λ z. last_written k z (filter p xs)) (sym (ap (λ z. written_by z k o) s)) ∙ rest
    by f (Updates d) s rest = at (d.component == k) refl
      where
        at : (b : Bool) → (d.component == k) ≡ b → last_written k o (filter p xs) ≡ last
        at false t = ap (λ z. last_written k z (filter p xs)) (sym (ap (λ z. written_by z k o) s ∙ ap (λ b. cond b (Some d) o) t)) ∙ rest
        at true t =
            let w : Writes k x d = record { writes = s; component = eqb-true d.component k t } in
            elim (last_written_from k (written_by x.operation k o) (filter p xs)) [
              | inl none ↦ absurd (false≢true (sym f ∙ h x d (inl refl) w (sym rest ∙ none ∙ written_at k o x d w)))
              | inr z ↦ last_any k o (written_by x.operation k o) (filter p xs) z.call z.entry z.there z.writes ∙ rest
            ]

    go : (b : Bool) → p x ≡ b → last_written k (written_by x.operation k o) (filter p xs) ≡ last → last_written k o (filter p (x ∷ xs)) ≡ last
    go true t rest = ap (λ b. last_written k o (cond b (x ∷ filter p xs) (filter p xs))) t ∙ rest
    go false t rest = ap (λ b. last_written k o (cond b (x ∷ filter p xs) (filter p xs))) t ∙ by t x.operation refl rest

-- a split of a filtered list
record FilterSplit (p : Call → Bool) (xs before : List Call) (r : Call) : Type 0 where
  front : List Call
  back : List Call
  split : xs ≡ front ++ r ∷ back
  is : filter p front ≡ before

split_filter : (p : Call → Bool) (xs before after : List Call) (r : Call) → filter p xs ≡ before ++ r ∷ after → FilterSplit p xs before r
split_filter p [] [] after r e = absurd (cc)
split_filter p [] (z ∷ before) after r e = absurd (cc)
split_filter p (x ∷ xs) before after r e = go (p x) refl (split_filter p xs)
  where
    cases : (b : Bool) → p x ≡ b → cond b (x ∷ filter p xs) (filter p xs) ≡ before ++ r ∷ after
    cases b t = sym (ap (λ b. cond b (x ∷ filter p xs) (filter p xs)) t) ∙ e

    at : p x ≡ true → ((before after : List Call) (r : Call) → filter p xs ≡ before ++ r ∷ after → FilterSplit p xs before r) → (before : List Call) → x ∷ filter p xs ≡ before ++ r ∷ after → FilterSplit p (x ∷ xs) before r
    at t rest [] s = record { front = []; back = xs; split = let same : x ≡ r = cc in ap (λ z. z ∷ xs) same; is = refl }
    at t rest (z ∷ before) s =
        let same : x ≡ z = cc in
        let f = rest before after r (cc) in
        record { front = x ∷ f.front; back = f.back; split = ap (λ w. x ∷ w) f.split; is = ap (λ b. cond b (x ∷ filter p f.front) (filter p f.front)) t ∙ ap (λ w. x ∷ w) f.is ∙ ap (λ w. w ∷ before) same }

    go : (b : Bool) → p x ≡ b → ((before after : List Call) (r : Call) → filter p xs ≡ before ++ r ∷ after → FilterSplit p xs before r) → FilterSplit p (x ∷ xs) before r
    go true t rest = at t rest before (cases true t)
    go false t rest =
        let f = rest before after r (cases false t) in
        record { front = x ∷ f.front; back = f.back; split = ap (λ w. x ∷ w) f.split; is = ap (λ b. cond b (x ∷ filter p f.front) (filter p f.front)) t ∙ f.is }

-- a legal order of all calls, and of those that stay

left_order : (calls order : List Call) → IsLegalInOrder calls order → IsLegalInOrder (kept_calls calls) (filter (stays calls) order)
left_order calls order o = record {
  legal = record {
    only = All-from_In (Stands (kept_calls calls)) kept (λ c i. let x = In-from_filter p order c i in let s = stands c x.0 in (is_left calls c s.0 x.1, s.1));
    distinct = AllPairs-from_Pairs (λ a b. a ≢ b) kept (Pairs-filter (λ a b. a ≢ b) p order (Pairs-from_AllPairs (λ a b. a ≢ b) order o.legal.distinct));
    completed = λ c i d. Contains-from_In _ _ (In-filter p order c (In-from_Contains _ _ (o.legal.completed c (was_there calls c i) d)) (completed_stays calls c d));
    precedence = AllPairs-from_Pairs Kept kept (Pairs-filter Kept p order (Pairs-from_AllPairs Kept order o.legal.precedence));
    latest = latest;
  };
  rising = AllPairs-from_Pairs IsLaterVersion kept (Pairs-filter IsLaterVersion p order (Pairs-from_AllPairs IsLaterVersion order o.rising));
}
  where
    p : Call → Bool
    p = stays calls

    kept : List Call
    kept = filter p order

    stands : (c : Call) → In c order → Stands calls c
    stands c i = All-contains (Stands calls) order c o.legal.only (Contains-from_In order c i)

    latest : (before after : List Call) (r : Call) → kept ≡ before ++ r ∷ after → is_view r ≡ true → (k : ℕ) → shown r k ≡ last_written k None before
    latest before after r s v k =
        let f = split_filter p order before after r s in
        let seen = o.legal.latest f.front f.back r f.split v k in
        let there = (stands r (subst (In r) (sym f.split) (In-append_right r f.front (r ∷ f.back) (inl refl)))).0 in
        sym (last_filter p k None (shown r k) f.front (sym seen) (λ u e i w l. shown_stays calls u r k e w there v l)) ∙ ap (last_written k None) f.is

order_left : (calls order : List Call) → IsLegalInOrder (kept_calls calls) order → IsLegalInOrder calls order
order_left calls order o = record {
  legal = record {
    only = All-from_In (Stands calls) order (λ c i. let s = All-contains (Stands (kept_calls calls)) order c o.legal.only (Contains-from_In order c i) in (was_there calls c s.0, s.1));
    distinct = o.legal.distinct;
    completed = λ c i d. o.legal.completed c (is_left calls c i (completed_stays calls c d)) d;
    precedence = o.legal.precedence;
    latest = o.legal.latest;
  };
  rising = o.rising;
}

-- so the calls that stay are atomic exactly when all are
pub leaving_out : (calls : List Call) → IsAtomicInOrder calls ↔ IsAtomicInOrder (kept_calls calls)
leaving_out calls = (λ a. (filter (stays calls) a.0, left_order calls a.0 a.1), λ a. (a.0, order_left calls a.0 a.1))
