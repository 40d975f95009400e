-- The calls of the history of some views and some updates.
use Rattle.std.proofs.Common.{◌≡◌, ◌≢◌, ◌⊎◌, ℕ, ◌<◌, ◌≤◌, Bool, true, false, cond, List, [], ◌∷◌, ◌++◌, length, Option, Some, None, refl, sym, ap, ◌∙◌, subst, inl, inr, arith, length-append}
use Rattle.std.specs.Prelude.{find}
use Rattle.std.specs.List.{Contains}
use Rattle.std.proofs.lemmas.Bool.{false≢true}
use Rattle.snap_core.specs.declared.entry.Entry.{Entry}
use Rattle.snap_core.specs.declared.event.Event.{Event}
use Rattle.snap_core.specs.Events.{IsHistory}
use Rattle.snap_core.specs.Calls.{Call, Operation, Updates, calls_of, precedes, is_view, is_answer, shown, shown_number, is_update_numbered}
use Rattle.snap_core.specs.Regular.{IsViewOf}
use Rattle.snap_core.proofs.Lists.{In, In-from_Contains, Contains-from_In, In-append_left, In-append_right, In-append_cases}
use Rattle.snap_core.proofs.Members.{In-find}
use Rattle.snap_core.proofs.Facts.{shown_number_at, shown_number_none, shows_positive}
use Rattle.snap_theory.specs.Updates.{update_of}
use Rattle.snap_theory.proofs.Local.{numbered_to, numbered_from, PassesAll, all_tests}
use Rattle.snap_theory.proofs.Backward.{legal_meets}
use Rattle.snap_theory.specs.Kept.{alone, is_place_of, kept_call, kept_events, kept_from, kept_operation}
use Rattle.snap_theory.specs.Choices.{AreChosen, KeepsCalls}
use Rattle.snap_theory.specs.Witness.{numbers_of, found_call, updates_kept, witness_calls, witness_of, in_witness, AreWitnesses}
use Rattle.snap_theory.proofs.Histories.{ordered_choice_keeps_calls}
use Rattle.snap_theory.proofs.Chosen.{chosen_is_choice, begun_chosen}
use Rattle.snap_theory.proofs.Shown.{shown_kept, shown_left, is_view_kept}
use Rattle.snap_theory.proofs.Components.{fit_views}
use Rattle.snap_core.specs.Ordered.{IsOrdered}
use Rattle.snap_theory.specs.Versions.{IsAtomicInOrder}
use Rattle.snap_core.proofs.Ordered.{IsFittingHistory, are_ordered_calls, history_is_ordered}

pub find_there : {X : Type 0} (f : X → Bool) (xs : List X) (c : X) → In c xs → f c ≡ true → (y : X) × (find f xs ≡ Some y)
find_there f [] c i t = absurd i
find_there {X} f (x ∷ xs) c i t = go (f x) refl i (find_there f xs c)
  where
    go : (b : Bool) → f x ≡ b → In c (x ∷ xs) → (In c xs → f c ≡ true → (y : X) × (find f xs ≡ Some y)) → (y : X) × (find f (x ∷ xs) ≡ Some y)
    go true u j more = (x, ap (λ b. cond b (Some x) (find f xs)) u)
    go false u (inl e) more = absurd (false≢true (sym u ∙ ap f e ∙ t))
    go false u (inr j) more = let r = more j t in (r.0, ap (λ b. cond b (Some x) (find f xs)) u ∙ r.1)

-- an update that is kept
record Paired (calls : List Call) (ps : List (ℕ × ℕ)) (c : Call) : Type 0 where
  pair : ℕ × ℕ
  listed : In pair ps
  there : In c calls
  is : is_update_numbered pair.0 pair.1 c ≡ true

paired : (calls : List Call) (ps : List (ℕ × ℕ)) (c : Call) → In c (updates_kept calls ps) → Paired calls ps c
paired calls [] c i = absurd i
paired calls (p ∷ ps) c i = go (update_of calls p.0 p.1) refl (In-append_cases c (found_call (update_of calls p.0 p.1)) (updates_kept calls ps) i) (paired calls ps c)
  where
    go : (o : Option Call) → update_of calls p.0 p.1 ≡ o → In c (found_call (update_of calls p.0 p.1)) ⊎ In c (updates_kept calls ps) → (In c (updates_kept calls ps) → Paired calls ps c) → Paired calls (p ∷ ps) c
    go None e (inl j) more = absurd (subst (λ z. In c (found_call z)) e j)
    go (Some d) e (inl j) more = same (subst (λ z. In c (found_call z)) e j)
      where
        same : (d ≡ c) ⊎ ⊥ → Paired calls (p ∷ ps) c
        same (inl s) = let f = In-find (is_update_numbered p.0 p.1) calls c (e ∙ ap Some s) in record { pair = p; listed = inl refl; there = f.0; is = f.1 }
        same (inr b) = absurd b
    go o e (inr j) more = let r = more j in record { pair = r.pair; listed = inr r.listed; there = r.there; is = r.is }

kept_update : (es : List Event) → IsOrdered es → (ps : List (ℕ × ℕ)) (p : ℕ × ℕ) (c : Call) → In p ps → In c (calls_of es) → is_update_numbered p.0 p.1 c ≡ true → In c (updates_kept (calls_of es) ps)
kept_update es h [] p c i j t = absurd i
kept_update es h (q ∷ ps) p c (inl e) j t =
    let u : is_update_numbered q.0 q.1 c ≡ true = ap (λ (z : ℕ × ℕ). is_update_numbered z.0 z.1 c) e ∙ t in
    let f = find_there (is_update_numbered q.0 q.1) (calls_of es) c j u in
    let g = In-find (is_update_numbered q.0 q.1) (calls_of es) f.0 f.1 in
    let a = numbered_to (calls_of es) q.0 q.1 f.0 g.0 g.1 in
    let b = numbered_to (calls_of es) q.0 q.1 c j u in
    let s : f.0 ≡ c = (are_ordered_calls es h).one f.0 c a.entry b.entry a.update b.update (a.component ∙ sym b.component) (a.number ∙ sym b.number) in
    In-append_left c (found_call (update_of (calls_of es) q.0 q.1)) (updates_kept (calls_of es) ps) (subst (λ z. In c (found_call z)) (sym f.1) (inl s))
kept_update es h (q ∷ ps) p c (inr i) j t = In-append_right c (found_call (update_of (calls_of es) q.0 q.1)) (updates_kept (calls_of es) ps) (kept_update es h ps p c i j t)

pub few_calls : (calls : List Call) (ps : List (ℕ × ℕ)) → length (updates_kept calls ps) ≤ length ps
few_calls calls [] = omega arith
few_calls calls (p ∷ ps) = omega (arith, few_calls calls ps, length-append (found_call (update_of calls p.0 p.1)) (updates_kept calls ps), one (update_of calls p.0 p.1))
  where
    one : (o : Option Call) → length (found_call o) ≤ 1
    one None = omega arith
    one (Some c) = omega arith

view_writes : (o : Operation) (e : Entry) → is_answer o ≡ true → o ≡ Updates e → ⊥
view_writes o e a w = false≢true (sym (ap is_answer w) ∙ a)

pub are_chosen : (es : List Event) (rs : List Call) (ps : List (ℕ × ℕ)) → IsOrdered es → AreWitnesses es rs ps → AreChosen (witness_calls (calls_of es) rs ps) (numbers_of ps) (calls_of es)
unfolding witness_calls is_view
are_chosen es rs ps h w = record {
  there = λ c i. there c (In-append_cases c rs (updates_kept (calls_of es) ps) (In-from_Contains (rs ++ updates_kept (calls_of es) ps) c i));
  one = λ c e i o. one c e o (In-append_cases c rs (updates_kept (calls_of es) ps) (In-from_Contains (rs ++ updates_kept (calls_of es) ps) c i));
}
  where
    there : (c : Call) → In c rs ⊎ In c (updates_kept (calls_of es) ps) → Contains (calls_of es) c
    there c (inl i) = (w.views c (Contains-from_In rs c i)).there
    there c (inr i) = Contains-from_In (calls_of es) c (paired (calls_of es) ps c i).there

    one : (c : Call) (e : Entry) → c.operation ≡ Updates e → In c rs ⊎ In c (updates_kept (calls_of es) ps) → e.number ≡ numbers_of ps e.component
    one c e o (inl i) = absurd (view_writes c.operation e (w.views c (Contains-from_In rs c i)).completed o)
    one c e o (inr i) =
        let p = paired (calls_of es) ps c i in
        let n = numbered_to (calls_of es) p.pair.0 p.pair.1 c p.there p.is in
        let g : Updates n.entry ≡ Updates e = sym n.update.writes ∙ o in
        let f : n.entry ≡ e = cc in
        let a = w.apart p.pair (Contains-from_In ps p.pair p.listed) in
        ap (λ (z : Entry). z.number) (sym f) ∙ n.number ∙ sym a ∙ ap (numbers_of ps) (sym n.component) ∙ ap (λ (z : Entry). numbers_of ps z.component) f

pub keeps_calls : (es : List Event) (rs : List Call) (ps : List (ℕ × ℕ)) → IsOrdered es → AreWitnesses es rs ps → KeepsCalls (is_place_of (witness_calls (calls_of es) rs ps)) (numbers_of ps) es
keeps_calls es rs ps h w = ordered_choice_keeps_calls (is_place_of (witness_calls (calls_of es) rs ps)) (numbers_of ps) es h (chosen_is_choice es h (witness_calls (calls_of es) rs ps) (numbers_of ps) (are_chosen es rs ps h w))

pub ordered_witness_history : (es : List Event) (rs : List Call) (ps : List (ℕ × ℕ)) → IsOrdered es → AreWitnesses es rs ps → IsHistory (witness_of es rs ps)
unfolding witness_of kept_events
ordered_witness_history es rs ps h w = (keeps_calls es rs ps h w).history

pub witness_history : (es : List Event) (rs : List Call) (ps : List (ℕ × ℕ)) → IsHistory es → AreWitnesses es rs ps → IsHistory (witness_of es rs ps)
witness_history es rs ps h w = ordered_witness_history es rs ps (history_is_ordered es h) w

-- where the calls of the witness stand
pub view_place : (es : List Event) (rs : List Call) (ps : List (ℕ × ℕ)) (r : Call) → In r rs → is_place_of (witness_calls (calls_of es) rs ps) r.begun ≡ true
unfolding witness_calls
view_place es rs ps r i = begun_chosen (rs ++ updates_kept (calls_of es) ps) r (In-append_left r rs (updates_kept (calls_of es) ps) i)

pub update_place : (es : List Event) (rs : List Call) (ps : List (ℕ × ℕ)) → IsOrdered es → (p : ℕ × ℕ) (c : Call) → In p ps → In c (calls_of es) → is_update_numbered p.0 p.1 c ≡ true → is_place_of (witness_calls (calls_of es) rs ps) c.begun ≡ true
unfolding witness_calls
update_place es rs ps h p c i j t = begun_chosen (rs ++ updates_kept (calls_of es) ps) c (In-append_right c rs (updates_kept (calls_of es) ps) (kept_update es h ps p c i j t))

pub record ViewKept (es : List Event) (rs : List Call) (ps : List (ℕ × ℕ)) (r : Call) : Type 0 where
  pub number : ℕ
  pub view : IsViewOf (calls_of (witness_of es rs ps)) (in_witness es rs ps number r)

pub view_there : (es : List Event) (rs : List Call) (ps : List (ℕ × ℕ)) → IsOrdered es → AreWitnesses es rs ps → (r : Call) → In r rs → ViewKept es rs ps r
unfolding witness_of kept_events in_witness
view_there es rs ps h w r i =
    let v = w.views r (Contains-from_In rs r i) in
    let e = (keeps_calls es rs ps h w).each r v.there (view_place es rs ps r i) in
    record { number = e.0; view = record { there = e.1; completed = is_view_kept (is_place_of (witness_calls (calls_of es) rs ps)) (numbers_of ps) e.0 r v.completed } }

pub record UpdateKept (es : List Event) (rs : List Call) (ps : List (ℕ × ℕ)) (k : ℕ) (c : Call) : Type 0 where
  pub number : ℕ
  pub there : In (in_witness es rs ps number c) (calls_of (witness_of es rs ps))
  pub is : is_update_numbered k 1 (in_witness es rs ps number c) ≡ true

pub update_there : (es : List Event) (rs : List Call) (ps : List (ℕ × ℕ)) → IsOrdered es → AreWitnesses es rs ps → (p : ℕ × ℕ) (c : Call) → In p ps → In c (calls_of es) → is_update_numbered p.0 p.1 c ≡ true → UpdateKept es rs ps p.0 c
unfolding witness_of kept_events in_witness
update_there es rs ps h w p c i j t =
    let keeps = is_place_of (witness_calls (calls_of es) rs ps) in
    let e = (keeps_calls es rs ps h w).each c (Contains-from_In (calls_of es) c j) (update_place es rs ps h p c i j t) in
    let n = numbered_to (calls_of es) p.0 p.1 c j t in
    record {
      number = e.0;
      there = In-from_Contains (calls_of (kept_from keeps (numbers_of ps) 0 es)) (kept_call keeps (numbers_of ps) e.0 c) e.1;
      is = numbered_from p.0 1 (kept_call keeps (numbers_of ps) e.0 c) (alone n.entry) (ap (kept_operation (numbers_of ps)) n.update.writes) n.component refl;
    }

pub precedence_there : (es : List Event) (rs : List Call) (ps : List (ℕ × ℕ)) → IsOrdered es → AreWitnesses es rs ps → (a b : Call) (m n : ℕ) → In a (calls_of es) → In b (calls_of es) →
    is_place_of (witness_calls (calls_of es) rs ps) a.begun ≡ true → is_place_of (witness_calls (calls_of es) rs ps) b.begun ≡ true → precedes a b ≡ true → precedes (in_witness es rs ps m a) (in_witness es rs ps n b) ≡ true
unfolding in_witness
precedence_there es rs ps h w a b m n i j k l p = (keeps_calls es rs ps h w).precedence a b m n (Contains-from_In (calls_of es) a i) (Contains-from_In (calls_of es) b j) k l ∙ p

-- what a view shows in the witness
pub shows_one : (es : List Event) (rs : List Call) (ps : List (ℕ × ℕ)) (n : ℕ) (r : Call) (k : ℕ) → 0 < shown_number r k → numbers_of ps k ≡ shown_number r k → shown_number (in_witness es rs ps n r) k ≡ 1
unfolding in_witness
shows_one es rs ps n r k l e =
    let s = shows_positive r k l in
    let keeps = is_place_of (witness_calls (calls_of es) rs ps) in
    shown_number_at (kept_call keeps (numbers_of ps) n r) k (alone s.entry) (shown_kept keeps (numbers_of ps) n r k s.entry s.is (sym (shown_number_at r k s.entry s.is) ∙ sym e))

pub shows_none : (es : List Event) (rs : List Call) (ps : List (ℕ × ℕ)) → IsFittingHistory es → (n : ℕ) (r : Call) (k : ℕ) → IsViewOf (calls_of es) r → shown_number r k ≢ numbers_of ps k → shown_number (in_witness es rs ps n r) k ≡ 0
unfolding in_witness
shows_none es rs ps h n r k v d =
    let keeps = is_place_of (witness_calls (calls_of es) rs ps) in
    shown_number_none (kept_call keeps (numbers_of ps) n r) k (shown_left keeps (numbers_of ps) n r k (fit_views es h.fit r v.there) d)

-- an ordered history that is atomic in order passes every test
pub atomic_passes : (es : List Event) → IsOrdered es → IsAtomicInOrder (calls_of es) → PassesAll (calls_of es)
atomic_passes es h a = all_tests (calls_of es) (legal_meets (calls_of es) a.0 (are_ordered_calls es h) a.1)

-- the call that a call of the witness was
pub record OriginOf (es : List Event) (ps : List (ℕ × ℕ)) (d : Call) : Type 0 where
  pub call : Call
  pub there : In call (calls_of es)
  pub operation : d.operation ≡ kept_operation (numbers_of ps) call.operation
  pub numbered : (e : Entry) → call.operation ≡ Updates e → e.number ≡ numbers_of ps e.component

pub origin_of : (es : List Event) (rs : List Call) (ps : List (ℕ × ℕ)) → IsOrdered es → AreWitnesses es rs ps → (d : Call) → In d (calls_of (witness_of es rs ps)) → OriginOf es ps d
unfolding witness_of kept_events
origin_of es rs ps h w d i =
    let chosen = witness_calls (calls_of es) rs ps in
    let a = are_chosen es rs ps h w in
    let o = (keeps_calls es rs ps h w).only d (Contains-from_In (calls_of (kept_from (is_place_of chosen) (numbers_of ps) 0 es)) d i) in
    record {
      call = o.0;
      there = In-from_Contains (calls_of es) o.0 o.1;
      operation = ap (λ (z : Call). z.operation) o.3;
      numbered = λ e q. (chosen_is_choice es h chosen (numbers_of ps) a).one o.0 e (record { there = o.1; writes = q }) o.2;
    }

pub shown_there : (es : List Event) (rs : List Call) (ps : List (ℕ × ℕ)) (n : ℕ) (r : Call) (k : ℕ) (e : Entry) → shown r k ≡ Some e → e.number ≡ numbers_of ps k → shown (in_witness es rs ps n r) k ≡ Some (alone e)
unfolding in_witness
shown_there es rs ps n r k e h m = shown_kept (is_place_of (witness_calls (calls_of es) rs ps)) (numbers_of ps) n r k e h m

-- a view that is kept is one of the views
pub chosen_view : (es : List Event) (rs : List Call) (ps : List (ℕ × ℕ)) (r : Call) → is_view r ≡ true → In r (witness_calls (calls_of es) rs ps) → In r rs
unfolding witness_calls is_view
chosen_view es rs ps r v i = go (In-append_cases r rs (updates_kept (calls_of es) ps) i)
  where
    go : In r rs ⊎ In r (updates_kept (calls_of es) ps) → In r rs
    go (inl j) = j
    go (inr j) =
        let p = paired (calls_of es) ps r j in
        let n = numbered_to (calls_of es) p.pair.0 p.pair.1 r p.there p.is in
        absurd (view_writes r.operation n.entry v n.update.writes)
