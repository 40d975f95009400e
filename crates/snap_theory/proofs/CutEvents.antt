-- The events of cut calls.
use Rattle.std.proofs.Common.{◌≡◌, ◌⊎◌, ℕ, ◌<◌, true, List, Option, Some, None, sym, ap, ◌∙◌, subst, inl, inr, arith}
use Rattle.std.specs.List.{Contains}
use Rattle.snap_core.specs.declared.entry.Entry.{Entry}
use Rattle.snap_core.specs.Calls.{Call, Updates, Views, calls_of, is_answer, is_view, precedes}
use Rattle.snap_core.specs.Regular.{IsUpdateOf}
use Rattle.snap_core.proofs.Lists.{In, In-from_Contains, Contains-from_In}
use Rattle.snap_core.proofs.Members.{In-from_map}
use Rattle.snap_theory.specs.CutEvents.{LeavesSome, CutEventsKeepAtomic}
use Rattle.snap_theory.specs.Intervals.{cut, cut_calls}
use Rattle.snap_theory.specs.Telling.{AreSequential}
use Rattle.snap_theory.proofs.CutCalls.{cut_update, cutting_keeps_atomic, kind, own_up, precedes_still, same_operation}
use Rattle.snap_theory.proofs.Intervals.{earliest, latest}
use Rattle.snap_theory.proofs.Timed.{AreTimed, timed}
use Rattle.snap_theory.proofs.ToldOrders.{telling_keeps_atomic}

-- cut calls

module _ (calls : List Call) (placed : AreTimed calls) (some : LeavesSome calls) where
  record Was (c : Call) : Type 0 where
    it : Call
    there : In it calls
    is : cut calls it ≡ c

  was : (c : Call) → Contains (cut_calls calls) c → Was c
  was c i = let o = In-from_map (cut calls) calls c (In-from_Contains _ _ i) in record { it = o.it; there = o.there; is = o.is }

  process_same : (c : Call) → (cut calls c).process ≡ c.process
  process_same c = elim (kind calls c) [ inl u ↦ ap (λ (z : Call). z.process) (cut_update calls c u.0 u.1) | inr same ↦ ap (λ (z : Call). z.process) same ]

  update_there : (c : Call) (e : Entry) → In c calls → c.operation ≡ Updates e → IsUpdateOf calls c e
  update_there c e i w = record { there = Contains-from_In _ _ i; writes = w }

  rises : (c : Call) (place : ℕ) → In c calls → (cut calls c).ended ≡ Some place → (cut calls c).begun < place
  rises c place i h = elim (kind calls c) [
    | inl u ↦
        let is = cut_update calls c u.0 u.1 in
        let l = some c u.0 place (update_there c u.0 i u.1) (sym (ap (λ (z : Call). z.ended) is) ∙ h) in
        omega (arith, l, ap (λ (z : Call). z.begun) is)
    | inr same ↦
        let l = placed.made.rises c place (Contains-from_In _ _ i) (sym (ap (λ (z : Call). z.ended) same) ∙ h) in
        omega (arith, l, ap (λ (z : Call). z.begun) same)
  ]

  -- a cut call begins where some call begins, and ends where some call ends
  begin_was : (c : Call) → In c calls → (b : Call) × In b calls × (b.begun ≡ (cut calls c).begun)
  begin_was c i = elim (kind calls c) [
    | inl u ↦ let l = latest calls u.0 c i (own_up c u.0 u.1) in (l.call, l.there, l.begun ∙ sym (ap (λ (z : Call). z.begun) (cut_update calls c u.0 u.1)))
    | inr same ↦ (c, i, sym (ap (λ (z : Call). z.begun) same))
  ]

  end_was : (c : Call) (place : ℕ) → In c calls → (cut calls c).ended ≡ Some place → (b : Call) × In b calls × (b.ended ≡ Some place)
  end_was c place i h = elim (kind calls c) [
    | inl u ↦ let l = earliest calls u.0 place (sym (ap (λ (z : Call). z.ended) (cut_update calls c u.0 u.1)) ∙ h) in (l.call, l.there, l.ended)
    | inr same ↦ (c, i, sym (ap (λ (z : Call). z.ended) same) ∙ h)
  ]

  -- the end of a view stays
  view_end : (c : Call) (answer : Option (List Entry)) → c.operation ≡ Views answer → (cut calls c).ended ≡ c.ended
  view_end c answer w = elim (kind calls c) [
    | inl u ↦ absurd (let q : Views answer ≡ Updates u.0 = sym w ∙ u.1 in cc)
    | inr same ↦ ap (λ (z : Call). z.ended) same
  ]

  pub cut_sequential : AreSequential (cut_calls calls)
  unfolding is_view
  cut_sequential = record {
    rises = λ c place i h. let o = was c i in subst (λ z. z.begun < place) o.is (rises o.it place o.there (ap (λ (z : Call). z.ended) o.is ∙ h));
    turns = turns;
    apart = λ a b place i j h s.
        let o = was a i in
        let q = was b j in
        let end = end_was o.it place o.there (ap (λ (z : Call). z.ended) o.is ∙ h) in
        let begin = begin_was q.it q.there in
        placed.apart end.0 begin.0 place (Contains-from_In _ _ end.1) (Contains-from_In _ _ begin.1) end.2 (begin.2 ∙ ap (λ (z : Call). z.begun) q.is ∙ s);
    answered = λ c shown i w.
        let o = was c i in
        let view = sym (same_operation calls o.it) ∙ ap (λ (z : Call). z.operation) o.is ∙ w in
        let e = placed.made.answered o.it (record { there = Contains-from_In _ _ o.there; completed = ap is_answer view }) in
        (e.place, sym (ap (λ (z : Call). z.ended) o.is) ∙ view_end o.it (Some shown) view ∙ e.ends);
    unanswered = λ c i w.
        let o = was c i in
        let view = sym (same_operation calls o.it) ∙ ap (λ (z : Call). z.operation) o.is ∙ w in
        sym (ap (λ (z : Call). z.ended) o.is) ∙ view_end o.it None view ∙ placed.unanswered o.it (Contains-from_In _ _ o.there) view;
  }
    where
      turns : (a b : Call) → Contains (cut_calls calls) a → Contains (cut_calls calls) b → a.process ≡ b.process → (a ≡ b) ⊎ ((precedes a b ≡ true) ⊎ (precedes b a ≡ true))
      turns a b i j same =
          let o = was a i in
          let q = was b j in
          let p = sym (process_same o.it) ∙ ap (λ (z : Call). z.process) o.is ∙ same ∙ sym (ap (λ (z : Call). z.process) q.is) ∙ process_same q.it in
          elim (placed.turns o.it q.it (Contains-from_In _ _ o.there) (Contains-from_In _ _ q.there) p) [
            | inl one ↦ inl (sym o.is ∙ ap (cut calls) one ∙ q.is)
            | inr (inl h) ↦ inr (inl (ap (precedes a) (sym q.is) ∙ ap (λ z. precedes z (cut calls q.it)) (sym o.is) ∙ precedes_still calls o.it q.it o.there q.there h))
            | inr (inr h) ↦ inr (inr (ap (precedes b) (sym o.is) ∙ ap (λ z. precedes z (cut calls o.it)) (sym q.is) ∙ precedes_still calls q.it o.it q.there o.there h))
          ]

pub cut_events_keep_atomic : CutEventsKeepAtomic
cut_events_keep_atomic events told wf versions some tells =
    let law = cutting_keeps_atomic events versions in
    let same = telling_keeps_atomic (cut_calls (calls_of events)) told (cut_sequential (calls_of events) (timed events wf) some) tells in
    (λ a. same.0 (law.0 a), λ a. law.1 (same.1 a))
