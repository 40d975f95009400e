-- The witness of a regular history is regular, where no view shows more of a component than the update that is kept.
use Rattle.std.proofs.Common.{◌≡◌, ℕ, ◌<◌, ◌≤◌, Bool, true, false, cond, List, [], ◌∷◌, Option, Some, None, refl, sym, ap, ◌∙◌, subst, inl, inr, arith}
use Rattle.std.specs.Prelude.{◌==◌}
use Rattle.std.specs.List.{Contains}
use Rattle.std.specs.Option.{option_map}
use Rattle.std.proofs.lemmas.Bool.{eqb-true, false≢true, false_from_ne_true, ltb-true, lt-ltb, cases_eq}
use Rattle.snap_core.specs.declared.entry.Entry.{Entry}
use Rattle.snap_core.specs.declared.event.Event.{Event}
use Rattle.snap_core.specs.Calls.{Call, Operation, Updates, Views, calls_of, precedes, is_view, is_answer, shown, shown_number}
use Rattle.snap_core.specs.Regular.{IsViewOf, IsUpdateOf, IsBegunBeforeEnd, IsRegular}
use Rattle.snap_core.proofs.Lists.{In, In-from_Contains}
use Rattle.snap_core.proofs.Facts.{shows_positive, shown_number_at, shown_in}
use Rattle.snap_theory.proofs.Local.{numbered_from}
use Rattle.snap_theory.specs.Kept.{alone, rank, is_place_of, kept_call, kept_events, kept_from, kept_operation}
use Rattle.snap_theory.specs.Choices.{KeepsCalls, AreChosen}
use Rattle.snap_theory.specs.Witness.{numbers_of, witness_calls, witness_of, AreWitnesses}
use Rattle.snap_theory.proofs.Kept.{rank_order}
use Rattle.snap_theory.proofs.Chosen.{chosen_begun, chosen_is_choice}
use Rattle.snap_theory.proofs.Shown.{shown_kept, shown_left, shown_nothing}
use Rattle.snap_theory.proofs.Pairs.{Covers}
use Rattle.snap_theory.proofs.Witnesses.{keeps_calls, are_chosen, update_place, chosen_view}
use Rattle.snap_theory.proofs.Components.{fit_views}
use Rattle.snap_core.proofs.Ordered.{IsFittingHistory, are_ordered_calls}

-- a view of the witness was a view
view_was : (numbers : ℕ → ℕ) (o : Operation) → is_answer (kept_operation numbers o) ≡ true → is_answer o ≡ true
view_was numbers (Updates e) h = h
view_was numbers (Views None) h = h
view_was numbers (Views (Some s)) h = refl

-- an update of the witness was an update
update_was : (numbers : ℕ → ℕ) (o : Operation) (e : Entry) → Updates e ≡ kept_operation numbers o → (d : Entry) × (o ≡ Updates d) × (e ≡ alone d)
update_was numbers (Updates d) e h = let g : e ≡ alone d = cc in (d, refl, g)
update_was numbers (Views a) e h = absurd (cc)

listed_pair : (ps : List (ℕ × ℕ)) (k : ℕ) → 0 < numbers_of ps k → In (k, numbers_of ps k) ps
listed_pair [] k l = absurd (omega arith)
listed_pair (p ∷ ps) k l = go (p.0 == k) refl l (listed_pair ps k)
  where
    at : (b : Bool) → (p.0 == k) ≡ b → numbers_of (p ∷ ps) k ≡ cond b p.1 (numbers_of ps k)
    at b t = ap (λ z. cond z p.1 (numbers_of ps k)) t

    go : (b : Bool) → (p.0 == k) ≡ b → 0 < numbers_of (p ∷ ps) k → (0 < numbers_of ps k → In (k, numbers_of ps k) ps) → In (k, numbers_of (p ∷ ps) k) (p ∷ ps)
    go true t m more = inl (let e : p.0 ≡ k = eqb-true _ _ t in ap (λ z. (z, p.1)) e ∙ ap (λ z. (k, z)) (sym (at true t)))
    go false t m more = inr (subst (λ z. In (k, z) ps) (sym (at false t)) (more (subst (λ z. 0 < z) (at false t) m)))

pub regular_kept : (es : List Event) → IsFittingHistory es → (rs : List Call) (ps : List (ℕ × ℕ)) → AreWitnesses es rs ps → Covers rs ps → IsRegular (calls_of es) → IsRegular (calls_of (witness_of es rs ps))
unfolding witness_of kept_events is_view
regular_kept es h rs ps w covers g = record { not_old = not_old; not_early = not_early }
  where
    keeps : ℕ → Bool
    keeps = is_place_of (witness_calls (calls_of es) rs ps)

    kc : KeepsCalls keeps (numbers_of ps) es
    kc = keeps_calls es rs ps h.ordered w

    W : List Call
    W = calls_of (kept_from keeps (numbers_of ps) 0 es)

    chosen : AreChosen (witness_calls (calls_of es) rs ps) (numbers_of ps) (calls_of es)
    chosen = are_chosen es rs ps h.ordered w

    not_old : (r c : Call) (e : Entry) → IsViewOf W r → IsUpdateOf W c e → shown_number r e.component < e.number → precedes c r ≡ false
    not_old r c e v u l = false_from_ne_true _ wrong
      where
        wrong : precedes c r ≡ true → ⊥
        wrong p =
            let a = kc.only r v.there in
            let b = kc.only c u.there in
            let d = update_was (numbers_of ps) b.0.operation e (sym u.writes ∙ ap (λ (z : Call). z.operation) b.3) in
            let av : IsViewOf (calls_of es) a.0 = record { there = a.1; completed = view_was (numbers_of ps) a.0.operation (ap is_answer (ap (λ (z : Call). z.operation) (sym a.3)) ∙ v.completed) } in
            let bu : IsUpdateOf (calls_of es) b.0 d.0 = record { there = b.1; writes = d.1 } in
            let q : precedes b.0 a.0 ≡ true = sym (kc.precedence b.0 a.0 c.number r.number b.1 a.1 b.2 a.2) ∙ ap (λ z. precedes z (kept_call keeps (numbers_of ps) r.number a.0)) (sym b.3) ∙ ap (precedes c) (sym a.3) ∙ p in
            let n : d.0.number ≡ numbers_of ps d.0.component = (chosen_is_choice es h.ordered (witness_calls (calls_of es) rs ps) (numbers_of ps) chosen).one b.0 d.0 bu b.2 in
            let t = (are_ordered_calls es h.ordered).positive b.0 d.0 bu in
            let m : shown_number a.0 d.0.component ≤ numbers_of ps d.0.component = covers a.0 (d.0.component, numbers_of ps d.0.component) (chosen_view es rs ps a.0 av.completed (chosen_begun es h.ordered (witness_calls (calls_of es) rs ps) (numbers_of ps) chosen a.0 a.1 a.2)) (listed_pair ps d.0.component (omega (arith, t, n))) in
            elim (cases_eq (shown_number a.0 d.0.component) (numbers_of ps d.0.component)) [
              | inl same ↦ same_number a.0 d.0 same (omega (arith, t, n)) (subst (λ z. shown_number z d.0.component < 1) a.3 (subst (λ (z : Entry). shown_number r z.component < z.number) d.2 l))
              | inr other ↦ false≢true (sym (g.not_old a.0 b.0 d.0 av bu (omega (arith, m, other, n))) ∙ q)
            ]
          where
            same_number : (x : Call) (d : Entry) → shown_number x d.component ≡ numbers_of ps d.component → 0 < numbers_of ps d.component → shown_number (kept_call keeps (numbers_of ps) r.number x) d.component < 1 → ⊥
            same_number x d s l m =
                let y = shows_positive x d.component (omega (arith, s, l)) in
                let z = shown_number_at (kept_call keeps (numbers_of ps) r.number x) d.component (alone y.entry) (shown_kept keeps (numbers_of ps) r.number x d.component y.entry y.is (sym (shown_number_at x d.component y.entry y.is) ∙ s)) in
                omega (arith, z, m)

    not_early : (r : Call) (k : ℕ) (e : Entry) → IsViewOf W r → shown r k ≡ Some e → (c : Call) × IsUpdateOf W c e × IsBegunBeforeEnd c r
    not_early r k e v s = go (shown a.0 k) refl
      where
        a : (c : Call) × Contains (calls_of es) c × (keeps c.begun ≡ true) × (r ≡ kept_call keeps (numbers_of ps) r.number c)
        a = kc.only r v.there

        av : IsViewOf (calls_of es) a.0
        av = record { there = a.1; completed = view_was (numbers_of ps) a.0.operation (ap is_answer (ap (λ (z : Call). z.operation) (sym a.3)) ∙ v.completed) }

        shows : shown (kept_call keeps (numbers_of ps) r.number a.0) k ≡ Some e
        shows = ap (λ z. shown z k) (sym a.3) ∙ s

        go : (o : Option Entry) → shown a.0 k ≡ o → (c : Call) × IsUpdateOf W c e × IsBegunBeforeEnd c r
        go None t = absurd (let q : None ≡ Some e = sym (shown_nothing keeps (numbers_of ps) r.number a.0 k (fit_views es h.fit a.0 av.there) t) ∙ shows in cc)
        go (Some d) t = elim (cases_eq (shown_number a.0 k) (numbers_of ps k)) [
          | inl same ↦ found d t same
          | inr other ↦ absurd (let q : None ≡ Some e = sym (shown_left keeps (numbers_of ps) r.number a.0 k (fit_views es h.fit a.0 av.there) other) ∙ shows in cc)
        ]
          where
            found : (d : Entry) → shown a.0 k ≡ Some d → shown_number a.0 k ≡ numbers_of ps k → (c : Call) × IsUpdateOf W c e × IsBegunBeforeEnd c r
            found d t same =
                let n : d.number ≡ numbers_of ps k = sym (shown_number_at a.0 k d t) ∙ same in
                let q : Some (alone d) ≡ Some e = sym (shown_kept keeps (numbers_of ps) r.number a.0 k d t n) ∙ shows in
                let f : alone d ≡ e = cc in
                let x = g.not_early a.0 k d av t in
                let p = (are_ordered_calls es h.ordered).positive x.0 d x.1 in
                let i = In-from_Contains (calls_of es) x.0 x.1.there in
                let kept : keeps x.0.begun ≡ true = update_place es rs ps h.ordered (k, numbers_of ps k) x.0 (listed_pair ps k (omega (arith, p, n))) i (numbered_from k (numbers_of ps k) x.0 d x.1.writes (shown_in a.0 k d t).1 n) in
                let y = kc.each x.0 x.1.there kept in (
                  kept_call keeps (numbers_of ps) y.0 x.0,
                  record { there = y.1; writes = ap (kept_operation (numbers_of ps)) x.1.writes ∙ ap Updates f },
                  record {
                    place = rank keeps x.2.place;
                    ends = ap (λ (z : Call). z.ended) a.3 ∙ ap (option_map (rank keeps)) x.2.ends;
                    before = ltb-true _ _ (rank_order keeps x.0.begun x.2.place kept ∙ lt-ltb _ _ x.2.before);
                  },
                )
