-- A history that goes on after a quiet moment, by one event.
use Rattle.std.proofs.Common.{◌≡◌, ◌⊎◌, ℕ, suc, ◌-◌, ◌<◌, Bool, true, false, List, [], ◌∷◌, ◌++◌, Option, refl, sym, ◌∙◌, inl, inr, subst, arith}
use Rattle.std.specs.List.{Contains, count_by}
use Rattle.std.proofs.lemmas.Bool.{eqb-true, eq-eqb, not-false, false≢true, false_from_ne_true, not_from_false, and_from}
use Rattle.std.specs.Prelude.{◌==◌}
use Rattle.std.proofs.lemmas.List.{map-append}
use Rattle.snap_core.specs.declared.entry.Entry.{Entry}
use Rattle.snap_core.specs.declared.event.Event.{Event}
use Rattle.snap_core.specs.declared.event.Event.TheVariants.{BeginUpdate, BeginView, EndUpdate, EndView}
use Rattle.snap_core.specs.Entries.{number_in}
use Rattle.snap_core.specs.Bounded.{IsHistoryBy}
use Rattle.snap_core.specs.Events.{begins_update_of}
use Rattle.snap_core.specs.Refusals.{IsAcceptedBy, breaks_writer, has_other_writer, is_by_other}
use Rattle.snap_core.specs.declared.writers.Writers.{Writers}
use Rattle.snap_core.specs.declared.writers.Writers.TheVariants.{One, Many}
use Rattle.snap_core.proofs.Lists.{In, In-from_Contains, Contains-from_In, In-append_right, In-append_cases, any_from}
use Rattle.snap_core.proofs.OrderedPushes.{history_by_push, history_by_back}
use Rattle.snap_theory.specs.Windows.{IsQuiet, left_by}
use Rattle.snap_theory.specs.Renumbered.{renumbered, renumbered_event}
use Rattle.snap_theory.specs.WindowLaws.{GoesOn}
use Rattle.snap_theory.proofs.GoingOn.{histories_join}
use Rattle.snap_windows.proofs.Left.{by_other}

pub renumbered_more : (left : ℕ → Option Entry) (es : List Event) (e : Event) → renumbered left (es ++ e ∷ []) ≡ renumbered left es ++ renumbered_event left e ∷ []
renumbered_more left es e = map-append (renumbered_event left) es (e ∷ [])

-- an accepted update is of a later number than what was left

later_number : (writers : Writers) (left : ℕ → Option Entry) (es : List Event) (p : ℕ) (e : Entry) → IsAcceptedBy writers es (renumbered_event left (BeginUpdate p e)) → number_in (left e.component) < e.number
later_number writers left es p e a =
    let n : e.number - number_in (left e.component) ≡ suc (count_by (begins_update_of e.component) es) = eqb-true _ _ (not-false _ a.number) in
    omega (arith, n)

other_writer : (before : List Event) (p q : ℕ) (d e : Entry) → has_other_writer before (BeginUpdate q e) ≡ false → In (BeginUpdate p d) before → d.component ≡ e.component → p ≡ q
other_writer before p q d e f i same = go (p == q) refl
  where
    go : (b : Bool) → (p == q) ≡ b → p ≡ q
    go true t = eqb-true _ _ t
    go false t = absurd (false≢true (sym f ∙ any_from (is_by_other q e.component) before (BeginUpdate p d) i (and_from _ _ (eq-eqb _ _ same) (not_from_false _ t))))

goes_on : (writers : Writers) (before since : List Event) (x : Event) → GoesOn writers before since → IsAcceptedBy writers (renumbered (left_by before) since) (renumbered_event (left_by before) x) → breaks_writer writers before x ≡ false → GoesOn writers before (since ++ x ∷ [])
goes_on writers before since x g a f = record { numbers = numbers; process = process }
  where
    numbers : (p : ℕ) (e : Entry) → Contains (since ++ x ∷ []) (BeginUpdate p e) → number_in (left_by before e.component) < e.number
    numbers p e i = go (In-append_cases _ since (x ∷ []) (In-from_Contains _ _ i))
      where
        go : In (BeginUpdate p e) since ⊎ In (BeginUpdate p e) (x ∷ []) → number_in (left_by before e.component) < e.number
        go (inl j) = g.numbers p e (Contains-from_In _ _ j)
        go (inr (inl s)) = later_number writers (left_by before) (renumbered (left_by before) since) p e (subst (λ z. IsAcceptedBy writers (renumbered (left_by before) since) (renumbered_event (left_by before) z)) s a)
        go (inr (inr z)) = absurd z

    process : writers ≡ One → (p q : ℕ) (d e : Entry) → Contains before (BeginUpdate p d) → Contains (since ++ x ∷ []) (BeginUpdate q e) → d.component ≡ e.component → p ≡ q
    process one p q d e i j same = go (In-append_cases _ since (x ∷ []) (In-from_Contains _ _ j))
      where
        go : In (BeginUpdate q e) since ⊎ In (BeginUpdate q e) (x ∷ []) → p ≡ q
        go (inl k) = g.process one p q d e i (Contains-from_In _ _ k) same
        go (inr (inl s)) = other_writer before p q d e (subst (λ z. has_other_writer before z ≡ false) s (subst (λ z. breaks_writer z before x ≡ false) one f)) (In-from_Contains _ _ i) same
        go (inr (inr z)) = absurd z

-- the history with an event more, which each side accepts
pub taken_more : (writers : Writers) (before since : List Event) (x : Event) → IsHistoryBy writers (before ++ since) → IsQuiet before → IsAcceptedBy writers (renumbered (left_by before) since) (renumbered_event (left_by before) x) → breaks_writer writers before x ≡ false →
    IsHistoryBy writers (before ++ (since ++ x ∷ []))
taken_more writers before since x h quiet a f =
    let left = left_by before in
    let sides = (histories_join writers before since quiet).0 h in
    let later = subst (IsHistoryBy writers) (sym (renumbered_more left since x)) (history_by_push writers (renumbered left since) (renumbered_event left x) sides.1 a) in
    (histories_join writers before (since ++ x ∷ []) quiet).1 (sides.0, later, goes_on writers before since x sides.2 a f)

-- and back
pub accepted_back : (writers : Writers) (before since : List Event) (x : Event) → IsQuiet before → IsHistoryBy writers (before ++ (since ++ x ∷ [])) → IsAcceptedBy writers (renumbered (left_by before) since) (renumbered_event (left_by before) x) × (breaks_writer writers before x ≡ false)
accepted_back writers before since x quiet h = (
  (history_by_back writers (renumbered left since) (renumbered_event left x) (subst (IsHistoryBy writers) (renumbered_more left since x) sides.1)).1,
  by writers sides.2,
)
  where
    left : ℕ → Option Entry
    left = left_by before

    sides : IsHistoryBy writers before × IsHistoryBy writers (renumbered left (since ++ x ∷ [])) × GoesOn writers before (since ++ x ∷ [])
    sides = (histories_join writers before (since ++ x ∷ []) quiet).0 h

    other : GoesOn One before (since ++ x ∷ []) → (y : Event) → x ≡ y → has_other_writer before y ≡ false
    other on (BeginUpdate q e) s = false_from_ne_true _ (λ t.
        let o = by_other q e.component before t in
        o.4 (on.process refl o.0 q o.1 e (Contains-from_In _ _ o.2) (Contains-from_In _ _ (In-append_right (BeginUpdate q e) since (x ∷ []) (inl s))) o.3))
    other on (BeginView q) s = refl
    other on (EndUpdate q) s = refl
    other on (EndView q z) s = refl

    by : (writers : Writers) → GoesOn writers before (since ++ x ∷ []) → breaks_writer writers before x ≡ false
    by One on = other on x refl
    by Many on = refl
