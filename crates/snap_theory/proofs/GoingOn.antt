-- Two histories are one where the updates of the later one go on.
use Rattle.std.proofs.Common.{◌≡◌, ◌⊎◌, ℕ, suc, ◌%◌, ◌<◌, List, [], ◌∷◌, ◌++◌, append_assoc, length, Option, refl, sym, ap, ◌∙◌, subst, inl, inr, arith}
use Rattle.std.specs.Prelude.{◌==◌}
use Rattle.std.specs.List.{Contains, count_by}
use Rattle.std.proofs.lemmas.List.{map-append}
use Rattle.std.proofs.lemmas.List.Elements.{filter-append}
use Rattle.snap_core.specs.declared.entry.Entry.{Entry}
use Rattle.snap_core.specs.declared.event.Event.{Event}
use Rattle.snap_core.specs.declared.event.Event.TheVariants.{BeginUpdate, BeginView, EndUpdate, EndView}
use Rattle.snap_core.specs.Entries.{number_in}
use Rattle.snap_core.specs.Events.{process_of, IsBegin, Ends, TakeTurns, events_of, IsWellFormed, begins_update_of, IsSingleWriter, IsNumbered, IsHistory}
use Rattle.snap_core.proofs.Lists.{In, In-from_Contains, Contains-from_In, In-append_left, In-append_right, In-append_cases, around}
use Rattle.snap_core.proofs.Begun.{count-append}
use Rattle.snap_core.proofs.Members.{In-map}
use Rattle.snap_theory.specs.Windows.{IsQuiet, left_by}
use Rattle.snap_theory.specs.Renumbered.{renumbered_entry, renumbered_event, renumbered}
use Rattle.snap_theory.specs.WindowLaws.{GoesOn, HistoriesJoin}
use Rattle.snap_core.proofs.Ordered.{history_is_ordered}
use Rattle.snap_core.proofs.OrderedPushes.{is_ordered_by}
use Rattle.snap_core.specs.Bounded.{IsHistoryBy}
use Rattle.snap_core.specs.Ordered.{IsOrdered}
use Rattle.snap_core.specs.declared.writers.Writers.{Writers}
use Rattle.snap_core.specs.declared.writers.Writers.TheVariants.{One, Many}
use Rattle.snap_theory.proofs.EndOrders.{both_in_order}
use Rattle.snap_theory.proofs.Sides.{history_front, even_quiet, events_renumbered, left_counts, count_renumbered, sides_are_histories}

-- turns of both sides

turns_join : (xs ys : List Event) → TakeTurns xs → length xs % 2 ≡ 0 → TakeTurns ys → TakeTurns (xs ++ ys)
turns_join [] ys t even u = u
turns_join (b ∷ []) ys t even u = absurd (omega (arith, even))
turns_join (b ∷ e ∷ xs) ys t even u = (t.0, turns_join xs ys t.1 (omega (arith, even)) u)

begin_before : (left : ℕ → Option Entry) (x : Event) → IsBegin (renumbered_event left x) → IsBegin x
begin_before left (BeginUpdate p e) h = tt
begin_before left (BeginView p) h = tt
begin_before left (EndUpdate p) h = h
begin_before left (EndView p s) h = h

ends_before : (left : ℕ → Option Entry) (x y : Event) → Ends (renumbered_event left x) (renumbered_event left y) → Ends x y
ends_before left (BeginUpdate p e) (EndUpdate q) h = tt
ends_before left (BeginView p) (EndView q s) h = tt
ends_before left (BeginUpdate p e) (BeginUpdate q d) h = absurd h
ends_before left (BeginUpdate p e) (BeginView q) h = absurd h
ends_before left (BeginUpdate p e) (EndView q s) h = absurd h
ends_before left (BeginView p) (BeginUpdate q d) h = absurd h
ends_before left (BeginView p) (BeginView q) h = absurd h
ends_before left (BeginView p) (EndUpdate q) h = absurd h
ends_before left (EndUpdate p) y h = absurd h
ends_before left (EndView p s) y h = absurd h

turns_before : (left : ℕ → Option Entry) (es : List Event) → TakeTurns (renumbered left es) → TakeTurns es
turns_before left [] t = tt
turns_before left (b ∷ []) t = begin_before left b t
turns_before left (b ∷ e ∷ es) t = (ends_before left b e t.0, turns_before left es t.1)

pub well_formed_before : (left : ℕ → Option Entry) (es : List Event) → IsWellFormed (renumbered left es) → IsWellFormed es
well_formed_before left es w p = turns_before left (events_of p es) (subst TakeTurns (events_renumbered left p es) (w p))

well_formed : (before after : List Event) → IsQuiet before → IsOrdered before → IsOrdered (renumbered (left_by before) after) → IsWellFormed (before ++ after)
well_formed before after quiet g h p =
    let even = even_quiet before quiet p (g.well_formed p) in
    let later = well_formed_before (left_by before) after h.well_formed p in
    subst TakeTurns (sym (filter-append (λ e. process_of e == p) before after)) (turns_join (events_of p before) (events_of p after) (g.well_formed p) even later)

-- the writers of both sides

renumbered_update : (left : ℕ → Option Entry) (after : List Event) (p : ℕ) (e : Entry) → In (BeginUpdate p e) after → Contains (renumbered left after) (BeginUpdate p (renumbered_entry left e))
renumbered_update left after p e i = Contains-from_In _ _ (In-map (renumbered_event left) after (BeginUpdate p e) i)

single_writer : (before after : List Event) → IsHistory before → IsHistory (renumbered (left_by before) after) → GoesOn One before after → IsSingleWriter (before ++ after)
single_writer before after g h on p q d e i j same = go (In-append_cases _ before after (In-from_Contains _ _ i)) (In-append_cases _ before after (In-from_Contains _ _ j))
  where
    go : In (BeginUpdate p d) before ⊎ In (BeginUpdate p d) after → In (BeginUpdate q e) before ⊎ In (BeginUpdate q e) after → p ≡ q
    go (inl a) (inl b) = g.single_writer p q d e (Contains-from_In _ _ a) (Contains-from_In _ _ b) same
    go (inl a) (inr b) = on.process refl p q d e (Contains-from_In _ _ a) (Contains-from_In _ _ b) same
    go (inr a) (inl b) = sym (on.process refl q p e d (Contains-from_In _ _ b) (Contains-from_In _ _ a) (sym same))
    go (inr a) (inr b) = h.single_writer p q (renumbered_entry (left_by before) d) (renumbered_entry (left_by before) e) (renumbered_update (left_by before) after p d a) (renumbered_update (left_by before) after q e b) same

-- on which side an event of both stands

data Side (before after front : List Event) (x : Event) (back : List Event) : Type 0 where
  earlier : (mid : List Event) → before ≡ front ++ x ∷ mid → Side before after front x back
  later : (mid : List Event) → front ≡ before ++ mid → after ≡ mid ++ x ∷ back → Side before after front x back

side : (before after front : List Event) (x : Event) (back : List Event) → before ++ after ≡ front ++ x ∷ back → Side before after front x back
side [] after front x back s = later front refl s
side (y ∷ before) after [] x back s = let same : y ≡ x = cc in earlier before (ap (λ z. z ∷ before) same)
side (y ∷ before) after (z ∷ front) x back s = go (side before after front x back (cc))
  where
    same : y ≡ z
    same = cc

    go : Side before after front x back → Side (y ∷ before) after (z ∷ front) x back
    go (earlier mid q) = earlier mid (ap (λ w. y ∷ w) q ∙ ap (λ w. w ∷ (front ++ x ∷ mid)) same)
    go (later mid q r) = later mid (ap (λ w. z ∷ w) q ∙ ap (λ w. w ∷ (before ++ mid)) (sym same)) r

-- the numbers of both sides

numbered : (writers : Writers) (before after : List Event) → IsOrdered before → IsOrdered (renumbered (left_by before) after) → GoesOn writers before after → IsNumbered (before ++ after)
numbered writers before after g h on front back p e s = go (side before after front (BeginUpdate p e) back s)
  where
    left : ℕ → Option Entry
    left = left_by before

    k : ℕ
    k = e.component

    go : Side before after front (BeginUpdate p e) back → e.number ≡ suc (count_by (begins_update_of k) front)
    go (earlier mid q) = g.numbered front mid p e q
    go (later mid q r) =
        let moved : renumbered left after ≡ renumbered left mid ++ BeginUpdate p (renumbered_entry left e) ∷ renumbered left back = ap (renumbered left) r ∙ map-append (renumbered_event left) mid (BeginUpdate p e ∷ back) in
        let there : Contains after (BeginUpdate p e) = Contains-from_In _ _ (subst (In (BeginUpdate p e)) (sym r) (In-append_right _ mid _ (inl refl))) in
        omega (
          arith,
          h.numbered (renumbered left mid) (renumbered left back) p (renumbered_entry left e) moved,
          on.numbers p e there,
          left_counts before g.numbered k,
          count_renumbered left k mid,
          count-append k before mid,
          ap (count_by (begins_update_of k)) q,
        )

-- later updates of a history go on

goes_on : (writers : Writers) (before after : List Event) → IsHistoryBy writers (before ++ after) → GoesOn writers before after
goes_on writers before after h = record { numbers = numbers; process = process writers h }
  where
    ordered : IsOrdered (before ++ after)
    ordered = is_ordered_by writers (before ++ after) h

    numbers : (p : ℕ) (e : Entry) → Contains after (BeginUpdate p e) → number_in (left_by before e.component) < e.number
    numbers p e i =
        let a = around (BeginUpdate p e) after (In-from_Contains _ _ i) in
        let split : before ++ after ≡ (before ++ a.before) ++ BeginUpdate p e ∷ a.after = ap (λ z. before ++ z) a.same ∙ sym (append_assoc before a.before (BeginUpdate p e ∷ a.after)) in
        omega (arith, ordered.numbered (before ++ a.before) a.after p e split, count-append e.component before a.before, left_counts before (history_front Many before after ordered).numbered e.component)

    process : (writers : Writers) → IsHistoryBy writers (before ++ after) → writers ≡ One → (p q : ℕ) (d e : Entry) → Contains before (BeginUpdate p d) → Contains after (BeginUpdate q e) → d.component ≡ e.component → p ≡ q
    process One h one p q d e i j same =
        h.single_writer p q d e
        (Contains-from_In _ _ (In-append_left _ before after (In-from_Contains _ _ i)))
        (Contains-from_In _ _ (In-append_right _ before after (In-from_Contains _ _ j)))
        same
    process Many h one p q d e i j same = absurd (cc one)

join : (writers : Writers) (before after : List Event) → IsQuiet before → IsHistoryBy writers before → IsHistoryBy writers (renumbered (left_by before) after) → GoesOn writers before after → IsHistoryBy writers (before ++ after)
join One before after quiet g h on =
    let earlier = history_is_ordered before g in
    let later = history_is_ordered (renumbered (left_by before) after) h in
    record {
      well_formed = well_formed before after quiet earlier later;
      single_writer = single_writer before after g h on;
      numbered = numbered One before after earlier later on;
    }
join Many before after quiet g h on =
    let numbered = numbered Many before after g h on in
    record {
      well_formed = well_formed before after quiet g h;
      numbered = numbered;
      in_order = both_in_order before after quiet g.in_order h.in_order on.numbers numbered;
    }

pub histories_join : HistoriesJoin
histories_join writers before after quiet = (
  λ h. let s = sides_are_histories writers before after h quiet in (s.0, s.1, goes_on writers before after h),
  λ s. join writers before after quiet s.0 s.1 s.2,
)
