-- On both sides of a quiet moment, updates of a component end in the order of their numbers.
use Rattle.std.proofs.Common.{◌≡◌, ℕ, ◌+◌, ◌-◌, ◌<◌, true, List, ◌∷◌, ◌++◌, length, Option, Some, None, refl, sym, ap, ◌∙◌, subst, inl, inr, arith}
use Rattle.std.specs.List.{Contains}
use Rattle.std.proofs.lemmas.Bool.{lt-ltb}
use Rattle.snap_core.specs.declared.entry.Entry.{Entry}
use Rattle.snap_core.specs.declared.event.Event.{Event}
use Rattle.snap_core.specs.declared.event.Event.TheVariants.{BeginUpdate}
use Rattle.snap_core.specs.Entries.{number_in}
use Rattle.snap_core.specs.Events.{process_of, IsNumbered}
use Rattle.snap_core.specs.Calls.{Call, calls_of, is_before}
use Rattle.snap_core.specs.Ordered.{EndInOrder}
use Rattle.snap_core.specs.Regular.{IsUpdateOf}
use Rattle.snap_core.proofs.Begun.{begins, update_event}
use Rattle.snap_core.proofs.Ends.{begun_of, rises_part}
use Rattle.snap_core.proofs.Facts.{precedes_to}
use Rattle.snap_core.proofs.Histories.{begins_part}
use Rattle.snap_core.proofs.Lists.{In, In-from_Contains, Contains-from_In, In-append_right, In-append_cases}
use Rattle.snap_core.proofs.Members.{In-map, In-from_map}
use Rattle.snap_theory.specs.Renumbered.{renumbered, renumbered_entry}
use Rattle.snap_theory.specs.Windows.{IsQuiet, left_by}
use Rattle.snap_theory.proofs.Joined.{back_moved}
use Rattle.snap_theory.proofs.Moved.{moved, shifted, before_moved}
use Rattle.snap_theory.proofs.Renumbered.{call_by, operation_by, calls_by, update_by}
use Rattle.snap_theory.proofs.Splits.{across, back_of, calls_split}

-- an update of the renumbered events, as it stands in the whole
record InWhole (before after : List Event) (c : Call) (e : Entry) : Type 0 where
  call : Call
  entry : Entry
  update : IsUpdateOf (calls_of (before ++ after)) (moved (begins before) (length before) call) entry
  is : renumbered_entry (left_by before) entry ≡ e
  ended : call.ended ≡ c.ended

in_whole : (before after : List Event) → IsQuiet before → (c : Call) (e : Entry) → IsUpdateOf (calls_of (renumbered (left_by before) after)) c e → InWhole before after c e
in_whole before after quiet c e u =
    let left = left_by before in
    let move = moved (begins before) (length before) in
    let o = In-from_map (call_by left) (calls_of after) c (subst (In c) (calls_by left after) (In-from_Contains _ _ u.there)) in
    let w = update_by left o.it e (ap (λ (z : Call). z.operation) o.is ∙ u.writes) in
    let back = subst (In (move o.it)) (sym (back_moved before after)) (In-map move (calls_of after) o.it o.there) in
    let there = subst (In (move o.it)) (sym (calls_split before after quiet)) (In-append_right (move o.it) (calls_of before) _ back) in
    record { call = o.it; entry = w.entry; update = record { there = Contains-from_In _ _ there; writes = w.writes }; is = w.is; ended = ap (λ (z : Call). z.ended) o.is }

-- the later side of a history whose updates end in order
pub later_in_order : (before after : List Event) → EndInOrder (calls_of (before ++ after)) → IsQuiet before → EndInOrder (calls_of (renumbered (left_by before) after))
later_in_order before after h quiet a b d e place u w same less end =
    let left = left_by before in
    let m = length before in
    let x = in_whole before after quiet a d u in
    let y = in_whole before after quiet b e w in
    let component : x.entry.component ≡ y.entry.component = ap (λ (z : Entry). z.component) x.is ∙ same ∙ sym (ap (λ (z : Entry). z.component) y.is) in
    let nx : x.entry.number - number_in (left x.entry.component) ≡ d.number = ap (λ (z : Entry). z.number) x.is in
    let ny : y.entry.number - number_in (left y.entry.component) ≡ e.number = ap (λ (z : Entry). z.number) y.is in
    let less_there : x.entry.number < y.entry.number = omega (arith, less, nx, ny, ap (λ z. number_in (left z)) component) in
    let ends : shifted m y.call.ended ≡ Some (m + place) = ap (shifted m) (y.ended ∙ end) in
    ap (λ o. is_before o place) (sym x.ended) ∙ sym (before_moved m place x.call.ended)
    ∙ h (moved (begins before) m x.call) (moved (begins before) m y.call) x.entry y.entry (m + place) x.update y.update component less_there ends

-- an update of the whole stands on one of the sides
data Side (before after : List Event) (c : Call) (e : Entry) : Type 0 where
  earlier : IsUpdateOf (calls_of before) c e → Side before after c e
  later : (x : Call) → IsUpdateOf (calls_of after) x e → moved (begins before) (length before) x ≡ c → Side before after c e

side_of : (before after : List Event) → IsQuiet before → (c : Call) (e : Entry) → IsUpdateOf (calls_of (before ++ after)) c e → Side before after c e
side_of before after quiet c e u = elim (In-append_cases c (calls_of before) _ (subst (In c) (calls_split before after quiet) (In-from_Contains _ _ u.there))) [
  | inl i ↦ earlier (record { there = Contains-from_In _ _ i; writes = u.writes })
  | inr i ↦
      let o = In-from_map (moved (begins before) (length before)) (calls_of after) c (subst (In c) (back_moved before after) i) in
      later o.it (record { there = Contains-from_In _ _ o.there; writes = ap (λ (z : Call). z.operation) o.is ∙ u.writes }) o.is
]

renumbered_to : (left : ℕ → Option Entry) (after : List Event) (c : Call) (e : Entry) → IsUpdateOf (calls_of after) c e → IsUpdateOf (calls_of (renumbered left after)) (call_by left c) (renumbered_entry left e)
renumbered_to left after c e u = record {
  there = Contains-from_In _ _ (subst (In (call_by left c)) (sym (calls_by left after)) (In-map (call_by left) (calls_of after) c (In-from_Contains _ _ u.there)));
  writes = ap (operation_by left) u.writes;
}

-- the begin of an update is an event
begin_in : (es : List Event) (c : Call) (e : Entry) → IsUpdateOf (calls_of es) c e → (p : ℕ) × Contains es (BeginUpdate p e)
begin_in es c e u =
    let b = begun_of es c u.there in
    let x = update_event b.event b.after e (sym (ap (λ (z : Call). z.operation) b.is) ∙ u.writes) in
    (process_of b.event, Contains-from_In _ _ (subst (In (BeginUpdate (process_of b.event) e)) (sym b.split) (In-append_right _ b.before (b.event ∷ b.after) (inl x))))

-- a history of two such sides
pub both_in_order : (before after : List Event) → IsQuiet before → EndInOrder (calls_of before) → EndInOrder (calls_of (renumbered (left_by before) after)) → ((p : ℕ) (e : Entry) → Contains after (BeginUpdate p e) → number_in (left_by before e.component) < e.number) → IsNumbered (before ++ after) →
    EndInOrder (calls_of (before ++ after))
both_in_order before after quiet g h on numbered a b d e place u w same less end = go (side_of before after quiet a d u) (side_of before after quiet b e w)
  where
    whole : List Event
    whole = before ++ after

    m : ℕ
    m = length before

    back : (x : Call) (f : Entry) → IsUpdateOf (calls_of after) x f → In (moved (begins before) m x) (back_of before after)
    back x f v = subst (In (moved (begins before) m x)) (sym (back_moved before after)) (In-map (moved (begins before) m) (calls_of after) x (In-from_Contains _ _ v.there))

    first : a.begun < b.begun
    first = begins_part whole numbered a b d e u w same less

    go : Side before after a d → Side before after b e → is_before a.ended place ≡ true
    go (earlier v) (earlier z) = g a b d e place v z same less end
    go (earlier v) (later y z s) =
        let p = precedes_to a b (across before after quiet a b (In-from_Contains _ _ v.there) (subst (λ c. In c (back_of before after)) s (back y e z))) in
        ap (λ o. is_before o place) p.ends ∙ lt-ltb p.place place (omega (arith, p.before, rises_part whole b place w.there end))
    go (later x v s) (earlier z) =
        let p = precedes_to b a (across before after quiet b a (In-from_Contains _ _ z.there) (subst (λ c. In c (back_of before after)) s (back x d v))) in
        absurd (omega (arith, first, p.before, rises_part whole b p.place w.there p.ends))
    go (later x v s) (later y z t) = at y.ended refl
      where
        left : ℕ → Option Entry
        left = left_by before

        more : number_in (left e.component) < e.number
        more = let i = begin_in after y e z in on i.0 e i.1

        fewer : d.number - number_in (left d.component) < e.number - number_in (left e.component)
        fewer = omega (arith, less, more, ap (λ k. number_in (left k)) same)

        at : (o : Option ℕ) → y.ended ≡ o → is_before a.ended place ≡ true
        at None q = absurd (let n : None ≡ Some place = sym (ap (shifted m) q) ∙ ap (λ (c : Call). c.ended) t ∙ end in cc)
        at (Some n) q =
            let s1 : Some (m + n) ≡ Some place = sym (ap (shifted m) q) ∙ ap (λ (c : Call). c.ended) t ∙ end in
            let there : m + n ≡ place = cc in
            let in_order = h (call_by left x) (call_by left y) (renumbered_entry left d) (renumbered_entry left e) n (renumbered_to left after x d v) (renumbered_to left after y e z) same fewer q in
            ap (λ (c : Call). is_before c.ended place) (sym s) ∙ ap (is_before (shifted m x.ended)) (sym there) ∙ before_moved m n x.ended ∙ in_order
