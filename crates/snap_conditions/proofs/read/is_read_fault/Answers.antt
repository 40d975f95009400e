use Rattle.std.proofs.Common.{◌≡◌, ◌↔◌, ◌&&◌, ◌||◌, ℕ, Bool, true, false, List, refl, sym, ap, ◌∙◌}
use Rattle.std.specs.Prelude.{IsTrue}
use Rattle.snap_core.specs.Calls.{Call, is_before}
use Rattle.snap_views.specs.declared.seen.SeenView.{SeenView}
use Rattle.snap_conditions.specs.declared.row.Excess.{Excess}
use Rattle.snap_theory.specs.Faults.{read_fault}
use Rattle.snap_views.specs.Rows.{AreNumbersOf, IsLessSomewhere, number_among, row_number}
use Rattle.snap_views.specs.Seen.{IsSeen}
use Rattle.snap_conditions.proofs.Finds.{read_fault_is}
use Rattle.snap_conditions.proofs.SeenPairs.{less_seen, more_seen, same_before}
use Rattle.snap_conditions.proofs.read.is_read_fault.Goals as goal

-- by what was compared of the views that were seen
seen_fault : (r s : Call) (view other : SeenView) (row : List ℕ) (x : Excess) (before : Bool) → IsSeen r view → IsSeen s other → AreNumbersOf view.entries.now row →
    IsTrue x.first ↔ IsLessSomewhere (number_among other.entries.now) (row_number row) → IsTrue x.second ↔ IsLessSomewhere (row_number row) (number_among other.entries.now) →
    before ≡ is_before view.call.ended other.call.begun → read_fault r s ≡ (x.first && (before || x.second))
seen_fault r s view other row x before v w n m l b =
    read_fault_is r s x.first x.second before v.shape w.shape
    (more_seen (IsTrue x.first) r s view other row v w n m) (less_seen (IsTrue x.second) r s view other row v w n l) (b ∙ same_before r s view other v w)

or_true : (b : Bool) → (b || true) ≡ true
or_true true = refl
or_true false = refl

or_false : (b : Bool) → (b || false) ≡ b
or_false true = refl
or_false false = refl

pub returns-then-excess-2 : goal.returns-then-excess-2
returns-then-excess-2 c = λ r s v w.
    let before = is_before c.args.view.now.call.ended c.args.other.now.call.begun in
    let x = c.compare-excess.result in
    c.if-excess-2.true
    ∙ sym (
    seen_fault r s c.args.view.now c.args.other.now c.args.row.now x before v w c.requires.row c.compare-excess.ensures.first c.compare-excess.ensures.second refl
    ∙ ap (λ b. b && (before || x.second)) c.if-excess.true ∙ ap (λ b. before || b) c.if-excess-2.true ∙ or_true before
    )

pub returns-else-excess-2 : goal.returns-else-excess-2
returns-else-excess-2 c = λ r s v w.
    let x = c.compare-excess.result in
    sym (
    seen_fault r s c.args.view.now c.args.other.now c.args.row.now x c.is_before.result v w c.requires.row c.compare-excess.ensures.first c.compare-excess.ensures.second c.is_before.ensures
    ∙ ap (λ b. b && (c.is_before.result || x.second)) c.if-excess.true ∙ ap (λ b. c.is_before.result || b) c.if-excess-2.false ∙ or_false c.is_before.result
    )

pub returns-else-excess : goal.returns-else-excess
returns-else-excess c = λ r s v w.
    let before = is_before c.args.view.now.call.ended c.args.other.now.call.begun in
    let x = c.compare-excess.result in
    c.if-excess.false
    ∙ sym (
    seen_fault r s c.args.view.now c.args.other.now c.args.row.now x before v w c.requires.row c.compare-excess.ensures.first c.compare-excess.ensures.second refl
    ∙ ap (λ b. b && (before || x.second)) c.if-excess.false
    )
