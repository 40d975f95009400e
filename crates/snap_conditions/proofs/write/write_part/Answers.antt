use Rattle.std.proofs.Common.{◌≡◌, ◌<◌, ◌≤◌, ℕ, List, length, take, get_or, sym, ap, ◌∙◌, arith}
use Rattle.std.proofs.lemmas.List.{get_or-take, length-take}
use Rattle.std.proofs.lemmas.List.Sorted.{IsNonDecreasingBy-from_sort}
use Rattle.snap_core.specs.Calls.{Call, calls_of, entries_of}
use Rattle.snap_core.specs.declared.entry.Entry.{Entry}
use Rattle.snap_theory.proofs.Entries.{nothing}
use Rattle.snap_views.specs.Seen.{IsSeen, view_in}
use Rattle.snap_views.specs.declared.seen.SeenView.{SeenView}
use Rattle.snap_views.proofs.Sizes.{rising_few}
use Rattle.snap_conditions.specs.declared.shown_and_next.ShownAndNext.{ShownAndNext}
use Rattle.snap_conditions.specs.inside.Places.{begin_or_0, begin_of_shown}
use Rattle.snap_conditions.specs.inside.ShownAndNext.{IsOfView}
use Rattle.snap_conditions.proofs.Surrounded.{none_missed_around, begin_at}
use Rattle.snap_conditions.proofs.write.write_part.Goals as goal

-- a view shows no more components than there are
few_shown : (r : Call) (view : SeenView) → IsSeen r view → length view.entries.now ≤ 256
few_shown r view seen = omega (arith, ap length seen.entries, rising_few _ seen.shape.rising (λ j d l. (seen.shape.fit j d l).0))

-- as many begins are taken as the view has entries
shown_size : (r : Call) (view : SeenView) (begins : List ℕ) → IsSeen r view → length begins ≡ 256 → length (take (length view.entries.now) begins) ≡ length view.entries.now
shown_size r view begins seen size = omega (arith, length-take (length view.entries.now) begins, size, few_shown r view seen)

-- each of them is where the update begins that the entry shows
shown_begins : (calls : List Call) (r : Call) (view : SeenView) (updates : ShownAndNext) (begins : List ℕ) → IsSeen r view → IsOfView calls r updates →
    ((i : ℕ) (e : Entry) → i < length view.entries.now → get_or begins i 0 ≡ get_or updates.begins (get_or view.entries.now i e).component 0) →
    (i : ℕ) → i < length view.entries.now → get_or (take (length view.entries.now) begins) i 0 ≡ begin_or_0 (begin_of_shown calls view.entries.now i)
shown_begins calls r view updates begins seen around each i l =
    let within : i < length (entries_of r.operation) = omega (arith, l, ap length seen.entries) in
    get_or-take (length view.entries.now) begins i 0 l
    ∙ each i nothing l
    ∙ ap (λ z. get_or updates.begins (get_or z i nothing).component 0) seen.entries
    ∙ begin_at calls r updates i around seen.shape within (seen.shape.fit i nothing within).0
    ∙ sym (ap (λ z. begin_or_0 (begin_of_shown calls z i)) seen.entries)

pub returns-then-updates : goal.returns-then-updates
returns-then-updates g c =
    let calls = calls_of c.args.index.now in
    c.none.ensures ∙ sym (none_missed_around c.args.index.now c.requires.kept (view_in calls c.args.place) c.args.updates.now c.requires.updates c.requires.view.shape (omega (arith, c.type_inv.updates)) c.if-updates.true)

pub begins_of-begins-requires : goal.begins_of-begins-requires
begins_of-begins-requires g c = few_shown _ c.args.view.now c.requires.view

pub slice_bounds-begins-end : goal.slice_bounds-begins-end
slice_bounds-begins-end g c = omega (arith, c.begins_of-begins.ensures.size, few_shown _ c.args.view.now c.requires.view)

pub slice_bounds-begins-end-2 : goal.slice_bounds-begins-end-2
slice_bounds-begins-end-2 g c = omega (arith, c.begins_of-begins.ensures.size, few_shown _ c.args.view.now c.requires.view)

pub slice_bounds-shown-end : goal.slice_bounds-shown-end
slice_bounds-shown-end g c = sym (shown_size _ c.args.view.now _ c.requires.view c.begins_of-begins.ensures.size)

pub slice_bounds-shown-end-2 : goal.slice_bounds-shown-end-2
slice_bounds-shown-end-2 g c = sym (shown_size _ c.args.view.now _ c.requires.view c.begins_of-begins.ensures.size)

pub slice_bounds-copy-end : goal.slice_bounds-copy-end
slice_bounds-copy-end g c = omega (arith, c.begins_of-begins.ensures.size, few_shown _ c.args.view.now c.requires.view)

pub slice_bounds-counted-end : goal.slice_bounds-counted-end
slice_bounds-counted-end g c = sym (shown_size _ c.args.view.now _ c.requires.view c.begins_of-begins.ensures.size)

pub missed_parts-requires-clause-size : goal.missed_parts-requires-clause-size
missed_parts-requires-clause-size g c = shown_size _ c.args.view.now _ c.requires.view c.begins_of-begins.ensures.size

pub missed_parts-requires-clause-begins : goal.missed_parts-requires-clause-begins
missed_parts-requires-clause-begins g c =
    shown_begins _ _ c.args.view.now c.args.updates.now _ c.requires.view c.requires.updates c.begins_of-begins.ensures.each

pub missed_parts-requires-2-clause-size : goal.missed_parts-requires-2-clause-size
missed_parts-requires-2-clause-size g c = shown_size _ c.args.view.now _ c.requires.view c.begins_of-begins.ensures.size

pub missed_parts-requires-2-clause-begins : goal.missed_parts-requires-2-clause-begins
missed_parts-requires-2-clause-begins g c =
    shown_begins _ _ c.args.view.now c.args.updates.now _ c.requires.view c.requires.updates c.begins_of-begins.ensures.each

pub missed_parts-requires-2-clause-order : goal.missed_parts-requires-2-clause-order
missed_parts-requires-2-clause-order g c = λ many. IsNonDecreasingBy-from_sort (λ n. n) _ c.sort_unstable.ensures.sorted
