use Rattle.std.proofs.Common.{◌≡◌, ◌∙◌, Option, Some, None, refl, sym, subst, ap, arith, inl, inr, slice_index_or}
use Rattle.std.proofs.lemmas.Bool.{cases_lt, false≢true}
use Rattle.snap_windows.specs.declared.last.Wrote.{Wrote}
use Rattle.snap_windows.specs.Last.{entry_in}
use Rattle.snap_windows.specs.Missed.{ShowsAt}
use Rattle.snap_windows.proofs.Shown.{shown_of_left, shown_of_nothing, left_is_shown, nothing_left}
use Rattle.snap_windows.proofs.missed.missed.Goals.{in-Some+else-not-shows, in_default}
use Rattle.snap_windows.proofs.missed.missed.Goals as goal

pub each-init : goal.each-init
each-init c = λ f h k l. absurd (omega (arith, l))

not_some : (o : Option Wrote) → ((w : Wrote) → o ≡ Some w → ⊥) → o ≡ None
not_some None n = refl
not_some (Some w) n = absurd (n w refl)

pub each-preserved : goal.each-preserved
each-preserved c = λ f h k l. elim (cases_lt k c.each.component) [
  | inl before ↦ c.each.invariant f h k before
  | inr behind ↦ (
      let same : c.each.component ≡ k = omega (arith, l, behind) in
      subst (ShowsAt f c.args.view.now) same (elim c.match-left-component.branch [
        | in-Some+else-not-shows w ↦ shown_of_left c.args.left.now f c.args.view.now c.each.component w.in-Some.wrote h w.in-Some.is (w.shows.ensures.0 w.if-not-shows.false)
        | in_default w ↦ shown_of_nothing f c.args.view.now c.each.component c.entries-entries.ensures.view (sym (h c.each.component) ∙ ap entry_in (not_some (slice_index_or c.args.left.now c.each.component None) w.in_default.not-Some))
      ]))
]

pub returns : goal.returns
returns c = λ f h k. elim (cases_lt k c.each.component) [
  | inl l ↦ c.each.invariant f h k l
  | inr past ↦ shown_of_nothing f c.args.view.now k c.entries-entries.ensures.view (nothing_left c.args.left.now f k h (omega (arith, past, c.each-test.false, c.told-left)))
]

pub returns-then-not-shows : goal.returns-then-not-shows
returns-then-not-shows c = λ f h. record {
  component = c.each.component;
  left_there = sym (h c.each.component) ∙ ap entry_in c.in-Some.is;
  less = λ s. false≢true (sym c.if-not-shows.true ∙ c.shows.ensures.1 (left_is_shown c.args.left.now f c.args.view.now c.each.component c.in-Some.wrote h c.in-Some.is s));
  first = λ k l. c.each.invariant f h k l;
}
