use Rattle.std.proofs.Common.{◌≡◌, ◌∙◌, ◌++◌, ◌∷◌, [], ◌<◌, ◌≤◌, take, sym, ap, rules, arith, slice_index_or}
use Rattle.std.proofs.lemmas.List.{take_more, take_all}
use Rattle.snap_core.specs.declared.entry.Entry.{Entry}
use Rattle.snap_theory.specs.Renumbered.{renumbered_entries, renumbered_entry}
use Rattle.snap_windows.proofs.Numbers.{pushed_later, pushed_other}
use Rattle.snap_windows.proofs.renumber.renumbered_entries.Goals.{then-renumbered-gt0+in_ok-push, else-renumbered-gt0}
use Rattle.snap_windows.proofs.renumber.renumbered_entries.Goals as goal

pub each-preserved : goal.each-preserved
each-preserved c = λ f h.
    let before = c.each.invariant f h in
    let is = c.renumbered_entry-renumbered.ensures f h in
    let es = c.args.entries.now in
    let i = c.each.entry-index in
    let d : Entry = record { component = 0; number = 0; value = 0 } in
    let e : Entry = slice_index_or es i d in
    let more = ap (renumbered_entries f) (take_more es i d (omega (arith, c.each-test.true))) in
    elim c.if-renumbered-gt0.branch [
      | then-renumbered-gt0+in_ok-push w ↦ (
          let items : c.if-renumbered-gt0.found.items ≡ c.each.found.items ++ c.renumbered_entry-renumbered.result ∷ [] = search rules in
          let positive : 0 < (renumbered_entry f e).number = search (is, rules) in
          items ∙ ap (λ z. z ++ c.renumbered_entry-renumbered.result ∷ []) before ∙ ap (λ z. renumbered_entries f (take i es) ++ z ∷ []) is ∙ sym (more ∙ pushed_later f (take i es) e positive))
      | else-renumbered-gt0 w ↦ (
          let none : (renumbered_entry f e).number ≤ 0 = search (is, rules) in
          let items : c.if-renumbered-gt0.found.items ≡ c.each.found.items = search rules in
          items ∙ before ∙ sym (more ∙ pushed_other f (take i es) e none))
    ]

pub returns : goal.returns
returns c = λ f h. c.each.invariant f h ∙ ap (renumbered_entries f) (take_all c.each.entry-index c.args.entries.now c.each-test.false)
