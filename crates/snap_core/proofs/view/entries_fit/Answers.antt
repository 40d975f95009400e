use Rattle.std.proofs.Common.{ℕ, ◌<◌, ◌≡◌, get_or, arith, List, length, inl, inr, ap, ◌∙◌, sym, subst}
use Rattle.std.proofs.lemmas.List.{get_or_default}
use Rattle.std.proofs.lemmas.Bool.{cases_eq}
use Rattle.snap_core.specs.declared.entry.Entry.{Entry}
use Rattle.snap_core.specs.Entries.{EntryFits}
use Rattle.snap_core.proofs.view.entries_fit.Goals as goal

-- an element in range fits where the one that was read does, at whatever default
here : (es : List Entry) (i k : ℕ) (z d : Entry) → i < length es → k ≡ i → EntryFits (get_or es i z) → EntryFits (get_or es k d)
here es i k z d l e h = subst EntryFits (sym (ap (λ n. get_or es n d) e ∙ get_or_default es i d z l)) h

pub loop-e-preserved : goal.loop-e-preserved
loop-e-preserved c = λ k d l. elim (cases_eq k c.loop-e.e-index) [
  | inl e ↦ here c.args.entries.now c.loop-e.e-index k record { component = 0; number = 0; value = 0 } d (omega arith) e c.fields_fit.ensures
  | inr e ↦ c.loop-e.invariant k d (omega (arith, e))
]
