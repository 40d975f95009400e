use Rattle.std.proofs.Common.{◌≡◌, ◌+◌, ◌++◌, [], ◌∷◌, take, get_or, true, false, sym, ◌∙◌, arith}
use Rattle.std.specs.Prelude.{◌==◌}
use Rattle.std.proofs.lemmas.Bool.{eq-eqb, ne_eqb}
use Rattle.std.proofs.lemmas.Grind.{common_steps}
use Rattle.snap_core.specs.declared.entry.Entry.{Entry}
use Rattle.snap_theory.specs.Kept.{alone}
use Rattle.snap_theory.specs.Kept.{kept_entries as spec_kept_entries}
use Rattle.snap_theory.specs.Witness.{numbers_of}
use Rattle.snap_witness.proofs.Steps.{kept_more}
use Rattle.snap_witness.proofs.keeping.kept_entries.Goals as goal
use Rattle.snap_witness.proofs.keeping.kept_entries.Goals.{then-e-number_of+in_ok-push, else-e-number_of}

abbrev nil : Entry
nil = record { component = 0; number = 0; value = 0 }

pub loop-i-preserved : goal.loop-i-preserved
loop-i-preserved c = elim c.if-e-number_of.branch [
  | then-e-number_of+in_ok-push w ↦
      let t : ((get_or c.args.entries.now c.loop-i.i nil).number == numbers_of c.args.pairs.now (get_or c.args.entries.now c.loop-i.i nil).component) ≡ true = eq-eqb _ _ (w.if-e-number_of.true ∙ c.number_of.ensures) in
      let m : spec_kept_entries (numbers_of c.args.pairs.now) (take (c.loop-i.i + 1) c.args.entries.now) ≡ spec_kept_entries (numbers_of c.args.pairs.now) (take c.loop-i.i c.args.entries.now) ++ alone (get_or c.args.entries.now c.loop-i.i nil) ∷ [] = kept_more (numbers_of c.args.pairs.now) c.args.entries.now c.loop-i.i nil true c.loop-i-test.true t in
      cc (m, c.loop-i.invariant, w.in_ok-push.ensures.items, w.kept-is)
  | else-e-number_of w ↦
      let t : ((get_or c.args.entries.now c.loop-i.i nil).number == numbers_of c.args.pairs.now (get_or c.args.entries.now c.loop-i.i nil).component) ≡ false = ne_eqb _ _ (λ e. w.if-e-number_of.false (e ∙ sym c.number_of.ensures)) in
      let m : spec_kept_entries (numbers_of c.args.pairs.now) (take (c.loop-i.i + 1) c.args.entries.now) ≡ spec_kept_entries (numbers_of c.args.pairs.now) (take c.loop-i.i c.args.entries.now) ++ [] = kept_more (numbers_of c.args.pairs.now) c.args.entries.now c.loop-i.i nil false c.loop-i-test.true t in
      grind (arith, common_steps, m, c.loop-i.invariant, w.kept-is)
]
