use Rattle.std.proofs.Common.{get_or, refl, sym, ap, ◌∙◌, inl, inr, arith}
use Rattle.std.proofs.lemmas.Bool.{cases_eq}
use Rattle.snap_views.specs.Rows.{number_among}
use Rattle.snap_conditions.proofs.Left.{all_left}
use Rattle.snap_conditions.proofs.shown_and_next.ShownAndNext.look_at_entries.Goals as goal

pub loop-k-init : goal.loop-k-init
loop-k-init g c = record { limit = c.look_along.ensures.limit; left = all_left _ c.requires.entries; numbers = λ j l. absurd (omega (arith, l)); around = record { values = c.look_along.ensures.around.values; begins = c.look_along.ensures.around.begins; ends = c.look_along.ensures.around.ends }; written = refl }

pub look_at-requires-clause-before : goal.look_at-requires-clause-before
look_at-requires-clause-before g c = c.loop-k.invariant.around

pub loop-k-preserved : goal.loop-k-preserved
loop-k-preserved g c = record {
  limit = c.look_at.ensures.limit ∙ c.loop-k.invariant.limit;
  left = c.take_number.ensures.left _ c.loop-k.invariant.left;
  numbers = λ j l. elim (cases_eq j c.loop-k.k) [
    | inl same ↦
        ap (λ z. get_or c.look_at.new.self.numbers z 0) same ∙ c.look_at.ensures.number ∙ c.take_number.ensures.number _ c.loop-k.invariant.left
        ∙ ap (number_among c.args.entries.now) (sym same)
    | inr other ↦ c.look_at.ensures.others j other ∙ c.loop-k.invariant.numbers j (omega (arith, l, other))
  ];
  around = c.look_at.ensures.around;
  written = c.look_at.ensures.written ∙ c.loop-k.invariant.written;
}
