use Rattle.std.proofs.Common.{ℕ, suc, refl, sym, ap, ◌∙◌, inl, inr, arith}
use Rattle.std.proofs.lemmas.Bool.{cases_lt}
use Rattle.std.proofs.lemmas.List.{get_or-replicate}
use Rattle.snap_core.specs.Calls.{calls_of}
use Rattle.snap_conditions.specs.inside.Places.{value_of, begin_of, end_of, value_or_none, begin_or_0}
use Rattle.snap_views.specs.Seen.{end_or_never}
use Rattle.snap_theory.specs.Updates.{update_of}
use Rattle.snap_index.proofs.Known.{no_update_0}
use Rattle.snap_conditions.proofs.NoUpdates.{none_of_none}
use Rattle.snap_conditions.proofs.shown_and_next.ShownAndNext.new.Goals as goal

pub loop-k-init : goal.loop-k-init
loop-k-init g c = record {
  size = refl;
  ends = λ q l. absurd (omega (arith, l));
  never = λ q l m. get_or-replicate {A = ℕ} 256 q 4294967295 0 m;
}

pub returns : goal.returns
returns g c =
    let es = c.args.index.now in
    let calls = calls_of es in
    let limit = c.component_limit-limit.ensures in
    record {
      limit = limit;
      numbers = λ k l. get_or-replicate {A = ℕ} 256 k 0 0 (omega (arith, l, limit.few));
      around = record {
        values = λ k l. get_or-replicate {A = ℕ} 256 k 4294967296 0 l ∙ sym (ap (λ n. value_or_none (value_of (update_of calls k n))) (get_or-replicate {A = ℕ} 256 k 0 0 l) ∙ ap (λ o. value_or_none (value_of o)) (no_update_0 es c.requires.history k));
        begins = λ k l. get_or-replicate {A = ℕ} 256 k 0 0 l ∙ sym (ap (λ n. begin_or_0 (begin_of (update_of calls k n))) (get_or-replicate {A = ℕ} 256 k 0 0 l) ∙ ap (λ o. begin_or_0 (begin_of o)) (no_update_0 es c.requires.history k));
        ends = λ k l. elim (cases_lt k c.component_limit-limit.result) [
          | inl b ↦ c.loop-k.invariant.ends k (omega (arith, b, c.loop-k-test.false))
          | inr b ↦ c.loop-k.invariant.never k (omega (arith, b)) l ∙ sym (ap (λ o. end_or_never (end_of o)) (none_of_none es c.requires k 1 (limit.none k (omega (arith, b)) l)))
        ] ∙ sym (ap (λ n. end_or_never (end_of (update_of calls k (suc n)))) (get_or-replicate {A = ℕ} 256 k 0 0 l));
      };
      latest = λ k l. omega (arith, get_or-replicate {A = ℕ} 256 k 0 0 l);
      earliest = λ k l. c.earliest_of-earliest.ensures.places k (omega (arith, l, c.loop-k.invariant.size));
      written = λ t i d l. absurd (omega (arith, l));
    }
