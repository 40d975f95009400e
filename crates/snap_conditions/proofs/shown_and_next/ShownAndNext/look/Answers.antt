use Rattle.std.specs.Prelude.{IsTrue}
use Rattle.std.proofs.Common.{◌≡◌, ◌≤◌, ℕ, suc, ◌<◌, get_or, None, sym, ap, ◌∙◌, subst, inl, inr, arith}
use Rattle.std.proofs.lemmas.Bool.{cases_lt}
use Rattle.std.proofs.lemmas.List.{get_or-take}
use Rattle.snap_core.specs.Calls.{calls_of}
use Rattle.snap_conditions.specs.inside.Limits.{IsLimit}
use Rattle.snap_conditions.specs.inside.ShownAndNext.{IsOfView}
use Rattle.snap_conditions.specs.inside.Places.{begin_of, end_of, begin_or_0}
use Rattle.snap_theory.specs.Updates.{update_of}
use Rattle.snap_views.specs.Rows.{number_among}
use Rattle.snap_views.specs.Seen.{end_or_never}
use Rattle.snap_conditions.proofs.Surrounded.{around_seen, values_around}
use Rattle.snap_conditions.proofs.NoUpdates.{none_of_none}
use Rattle.snap_conditions.proofs.shown_and_next.ShownAndNext.look.Goals as goal
use Rattle.snap_conditions.proofs.shown_and_next.ShownAndNext.look.Goals.{then-self, else-self}

pub returns-clause-numbers : goal.returns-clause-numbers
returns-clause-numbers g c =
    let around = c.look_at_entries.ensures.around in
    let limit = c.look_at_entries.new.self.limit in
    let is_limit : IsLimit (calls_of c.args.index.now) limit = subst (IsLimit (calls_of c.args.index.now)) (sym c.look_at_entries.ensures.limit) c.requires.before.limit in
    let none_from : (k n : ℕ) → limit ≤ k → k < 256 → update_of (calls_of c.args.index.now) k n ≡ None = λ k n b l. none_of_none c.args.index.now c.requires.kept k n (is_limit.none k b l) in
    let numbers : (k : ℕ) → k < limit → get_or c.look_at_entries.new.self.numbers k 0 ≡ number_among c.args.view.now.entries.now k = λ k l. c.look_at_entries.ensures.numbers k (omega (arith, l, c.look_at_entries.ensures.limit)) in
    record {
      limit = is_limit;
      numbers = numbers;
      around = record { values = around.values; begins = around.begins; ends = around.ends };
      latest = λ k l. elim (cases_lt k limit) [
        | inl b ↦ omega (arith, c.latest_of-self.ensures k (omega (arith, b)), get_or-take {A = ℕ} limit c.look_at_entries.new.self.begins k 0 b)
        | inr b ↦ omega (arith, around.begins k l, ap (λ o. begin_or_0 (begin_of o)) (none_from k (get_or c.look_at_entries.new.self.numbers k 0) (omega (arith, b)) l))
      ];
      earliest = λ k l. elim (cases_lt k limit) [
        | inl b ↦ omega (arith, c.earliest_of-self.ensures.places k (omega (arith, b)), get_or-take {A = ℕ} limit c.look_at_entries.new.self.ends k 0 b)
        | inr b ↦ omega (arith, c.earliest_of-self.ensures.never, around.ends k l, ap (λ o. end_or_never (end_of o)) (none_from k (suc (get_or c.look_at_entries.new.self.numbers k 0)) (omega (arith, b)) l))
      ];
      written = λ t. elim c.if-self.branch [
        | then-self w ↦ c.look_at_entries.ensures.written w.if-self.true
        | else-self w ↦ w.are_written-self.ensures c.args.index.now c.requires.kept c.requires.view.fit (values_around c.args.index.now c.requires.kept c.look_at_entries.new.self c.args.view.now.entries.now is_limit around numbers c.requires.view) (sym w.self-is ∙ t)
      ];
    }

pub returns-then-not-look_at_entries-clause-updates : goal.returns-then-not-look_at_entries-clause-updates
returns-then-not-look_at_entries-clause-updates g c = λ r seen.
    let same : ¬ IsTrue c.look_at_entries.result = λ t. let f = c.if-not-look_at_entries.true in cc in
    subst (IsOfView (calls_of c.args.index.now) r) (sym (c.look_at_entries.ensures.unchanged same))
    (around_seen c.args.index.now c.requires.kept r c.args.self.now c.requires.before (c.look_at_entries.ensures.same same ∙ seen.entries))

pub returns-clause-updates : goal.returns-clause-updates
returns-clause-updates g c = λ r seen. around_seen c.args.index.now c.requires.kept r _ (returns-clause-numbers g c) seen.entries
