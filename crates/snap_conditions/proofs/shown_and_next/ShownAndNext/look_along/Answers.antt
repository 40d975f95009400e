use Rattle.std.proofs.Common.{◌≡◌, ◌≤◌, ◌++◌, ◌+◌, ◌-◌, ℕ, List, length, get_or, drop, refl, sym, ap, ◌∙◌, subst, inl, inr, arith}
use Rattle.std.specs.List.{All}
use Rattle.std.proofs.lemmas.Bool.{and_parts, cases_eq}
use Rattle.std.proofs.lemmas.List.{take_all, drop_all, append-nil}
use Rattle.snap_core.specs.Calls.{calls_of}
use Rattle.snap_core.specs.Entries.{EntryFits}
use Rattle.snap_core.specs.declared.entry.Entry.{Entry}
use Rattle.snap_theory.proofs.Entries.{nothing}
use Rattle.snap_theory.specs.Updates.{update_of}
use Rattle.snap_conditions.specs.inside.Places.{value_of, value_or_none}
use Rattle.snap_conditions.specs.inside.ShownAndNext.{IsValueOf, IsWritten}
use Rattle.snap_views.specs.Rows.{number_among}
use Rattle.snap_conditions.proofs.Exchanged.{exchanged, same_piece, each_exchanged, exchanged_number, other_number}
use Rattle.snap_conditions.proofs.shown_and_next.ShownAndNext.look_along.Goals as goal

pub loop-begin-init : goal.loop-begin-init
loop-begin-init g c = record {
  looked_up = record { limit = refl; numbers = c.requires.before.numbers; around = c.requires.before.around; written = c.requires.before.written };
  same = λ s. refl;
  unchanged = λ s. refl;
}

pub loop-i-init : goal.loop-i-init
loop-i-init g c = c.loop-begin.invariant.looked_up

pub look_at-requires-clause-before : goal.look_at-requires-clause-before
look_at-requires-clause-before g c = c.loop-i.invariant.around

pub returns-then-entry-before-clause-around : goal.returns-then-entry-before-clause-around
returns-then-entry-before-clause-around g c = c.loop-i.invariant.around

pub loop-i-preserved : goal.loop-i-preserved
loop-i-preserved g c = record {
  limit = c.look_at.ensures.limit ∙ c.loop-i.invariant.limit;
  numbers = λ k l.
      let old = c.args.self.now.entries.now in
      let new = c.args.entries.now in
      let i = c.loop-i.i in
      let e = get_or new i nothing in
      let from : c.from.result ≡ e.component = c.from.ensures in
      elim (cases_eq k e.component) [
        | inl same ↦
            ap (λ z. get_or c.look_at.new.self.numbers z 0) (same ∙ sym from) ∙ c.look_at.ensures.number
            ∙ sym (ap (number_among (exchanged old new (i + 1))) same ∙ exchanged_number old new i nothing c.requires.entries (omega arith))
        | inr other ↦
            c.look_at.ensures.others k (λ q. other (q ∙ from)) ∙ c.loop-i.invariant.numbers k l
            ∙ sym (other_number old new i k nothing (omega arith) c.if-before-entries.false (sym c.if-entry-before.false) other)
      ];
  around = record { values = c.look_at.ensures.around.values; begins = c.look_at.ensures.around.begins; ends = c.look_at.ensures.around.ends };
  written = λ t.
      let calls = calls_of c.args.index.now in
      let e = get_or c.args.entries.now c.loop-i.i nothing in
      let fits : EntryFits e = c.requires.entries.fit c.loop-i.i nothing (omega arith) in
      let number : get_or c.look_at.new.self.numbers e.component 0 ≡ e.number = ap (λ j. get_or c.look_at.new.self.numbers j 0) (sym c.from.ensures) ∙ c.look_at.ensures.number in
      let value : IsValueOf calls c.look_at.new.self e = c.look_at.ensures.around.values e.component fits.0 ∙ ap (λ n. value_or_none (value_of (update_of calls e.component n))) number in
      let both = and_parts c.look_at.new.self.written c.is_written.result t in
      each_exchanged (IsWritten calls) c.args.self.now.entries.now c.args.entries.now c.loop-i.i nothing (omega arith) c.if-before-entries.false
      (c.loop-i.invariant.written (sym c.look_at.ensures.written ∙ both.0)) (sym (c.is_written.ensures c.args.index.now c.requires.kept fits value) ∙ both.1);
}

pub loop-begin-preserved-after-loop-i : goal.loop-begin-preserved-after-loop-i
loop-begin-preserved-after-loop-i g c = record {
  looked_up = record {
    limit = c.loop-i.invariant.limit;
    numbers = let end : c.loop-i.i ≡ c.min-end.result = omega arith in λ k l. c.loop-i.invariant.numbers k l ∙ ap (λ n. number_among (exchanged c.args.self.now.entries.now c.args.entries.now n) k) end;
    around = c.loop-i.invariant.around;
    written = λ t. subst (λ n. All (IsWritten (calls_of c.args.index.now)) (exchanged c.args.self.now.entries.now c.args.entries.now n)) (omega arith) (c.loop-i.invariant.written t);
  };
  same = λ s. absurd (cc);
  unchanged = λ s. absurd (cc);
}

pub loop-begin-preserved : goal.loop-begin-preserved
loop-begin-preserved g c =
    let old = c.args.self.now.entries.now in
    let new = c.args.entries.now in
    let i = c.loop-begin.begin in
    let n = c.min-end.result - i in
    let end : i + n ≡ c.min-end.result = omega arith in
    let more : exchanged old new i ≡ exchanged old new c.min-end.result = sym (ap (exchanged old new) (sym end) ∙ same_piece old new i n (c.are_same.ensures.0 c.if-not-are_same.false)) in
    record {
      looked_up = record {
        limit = c.loop-begin.invariant.looked_up.limit;
        numbers = λ k l. c.loop-begin.invariant.looked_up.numbers k l ∙ ap (λ es. number_among es k) more;
        around = c.loop-begin.invariant.looked_up.around;
        written = λ t. subst (All (IsWritten (calls_of c.args.index.now))) more (c.loop-begin.invariant.looked_up.written t);
      };
      same = λ s. c.loop-begin.invariant.same s ∙ more;
      unchanged = c.loop-begin.invariant.unchanged;
    }

-- after the last entry all are exchanged
exchanged_all : (old new : List Entry) (i : ℕ) → length old ≡ length new → length new ≤ i → exchanged old new i ≡ new
exchanged_all old new i long l = ap (λ es. es ++ drop i old) (take_all i new l) ∙ ap (λ es. new ++ es) (drop_all i old (omega arith)) ∙ append-nil new

pub returns-clause-around : goal.returns-clause-around
returns-clause-around g c = c.loop-begin.invariant.looked_up.around

pub returns-clause-numbers : goal.returns-clause-numbers
returns-clause-numbers g c = λ r k l.
    c.loop-begin.invariant.looked_up.numbers k l
    ∙ ap (λ es. number_among es k) (exchanged_all c.args.self.now.entries.now c.args.entries.now c.loop-begin.begin (omega arith) (omega arith))

pub returns-clause-same : goal.returns-clause-same
returns-clause-same g c = λ s. c.loop-begin.invariant.same s ∙ exchanged_all c.args.self.now.entries.now c.args.entries.now c.loop-begin.begin (omega arith) (omega arith)

pub returns-clause-written : goal.returns-clause-written
returns-clause-written g c = λ r t.
    subst (All (IsWritten (calls_of c.args.index.now))) (exchanged_all c.args.self.now.entries.now c.args.entries.now c.loop-begin.begin (omega arith) (omega arith))
    (c.loop-begin.invariant.looked_up.written t)

pub returns-clause-unchanged : goal.returns-clause-unchanged
returns-clause-unchanged g c = c.loop-begin.invariant.unchanged
