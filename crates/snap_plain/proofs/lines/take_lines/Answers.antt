use Rattle.std.proofs.Common.{◌<◌, ◌∷◌, ◌+◌, ◌∙◌, [], length, sym, ap, subst, arith, rules}
use Rattle.std.proofs.lemmas.List.{length-append}
use Rattle.std.proofs.lemmas.Result.{err_from_is_err_and}
use Rattle.snap_text.specs.declared.fault.TextFault.TheVariants as faults
use Rattle.snap_format.specs.declared.refusal.ReadRefusal.TheVariants as refusals
use Rattle.snap_format.specs.Taking.{Midway}
use Rattle.snap_plain.specs.Lines.{HasRows}
use Rattle.snap_plain.proofs.AheadFacts.{left_as}
use Rattle.snap_plain.proofs.PlainFacts.{rest_of_rest, row_of_fields, row_of_others}
use Rattle.snap_format.proofs.ReadFacts.{has_room, more, row_short, stopped}
use Rattle.snap_plain.proofs.lines.take_lines.Goals as goal

pub each-init : goal.each-init
each-init c = record {
  taken = λ lines rows h. h;
  limit = c.requires;
  count = omega arith;
  room = omega arith;
}

pub returns-then-line-stop-clause-takes : goal.returns-then-line-stop-clause-takes
returns-then-line-stop-clause-takes c = λ lines rows begun.
    let (is, m) = c.each.invariant.taken lines rows begun in (
      rest_of_rest c.behind_newlines-line.result.now c.each.left.now lines c.behind_newlines-line.ensures.rest is,
      left_as c.args.limit rows (HasRows c.each.left.now) (HasRows c.behind_newlines-line.result.now) c.each.history.events (length c.each.history.events) m (c.behind_newlines-line.ensures.same _ m.left),
    )

pub returns-in_default-clause-takes : goal.returns-in_default-clause-takes
returns-in_default-clause-takes c = λ lines rows begun.
    let n = length c.each.history.events in
    let (at, m) = c.each.invariant.taken lines rows begun in
    let some : 0 < length c.behind_newlines-line.result.now = search (rules, arith) in
    let (row, others, is, short) = row_of_others _ 4 _ some (c.behind_newlines-line.ensures.begins (search rules)) c.in_default.ensures (c.behind_newlines-line.ensures.same _ m.left) in
    stopped c.args.limit rows (HasRows c.each.left.now) c.each.history.events n m row others (refusals.Text (c.len.result + 2) faults.Fields) is (ap (λ i. i + 2) c.len.ensures.len, row_short c.args.limit c.each.history.events row short)

pub returns-in_err-take_fields-clause-takes : goal.returns-in_err-take_fields-clause-takes
returns-in_err-take_fields-clause-takes c = λ lines.
    let n = length c.each.history.events in
    let p = err_from_is_err_and c.from_residual.result c.from_residual.ensures.1 in
    let some : 0 < length c.behind_newlines-line.result.now = search (rules, arith) in
    rw (p.1, p.2) (λ rows begun.
    let (at, m) = c.each.invariant.taken lines rows begun in
    let (others, is, left) = row_of_fields _ _ _ _ some (c.behind_newlines-line.ensures.begins (search rules)) c.in-Some.ensures (c.behind_newlines-line.ensures.same _ m.left) in
    stopped c.args.limit rows (HasRows c.each.left.now) c.each.history.events n m _ others c.in_err-take_fields.field-0.0 is (rw (c.each.invariant.limit, c.len.ensures.len) at c.in_err-take_fields.ensures.takes))

pub each-preserved : goal.each-preserved
each-preserved c =
    let limit = c.args.limit in
    let taken = rw c.each.invariant.limit at c.in_ok-take_fields.ensures.takes in
    let (fine, x, is, longer) = taken in
    record {
      taken = λ lines rows begun.
          let n = length c.each.history.events in
          let (at, m) = c.each.invariant.taken lines rows begun in
          let line = c.behind_newlines-line.result.now in
          let some : 0 < length line = search (rules, arith) in
          let has = c.behind_newlines-line.ensures.same _ m.left in
          let after =
          more limit rows (HasRows c.each.left.now) (HasRows c.in-Some.rest.now) c.each.history.events c.take_fields.new.history.events n m _ (row_of_fields _ _ _ _ some (c.behind_newlines-line.ensures.begins (search rules)) c.in-Some.ensures has) taken in (
            rest_of_rest c.in-Some.rest.now line lines (c.in-Some.ensures has.plain).behind (rest_of_rest line c.each.left.now lines c.behind_newlines-line.ensures.rest at),
            subst (λ i. Midway limit rows (HasRows c.in-Some.rest.now) c.take_fields.new.history.events i) (sym after.count) after,
          );
      limit = c.in_ok-take_fields.ensures.limit ∙ c.each.invariant.limit;
      count = omega (arith, ap length longer, length-append c.each.history.events (x ∷ []), c.each.invariant.count);
      room = omega (arith, has_room limit c.each.history.events _ fine, c.each.invariant.count);
    }
