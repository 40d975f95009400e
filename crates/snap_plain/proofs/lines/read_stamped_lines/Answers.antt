use Rattle.std.proofs.Common.{◌≡◌, ◌+◌, [], ap, arith, length, refl, rules}
use Rattle.std.proofs.lemmas.List.{nil_from_length}
use Rattle.std.proofs.lemmas.Result.{err_from_is_err_and}
use Rattle.snap_text.specs.declared.fault.TextFault.TheVariants as faults
use Rattle.snap_format.specs.declared.refusal.ReadRefusal.TheVariants as refusals
use Rattle.snap_plain.specs.Lines.{HasRows}
use Rattle.snap_plain.proofs.FrontFacts.{no_line}
use Rattle.snap_plain.proofs.PlainFacts.{row_of_fields, row_of_others}
use Rattle.snap_format.proofs.StampFacts.{begun, done, more, one_longer, row_short, stopped}
use Rattle.snap_plain.proofs.lines.read_stamped_lines.Goals as goal

pub loop-i-init : goal.loop-i-init
loop-i-init c = record {
  count = ap length c.requires;
  room = omega arith;
  midway = λ rows h. begun c.args.limit rows (HasRows c.args.lines.now) c.args.stamped.now.items h c.requires;
}

pub returns-then-is_empty : goal.returns-then-is_empty
returns-then-is_empty c = λ rows h.
    let m = c.loop-i.invariant.midway rows h in
    let line : c.behind_newlines-line.result.now ≡ [] = nil_from_length _ (search rules) in
    done c.args.limit rows (HasRows c.loop-i.left.now) c.loop-i.stamped.items c.loop-i.i m (no_line _ (rw line at (c.behind_newlines-line.ensures.same _ m.left)))

pub returns-in_default : goal.returns-in_default
returns-in_default c = λ rows h.
    let m = c.loop-i.invariant.midway rows h in
    let (row, others, is, short) = row_of_others _ 5 _ (search rules) (c.behind_newlines-line.ensures.begins (search rules)) c.in_default.ensures (c.behind_newlines-line.ensures.same _ m.left) in
    stopped c.args.limit rows (HasRows c.loop-i.left.now) c.loop-i.stamped.items c.loop-i.stamped.items c.loop-i.i m row others (refusals.Text (c.loop-i.i + 2) faults.Fields) is (refl, (refl, row_short c.args.limit _ _ row short))

pub returns-in_err-take_stamped : goal.returns-in_err-take_stamped
returns-in_err-take_stamped c = λ rows h.
    let m = c.loop-i.invariant.midway rows h in
    let p = err_from_is_err_and c.from_residual.result c.from_residual.ensures.1 in
    let (others, is, left) = row_of_fields _ _ _ _ (search rules) (c.behind_newlines-line.ensures.begins (search rules)) c.in-Some.ensures (c.behind_newlines-line.ensures.same _ m.left) in
    rw (p.1, p.2) (stopped c.args.limit rows (HasRows c.loop-i.left.now) c.loop-i.stamped.items c.take_stamped.new.stamped.items c.loop-i.i m _ others c.in_err-take_stamped.field-0.0 is c.in_err-take_stamped.ensures)

pub loop-i-preserved : goal.loop-i-preserved
loop-i-preserved c =
    let one = one_longer c.args.limit (c.loop-i.i + 2) c.loop-i.stamped.items c.take_stamped.new.stamped.items _ c.in_ok-take_stamped.ensures in
    record {
      count = omega (arith, one.1, c.loop-i.invariant.count);
      room = omega (arith, one.0, c.loop-i.invariant.count);
      midway = λ rows h.
          let m = c.loop-i.invariant.midway rows h in
          more c.args.limit rows (HasRows c.loop-i.left.now) (HasRows c.in-Some.rest.now) c.loop-i.stamped.items c.take_stamped.new.stamped.items c.loop-i.i m _ (row_of_fields _ _ _ _ (search rules) (c.behind_newlines-line.ensures.begins (search rules)) c.in-Some.ensures (c.behind_newlines-line.ensures.same _ m.left)) c.in_ok-take_stamped.ensures;
    }
