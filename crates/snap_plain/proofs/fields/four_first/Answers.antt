use Rattle.std.proofs.Common.{[], All, arith}
use Rattle.snap_plain.specs.Lines.{IsPlain}
use Rattle.snap_plain.proofs.PlainFacts.{just_these, too_few, too_many, upto_first, upto_next}
use Rattle.snap_plain.proofs.fields.four_first.Goals as goal

pub returns-in_err-event : goal.returns-in_err-event
returns-in_err-event c =
    let text = c.args.text.now in
    rw c.from_residual.ensures (too_few 4 text [] text _ _ (upto_first text) c.in_err-event.ensures.2 (omega arith))

pub returns-in_err-process : goal.returns-in_err-process
returns-in_err-process c =
    let text = c.args.text.now in
    let first = λ (plain : All IsPlain text). upto_next [] _ _ text text (upto_first text plain) c.in_ok-event.ensures in
    rw c.from_residual-in_err-process.ensures (too_few 4 text _ _ _ _ first c.in_err-process.ensures.2 (omega arith))

pub returns-in_err-op : goal.returns-in_err-op
returns-in_err-op c =
    let text = c.args.text.now in
    let first = λ (plain : All IsPlain text). upto_next [] _ _ text text (upto_first text plain) c.in_ok-event.ensures in
    let second = λ (plain : All IsPlain text). upto_next _ _ _ _ text (first plain) c.in_ok-process.ensures in
    rw c.from_residual-in_err-op.ensures (too_few 4 text _ _ _ _ second c.in_err-op.ensures.2 (omega arith))

pub returns-in_err-data : goal.returns-in_err-data
returns-in_err-data c =
    let text = c.args.text.now in
    let first = λ (plain : All IsPlain text). upto_next [] _ _ text text (upto_first text plain) c.in_ok-event.ensures in
    let second = λ (plain : All IsPlain text). upto_next _ _ _ _ text (first plain) c.in_ok-process.ensures in
    let third = λ (plain : All IsPlain text). upto_next _ _ _ _ text (second plain) c.in_ok-op.ensures in
    let fourth = λ (plain : All IsPlain text). upto_next _ _ _ _ text (third plain) c.in_err-data.ensures.2 in
    rw c.from_residual-in_err-data.ensures (too_many text _ _ fourth)

pub returns : goal.returns
returns c =
    let text = c.args.text.now in
    let first = λ (plain : All IsPlain text). upto_next [] _ _ text text (upto_first text plain) c.in_ok-event.ensures in
    let second = λ (plain : All IsPlain text). upto_next _ _ _ _ text (first plain) c.in_ok-process.ensures in
    let third = λ (plain : All IsPlain text). upto_next _ _ _ _ text (second plain) c.in_ok-op.ensures in
    just_these text _ _ _ _ third c.in_ok-data.ensures (omega arith)
