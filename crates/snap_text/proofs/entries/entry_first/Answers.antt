use Rattle.std.proofs.Common.{sym, ◌∙◌, arith}
use Rattle.snap_text.proofs.FrontFacts.{no_entry_end, second_of, third_of, rest_of}
use Rattle.snap_text.proofs.entries.entry_first.Goals as goal
use Rattle.snap_text.proofs.entries.entry_first.Goals.{then-is_empty, else-is_empty}

pub returns-in_err-number : goal.returns-in_err-number
returns-in_err-number c = rw c.from_residual-in_err-number.ensures (λ e rest then.
    let known = second_of e rest c.args.text.now c.in_ok-component.component c.in_ok-component.text.now then c.in_ok-component.ensures in
    c.in_err-number.ensures e.number known.1 known.2)

pub returns-in_err-value : goal.returns-in_err-value
returns-in_err-value c = rw c.from_residual-in_err-value.ensures (λ e rest then.
    c.in_err-value.ensures e.value rest
    (third_of e rest c.args.text.now c.in_ok-component.component c.in_ok-number.number c.in_ok-component.text.now c.in_ok-number.text.now then c.in_ok-component.ensures c.in_ok-number.ensures))

pub returns-then-component-gt255 : goal.returns-then-component-gt255
returns-then-component-gt255 c = λ e rest then.
    let known = second_of e rest c.args.text.now c.in_ok-component.component c.in_ok-component.text.now then c.in_ok-component.ensures in
    omega (arith, then.fits.0, known.0)

pub returns-else-rest-eq32 : goal.returns-else-rest-eq32
returns-else-rest-eq32 c = λ e rest then.
    let left = c.in_ok-value.rest.now in
    let same = rest_of e rest c.args.text.now c.in_ok-component.component c.in_ok-number.number c.in_ok-value.value c.in_ok-component.text.now c.in_ok-number.text.now left then
    c.in_ok-component.ensures c.in_ok-number.ensures c.in_ok-value.ensures in
    let test = c.if-rest-eq32.false in
    elim c.if-is_empty.branch [
      | then-is_empty w ↦ absurd (let value = w.value-is in cc)
      | else-is_empty w ↦ no_entry_end left rest same then.ends (sym c.is_empty.ensures ∙ w.if-is_empty.false) (sym w.value-is ∙ test)
    ]
