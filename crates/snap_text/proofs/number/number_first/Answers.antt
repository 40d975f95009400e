use Rattle.std.proofs.Common.{◌<◌, ◌≡◌, ◌⊎◌, inl, inr, arith}
use Rattle.snap_text.proofs.FrontFacts.{digit_more, first_digit, no_digit_in_nothing, none_goes_on, none_too_large, none_without_digits}
use Rattle.snap_text.proofs.number.number_first.Goals as goal
use Rattle.snap_text.proofs.number.number_first.Goals.{then-number-eq0-via-then-number-eq0, then-number-eq0-via-else-number-eq0+then-number, in-Some+then-not-is_ascii_digit-2, in_default}

pub returns-in_err-first : goal.returns-in_err-first
returns-in_err-first c = rw c.from_residual.ensures (λ n rest then. none_without_digits c.args.text.now n rest (no_digit_in_nothing c.args.text.now c.in_err-first.ensures.cases) then)

pub returns-then-not-is_ascii_digit : goal.returns-then-not-is_ascii_digit
returns-then-not-is_ascii_digit c = λ n rest then.
    none_without_digits c.args.text.now n rest (rw c.in_ok-first.ensures.cases.0 c.if-not-is_ascii_digit.ensures.cases) then

pub loop-byte-init : goal.loop-byte-init
loop-byte-init c =
    let digit = c.if-not-is_ascii_digit.ensures.cases in
    record {
      read = rw c.from-number.ensures (first_digit c.args.text.now c.in_ok-first.left.now c.in_ok-first.first.now c.in_ok-first.ensures.cases.0 digit);
      small = omega (arith, digit.1);
    }

pub loop-byte-preserved : goal.loop-byte-preserved
loop-byte-preserved c =
    let digit = c.if-not-is_ascii_digit-2.ensures.cases in
    let read = rw c.in-Some.ensures.cases.0 at c.loop-byte.invariant.read in
    record {
      read = rw c.from.ensures (digit_more c.args.text.now c.in-Some.rest.now c.loop-byte.number c.in-Some.byte.now read digit (omega arith) (omega arith));
      small = omega (arith, digit.1);
    }

pub returns-then-number-eq0 : goal.returns-then-number-eq0
returns-then-number-eq0 c = λ n rest then.
    let read = rw c.in-Some.ensures.cases.0 at c.loop-byte.invariant.read in
    let bad : (c.loop-byte.number ≡ 0) ⊎ (429496729 < c.loop-byte.number) = elim c.then-number-eq0.branch [
      | then-number-eq0-via-then-number-eq0 w ↦ inl w.if-number-eq0.true
      | then-number-eq0-via-else-number-eq0+then-number w ↦ inr w.if-number.true
    ] in
    none_goes_on c.args.text.now c.in-Some.rest.now c.loop-byte.number c.in-Some.byte.now n rest read c.if-not-is_ascii_digit-2.ensures.cases (omega arith) bad then

pub returns-then-number-gt-GREATEST : goal.returns-then-number-gt-GREATEST
returns-then-number-gt-GREATEST c = λ n rest then.
    none_too_large c.args.text.now c.loop-byte.left.now c.loop-byte.number n rest c.loop-byte.invariant.read (omega arith) (omega arith) then

pub returns : goal.returns
returns c = record {
  small = omega arith;
  whole = c.loop-byte.invariant.read;
  ends = elim c.match-split_first.branch [
    | in-Some+then-not-is_ascii_digit-2 w ↦ rw w.in-Some.ensures.cases.0 w.if-not-is_ascii_digit-2.ensures.cases
    | in_default w ↦ no_digit_in_nothing c.loop-byte.left.now w.in_default.ensures.cases
  ];
}
