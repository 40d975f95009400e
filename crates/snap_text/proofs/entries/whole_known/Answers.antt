use Rattle.std.proofs.Common.{◌+◌, arith, sym, ◌∙◌}
use Rattle.std.proofs.lemmas.List.{length-take, take_all}
use Rattle.snap_text.proofs.KnownFacts.{all_of_known, front_of}
use Rattle.snap_text.proofs.entries.whole_known.Goals as goal

pub returns-then-same-old : goal.returns-then-same-old
returns-then-same-old c =
    let left = c.args.left.now in
    let all = sym (take_all c.args.same left c.if-same-left.false) ∙ c.requires.same in
    all_of_known c.args.olds.now left c.args.old.now c.args.same c.requires.known (omega arith) all c.if-same-old.true

pub slice_bounds-result-end : goal.slice_bounds-result-end
slice_bounds-result-end c =
    let left = c.args.left.now in
    let all = sym (take_all c.args.same left c.if-same-left.false) ∙ c.requires.same in
    let front = front_of c.args.olds.now left c.args.old.now c.args.same c.requires.known all (omega arith) c.if-old-same-ne32.false in
    omega (arith, front.within, c.spaces.ensures, length-take (c.spaces.result + 1) c.args.olds.now)

pub returns : goal.returns
returns c =
    let left = c.args.left.now in
    let all = sym (take_all c.args.same left c.if-same-left.false) ∙ c.requires.same in
    let front = front_of c.args.olds.now left c.args.old.now c.args.same c.requires.known all (omega arith) c.if-old-same-ne32.false in
    rw c.spaces.ensures front.then
