use Rattle.std.proofs.Common.{drop, rules}
use Rattle.std.proofs.lemmas.List.{take_rest}
use Rattle.snap_plain.proofs.FrontFacts.{behind_blanks, behind_newline}
use Rattle.snap_plain.proofs.AheadFacts.{behind, whole}
use Rattle.snap_plain.proofs.PlainFacts.{rest_of_rest}
use Rattle.snap_plain.proofs.front.behind_blank.Goals as goal

pub loop-left-init : goal.loop-left-init
loop-left-init c = record { same = λ rows h. h; rest = whole c.args.text.now }

pub loop-left-preserved : goal.loop-left-preserved
loop-left-preserved c =
    let left = c.loop-left.left.now in
    record {
      same = λ rows h. rw (take_rest left 32) (behind_blanks 32 left rows (search rules) (c.begins_blank.ensures c.if-begins_blank.true) (c.loop-left.invariant.same rows h));
      rest = rw (take_rest left 32) (rest_of_rest (drop 32 left) left c.args.text.now (behind 32 left) c.loop-left.invariant.rest);
    }

pub loop-left-2-preserved : goal.loop-left-2-preserved
loop-left-2-preserved c =
    let left = c.loop-left-2.left.now in
    record {
      same = λ rows h. rw (take_rest left 1) (behind_newline left rows (search rules) (search rules) (c.loop-left-2.invariant.same rows h));
      rest = rw (take_rest left 1) (rest_of_rest (drop 1 left) left c.args.text.now (behind 1 left) c.loop-left-2.invariant.rest);
    }
