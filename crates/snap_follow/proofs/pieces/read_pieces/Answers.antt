use Rattle.std.proofs.Common.{◌≡◌, None, refl, sym, rules, arith}
use Rattle.std.proofs.lemmas.Bool.{false≢true}
use Rattle.snap_follow.proofs.Ending.{done_at_end, if_err_then, on_ok_then, on_refusal, passed_on, stopped_at_end, stopped_by_piece, stopped_by_text}
use Rattle.snap_follow.proofs.Lacking.{are_none, none_known, sees_read, tells_any, tells_as, tells_lost}
use Rattle.snap_follow.proofs.Running.{goes_on_both, goes_on_by_nothing, goes_on_by_piece, read_out, telling_more, telling_nothing, telling_same}
use Rattle.snap_follow.proofs.Sending.{no_write, stop_after}
use Rattle.snap_follow.proofs.pieces.read_pieces.Goals as goal

pub pieces-init : goal.pieces-init
pieces-init g c = record {
  can = search rules;
  finite = search rules;
  told = telling_nothing g.W.Write.contents g.T.Text.Read.remaining c.args.writer.now c.args.course.now c.args.at_hand.now (g.T.Texts.left c.args.texts.now);
  sees = λ none. (refl, λ not. absurd (false≢true (sym not)));
}

pub pieces-preserved-then-length-gt0 : goal.pieces-preserved-then-length-gt0
pieces-preserved-then-length-gt0 g c =
    let remaining = g.T.Text.Read.remaining in
    record {
      can = search rules;
      finite = search rules;
      told = telling_more g.W.Write.contents remaining c.args.writer.now c.pieces.writer c.take_piece.new.writer _ _ _ _ _ _ _ _ _ c.pieces.invariant.told c.in_ok-take_piece.ensures.taken.0
          (goes_on_by_piece remaining c.in_ok-take_piece.ensures.taken.0.out c.pieces.course c.take_piece.new.course c.pieces.at_hand c.read.new.self (g.T.Texts.left c.pieces.texts) c.in_ok-length.length c.read.new.piece c.in_ok-length.ensures.bytes c.read.ensures.next c.if-length-gt0.true c.in_ok-take_piece.ensures.taken.1);
      sees = sees_read remaining g.T.Texts.count g.T.Texts.looked c.args.texts.now c.pieces.texts c.pieces.at_hand.text c.read.new.self.text c.pieces.pauses.is_look_due c.in_ok-length.length c.read.new.piece c.in_ok-length.ensures.bytes c.pieces.invariant.sees;
    }

pub pieces-preserved : goal.pieces-preserved
pieces-preserved g c =
    let remaining = g.T.Text.Read.remaining in
    let none : c.in_ok-length.length ≡ 0 = omega (arith, c.if-length-gt0.false) in
    let left = g.T.Texts.left c.pieces.texts in
    let out = read_out remaining c.pieces.at_hand.text c.read.new.self.text c.in_ok-length.length c.read.new.piece c.in_ok-length.ensures.bytes none (omega (arith, c.requires, c.pieces.auto.piece, c.read.auto.piece)) in
    record {
      can = search rules;
      finite = search rules;
      told = telling_same g.W.Write.contents remaining c.args.writer.now c.pieces.writer _ _ _ _ _ _ _ _ _ c.pieces.invariant.told
          (goes_on_both remaining _ _ _ _ _ _ left left _ (goes_on_by_nothing remaining c.pieces.course c.pieces.at_hand c.read.new.self left c.in_ok-length.length c.read.new.piece c.in_ok-length.ensures.bytes c.read.ensures.next none)
          (c.in_ok-go_on.ensures.on c.if-not-branch.false out));
      sees = c.in_ok-go_on.ensures.sees c.args.texts.now
          (sees_read remaining g.T.Texts.count g.T.Texts.looked c.args.texts.now c.pieces.texts c.pieces.at_hand.text c.read.new.self.text c.pieces.pauses.is_look_due c.in_ok-length.length c.read.new.piece c.in_ok-length.ensures.bytes c.pieces.invariant.sees);
    }

pub returns-in_err-take_piece-clause-refused : goal.returns-in_err-take_piece-clause-refused
returns-in_err-take_piece-clause-refused g c =
    let remaining = g.T.Text.Read.remaining in
    passed_on c.from_residual-in_err-take_piece.result c.in_err-take_piece.field-0.0 _ c.from_residual-in_err-take_piece.ensures.1
    (on_refusal c.in_err-take_piece.field-0.0 _ _
    (λ stops least most all h. stopped_by_piece remaining c.pieces.course c.pieces.at_hand c.read.new.self (g.T.Texts.left c.pieces.texts) c.in_ok-length.length c.read.new.piece c.args.until c.in_ok-length.ensures.bytes c.if-length-gt0.true stops c.pieces.invariant.told.0.out least most all (c.pieces.invariant.told.1 least most all h))
    c.in_err-take_piece.ensures.refused)

pub returns-in_err-go_on-clause-refused : goal.returns-in_err-go_on-clause-refused
returns-in_err-go_on-clause-refused g c =
    let remaining = g.T.Text.Read.remaining in
    let none : c.in_ok-length.length ≡ 0 = omega (arith, c.if-length-gt0.false) in
    let left = g.T.Texts.left c.pieces.texts in
    let out = read_out remaining c.pieces.at_hand.text c.read.new.self.text c.in_ok-length.length c.read.new.piece c.in_ok-length.ensures.bytes none (omega (arith, c.requires, c.pieces.auto.piece, c.read.auto.piece)) in
    passed_on c.from_residual-in_err-go_on.result c.in_err-go_on.field-0.0 _ c.from_residual-in_err-go_on.ensures.1
    (on_refusal c.in_err-go_on.field-0.0 _ _
    (λ stops least most all h. stopped_by_text remaining c.pieces.course c.read.new.self left c.args.until out stops c.pieces.invariant.told.0.out least most all
    (goes_on_by_nothing remaining c.pieces.course c.pieces.at_hand c.read.new.self left c.in_ok-length.length c.read.new.piece c.in_ok-length.ensures.bytes c.read.ensures.next none c.pieces.invariant.told.0.out least most all (c.pieces.invariant.told.1 least most all h)))
    c.in_err-go_on.ensures.refused)

pub returns-then-not-branch-clause-done : goal.returns-then-not-branch-clause-done
returns-then-not-branch-clause-done g c =
    let remaining = g.T.Text.Read.remaining in
    let none : c.in_ok-length.length ≡ 0 = omega (arith, c.if-length-gt0.false) in
    let left = g.T.Texts.left c.pieces.texts in
    let out = read_out remaining c.pieces.at_hand.text c.read.new.self.text c.in_ok-length.length c.read.new.piece c.in_ok-length.ensures.bytes none (omega (arith, c.requires, c.pieces.auto.piece, c.read.auto.piece)) in
    let over = c.in_ok-go_on.ensures.over c.if-not-branch.true in
    on_ok_then c.end_reading.result _ _ c.end_reading.ensures.ended (λ ends. (
      c.pieces.invariant.told.0,
      λ least most all h. done_at_end remaining c.pieces.course c.go_on.new.course c.end_reading.new.course c.read.new.self c.go_on.new.at_hand left c.args.until over out ends c.pieces.invariant.told.0.out least most all
          (goes_on_by_nothing remaining c.pieces.course c.pieces.at_hand c.read.new.self left c.in_ok-length.length c.read.new.piece c.in_ok-length.ensures.bytes c.read.ensures.next none c.pieces.invariant.told.0.out least most all (c.pieces.invariant.told.1 least most all h)),
    ))

pub returns-then-not-branch-clause-refused : goal.returns-then-not-branch-clause-refused
returns-then-not-branch-clause-refused g c =
    let remaining = g.T.Text.Read.remaining in
    let none : c.in_ok-length.length ≡ 0 = omega (arith, c.if-length-gt0.false) in
    let left = g.T.Texts.left c.pieces.texts in
    let out = read_out remaining c.pieces.at_hand.text c.read.new.self.text c.in_ok-length.length c.read.new.piece c.in_ok-length.ensures.bytes none (omega (arith, c.requires, c.pieces.auto.piece, c.read.auto.piece)) in
    let over = c.in_ok-go_on.ensures.over c.if-not-branch.true in
    if_err_then c.end_reading.result _ _ c.end_reading.ensures.refused (λ stop refused. on_refusal stop _ _ (λ stops least most all h. stopped_at_end remaining c.pieces.course c.go_on.new.course c.read.new.self c.go_on.new.at_hand left c.args.until over out stops c.pieces.invariant.told.0.out least most all
    (goes_on_by_nothing remaining c.pieces.course c.pieces.at_hand c.read.new.self left c.in_ok-length.length c.read.new.piece c.in_ok-length.ensures.bytes c.read.ensures.next none c.pieces.invariant.told.0.out least most all (c.pieces.invariant.told.1 least most all h))) refused)

pub returns-in_err-take_piece-clause-stopped : goal.returns-in_err-take_piece-clause-stopped
returns-in_err-take_piece-clause-stopped g c =
    passed_on c.from_residual-in_err-take_piece.result c.in_err-take_piece.field-0.0 _ c.from_residual-in_err-take_piece.ensures.1
    (stop_after g.W.Write.contents c.args.writer.now c.pieces.writer c.take_piece.new.writer c.in_err-take_piece.field-0.0 c.pieces.invariant.told.0 c.in_err-take_piece.ensures.stopped)

pub returns-in_err-go_on-clause-stopped : goal.returns-in_err-go_on-clause-stopped
returns-in_err-go_on-clause-stopped g c =
    passed_on c.from_residual-in_err-go_on.result c.in_err-go_on.field-0.0 _ c.from_residual-in_err-go_on.ensures.1
    (no_write g.W.Write.contents c.args.writer.now c.pieces.writer c.in_err-go_on.field-0.0 c.in_err-go_on.ensures.no_write c.pieces.invariant.told.0)

pub returns-then-not-branch-clause-stopped : goal.returns-then-not-branch-clause-stopped
returns-then-not-branch-clause-stopped g c =
    if_err_then c.end_reading.result _ _ c.end_reading.ensures.no_write (λ stop no. no_write g.W.Write.contents c.args.writer.now c.pieces.writer stop no c.pieces.invariant.told.0)

pub returns-in_err-take_piece-clause-tells : goal.returns-in_err-take_piece-clause-tells
returns-in_err-take_piece-clause-tells g c =
    passed_on c.from_residual-in_err-take_piece.result c.in_err-take_piece.field-0.0 _ c.from_residual-in_err-take_piece.ensures.1
    (tells_any (g.T.Texts.loses c.pieces.texts) _ c.in_err-take_piece.field-0.0 c.in_err-take_piece.ensures.tells)

pub returns-in_err-go_on-clause-tells : goal.returns-in_err-go_on-clause-tells
returns-in_err-go_on-clause-tells g c =
    passed_on c.from_residual-in_err-go_on.result c.in_err-go_on.field-0.0 _ c.from_residual-in_err-go_on.ensures.1
    (tells_lost (g.T.Texts.loses c.go_on.new.texts) _ c.in_err-go_on.field-0.0 c.in_err-go_on.ensures.tells)

pub returns-then-not-branch-clause-tells : goal.returns-then-not-branch-clause-tells
returns-then-not-branch-clause-tells g c =
    let remaining = g.T.Text.Read.remaining in
    let none : c.in_ok-length.length ≡ 0 = omega (arith, c.if-length-gt0.false) in
    let left = g.T.Texts.left c.pieces.texts in
    let out = c.pieces.invariant.told.0.out in
    let over = c.in_ok-go_on.ensures.over c.if-not-branch.true in
    let seen = c.in_ok-go_on.ensures.sees c.args.texts.now
    (sees_read remaining g.T.Texts.count g.T.Texts.looked c.args.texts.now c.pieces.texts c.pieces.at_hand.text c.read.new.self.text c.pieces.pauses.is_look_due c.in_ok-length.length c.read.new.piece c.in_ok-length.ensures.bytes c.pieces.invariant.sees) in
    if_err_then c.end_reading.result _ _ c.end_reading.ensures.tells
    (λ stop tells. tells_as (λ _. ⊥) (g.T.Texts.loses c.go_on.new.texts) (c.go_on.new.at_hand.text ≡ None) _ stop (λ lost no. absurd no)
    (λ is. (
      λ least most all h. none_known remaining c.pieces.course c.read.new.self c.go_on.new.at_hand left over.2 is over.0 out least most all
          (goes_on_by_nothing remaining c.pieces.course c.pieces.at_hand c.read.new.self left c.in_ok-length.length c.read.new.piece c.in_ok-length.ensures.bytes c.read.ensures.next none out least most all (c.pieces.invariant.told.1 least most all h)),
      are_none g.T.Texts.count g.T.Texts.waits g.T.Texts.looked c.args.texts.now c.go_on.new.texts c.go_on.new.at_hand.text c.go_on.new.pauses.is_look_due seen is (c.in_ok-go_on.ensures.none c.if-not-branch.true),
    ))
    tells)
