use Rattle.snap_core.specs.Counting.{inner_of}
use Rattle.snap_follow.proofs.Answering.{refused_answer, unwritten_answer, whole_answer, written_answer}
use Rattle.snap_follow.proofs.Ending.{on_refusal}
use Rattle.snap_follow.proofs.Lacking.{answers_name, answers_none, answers_other, not_lost, tells_as}
use Rattle.snap_follow.proofs.Sending.{leaves_after}
use Rattle.snap_follow.proofs.run.follow_run.Goals as goal

pub returns-in-Ok-clause-whole : goal.returns-in-Ok-clause-whole
returns-in-Ok-clause-whole g c =
    whole_answer c.args.asked (g.T.Texts.left c.args.texts.now) c.read_all.new.course c.in-Ok.ensures.done.0.out c.end_whole.result (c.in-Ok.ensures.done.1 c.args.asked.least c.args.asked.most c.new-course.ensures) c.end_whole.ensures.rest c.end_whole.ensures.code

pub returns-in-Err-clause-whole : goal.returns-in-Err-clause-whole
returns-in-Err-clause-whole g c =
    refused_answer c.args.asked (g.T.Texts.left c.args.texts.now) c.in-Err.stop c.end_early.result
    (on_refusal c.in-Err.stop _ _ (λ stops. stops c.args.asked.least c.args.asked.most c.new-course.ensures) c.in-Err.ensures.refused) c.end_early.ensures.refused

pub returns-in-Ok-clause-told : goal.returns-in-Ok-clause-told
returns-in-Ok-clause-told g c =
    let contents = g.W.Write.contents in
    written_answer c.args.asked (g.T.Texts.left c.args.texts.now) c.read_all.new.course c.in-Ok.ensures.done.0.out c.end_whole.result
    (contents (inner_of c.args.writer.now)) (contents (inner_of c.read_all.new.writer)) (contents (inner_of c.end_whole.new.writer))
    c.in-Ok.ensures.done.0.sent (c.in-Ok.ensures.done.1 c.args.asked.least c.args.asked.most c.new-course.ensures) c.end_whole.ensures.rest c.end_whole.ensures.told

pub returns-in-Err-clause-told : goal.returns-in-Err-clause-told
returns-in-Err-clause-told g c =
    let contents = g.W.Write.contents in
    unwritten_answer c.args.asked (g.T.Texts.left c.args.texts.now) c.in-Err.stop c.end_early.result (contents (inner_of c.args.writer.now)) (contents (inner_of c.end_early.new.writer))
    (on_refusal c.in-Err.stop _ _ (λ stops. stops c.args.asked.least c.args.asked.most c.new-course.ensures) c.in-Err.ensures.refused) c.end_early.ensures.refused

pub returns-in-Ok-clause-wrote : goal.returns-in-Ok-clause-wrote
returns-in-Ok-clause-wrote g c = leaves_after g.W.Write.contents c.args.writer.now c.read_all.new.writer c.end_whole.new.writer c.end_whole.result c.in-Ok.ensures.done.0 c.end_whole.ensures.wrote

pub returns-in-Err-clause-wrote : goal.returns-in-Err-clause-wrote
returns-in-Err-clause-wrote g c = c.end_early.ensures.wrote c.args.writer.now c.in-Err.ensures.stopped

pub returns-in-Ok-clause-name : goal.returns-in-Ok-clause-name
returns-in-Ok-clause-name g c = not_lost c.end_whole.result (g.T.Texts.loses c.read_all.new.texts) c.end_whole.ensures.lost

pub returns-in-Err-clause-name : goal.returns-in-Err-clause-name
returns-in-Err-clause-name g c = answers_name c.end_early.result (g.T.Texts.loses c.read_all.new.texts) _ c.in-Err.stop c.end_early.ensures.name c.in-Err.ensures.tells

pub returns-in-Ok-clause-none : goal.returns-in-Ok-clause-none
returns-in-Ok-clause-none g c = answers_other c.end_whole.result _ c.end_whole.ensures.tells

pub returns-in-Err-clause-none : goal.returns-in-Err-clause-none
returns-in-Err-clause-none g c =
    let loses = g.T.Texts.loses c.read_all.new.texts in
    answers_none c.end_early.result loses _ c.in-Err.stop c.end_early.ensures.none
    (tells_as loses loses _ _ c.in-Err.stop (λ lost is. is) (λ both. both.0 c.args.asked.least c.args.asked.most c.new-course.ensures) c.in-Err.ensures.tells)

pub returns-in-Ok-clause-looked : goal.returns-in-Ok-clause-looked
returns-in-Ok-clause-looked g c = answers_other c.end_whole.result _ c.end_whole.ensures.tells

pub returns-in-Err-clause-looked : goal.returns-in-Err-clause-looked
returns-in-Err-clause-looked g c =
    let loses = g.T.Texts.loses c.read_all.new.texts in
    answers_none c.end_early.result loses _ c.in-Err.stop c.end_early.ensures.none (tells_as loses loses _ _ c.in-Err.stop (λ lost is. is) (λ both. both.1) c.in-Err.ensures.tells)
