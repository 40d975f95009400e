use Rattle.std.proofs.Common.{[], None, false, refl, ◌≡◌}
use Rattle.snap_follow.specs.Recordings.{CanBeFollowed}
use Rattle.snap_follow.specs.inside.Runs.{IsDone}
use Rattle.snap_follow.proofs.Ending.{from_the_begin, if_err_then, on_ok_then, on_refusal}
use Rattle.snap_follow.proofs.Lacking.{tells_as}
use Rattle.snap_follow.proofs.pieces.read_all.Goals as goal

pub returns-clause-done : goal.returns-clause-done
returns-clause-done g c =
    on_ok_then c.read_pieces.result _ _ c.read_pieces.ensures.done
    (λ done. (done.0, λ least most h. from_the_begin g.T.Text.Read.remaining c.args.course.now record { text = None; read = 0; has_next = false } (g.T.Texts.left c.args.texts.now) [] least most (IsDone c.read_pieces.new.course c.args.until done.0.out least most) refl refl h (λ all. done.1 least most all)))

pub returns-clause-refused : goal.returns-clause-refused
returns-clause-refused g c =
    if_err_then c.read_pieces.result _ _ c.read_pieces.ensures.refused
    (λ stop refused. on_refusal stop _ _
    (λ stops least most h. from_the_begin g.T.Text.Read.remaining c.args.course.now record { text = None; read = 0; has_next = false } (g.T.Texts.left c.args.texts.now) [] least most (λ all. ¬ CanBeFollowed most c.args.until all) refl refl h (λ all. stops least most all)) refused)

pub returns-clause-tells : goal.returns-clause-tells
returns-clause-tells g c =
    let loses = g.T.Texts.loses c.read_pieces.new.texts in
    if_err_then c.read_pieces.result _ _ c.read_pieces.ensures.tells
    (λ stop tells. tells_as loses loses _ _ stop (λ lost is. is)
    (λ both. (
      λ least most h. from_the_begin g.T.Text.Read.remaining c.args.course.now record { text = None; read = 0; has_next = false } (g.T.Texts.left c.args.texts.now) [] least most (λ all. all ≡ []) refl refl h (λ all. both.0 least most all),
      both.1,
    ))
    tells)
