use Rattle.std.proofs.Common.{◌∷◌, [], Some, None, arith, codes, refl, true}
use Rattle.std.specs.Fmt.{digits}
use Rattle.clap.proofs.OnLiterals.{clap_on_literals}
use Rattle.snap_words.specs.Jobs.{plain_check}
use Rattle.snap_words.proofs.Meanings.{Fit, check_of, plain_fit, whole}
use Rattle.snap_words.proofs.lines.source_lines.Goals as goal

plain_fits : Fit plain_check [] None None None None
plain_fits = plain_fit _ _ _ (omega arith) (whole _ refl refl) refl refl refl (omega arith)

fits : Fit (record plain_check { list = Some (codes "-"); null = true; folder = Some (codes "runs") }) [] None None None None
fits = record {
  pieces_fit = plain_fits.pieces_fit;
  workers_fit = plain_fits.workers_fit;
  views_fit = plain_fits.views_fit;
  one_form = plain_fits.one_form;
  null_ends = λ _. refl;
  input_once = omega arith;
  pieces_are = refl;
  finer_is = refl;
  workers_are = refl;
  writers_are = refl;
  color_is = refl;
}

pub returns : goal.returns
unfolding clap_on_literals digits
returns c = λ name. check_of (name ∷ codes "check" ∷ codes "--files-from" ∷ codes "-" ∷ codes "-0" ∷ codes "-r" ∷ codes "runs" ∷ []) (record plain_check { list = Some (codes "-"); null = true; folder = Some (codes "runs") }) [] true fits refl refl refl refl
