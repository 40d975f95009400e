use Rattle.std.proofs.Common.{inl, subst, sym}
use Rattle.std.proofs.lemmas.Result.{MatchResult-at_err, MatchResult-at_ok}
use Rattle.snap_files.specs.Files.{IsTroubled}
use Rattle.snap_files.proofs.Troubles.{of_fault}
use Rattle.snap_files.proofs.page.check_name.Goals.{in-Ok+in-Err-text_page, in-Err}
use Rattle.snap_files.proofs.page.check_name.Goals as goal

pub returns : goal.returns
returns g c =
    let opens = g.O.Opener.opens c.args.opener.now in
    let name = c.args.name.now in
    let troubled : IsTroubled opens name c.match-open.met = elim c.match-open.branch [
      | in-Ok+in-Err-text_page w ↦ subst (IsTroubled opens name) (sym w.met-is) (of_fault opens name _ _ _ (MatchResult-at_ok _ _ _ w.in-Ok.is c.open.ensures) w.trouble_of.ensures)
      | in-Err w ↦ subst (IsTroubled opens name) (sym w.met-is) (inl (MatchResult-at_err _ _ _ w.in-Err.is c.open.ensures))
    ] in
    (c.match-open.met, troubled, c.trouble_page-trouble.ensures)
