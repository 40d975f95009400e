use Rattle.std.proofs.Common.{◌∙◌, ap, arith, length, rules, subst, sym}
use Rattle.std.proofs.lemmas.Slice.Zip.{AllZip-long}
use Rattle.snap_files.specs.inside.Files.{AreAnswered}
use Rattle.snap_files.proofs.Pages.{all_checked, round_checked, round_cut, round_written, some_checked, whatever_error}
use Rattle.snap_files.proofs.files.check_all.Goals as goal

pub write_round-requires : goal.write_round-requires
write_round-requires g c =
    ap length c.deref.ensures.value ∙ AllZip-long _ c.round_at-round.result.now c.in_ok-pages.pages.items c.in_ok-pages.ensures

pub loop-from-preserved : goal.loop-from-preserved
loop-from-preserved g c =
    let opens = g.O.Opener.opens c.args.files.now.opener.now in
    let options = c.args.options in
    let round = c.round_at-round.result.now in
    let within = c.round_at-round.ensures.within in
    let answered = subst (λ ps. AreAnswered opens options round ps) (sym c.deref.ensures.value) c.in_ok-pages.ensures in
    record {
      within = within;
      all = rw (c.max-greatest.ensures) (round_checked opens options c.args.files.now.names.now c.loop-from.from round _ _ _ _ _ _ _ _ _ _ _ c.round_at-round.ensures.names c.loop-from.invariant.all
          (round_written opens options round c.deref.result.now _ _ _ _ _ _ _ answered c.in_ok-code.ensures.all));
      count = search rules;
    }

pub returns-in_err-pages-clause-some : goal.returns-in_err-pages-clause-some
returns-in_err-pages-clause-some g c =
    whatever_error _ c.from_residual.result (some_checked _ _ c.args.files.now.names.now c.loop-from.from _ _ _ _ _ _ _ c.loop-from.invariant.within c.loop-from.invariant.all)

pub returns-in_err-code-clause-some : goal.returns-in_err-code-clause-some
returns-in_err-code-clause-some g c =
    let opens = g.O.Opener.opens c.args.files.now.opener.now in
    let options = c.args.options in
    let round = c.round_at-round.result.now in
    let answered = subst (λ ps. AreAnswered opens options round ps) (sym c.deref.ensures.value) c.in_ok-pages.ensures in
    whatever_error _ c.from_residual-in_err-code.result (round_cut opens options c.args.files.now.names.now c.loop-from.from round c.deref.result.now _ _ _ _ _ _ _ _ c.round_at-round.ensures.within c.round_at-round.ensures.names
    c.loop-from.invariant.all answered c.in_err-code.ensures.some)

pub returns-clause-all : goal.returns-clause-all
returns-clause-all g c = all_checked _ _ _ c.loop-from.from _ _ _ _ _ _ _ (omega (arith, c.loop-from-test.false)) c.loop-from.invariant.all
