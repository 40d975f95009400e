use Rattle.std.proofs.Common.{◌≡◌, ◌<◌, ◌+◌, ◌∙◌, ap, arith, length, subst, sym, take}
use Rattle.std.proofs.lemmas.List.{length-take-le}
use Rattle.std.proofs.lemmas.Slice.Zip.{AllZip-long}
use Rattle.snap_core.specs.Counting.{failures_in, inner_of}
use Rattle.snap_files.specs.inside.Files.{AreAnswered, paged}
use Rattle.snap_files.specs.Files.{Told, said}
use Rattle.snap_files.specs.declared.format.FileOptions.{FileOptions}
use Rattle.snap_files.specs.Sums.{counting, judged_of}
use Rattle.snap_files.proofs.Summing.{all_summed, judged_fits, round_summed}
use Rattle.snap_files.proofs.sum.sums_of.Goals as goal

pub count_round-requires : goal.count_round-requires
count_round-requires g c =
    ap length c.deref.ensures.value ∙ AllZip-long _ c.round_at-round.result.now c.in_ok-pages.pages.items c.in_ok-pages.ensures

pub loop-from-preserved : goal.loop-from-preserved
loop-from-preserved g c =
    let opens = g.O.Opener.opens c.args.files.now.opener.now in
    let names = c.args.files.now.names.now in
    let from = c.loop-from.from in
    let round = c.round_at-round.result.now in
    let pages = c.deref.result.now in
    let so_far = c.loop-from.invariant.summed in
    let within = c.round_at-round.ensures.within in
    let answered = subst (λ (o : FileOptions). AreAnswered opens o round c.in_ok-pages.pages.items) c.options_of-options.ensures c.in_ok-pages.ensures in
    let here = subst (λ ps. AreAnswered opens (counting c.args.check) round ps) (sym c.deref.ensures.value) answered in
    let told = subst (λ (o : FileOptions). Told (g.E.Write.contents (inner_of c.loop-from.errors)) (g.E.Write.contents (inner_of c.count_round.new.errors)) (failures_in c.loop-from.errors) (failures_in c.count_round.new.errors)
    (said o (paged round pages))) c.options_of-options.ensures c.in_ok-count_round.ensures.told in
    let before : length (judged_of so_far.pages) ≡ from = judged_fits opens (counting c.args.check) (take from names) so_far.pages so_far.each ∙ length-take-le from names c.loop-from.invariant.within in
    let fits : length (judged_of so_far.pages) + length round < 18446744073709551616 = omega (arith, before, within) in
    record {
      within = within;
      summed = round_summed opens c.args.check names from round pages _ _ _ _ _ _ c.loop-from.sums c.count_round.new.sums c.round_at-round.ensures.names so_far here
          (c.in_ok-count_round.ensures.counts (judged_of so_far.pages) fits so_far.sums_are) told;
    }

pub returns : goal.returns
returns g c =
    all_summed (g.O.Opener.opens c.args.files.now.opener.now) c.args.check c.args.files.now.names.now c.loop-from.from _ _ _ _ c.loop-from.sums (omega (arith, c.loop-from-test.false)) c.loop-from.invariant.summed
