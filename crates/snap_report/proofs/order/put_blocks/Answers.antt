use Rattle.std.proofs.Common.{◌≡◌, ◌<◌, ◌≤◌, ◌++◌, [], length, take, get_or, sym, ap, ◌∙◌, subst, arith}
use Rattle.std.specs.List.{AllZip, flat_map}
use Rattle.std.proofs.lemmas.List.{flat_map_more, take_all, take_more}
use Rattle.std.proofs.lemmas.Slice.Zip.{AllZip-long}
use Rattle.rayon.specs.Lists.{chunks_of}
use Rattle.rayon.proofs.ToStd.{chunks_of-concat}
use Rattle.snap_core.specs.Calls.{calls_of}
use Rattle.snap_report.specs.inside.Parts.{IsTextOf, lines_text}
use Rattle.snap_report.proofs.Parts.{blocks_joined, text_at}
use Rattle.snap_report.proofs.order.put_blocks.Goals as goal

pub loop-text-preserved : goal.loop-text-preserved
loop-text-preserved g c =
    let calls = calls_of c.args.index.now in
    let blocks = chunks_of c.args.size c.args.numbers.now in
    let texts = c.in_ok-texts.texts.items in
    let i = c.loop-text.text-index in
    let item = c.text-item.result in
    let same : c.deref-text-items.result.now ≡ texts = c.deref-text-items.ensures.value in
    let zipped : AllZip (IsTextOf calls) blocks texts = c.in_ok-texts.ensures in
    let inside : i < length texts = omega (arith, c.loop-text-test.true, ap length same) in
    let block : i < length blocks = omega (arith, inside, AllZip-long (IsTextOf calls) blocks texts zipped) in
    let made : IsTextOf calls (get_or blocks i []) item =
    subst (IsTextOf calls (get_or blocks i [])) (sym (c.text-item.is ∙ ap (λ z. get_or z i item) same)) (text_at calls blocks texts zipped i item inside) in
    let lines : c.in-Ok.lines.items ≡ lines_text calls (get_or blocks i []) = subst (IsTextOf calls (get_or blocks i [])) c.in-Ok.is made in
    c.in_ok-extend_from_slice-in-Ok.ensures.items ∙ ap (λ z. z ++ c.deref.result.now) c.loop-text.invariant
    ∙ ap (λ z. (c.args.out.now.items ++ flat_map (lines_text calls) (take i blocks)) ++ z) (c.deref.ensures.value ∙ lines)
    ∙ flat_map_more (lines_text calls) c.args.out.now.items (take i blocks) (get_or blocks i [])
    ∙ ap (λ z. c.args.out.now.items ++ flat_map (lines_text calls) z) (sym (take_more blocks i [] block))

pub returns : goal.returns
returns g c =
    let calls = calls_of c.args.index.now in
    let blocks = chunks_of c.args.size c.args.numbers.now in
    let same = ap length c.deref-text-items.ensures.value in
    let long = AllZip-long (IsTextOf calls) blocks c.in_ok-texts.texts.items c.in_ok-texts.ensures in
    let all : length blocks ≤ c.loop-text.text-index = omega (arith, c.loop-text-test.false, same, long) in
    c.loop-text.invariant ∙ ap (λ z. c.args.out.now.items ++ flat_map (lines_text calls) z) (take_all c.loop-text.text-index blocks all)
    ∙ ap (λ z. c.args.out.now.items ++ z) (blocks_joined calls blocks ∙ ap (lines_text calls) (chunks_of-concat c.args.size c.args.numbers.now c.requires.some))
