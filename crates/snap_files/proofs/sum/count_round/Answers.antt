use Rattle.std.proofs.Common.{◌<◌, ◌+◌, ◌++◌, ◌∷◌, [], ◌∙◌, ap, arith, length, length-append, List, ℕ, subst, sym, take}
use Rattle.snap_core.specs.Counting.{failures_in, inner_of}
use Rattle.snap_files.specs.Files.{Told, told_text}
use Rattle.snap_files.specs.inside.Files.{paged}
use Rattle.snap_files.specs.inside.Sums.{AreSums}
use Rattle.snap_files.specs.Sums.{judged_of, with_code}
use Rattle.snap_files.proofs.Pages.{told_by, told_more}
use Rattle.snap_files.proofs.Summing.{file_more, paged_fits, said_next}
use Rattle.snap_files.proofs.sum.count_round.Goals as goal

pub loop-place-preserved : goal.loop-place-preserved
loop-place-preserved g c =
    let names = c.args.names.now in
    let pages = c.args.pages.now in
    let place = c.loop-place.place in
    let name = c.index-names-place.result in
    let page = c.index-pages-place.result in
    let low = c.loop-place-test.true in
    let so_far = judged_of (paged (take place names) (take place pages)) in
    let few = paged_fits names pages place c.requires low in
    let line = c.deref-in-loop-place.ensures.value ∙ c.in_ok-told.ensures ∙ ap (λ (n : List ℕ). told_text c.args.options n page.0) c.deref.ensures.value in
    let told = subst (λ (text : List ℕ). Told (g.E.Write.contents (inner_of c.loop-place.errors)) (g.E.Write.contents (inner_of c.send.new.self)) (failures_in c.loop-place.errors) (failures_in c.send.new.self) text) line
    (told_by _ _ _ _ _ c.send.result c.send.ensures.bytes c.send.ensures.counts) in
    record {
      counts = λ before fits are.
          let fits' : length (before ++ so_far) + 1 < 18446744073709551616 = omega (arith, length-append before so_far, few, fits, low) in
          file_more before names pages place name page c.add.new.self c.requires low c.index-names-place.is c.index-pages-place.is
          (subst (λ (n : ℕ). AreSums ((before ++ so_far) ++ with_code (name.items) n ∷ []) c.add.new.self) c.code_of.ensures
          (c.add.ensures (before ++ so_far) (name.items) fits' (c.loop-place.invariant.counts before fits are)));
      told = subst (λ (text : List ℕ). Told (g.E.Write.contents (inner_of c.args.errors.now)) (g.E.Write.contents (inner_of c.send.new.self)) (failures_in c.args.errors.now) (failures_in c.send.new.self) text)
          (sym (said_next c.args.options names pages place name page c.requires low c.index-names-place.is c.index-pages-place.is)) (told_more _ _ _ _ _ _ _ _ c.loop-place.invariant.told told);
    }
