use Rattle.std.proofs.Common.{length, sym, ap, ◌∙◌, arith}
use Rattle.std.proofs.lemmas.List.{length-map}
use Rattle.snap_core.specs.Calls.{calls_of, views_of}
use Rattle.snap_index.specs.IndexedCalls.{number_of}
use Rattle.snap_index.specs.inside.Tables.{number_kept}
use Rattle.snap_index.proofs.IndexedCalls.{word_fits}
use Rattle.snap_index.proofs.LookUps.{views_few, seen}
use Rattle.snap_index.proofs.index.Index.view_count.Goals as goal

pub overflow_cast-result : goal.overflow_cast-result
overflow_cast-result g c = word_fits c.len.result (omega (arith, views_few _ _ _ _ _ c.self.invariant, c.len.ensures))

pub returns : goal.returns
returns g c =
    let i = seen _ _ _ _ _ _ c.self.view_is c.self.invariant in
    let count = sym (length-map c.self.inside.views.items number_kept) ∙ ap length i.tables.of_views ∙ length-map (views_of (calls_of c.args.self.now)) number_of in
    omega (arith, c.len.ensures, count)
