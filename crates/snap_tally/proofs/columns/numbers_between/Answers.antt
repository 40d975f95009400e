use Rattle.std.proofs.Common.{◌≡◌, ℕ, ◌<◌, ◌≤◌, length, sym, ap, ◌∙◌, subst, arith}
use Rattle.snap_core.specs.Calls.{calls_of, entries_of, views_of}
use Rattle.snap_core.specs.Entries.{AreEntries}
use Rattle.snap_tally.specs.inside.NumberTables.{AreFilled, IsPut, HasRows}
use Rattle.snap_views.specs.Rows.{number_among}
use Rattle.snap_views.specs.Seen.{view_in}
use Rattle.snap_tally.proofs.NumberTables.{nothing_filled, view_filled}
use Rattle.snap_tally.proofs.columns.numbers_between.Goals as goal

pub entries_between-entries-requires-clause-entries : goal.entries_between-entries-requires-clause-entries
entries_between-entries-requires-clause-entries g c = subst AreEntries (sym c.view_at.ensures.entries) c.view_at.ensures.shape

pub loop-place-init : goal.loop-place-init
loop-place-init g c = subst (AreFilled (calls_of c.args.index.now) c.args.from c.args.to 0) (sym c.in_ok-table.ensures) (nothing_filled (calls_of c.args.index.now) c.args.from c.args.to)

pub put_view-requires-clause-rows : goal.put_view-requires-clause-rows
put_view-requires-clause-rows g c = subst (λ n. HasRows n c.loop-place.table) (sym c.view_count-count.ensures) c.loop-place.invariant.rows

pub loop-place-preserved : goal.loop-place-preserved
loop-place-preserved g c =
    let calls = calls_of c.args.index.now in
    let place = c.loop-place.place in
    let entries = c.entries_between-entries.result.now in
    let put = subst (λ n. IsPut n place entries c.loop-place.table c.put_view.new.self) c.view_count-count.ensures c.in_ok-put_view.ensures in
    let numbers : (k : ℕ) → c.args.from ≤ k → k < c.args.to → number_among entries k ≡ number_among (entries_of (view_in calls place).operation) k = λ k low high.
    c.entries_between-entries.ensures.numbers k low high ∙ ap (λ es. number_among es k) c.view_at.ensures.entries in
    view_filled calls c.args.from c.args.to place c.loop-place.table c.put_view.new.self entries numbers c.loop-place.invariant put

pub returns : goal.returns
returns g c =
    let n = length (views_of (calls_of c.args.index.now)) in
    let whole : c.loop-place.place ≡ n = omega (arith, c.loop-place-test.false, c.loop-place.auto.place-end, c.view_count-place-end.ensures) in
    subst (λ z. AreFilled (calls_of c.args.index.now) c.args.from c.args.to z c.loop-place.table) whole c.loop-place.invariant
