use Rattle.std.proofs.Common.{◌≡◌, ◌<◌, ◌≤◌, ◌+◌, ℕ, [], List, Vec, Global, length, length-set, set, get_or, get_or-set_other, sym, ap, subst, ◌∙◌, arith}
use Rattle.std.proofs.lemmas.Bool.{eqb-true, eqb-false}
use Rattle.std.proofs.lemmas.List.{nil_from_length}
use Rattle.snap_core.specs.Calls.{Call, calls_of}
use Rattle.snap_tally.specs.Grids.{AreColumnsOf, IsColumnOf}
use Rattle.snap_tally.specs.inside.NumberTables.{IsRowOf}
use Rattle.snap_tally.proofs.Grids.{columns_skip, columns_add}
use Rattle.snap_tally.proofs.NumberTables.{row_of}
use Rattle.snap_views.proofs.Sizes.{few_views}
use Rattle.snap_tally.proofs.columns.columns_between.Goals as goal
use Rattle.snap_tally.proofs.columns.columns_between.Goals.{then-not-is_empty+in_ok-new+in_ok-push, else-not-is_empty}

pub loop-k-init : goal.loop-k-init
loop-k-init g c = record {
  size = c.in_ok-table.ensures.rows.size;
  columns = subst (AreColumnsOf (calls_of c.args.index.now) c.args.from c.args.from) (sym c.new-columns.ensures.items) (record { each = λ j l. absurd (omega arith); all = λ place k b f l. absurd (omega arith) });
  left = λ j l b. row_of (calls_of c.args.index.now) c.args.from c.args.to c.in_ok-table.table c.in_ok-table.ensures j l b (omega (arith, b, c.requires.within));
}

-- the row that is taken
taken : (calls : List Call) (k : ℕ) (row numbers : List ℕ) → numbers ≡ row → IsRowOf calls k row → IsRowOf calls k numbers
taken calls k row numbers e h = subst (IsRowOf calls k) (sym e) h

pub new-requires-clause-few : goal.new-requires-clause-few
new-requires-clause-few g c =
    let calls = calls_of c.args.index.now in
    let row = taken calls c.loop-k.k _ c.take-numbers.result.items c.take-numbers.ensures.taken (c.loop-k.invariant.left c.loop-k.k (omega arith) (omega (arith, c.loop-k-test.true))) in
    let column = row.some (λ e. let none : length c.take-numbers.result.items ≡ 0 = ap length e in eqb-false _ _ (sym c.is_empty.ensures ∙ c.if-not-is_empty.true) (omega (arith, c.take-numbers.result.ok, none))) in
    omega (arith, column.count, few_views c.args.index.now c.event_count-events.ensures.ordered)

pub new-requires-clause-limit : goal.new-requires-clause-limit
new-requires-clause-limit g c = omega (arith, c.min-limit.ensures)

left_more : (calls : List Call) (k to : ℕ) (table : List (List ℕ)) → ((j : ℕ) → k ≤ j → j < to → IsRowOf calls j (get_or table j [])) → (j : ℕ) → k + 1 ≤ j → j < to → IsRowOf calls j (get_or (set table k []) j [])
left_more calls k to table h j l b = subst (IsRowOf calls j) (sym (get_or-set_other table k j [] [] (λ e. absurd (omega (arith, e, l))))) (h j (omega (arith, l)) b)

pub loop-k-preserved : goal.loop-k-preserved
loop-k-preserved g c =
    let calls = calls_of c.args.index.now in
    let k = c.loop-k.k in
    let table = c.loop-k.table in
    let left = c.take-numbers.ensures.left in
    let row = taken calls k _ c.take-numbers.result.items c.take-numbers.ensures.taken (c.loop-k.invariant.left k (omega arith) (omega (arith, c.loop-k-test.true))) in
    let columns : AreColumnsOf calls c.args.from (k + 1) c.if-not-is_empty.columns.items = elim c.if-not-is_empty.branch [
      | then-not-is_empty+in_ok-new+in_ok-push w ↦
          let column = row.some (λ e. let none : length c.take-numbers.result.items ≡ 0 = ap length e in eqb-false _ _ (sym c.is_empty.ensures ∙ w.if-not-is_empty.true) (omega (arith, c.take-numbers.result.ok, none))) in
          subst (λ z. AreColumnsOf calls c.args.from (k + 1) z) (sym (ap (λ (v : Vec _ Global). v.items) w.columns-is ∙ w.in_ok-push.ensures.items))
          (columns_add calls c.args.from k c.loop-k.columns.items w.in_ok-new.field-0 c.loop-k.auto.k (subst (IsColumnOf calls k) (sym w.in_ok-new.ensures) column) c.loop-k.invariant.columns)
      | else-not-is_empty w ↦
          let none : c.take-numbers.result.items ≡ [] = nil_from_length c.take-numbers.result.items (omega (arith, c.take-numbers.result.ok, eqb-true _ _ (sym c.is_empty.ensures ∙ w.if-not-is_empty.false))) in
          subst (λ (v : Vec _ Global). AreColumnsOf calls c.args.from (k + 1) v.items) (sym w.columns-is) (columns_skip calls c.args.from k c.loop-k.columns.items (row.none none) c.loop-k.invariant.columns)
    ] in
    record {
      size = ap length left ∙ length-set table k [] ∙ c.loop-k.invariant.size;
      columns = columns;
      left = λ j l b. subst (λ z. IsRowOf calls j (get_or z j [])) (sym left) (left_more calls k c.args.to table c.loop-k.invariant.left j l b);
    }

pub returns : goal.returns
returns g c =
    let whole : c.loop-k.k ≡ c.args.to = omega (arith, c.loop-k-test.false, c.loop-k.auto.k-end) in
    subst (λ z. AreColumnsOf (calls_of c.args.index.now) c.args.from z c.loop-k.columns.items) whole c.loop-k.invariant.columns
