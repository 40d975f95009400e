use Rattle.std.proofs.Common.{◌≤◌, ◌<◌, ◌+◌, ◌++◌, ◌∷◌, [], ℕ, List, set, length, length-set, length-append, refl, sym, ap, subst, ◌∙◌, arith}
use Rattle.std.proofs.lemmas.List.{get_or_default}
use Rattle.snap_grid.specs.declared.kind.Kind.{Kind}
use Rattle.snap_grid.specs.inside.Kinds.{AreAlike}
use Rattle.snap_grid.proofs.Joining.{few_times, kind_added, kind_joined}
use Rattle.snap_grid.proofs.kinds.Kinds.of.Goals as goal
use Rattle.snap_grid.proofs.kinds.Kinds.of.Goals.{then-known-len+then-are_alike, else-known-len+in_ok-push}

still_few : (kinds : List Kind) (k : ℕ) (new : Kind) (n : ℕ) → length kinds ≤ n → length (set kinds k new) ≤ n + 1
still_few kinds k new n l = omega (arith, l, length-set kinds k new)

more_few : (kinds : List Kind) (new : Kind) (n : ℕ) → length kinds ≤ n → length (kinds ++ new ∷ []) ≤ n + 1
more_few kinds new n l = omega (arith, l, length-append kinds (new ∷ []))

pub overflow_add-kind : goal.overflow_add-kind
overflow_add-kind c =
    let kinds = c.loop-row.kinds.items in
    let known = c.from-known.result in
    let old = c.index-kind.result.now in
    let l : known < length kinds = omega (arith, c.if-known-len.true, c.len.ensures, c.loop-row.kinds.ok) in
    record { fits = omega (arith, ap (λ (k : Kind). k.times) c.index-kind.ensures, few_times c.args.columns.now c.args.from c.loop-row.row known kinds old l c.loop-row.invariant.kinds, c.loop-row-test.true, c.requires.few) }

pub overflow_cast-last : goal.overflow_cast-last
overflow_cast-last c = record { fits = omega (arith, c.len-else-known-len.ensures, c.loop-row.kinds.ok, c.loop-row.invariant.few, c.loop-row-test.true, c.requires.few) }

pub loop-row-preserved : goal.loop-row-preserved
loop-row-preserved c =
    let columns = c.args.columns.now in
    let from = c.args.from in
    let row = c.loop-row.row in
    let kinds = c.loop-row.kinds.items in
    elim c.if-known-len.branch [
      | then-known-len+then-are_alike w ↦
          let known = c.from-known.result in
          let old = w.index-kind.result.now in
          let l : known < length kinds = omega (arith, w.if-known-len.true, c.len.ensures, c.loop-row.kinds.ok) in
          let like : AreAlike columns (from + old.row) (from + row) =
          subst (λ z. AreAlike columns (from + z) (from + row)) (w.from.ensures ∙ ap (λ (k : Kind). k.row) (w.index.ensures ∙ get_or_default kinds known w.index.result.now old l ∙ sym w.index-kind.ensures)) (w.are_alike.ensures w.if-are_alike.true) in
          rw (ap (λ v. v.items) w.kinds-is) (record {
            few = still_few kinds known _ row c.loop-row.invariant.few;
            kinds = kind_joined columns from row known kinds old _ l w.index-kind.ensures refl refl like c.loop-row.invariant.kinds;
          })
      | else-known-len+in_ok-push w ↦
          rw (ap (λ v. v.items) w.kinds-is ∙ w.in_ok-push.ensures.items) (record {
            few = more_few kinds _ row c.loop-row.invariant.few;
            kinds = kind_added columns from row kinds _ refl refl c.loop-row.invariant.kinds;
          })
    ]
