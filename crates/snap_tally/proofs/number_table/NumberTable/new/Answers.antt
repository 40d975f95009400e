use Rattle.std.proofs.Common.{◌≡◌, ℕ, ◌++◌, ◌∷◌, [], ◌∙◌, List, Vec, Global, replicate, ap, arith}
use Rattle.std.proofs.lemmas.List.{map_push, replicate_more}
use Rattle.snap_index.specs.Rows.{rows}
use Rattle.snap_tally.proofs.number_table.NumberTable.new.Goals as goal

pub loop-k-preserved : goal.loop-k-preserved
loop-k-preserved c =
    ap rows c.in_ok-push.ensures.items ∙ map_push (λ (row : Vec ℕ Global). row.items) c.loop-k.by_component.items c.new.result
    ∙ (λ j. c.loop-k.invariant j ++ c.new.ensures.items j ∷ []) ∙ replicate_more c.loop-k._k []

pub returns : goal.returns
returns c =
    let all : c.loop-k._k ≡ 256 = omega (arith, c.loop-k-test.false, c.loop-k.auto._k-end) in
    c.loop-k.invariant ∙ ap (λ n. replicate {A = List ℕ} n []) all
