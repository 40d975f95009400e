use Rattle.std.proofs.Common.{◌≡◌, ◌<◌, ◌++◌, ◌∙◌, length, ap, sym, codes, map, take, subst, append_assoc, arith, get_or, List, ℕ}
use Rattle.std.specs.List.{flat_map, zip}
use Rattle.snap_core.specs.Calls.{call_numbered, calls_of}
use Rattle.snap_runs.specs.Mapping.{map_line}
use Rattle.snap_runs.proofs.Tables.{line_more, lines_all}
use Rattle.snap_runs.proofs.table.table_of.Goals as goal

abbrev header : List ℕ
header = codes "call,process,begin,end,of call,of process,of begin,of end\n"

pub loop-number-preserved : goal.loop-number-preserved
loop-number-preserved c =
    let calls = calls_of c.args.left.now in
    let others = calls_of c.args.index.now in
    let mine = c.args.mine.now in
    let theirs = c.args.theirs.now in
    let n = c.loop-number.number in
    let below : n < length calls = subst (λ z. n < z) c.call_count-count.ensures c.loop-number-test.true in
    let lines = flat_map (map_line mine theirs) (take n (zip calls (map (call_numbered others) c.args.sources.now))) in
    let line = map_line mine theirs (call_numbered calls n, call_numbered others (get_or c.args.sources.now n 0)) in
    c.in_ok-put_line.ensures ∙ ap (λ z. z ++ line) c.loop-number.invariant ∙ append_assoc header lines line
    ∙ ap (λ z. header ++ z) (sym (line_more mine theirs calls others c.args.sources.now n below (omega (arith, below, c.requires.each))))

pub returns : goal.returns
returns c =
    let calls = calls_of c.args.left.now in
    let sources = map (call_numbered (calls_of c.args.index.now)) c.args.sources.now in
    let end : length calls ≡ c.loop-number.number = omega (arith, c.call_count-count.ensures, c.loop-number-test.false, c.loop-number.auto.number-end) in
    c.loop-number.invariant ∙ ap (λ z. header ++ flat_map (map_line c.args.mine.now c.args.theirs.now) z) (lines_all calls sources c.loop-number.number end)
