use Rattle.std.proofs.Common.{◌≡◌, ◌-◌, ◌++◌, ◌∙◌, inl, ap, arith, codes, drop, length, sym, take}
use Rattle.std.proofs.lemmas.List.{take-append-drop}
use lib.Pointwise.{bytes_decides}
use Rattle.snap_commands.proofs.verdicts.end_of.Goals as goal

pub returns-in-Some : goal.returns-in-Some
returns-in-Some c =
    let line = c.args.line.now in
    let n = length line - 1 in
    let size = c.in-Some.ensures.cases.2 in
    let at : length c.in-Some.front.now ≡ n = omega (arith, size) in
    let whole = sym (take-append-drop n line) ∙ ap (λ rest. take n line ++ rest) ((bytes_decides (drop n line) (codes "\n")).0 c.in-Some.ensures.cases.0) in
    (inl (whole ∙ ap (λ k. take k line ++ codes "\n") (sym at)), omega (arith, size))
