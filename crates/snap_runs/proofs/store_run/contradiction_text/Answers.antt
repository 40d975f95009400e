use Rattle.std.proofs.Common.{◌++◌, ◌∙◌, [], ap, codes, decimal}
use Rattle.snap_runs.proofs.StoreRunFacts.{two_numbers}
use Rattle.snap_runs.proofs.store_run.contradiction_text.Goals as goal

pub returns : goal.returns
returns c =
    let first = codes "contradiction ended record " in
    let second = codes " begun record " in
    let newline = codes "\n" in
    let ended = c.from.result in
    let begun = c.from-2.result in
    c.in_ok-extend_from_slice.ensures.items
    ∙ ap (λ z. z ++ newline) (c.in_ok-put_number-2.ensures ∙ ap (λ z. (z ++ second) ++ decimal begun) (c.in_ok-put_number.ensures ∙ ap (λ z. (z ++ first) ++ decimal ended) c.new-out.ensures.items))
    ∙ two_numbers first (decimal ended) second (decimal begun) newline
    ∙ ap (λ n. (first ++ (decimal n ++ (second ++ (decimal begun ++ [])))) ++ newline) c.from.ensures
    ∙ ap (λ n. (first ++ (decimal c.args.ended ++ (second ++ (decimal n ++ [])))) ++ newline) c.from-2.ensures
