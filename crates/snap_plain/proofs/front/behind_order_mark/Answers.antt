use Rattle.std.proofs.Common.{◌∷◌, [], drop}
use Rattle.std.proofs.lemmas.Bool.{both_ways}
use Rattle.std.proofs.lemmas.Bool.Decides.{Decides-eqb}
use Rattle.std.proofs.lemmas.List.{take_rest}
use Rattle.std.proofs.lemmas.Slice.Eq.{starts_is}
use Rattle.snap_plain.proofs.FrontFacts.{marked, unmarked}
use Rattle.snap_plain.proofs.front.behind_order_mark.Goals as goal

pub returns-then-starts_with : goal.returns-then-starts_with
returns-then-starts_with c =
    let text = c.args.text.now in
    let begins = (starts_is Decides-eqb text (239 ∷ 187 ∷ 191 ∷ []) c.starts_with.result c.starts_with.ensures.value).0 c.if-starts_with.true in
    rw (take_rest text 3) (marked text (drop 3 text) begins)

pub returns-else-starts_with : goal.returns-else-starts_with
returns-else-starts_with c =
    let text = c.args.text.now in
    unmarked text (λ rest is. both_ways c.starts_with.result c.if-starts_with.false ((starts_is Decides-eqb text (239 ∷ 187 ∷ 191 ∷ []) c.starts_with.result c.starts_with.ensures.value).1 rest is))
