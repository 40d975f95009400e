use Rattle.std.proofs.Common.{length}
use Rattle.std.proofs.lemmas.Bool.Decides.{Decides-eqb}
use Rattle.std.proofs.lemmas.List.{take_rest}
use Rattle.std.proofs.lemmas.Slice.Eq.{starts_is}
use Rattle.snap_plain.proofs.MarkFacts.{word_goes_on}
use Rattle.snap_plain.proofs.fields.word_and_comma.Goals as goal

pub returns-then-starts_with : goal.returns-then-starts_with
returns-then-starts_with c =
    let text = c.args.text.now in
    let word = c.args.word.now in
    let begins = (starts_is Decides-eqb text word c.starts_with.result c.starts_with.ensures.value).0 c.if-starts_with.true in
    rw (take_rest text (length word)) (word_goes_on text word c.requires.comma.0 c.requires.comma.1 c.requires.inner begins)
