use Rattle.std.proofs.Common.{◌≡◌, ◌∙◌, List, ap, codes, subst}
use Rattle.std.specs.Prelude.{IfOk}
use Rattle.clap.specs.Words.{Text, found_of}
use Rattle.clap.proofs.WalkLemmas.{raw_values-rows}
use Rattle.snap_words.specs.Jobs.{given_or_none, texts_of}
use Rattle.snap_words.proofs.input.files_in.Goals as goal

pub returns-in-Some : goal.returns-in-Some
returns-in-Some c =
    let named = ap given_or_none (c.in-Some.ensures ∙ raw_values-rows (found_of c.args.matches.now) (codes "file")) in
    subst (λ (names : List Text). IfOk c.copies_of.result (λ files. texts_of files.items ≡ names)) named c.copies_of.ensures

pub returns-in-None : goal.returns-in-None
returns-in-None c =
    let named = ap given_or_none (c.in-None.ensures ∙ raw_values-rows (found_of c.args.matches.now) (codes "file")) in
    ap texts_of c.new.ensures.items ∙ named
