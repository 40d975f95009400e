use Rattle.std.proofs.Common.{◌∙◌}
use Rattle.snap_names.proofs.TextFacts.{text_test}
use Rattle.snap_names.proofs.shown.is_text.Goals as goal

pub returns : goal.returns
returns c = c.is_ok.ensures.value ∙ text_test c.args.name.now c.from_utf8.result _ _ c.from_utf8.ensures.cases
