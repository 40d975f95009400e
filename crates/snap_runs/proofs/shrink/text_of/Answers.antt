use Rattle.std.proofs.Common.{◌∙◌, ◌++◌, ap, vec_items, List, ℕ}
use Rattle.snap_format.specs.Layout.{history_text}
use Rattle.snap_runs.proofs.shrink.text_of.Goals as goal

pub returns-in-Ok : goal.returns-in-Ok
returns-in-Ok c =
    ap vec_items c.into_inner.ensures ∙ c.in-Ok.ensures.text
    ∙ ap (λ (l : List ℕ). l ++ history_text c.args.history.now.events) (ap vec_items c.new-writer.ensures.inner ∙ c.new.ensures.items)
