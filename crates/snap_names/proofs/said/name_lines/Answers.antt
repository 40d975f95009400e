use Rattle.std.proofs.Common.{◌≡◌, ◌++◌, ◌∙◌, ap, codes, subst, true, List, ℕ}
use Rattle.std.specs.Prelude.{IfOk}
use Rattle.snap_names.specs.Said.{fronted_from}
use Rattle.snap_names.specs.Shown.{shown}
use Rattle.snap_names.proofs.said.name_lines.Goals as goal

pub returns : goal.returns
returns c =
    let before = c.in_ok-put_shown.ensures ∙ ap (λ (l : List ℕ). l ++ shown c.args.name.now) c.new-front.ensures.items in
    let front = c.deref.ensures.value ∙ c.in_ok-extend_from_slice.ensures.items ∙ ap (λ (l : List ℕ). l ++ codes ": ") before in
    subst (λ (l : List ℕ). IfOk c.front_lines.result (λ lines. lines.items ≡ fronted_from true l c.args.text.now)) front c.front_lines.ensures
