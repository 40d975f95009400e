use Rattle.std.proofs.Common.{◌≡◌, ◌++◌, ◌∙◌, ap, append_assoc, codes, subst, sym, List, ℕ}
use Rattle.std.specs.Prelude.{OnOk, find}
use Rattle.snap_names.specs.Shown.{shown}
use Rattle.snap_files.specs.inside.Sums.{IsFirst}
use Rattle.snap_files.specs.Sums.{first_text, has_code}
use Rattle.snap_files.proofs.Summing.{name_at}
use Rattle.snap_files.proofs.sums.put_first.Goals as goal

pub returns : goal.returns
returns c = λ code files are is.
    let found = subst (IsFirst code files) c.in-Some.is is in
    let name = name_at files c.args.names.now c.in-Some.place found.0 c.in-Some-get.name.now are found.2 c.in-Some-get.ensures.lookup.1 in
    let out = c.args.out.now.items in
    let text : c.extend_from_slice.new.self.items ++ shown c.deref.result.now ≡ out ++ first_text (find (has_code code) files) =
    ap (λ (l : List ℕ). l ++ shown c.deref.result.now) c.in_ok-extend_from_slice.ensures.items ∙ append_assoc out (codes " first ") (shown c.deref.result.now)
    ∙ ap (λ (l : List ℕ). out ++ (codes " first " ++ shown l)) (c.deref.ensures.value ∙ sym name) ∙ sym (ap (λ o. out ++ first_text o) found.1) in
    subst (λ (l : List ℕ). OnOk c.put_shown.result (c.put_shown.new.out.items ≡ l)) text c.put_shown.ensures
