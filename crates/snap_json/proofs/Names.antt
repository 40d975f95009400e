-- No two names have one line.
use Rattle.std.proofs.Common.{◌≡◌, ◌∙◌, ℕ, List, Some, ap, sym}
use Rattle.std.specs.Prelude.{slice_get}
use Rattle.json.specs.Json.{Json}
use Rattle.json.specs.Token as token
use Rattle.json.specs.Tree.{json_tokens}
use Rattle.snap_json.specs.Laws.{HasOneName}
use Rattle.snap_json.specs.Objects.{named_object}
use Rattle.snap_json.specs.Values.{IsLineOf}

same_tokens : (a b : Json) (line : List ℕ) → IsLineOf a line → IsLineOf b line → json_tokens a ≡ json_tokens b
same_tokens a b line x y = sym x.reads_back ∙ y.reads_back

pub one_name : HasOneName
one_name name other status others_status fields others line x y =
    let same = ap (λ ts. slice_get ts 2) (same_tokens (named_object name status fields) (named_object other others_status others) line x y) in
    let names : Some (token.string name) ≡ Some (token.string other) = same in
    cc
