use Rattle.std.proofs.Common.{◌≡◌, ◌++◌, ◌∙◌, ℕ, List, [], ◌∷◌, ap, append_assoc, refl}
use Rattle.std.specs.List.{flat_map}
use Rattle.json.specs.Json.{array}
use Rattle.json.specs.Token as token
use Rattle.json.specs.Token.{Token}
use Rattle.json.specs.Tree.{items_tokens, json_tokens}
use Rattle.snap_core.specs.Calls.{Call, calls_of}
use Rattle.snap_conditions.specs.declared.fault.ReadFault.{ReadFault}
use Rattle.snap_report.proofs.Pieces.{same_text}
use Rattle.snap_json.specs.Differs.{difference_items, difference_json}
use Rattle.snap_json.proofs.Values.{three_joined}
use Rattle.snap_json.proofs.differs.put_array.Goals as goal

differences_then_end : (records : List ℕ) (calls : List Call) (f : ReadFault) (us : List (ℕ × ℕ)) →
    flat_map (λ u. json_tokens (difference_json records calls f u)) us ++ (token.end_array ∷ []) ≡ items_tokens (difference_items records calls f us)
differences_then_end records calls f [] = refl
differences_then_end records calls f (u ∷ us) =
    append_assoc (json_tokens (difference_json records calls f u)) (flat_map (λ u. json_tokens (difference_json records calls f u)) us) (token.end_array ∷ [])
    ∙ ap (λ ts. json_tokens (difference_json records calls f u) ++ ts) (differences_then_end records calls f us)

pub returns : goal.returns
returns g c =
    let old = c.args.line.now.writer.tokens in
    let calls = calls_of c.args.index.now in
    let records = c.args.records.now in
    let f = c.args.fault.now in
    let us = c.args.updates.now in
    same_text c.end_array.result c.end_array.new.self.writer.tokens _ (old ++ json_tokens (array (difference_items records calls f us)))
    (rw (c.in_ok-put_each.ensures, c.in_ok-begin_array.ensures)
    (three_joined old (token.begin_array ∷ []) (flat_map (λ u. json_tokens (difference_json records calls f u)) us) (token.end_array ∷ [])
    ∙ ap (λ ts. old ++ (token.begin_array ∷ ts)) (differences_then_end records calls f us)))
    c.end_array.ensures
