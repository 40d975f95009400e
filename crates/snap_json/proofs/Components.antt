-- The tokens of an array of components.
use Rattle.std.proofs.Common.{◌≡◌, ◌++◌, ◌∙◌, [], ◌∷◌, List, ap, append_assoc, codes, refl, sym}
use Rattle.std.specs.List.{flat_map}
use Rattle.std.proofs.lemmas.List.{append-nil}
use Rattle.json.specs.Json.{array}
use Rattle.json.specs.Token as token
use Rattle.json.specs.Token.{Token}
use Rattle.json.specs.Tree.{items_tokens, json_tokens}
use Rattle.snap_stats.specs.declared.stats.ComponentStats.{ComponentStats}
use Rattle.snap_json.specs.Stats.{component_items, component_json}
use Rattle.snap_json.specs.Values.{field_tokens}
use Rattle.snap_json.proofs.Values.{four_joined}

components_then_end : (cs : List ComponentStats) → flat_map (λ c. json_tokens (component_json c)) cs ++ (token.end_array ∷ []) ≡ items_tokens (component_items cs)
components_then_end [] = refl
components_then_end (c ∷ cs) =
    append_assoc (json_tokens (component_json c)) (flat_map (λ c. json_tokens (component_json c)) cs) (token.end_array ∷ []) ∙ ap (λ ts. json_tokens (component_json c) ++ ts) (components_then_end cs)

-- a key, an array that is begun, its components, and its end
pub components_added : (old : List Token) (cs : List ComponentStats) →
    (((old ++ (token.key (codes "by_component") ∷ [])) ++ (token.begin_array ∷ [])) ++ flat_map (λ c. json_tokens (component_json c)) cs) ++ (token.end_array ∷ [])
    ≡ old ++ field_tokens ((codes "by_component", array (component_items cs)) ∷ [])
components_added old cs =
    four_joined old (token.key (codes "by_component") ∷ []) (token.begin_array ∷ []) (flat_map (λ c. json_tokens (component_json c)) cs) (token.end_array ∷ [])
    ∙ ap (λ ts. old ++ (token.key (codes "by_component") ∷ token.begin_array ∷ ts)) (components_then_end cs ∙ sym (append-nil (items_tokens (component_items cs))))
