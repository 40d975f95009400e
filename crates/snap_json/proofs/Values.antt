-- The tokens of objects and arrays, put together from those of their parts.
use Rattle.std.proofs.Common.{◌≡◌, ◌++◌, ◌∙◌, [], ◌∷◌, ℕ, List, Result, Ok, Err, ap, refl, subst, append_assoc, codes}
use Rattle.std.specs.Prelude.{IfOk}
use Rattle.std.specs.List.{flat_map}
use Rattle.std.proofs.lemmas.List.{append-nil}
use Rattle.json.specs.Json.{Json, array}
use Rattle.json.specs.Lex.{tokens}
use Rattle.json.specs.Print.{print}
use Rattle.json.specs.Token as token
use Rattle.json.specs.Token.{Token}
use Rattle.json.specs.Tree.{items_tokens, json_tokens, members_tokens}
use Rattle.snap_core.specs.declared.entry.Entry.{Entry}
use Rattle.snap_json.specs.Calls.{entry_items, entry_json}
use Rattle.snap_json.specs.Values.{Field, IsLineOf, field_tokens, members_of}

-- pieces that are added one after the other

pub three_joined : {A : Type 0} (out a b c : List A) → out ++ a ++ b ++ c ≡ out ++ (a ++ (b ++ c))
three_joined out a b c = simp append_assoc

pub four_joined : {A : Type 0} (out a b c d : List A) → out ++ a ++ b ++ c ++ d ≡ out ++ (a ++ (b ++ (c ++ d)))
four_joined out a b c d = simp append_assoc

pub five_joined : {A : Type 0} (out a b c d e : List A) → out ++ a ++ b ++ c ++ d ++ e ≡ out ++ (a ++ (b ++ (c ++ (d ++ e))))
five_joined out a b c d e = simp append_assoc

pub six_joined : {A : Type 0} (out a b c d e f : List A) → out ++ a ++ b ++ c ++ d ++ e ++ f ≡ out ++ (a ++ (b ++ (c ++ (d ++ (e ++ f)))))
six_joined out a b c d e f = simp append_assoc

pub seven_joined : {A : Type 0} (out a b c d e f g : List A) → out ++ a ++ b ++ c ++ d ++ e ++ f ++ g ≡ out ++ (a ++ (b ++ (c ++ (d ++ (e ++ (f ++ g))))))
seven_joined out a b c d e f g = simp append_assoc

pub eight_joined : {A : Type 0} (out a b c d e f g h : List A) → out ++ a ++ b ++ c ++ d ++ e ++ f ++ g ++ h ≡ out ++ (a ++ (b ++ (c ++ (d ++ (e ++ (f ++ (g ++ h)))))))
eight_joined out a b c d e f g h = simp append_assoc

pub four_fields_joined : {A : Type 0} (out a b c d : List A) → out ++ a ++ b ++ c ++ d ≡ out ++ (a ++ (b ++ (c ++ (d ++ []))))
four_fields_joined out a b c d = simp (append_assoc, append-nil)

-- some fields, and the end of their object
pub fields_then_end : (fields : List Field) → field_tokens fields ++ (token.end_object ∷ []) ≡ members_tokens (members_of fields)
fields_then_end [] = refl
fields_then_end (f ∷ fs) =
    append_assoc (token.key f.0 ∷ json_tokens f.1) (field_tokens fs) (token.end_object ∷ []) ∙ ap (λ ts. (token.key f.0 ∷ json_tokens f.1) ++ ts) (fields_then_end fs)

entries_then_end : (es : List Entry) → flat_map (λ entry. json_tokens (entry_json entry)) es ++ (token.end_array ∷ []) ≡ items_tokens (entry_items es)
entries_then_end [] = refl
entries_then_end (e ∷ es) =
    append_assoc (json_tokens (entry_json e)) (flat_map (λ entry. json_tokens (entry_json entry)) es) (token.end_array ∷ []) ∙ ap (λ ts. json_tokens (entry_json e) ++ ts) (entries_then_end es)

-- an array that is begun, its entries, and its end
pub array_added : (old : List Token) (es : List Entry) →
    ((old ++ (token.begin_array ∷ [])) ++ flat_map (λ entry. json_tokens (entry_json entry)) es) ++ (token.end_array ∷ []) ≡ old ++ json_tokens (array (entry_items es))
array_added old es =
    three_joined old (token.begin_array ∷ []) (flat_map (λ entry. json_tokens (entry_json entry)) es) (token.end_array ∷ [])
    ∙ ap (λ ts. old ++ (token.begin_array ∷ ts)) (entries_then_end es)

-- a line with the tokens of a value is that value's
pub line_is : {V E : Type 0} (items : V → List ℕ) (r : Result V E) (ts : List Token) (value : Json) → ts ≡ json_tokens value → IfOk r (λ line. items line ≡ print ts ++ codes "\n") →
    IfOk r (λ line. tokens (items line) ≡ ts) → IfOk r (λ line. IsLineOf value (items line))
line_is items (Ok line) ts value same writes reads =
    record { writes = subst (λ ts. items line ≡ print ts ++ codes "\n") same writes; reads_back = reads ∙ same }
line_is items (Err e) ts value same writes reads = tt
