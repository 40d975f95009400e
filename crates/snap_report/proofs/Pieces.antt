-- Lines that are put together piece by piece.
use Rattle.std.proofs.Common.{◌≡◌, ◌<◌, ◌+◌, ◌++◌, ◌∙◌, OnOk, Result, Ok, Err, List, [], ◌∷◌, ℕ, ap, append_assoc, get_or, length, sym, take}
use Rattle.std.specs.Prelude.{is_ok, if◌then◌else◌}
use Rattle.std.specs.List.{flat_map, join_by}
use Rattle.std.proofs.lemmas.List.{append-nil, flat_map_more, take_more}
use Rattle.snap_conditions.specs.Kinds.{kinds}
use Rattle.snap_conditions.specs.declared.fault.Kind.{Kind}
use Rattle.snap_conditions.specs.declared.fault.Kind.TheVariants.{Integrity}

-- what a text is, where its last piece was added
pub piece_added : {A T E : Type 0} (r : Result T E) (new old piece whole : List A) → new ≡ (if is_ok r then old ++ piece else old) → old ++ piece ≡ whole → OnOk r (new ≡ whole)
piece_added (Ok u) new old piece whole added is = added ∙ is
piece_added (Err e) new old piece whole added is = tt

-- a line of seven words
pub seven_words : {A : Type 0} (space end out kind count first view a entry b : List A) →
    out ++ kind ++ space ++ count ++ (space ++ (first ++ (space ++ (view ++ space)))) ++ a ++ (space ++ (entry ++ space)) ++ b ++ end
    ≡ out ++ (join_by (λ word. word) space (kind ∷ count ∷ first ∷ view ∷ a ∷ entry ∷ b ∷ []) ++ end)
seven_words space end out kind count first view a entry b = simp (append_assoc, append-nil)

-- a line of eight words
pub eight_words : {A : Type 0} (space end out kind count first view a entry b last : List A) →
    out ++ kind ++ space ++ count ++ (space ++ (first ++ (space ++ (view ++ space)))) ++ a ++ (space ++ (entry ++ space)) ++ b ++ (space ++ (last ++ end))
    ≡ out ++ (join_by (λ word. word) space (kind ∷ count ∷ first ∷ view ∷ a ∷ entry ∷ b ∷ last ∷ []) ++ end)
eight_words space end out kind count first view a entry b last = simp (append_assoc, append-nil)

-- a line of nine words
pub nine_words : {A : Type 0} (space end out kind count first view a other b last k : List A) →
    out ++ kind ++ space ++ count ++ (space ++ (first ++ (space ++ (view ++ space)))) ++ a ++ (space ++ (other ++ space)) ++ b ++ (space ++ (last ++ space)) ++ k ++ end
    ≡ out ++ (join_by (λ word. word) space (kind ∷ count ∷ first ∷ view ∷ a ∷ other ∷ b ∷ last ∷ k ∷ []) ++ end)
nine_words space end out kind count first view a other b last k = simp (append_assoc, append-nil)

-- a text by another equal one
pub same_text : {A T E : Type 0} (r : Result T E) (new whole other : List A) → whole ≡ other → OnOk r (new ≡ whole) → OnOk r (new ≡ other)
same_text (Ok u) new whole other e h = h ∙ e
same_text (Err x) new whole other e h = tt

-- the piece of one kind more
pub kinds_more : {A : Type 0} (piece : Kind → List A) (i : ℕ) (start old new : List A) → i < length kinds → old ≡ start ++ flat_map piece (take i kinds) → new ≡ old ++ piece (get_or kinds i Integrity) →
    new ≡ start ++ flat_map piece (take (i + 1) kinds)
kinds_more piece i start old new within before added =
    added ∙ ap (λ z. z ++ piece (get_or kinds i Integrity)) before ∙ flat_map_more piece start (take i kinds) (get_or kinds i Integrity)
    ∙ ap (λ z. start ++ flat_map piece z) (sym (take_more kinds i Integrity within))
