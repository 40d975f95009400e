-- The places of some calls keep these calls.
use Rattle.std.proofs.Common.{◌≡◌, ℕ, suc, ◌+◌, ◌<◌, Bool, true, false, cond, ◌||◌, List, [], ◌∷◌, ◌++◌, length, take, get_or, map, Option, Some, None, refl, sym, ap, ◌∙◌, append_assoc, append-nil}
use Rattle.std.specs.Prelude.{◌==◌}
use Rattle.std.specs.List.{flat_map}
use Rattle.std.proofs.lemmas.Grind.{flat_map-append}
use Rattle.std.proofs.lemmas.List.{take_more, map-append}
use Rattle.snap_core.specs.declared.event.Event.{Event}
use Rattle.snap_core.specs.Calls.{Call, calls_of, call_numbered}
use Rattle.std.specs.Option.{option_map}
use Rattle.snap_index.specs.IndexedCalls.{as_indexed}
use Rattle.snap_index.specs.declared.call.Call.{Call as IndexedCall}
use Rattle.snap_index.proofs.IndexedCalls.{mapped_some, mapped_none}
use Rattle.snap_theory.specs.Kept.{ends_at, is_place_of, is_among, kept_event, kept_events, kept_from}
use Rattle.snap_witness.specs.inside.Places.{begin_and_end, call_places, places_of, calls_numbered}
use Rattle.snap_theory.specs.Witness.{numbers_of, found_call, updates_kept, witness_calls, witness_of}
use Rattle.snap_theory.specs.Updates.{update_of}

among_append : (xs ys : List ℕ) (place : ℕ) → is_among (xs ++ ys) place ≡ (is_among xs place || is_among ys place)
among_append [] ys place = refl
among_append (x ∷ xs) ys place = ap (λ b. (x == place) || b) (among_append xs ys place) ∙ or_assoc (x == place) (is_among xs place) (is_among ys place)
  where
    or_assoc : (a b c : Bool) → (a || (b || c)) ≡ ((a || b) || c)
    or_assoc true b c = refl
    or_assoc false b c = refl

among_call : (begun : ℕ) (ended : Option ℕ) (place : ℕ) → is_among (begin_and_end begun ended) place ≡ ((begun == place) || ends_at ended place)
among_call begun None place = refl
among_call begun (Some end) place = ap (λ b. (begun == place) || b) (or_false (end == place))
  where
    or_false : (a : Bool) → (a || false) ≡ a
    or_false true = refl
    or_false false = refl

pub among_places : (chosen : List Call) (place : ℕ) → is_among (places_of chosen) place ≡ is_place_of chosen place
unfolding places_of
among_places [] place = refl
among_places (c ∷ cs) place =
    among_append (call_places c) (flat_map call_places cs) place
    ∙ ap (λ b. b || is_among (flat_map call_places cs) place) (among_call c.begun c.ended place)
    ∙ ap (λ b. ((c.begun == place) || ends_at c.ended place) || b) (among_places cs place)

-- the same places keep the same events
pub kept_same : (f g : ℕ → Bool) (numbers : ℕ → ℕ) (place : ℕ) (es : List Event) → ((x : ℕ) → f x ≡ g x) → kept_from f numbers place es ≡ kept_from g numbers place es
kept_same f g numbers place [] h = refl
kept_same f g numbers place (e ∷ es) h =
    ap (λ b. cond b (kept_event numbers e ∷ kept_from f numbers (suc place) es) (kept_from f numbers (suc place) es)) (h place)
    ∙ ap (λ z. cond (g place) (kept_event numbers e ∷ z) z) (kept_same f g numbers (suc place) es h)

pub kept_is_witness : (es : List Event) (rs : List Call) (ps : List (ℕ × ℕ)) (places : List ℕ) → places ≡ places_of (witness_calls (calls_of es) rs ps) → kept_from (is_among places) (numbers_of ps) 0 es ≡ witness_of es rs ps
unfolding witness_of kept_events
kept_is_witness es rs ps places e =
    ap (λ z. kept_from (is_among z) (numbers_of ps) 0 es) e
    ∙ kept_same (is_among (places_of (witness_calls (calls_of es) rs ps))) (is_place_of (witness_calls (calls_of es) rs ps)) (numbers_of ps) 0 es (among_places (witness_calls (calls_of es) rs ps))

pub views_more : (calls : List Call) (ns : List ℕ) (i d : ℕ) → i < length ns → places_of (calls_numbered calls (take (i + 1) ns)) ≡ places_of (calls_numbered calls (take i ns)) ++ call_places (call_numbered calls (get_or ns i d))
unfolding places_of calls_numbered
views_more calls ns i d l =
    ap (λ z. flat_map call_places (map (call_numbered calls) z)) (take_more ns i d l)
    ∙ ap (flat_map call_places) (map-append (call_numbered calls) (take i ns) (get_or ns i d ∷ []))
    ∙ flat_map-append call_places (map (call_numbered calls) (take i ns)) (call_numbered calls (get_or ns i d) ∷ [])
    ∙ ap (λ z. flat_map call_places (map (call_numbered calls) (take i ns)) ++ z) (append-nil (call_places (call_numbered calls (get_or ns i d))))

updates_append : (calls : List Call) (ps qs : List (ℕ × ℕ)) → updates_kept calls (ps ++ qs) ≡ updates_kept calls ps ++ updates_kept calls qs
updates_append calls [] qs = refl
updates_append calls (p ∷ ps) qs = ap (λ z. found_call (update_of calls p.0 p.1) ++ z) (updates_append calls ps qs) ∙ sym (append_assoc (found_call (update_of calls p.0 p.1)) (updates_kept calls ps) (updates_kept calls qs))

pub updates_more : (calls : List Call) (ps : List (ℕ × ℕ)) (i : ℕ) (d : ℕ × ℕ) → i < length ps → places_of (updates_kept calls (take (i + 1) ps)) ≡ places_of (updates_kept calls (take i ps)) ++ places_of (found_call (update_of calls (get_or ps i d).0 (get_or ps i d).1))
unfolding places_of
updates_more calls ps i d l =
    ap (λ z. flat_map call_places (updates_kept calls z)) (take_more ps i d l)
    ∙ ap (flat_map call_places) (updates_append calls (take i ps) (get_or ps i d ∷ []) ∙ ap (λ z. updates_kept calls (take i ps) ++ z) (append-nil (found_call (update_of calls (get_or ps i d).0 (get_or ps i d).1))))
    ∙ flat_map-append call_places (updates_kept calls (take i ps)) (found_call (update_of calls (get_or ps i d).0 (get_or ps i d).1))

-- the places of what was found, by the bare call
pub found_places : (o : Option Call) (b : IndexedCall) → option_map as_indexed o ≡ Some b → places_of (found_call o) ≡ begin_and_end b.begun b.ended
unfolding places_of
found_places o b e =
    let m = mapped_some as_indexed o b e in
    ap (λ z. flat_map call_places (found_call z)) m.is ∙ append-nil (call_places m.from) ∙ ap (λ (z : IndexedCall). begin_and_end z.begun z.ended) m.to

pub none_places : (o : Option Call) → option_map as_indexed o ≡ None → places_of (found_call o) ≡ []
unfolding places_of
none_places o e = ap (λ z. flat_map call_places (found_call z)) (mapped_none as_indexed o e)

pub places_join : (calls rs : List Call) (ps : List (ℕ × ℕ)) → places_of rs ++ places_of (updates_kept calls ps) ≡ places_of (witness_calls calls rs ps)
unfolding places_of witness_calls
places_join calls rs ps = sym (flat_map-append call_places rs (updates_kept calls ps))
