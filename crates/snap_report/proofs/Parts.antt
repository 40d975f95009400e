-- The parts of a report's text, put together.
use Rattle.std.proofs.Common.{◌≡◌, ℕ, zero, suc, ◌<◌, ◌++◌, ◌∷◌, [], List, Vec, Global, All, length, map, take, drop, get_or, refl, sym, ap, ◌∙◌, arith}
use Rattle.std.specs.Prelude.{Result}
use Rattle.std.specs.List.{AllZip, flat_map}
use Rattle.std.specs.declared.alloc.AllocError.{AllocError}
use Rattle.std.proofs.lemmas.Grind.{flat_map-append}
use Rattle.std.proofs.lemmas.List.{map-append}
use Rattle.std.proofs.lemmas.List.Elements.{All-cons, All-drop, All-nil, All-take}
use Rattle.rayon.specs.Lists.{chunks_from, chunks_of}
use Rattle.snap_core.specs.declared.event.Event.{Event}
use Rattle.snap_core.specs.Calls.{Call, call_numbered}
use Rattle.snap_conditions.specs.declared.tally.Tally.{Tally}
use Rattle.snap_report.specs.Lines.{Line, line_text, text_of}
use Rattle.snap_report.specs.Orders.{calls_numbered}
use Rattle.snap_report.specs.Reports.{call_line, count_line, has_no_fault, has_no_local_fault, has_no_stale_view, report_lines, verdict_lines}
use Rattle.snap_report.specs.inside.Parts.{IsTextOf, front_text, lines_text}

-- what follows the front
pub behind_front : (es : List Event) (t : Tally) (findings : List Line) →
    front_text es t ++ text_of findings ≡ text_of (report_lines es (has_no_local_fault t) (has_no_stale_view t) (has_no_fault t) findings)
behind_front es t findings = sym (flat_map-append line_text (count_line es ∷ verdict_lines (has_no_local_fault t) (has_no_stale_view t) (has_no_fault t)) findings)

-- the text of the lines of each
pub text_of_each : {K : Type 0} (lines : K → List Line) (ks : List K) → flat_map (λ k. text_of (lines k)) ks ≡ text_of (flat_map lines ks)
text_of_each lines [] = refl
text_of_each lines (k ∷ ks) = ap (λ z. text_of (lines k) ++ z) (text_of_each lines ks) ∙ sym (flat_map-append line_text (lines k) (flat_map lines ks))

pub lines_joined : (calls : List Call) (a b : List ℕ) → lines_text calls (a ++ b) ≡ lines_text calls a ++ lines_text calls b
lines_joined calls a b =
    ap (λ z. text_of (map call_line z)) (map-append (call_numbered calls) a b)
    ∙ ap text_of (map-append call_line (calls_numbered calls a) (calls_numbered calls b))
    ∙ flat_map-append line_text (map call_line (calls_numbered calls a)) (map call_line (calls_numbered calls b))

pub blocks_joined : (calls : List Call) (blocks : List (List ℕ)) → flat_map (lines_text calls) blocks ≡ lines_text calls (flat_map (λ block. block) blocks)
blocks_joined calls [] = refl
blocks_joined calls (b ∷ bs) = ap (λ z. lines_text calls b ++ z) (blocks_joined calls bs) ∙ sym (lines_joined calls b (flat_map (λ block. block) bs))

-- the text of a block, by its place
pub text_at : (calls : List Call) (blocks : List (List ℕ)) (texts : List (Result (Vec ℕ Global) AllocError)) → AllZip (IsTextOf calls) blocks texts →
    (i : ℕ) (none : Result (Vec ℕ Global) AllocError) → i < length texts → IsTextOf calls (get_or blocks i []) (get_or texts i none)
text_at calls [] [] h i none l = absurd (omega (arith, l))
text_at calls [] (t ∷ ts) h i none l = absurd h
text_at calls (b ∷ bs) [] h i none l = absurd h
text_at calls (b ∷ bs) (t ∷ ts) h zero none l = h.0
text_at calls (b ∷ bs) (t ∷ ts) h (suc i) none l = text_at calls bs ts h.1 i none (omega (arith, l))

-- what holds of each number holds of those of each block
pub all_of_blocks : {X : Type 0} (P : X → Type 0) (size : ℕ) (xs : List X) → All P xs → All (All P) (chunks_of size xs)
all_of_blocks {X} P size xs h = go (length xs) xs h
  where
    go : (fuel : ℕ) (xs : List X) → All P xs → All (All P) (chunks_from fuel size xs)
    go zero xs h = All-nil (All P)
    go (suc n) [] h = All-nil (All P)
    go (suc n) (x ∷ xs) h = All-cons (All P) (take size (x ∷ xs)) (chunks_from n size (drop size (x ∷ xs))) (All-take P size (x ∷ xs) h) (go n (drop size (x ∷ xs)) (All-drop P size (x ∷ xs) h))
