-- One more line.
use Rattle.std.proofs.Common.{◌≡◌, ◌<◌, ◌+◌, ◌++◌, ◌∷◌, [], ◌∙◌, ℕ, List, ap, ap₂, sym, get_or, length, map, take, arith}
use Rattle.std.proofs.lemmas.List.{map-append, take_more}
use Rattle.std.proofs.lemmas.List.FromFn.{map-range_with_len_more}
use Rattle.std.specs.List.{range_with_len}
use Rattle.snap_draw.specs.declared.layout.Line.{Line}
use Rattle.snap_draw.specs.declared.layout.Span.{Span}

pub more_processes : (lanes : List ℕ) (held now : List Line) (line : Line) (n d : ℕ) → n < length lanes → map (λ (it : Line). it.process) held ≡ take n lanes →
    now ≡ held ++ line ∷ [] → line.process ≡ get_or lanes n d → map (λ (it : Line). it.process) now ≡ take (n + 1) lanes
more_processes lanes held now line n d l h e p =
    ap (map (λ (it : Line). it.process)) e ∙ map-append (λ (it : Line). it.process) held (line ∷ [])
    ∙ ap₂ (λ xs x. xs ++ x ∷ []) h p ∙ sym (take_more lanes n d l)

pub more_spans : (f : ℕ → List Span) (held now : List Line) (line : Line) (n : ℕ) → map (λ (it : Line). it.spans.items) held ≡ map f (range_with_len 0 n) →
    now ≡ held ++ line ∷ [] → line.spans.items ≡ f n → map (λ (it : Line). it.spans.items) now ≡ map f (range_with_len 0 (n + 1))
more_spans f held now line n h e s =
    ap (map (λ (it : Line). it.spans.items)) e ∙ map-append (λ (it : Line). it.spans.items) held (line ∷ [])
    ∙ ap₂ (λ xs x. xs ++ x ∷ []) h s ∙ sym (map-range_with_len_more f 0 n n (omega arith))
