-- One more piece.
use Rattle.std.proofs.Common.{◌≡◌, ◌<◌, ◌+◌, ◌++◌, ◌∷◌, [], ◌∙◌, ℕ, List, ap, subst, sym, get_or, length, map, take}
use Rattle.std.proofs.lemmas.List.{map-append, take_more}
use Rattle.snap_draw.specs.declared.drawn.Drawn.{Drawn}
use Rattle.snap_draw.specs.declared.marks.Mark.{Mark}
use Rattle.snap_draw.specs.declared.shapes.Shapes.{Shapes}
use Rattle.snap_draw.specs.Pieces.{AreEach}
use Rattle.snap_draw.specs.Timelines.{AreShapes}

one_more : (order : List ℕ) (marks : List Mark) (pieces : List (List Drawn)) (parts : List Shapes) (piece : List Drawn) (shapes : Shapes) → AreEach order marks pieces parts →
    AreShapes order marks piece shapes → AreEach order marks (pieces ++ piece ∷ []) (parts ++ shapes ∷ [])
one_more order marks [] [] piece shapes each are = (are, tt)
one_more order marks (p ∷ ps) (s ∷ ss) piece shapes each are = (each.0, one_more order marks ps ss piece shapes each.1 are)
one_more order marks [] (s ∷ ss) piece shapes each are = absurd each
one_more order marks (p ∷ ps) [] piece shapes each are = absurd each

pub more_pieces : (order : List ℕ) (marks own : List Mark) (f : ℕ → List Drawn) (starts : List ℕ) (held now : List Shapes) (made : List Drawn) (shapes : Shapes) (n d : ℕ) → n < length starts →
    AreEach order marks (map f (take n starts)) held → now ≡ held ++ shapes ∷ [] → own ≡ marks → made ≡ f (get_or starts n d) → AreShapes order own made shapes →
    AreEach order marks (map f (take (n + 1) starts)) now
more_pieces order marks own f starts held now made shapes n d inside each more same is are =
    let at : List Drawn = f (get_or starts n d) in
    let shapes_are : AreShapes order marks at shapes =
    subst (λ ms. AreShapes order ms at shapes) same (subst (λ (ps : List Drawn). AreShapes order own ps shapes) is are) in
    let pieces_are : map f (take (n + 1) starts) ≡ map f (take n starts) ++ at ∷ [] =
    ap (map f) (take_more starts n d inside) ∙ map-append f (take n starts) (get_or starts n d ∷ []) in
    subst (λ ps. AreEach order marks ps now) (sym pieces_are) (subst (λ ss. AreEach order marks (map f (take n starts) ++ at ∷ []) ss) (sym more)
    (one_more order marks (map f (take n starts)) held at shapes each shapes_are))
