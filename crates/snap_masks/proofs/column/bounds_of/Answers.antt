use Rattle.std.proofs.Common.{◌≡◌, ◌≤◌, ◌<◌, ◌+◌, ◌-◌, ◌*◌, ◌++◌, ◌∷◌, [], ℕ, List, take, drop, min, length, get_or, sym, ap, ◌∙◌, subst, inl, inr, arith}
use Rattle.std.proofs.lemmas.Bool.{cases_lt}
use Rattle.std.proofs.lemmas.List.{get_or-drop, get_or-take, length-take, length-drop, length-append, get_or_append_left}
use Rattle.std.proofs.Math.Seq.{get_or-append_seam}
use Rattle.snap_masks.specs.declared.bounds.Bounds.{Bounds}
use Rattle.snap_masks.specs.Numbers.{IsBounded}
use Rattle.snap_masks.proofs.column.bounds_of.Goals as goal

-- bounds of a piece of the numbers are bounds of the rows of the piece
of_piece : (numbers : List ℕ) (block start end : ℕ) (b : Bounds) → start ≡ block * 512 → end ≡ min (length numbers) (start + 512) →
    ((i : ℕ) → i < length (take (end - start) (drop start numbers)) → (b.least ≤ get_or (take (end - start) (drop start numbers)) i 0) × (get_or (take (end - start) (drop start numbers)) i 0 ≤ b.greatest)) → IsBounded numbers block b
of_piece numbers block start end b s e h = λ i l m n.
    let short : i - start < end - start = omega (arith, s, e, l, m, n) in
    let within : i - start < length (take (end - start) (drop start numbers)) = omega (arith, short, length-take (end - start) (drop start numbers), length-drop start numbers, e, n, l, s) in
    let place : start + (i - start) ≡ i = omega (arith, s, l) in
    let same : get_or (take (end - start) (drop start numbers)) (i - start) 0 ≡ get_or numbers i 0 = get_or-take (end - start) (drop start numbers) (i - start) 0 short ∙ get_or-drop start numbers (i - start) 0 ∙ ap (λ k. get_or numbers k 0) place in
    let g = h (i - start) within in
    (omega (arith, same, g.0), omega (arith, same, g.1))

more : (numbers : List ℕ) (bounds : List Bounds) (new : Bounds) → ((block : ℕ) (b : Bounds) → block < length bounds → IsBounded numbers block (get_or bounds block b)) → IsBounded numbers (length bounds) new →
    (block : ℕ) (b : Bounds) → block < length (bounds ++ new ∷ []) → IsBounded numbers block (get_or (bounds ++ new ∷ []) block b)
more numbers bounds new h g block b l = elim (cases_lt block (length bounds)) [
  | inl m ↦ subst (IsBounded numbers block) (sym (get_or_append_left bounds (new ∷ []) b block m)) (h block b m)
  | inr m ↦
      let same : block ≡ length bounds = omega (arith, l, m, length-append bounds (new ∷ [])) in
      subst (λ k. IsBounded numbers k (get_or (bounds ++ new ∷ []) k b)) (sym same) (subst (IsBounded numbers (length bounds)) (sym (get_or-append_seam bounds new [] b)) g)
]

pub loop-start-preserved : goal.loop-start-preserved
loop-start-preserved c =
    let numbers = c.args.numbers.now in
    let end : c.min-end.result ≡ min (length numbers) (c.loop-start.start + 512) = omega (arith, c.min-end.ensures) in
    let piece = of_piece numbers (length c.loop-start.bounds.items) c.loop-start.start c.min-end.result c.of.result c.loop-start.invariant.at end c.of.ensures in
    let items = c.in_ok-push.ensures.items in
    record {
      at = omega (arith, ap length items, length-append c.loop-start.bounds.items (c.of.result ∷ []), c.loop-start.invariant.at);
      bounded = rw items (more numbers c.loop-start.bounds.items c.of.result c.loop-start.invariant.bounded piece);
    }
