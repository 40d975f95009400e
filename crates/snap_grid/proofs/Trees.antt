-- Sums of the nodes of a tree.
use Rattle.std.proofs.Common.{◌≡◌, ◌≢◌, ℕ, zero, suc, ◌+◌, ◌-◌, ◌/◌, ◌%◌, ◌<◌, ◌≤◌, Bool, List, get_or, refl, sym, ap, ◌∙◌, inl, inr, arith}
use Rattle.std.specs.Prelude.{nat_lt, ◌==◌, if◌then◌else◌}
use Rattle.std.specs.List.{range_with_len}
use Rattle.std.proofs.lemmas.Bool.{cases_lt, cases_eq, lt-ltb, le-ltb, eq-eqb, ne_eqb}
use Rattle.std.proofs.lemmas.List.Sums.{sum_by-cons}
use Rattle.snap_grid.specs.inside.Trees.{IsTree, node_sum, sum_below_place}
use Rattle.snap_grid.proofs.Clashing.{sum_more}

abbrev pub one_below : ℕ → ℕ → ℕ
one_below place upper = if nat_lt place upper then 1 else 0

is_below : (place upper : ℕ) → place < upper → one_below place upper ≡ 1
is_below place upper l = ap (λ z. if z then 1 else 0) (lt-ltb place upper l)

not_below : (place upper : ℕ) → upper ≤ place → one_below place upper ≡ 0
not_below place upper l = ap (λ z. if z then 1 else 0) (le-ltb place upper l)

-- one count was raised
pub raised : (size place : ℕ) (old new : List ℕ) → ((i : ℕ) → size ≤ i → i ≢ size + place → get_or new i 0 ≡ get_or old i 0) → get_or new (size + place) 0 ≡ get_or old (size + place) 0 + 1 →
    (upper : ℕ) → sum_below_place size new upper ≡ sum_below_place size old upper + one_below place upper
raised size place old new others here zero = omega (arith, not_below place 0 (omega arith))
raised size place old new others here (suc u) =
    let up = raised size place old new others here u in
    elim (cases_eq u place) [
      | inl same ↦ omega (arith, up, not_below place u (omega (arith, same)), is_below place (suc u) (omega (arith, same)), more new, more old, here, ap (λ z. get_or new (size + z) 0) same, ap (λ z. get_or old (size + z) 0) same)
      | inr other ↦ elim (cases_lt place u) [
        | inl under ↦ omega (arith, up, is_below place u under, is_below place (suc u) (omega (arith, under)), more new, more old, others (size + u) (omega arith) (λ e. other (omega (arith, e))))
        | inr over ↦ omega (arith, up, not_below place u over, not_below place (suc u) (omega (arith, over, other)), more new, more old, others (size + u) (omega arith) (λ e. other (omega (arith, e))))
      ]
    ]
  where
    next : u + 1 ≡ suc u
    next = omega arith

    more : (nodes : List ℕ) → node_sum nodes size (suc u) ≡ node_sum nodes size u + get_or nodes (size + u) 0
    more nodes = ap (node_sum nodes size) (sym next) ∙ sum_more (λ i. get_or nodes i 0) size u

-- nodes have the sum of the nodes below them
pub halved : (size : ℕ) (nodes : List ℕ) → IsTree size nodes → (m a : ℕ) → 1 ≤ a → a + m ≤ size → node_sum nodes (a + a) (m + m) ≡ node_sum nodes a m
halved size nodes tree zero a l within = refl
halved size nodes tree (suc m) a l within =
    let two : suc m + suc m ≡ suc (suc (m + m)) = omega arith in
    let next : a + a + 1 + 1 ≡ a + 1 + (a + 1) = omega arith in
    let each : ℕ → ℕ = λ i. get_or nodes i 0 in
    ap (node_sum nodes (a + a)) two ∙ sum_by-cons each (a + a) (range_with_len (a + a + 1) (suc (m + m))) ∙ ap (λ z. get_or nodes (a + a) 0 + z) (sum_by-cons each (a + a + 1) (range_with_len (a + a + 1 + 1) (m + m)))
    ∙ ap (λ z. get_or nodes (a + a) 0 + (get_or nodes (a + a + 1) 0 + node_sum nodes z (m + m))) next
    ∙ ap (λ z. get_or nodes (a + a) 0 + (get_or nodes (a + a + 1) 0 + z)) (halved size nodes tree m (a + 1) (omega arith) (omega (arith, within)))
    ∙ joined (get_or nodes (a + a) 0) (get_or nodes (a + a + 1) 0) (get_or nodes a 0) (node_sum nodes (a + 1) m) (tree.sums a l (omega (arith, within)))
    ∙ sym (sum_by-cons each a (range_with_len (a + 1) m))
  where
    joined : (x y z w : ℕ) → x + y ≡ z → x + (y + w) ≡ z + w
    joined x y z w e = omega (arith, e)

abbrev pub node_where : Bool → List ℕ → ℕ → ℕ
node_where is nodes node = if is then get_or nodes node 0 else 0

-- nodes from one to before another: the first where its number is odd, the last where that is even, and the nodes above the others
pub step : (size : ℕ) (nodes : List ℕ) → IsTree size nodes → (low high : ℕ) → 1 ≤ low → low < high → high ≤ size + size →
    node_sum nodes low (high - low) ≡ node_where (low % 2 == 1) nodes low + node_where (high % 2 == 1) nodes (high - 1) + node_sum nodes ((low + 1) / 2) (high / 2 - (low + 1) / 2)
step size nodes tree low high some order within = omega (arith, first (low % 2) refl, last (high % 2) refl, middle)
  where
    a : ℕ
    a = (low + 1) / 2

    b : ℕ
    b = high / 2

    each : ℕ → ℕ
    each i = get_or nodes i 0

    middle : node_sum nodes (a + a) (b + b - (a + a)) ≡ node_sum nodes a (b - a)
    middle =
        let twice : b + b - (a + a) ≡ b - a + (b - a) = omega arith in
        ap (node_sum nodes (a + a)) twice ∙ halved size nodes tree (b - a) a (omega (arith, some)) (omega (arith, within, order))

    first : (r : ℕ) → low % 2 ≡ r → node_sum nodes low (high - low) ≡ node_where (low % 2 == 1) nodes low + node_sum nodes (a + a) (high - (a + a))
    first zero e =
        let even : low ≡ a + a = omega (arith, e) in
        let none : node_where (low % 2 == 1) nodes low ≡ 0 = ap (λ z. node_where z nodes low) (ne_eqb (low % 2) 1 (λ o. absurd (omega (arith, e, o)))) in
        omega (arith, ap (λ z. node_sum nodes z (high - z)) even, none)
    first (suc r) e =
        let odd : low + 1 ≡ a + a = omega (arith, e) in
        let is : low % 2 ≡ 1 = omega (arith, e) in
        let one : node_where (low % 2 == 1) nodes low ≡ get_or nodes low 0 = ap (λ z. node_where z nodes low) (eq-eqb (low % 2) 1 is) in
        let more : high - low ≡ suc (high - (a + a)) = omega (arith, odd, order) in
        ap (node_sum nodes low) more ∙ sum_by-cons each low (range_with_len (low + 1) (high - (a + a))) ∙ ap (λ z. get_or nodes low 0 + node_sum nodes z (high - (a + a))) odd
        ∙ ap (λ z. z + node_sum nodes (a + a) (high - (a + a))) (sym one)

    last : (r : ℕ) → high % 2 ≡ r → node_sum nodes (a + a) (high - (a + a)) ≡ node_where (high % 2 == 1) nodes (high - 1) + node_sum nodes (a + a) (b + b - (a + a))
    last zero e =
        let even : high ≡ b + b = omega (arith, e) in
        let none : node_where (high % 2 == 1) nodes (high - 1) ≡ 0 = ap (λ z. node_where z nodes (high - 1)) (ne_eqb (high % 2) 1 (λ o. absurd (omega (arith, e, o)))) in
        omega (arith, ap (λ z. node_sum nodes (a + a) (z - (a + a))) even, none)
    last (suc r) e =
        let odd : high ≡ b + b + 1 = omega (arith, e) in
        let is : high % 2 ≡ 1 = omega (arith, e) in
        let one : node_where (high % 2 == 1) nodes (high - 1) ≡ get_or nodes (high - 1) 0 = ap (λ z. node_where z nodes (high - 1)) (eq-eqb (high % 2) 1 is) in
        let more : high - (a + a) ≡ b + b - (a + a) + 1 = omega (arith, odd, order) in
        let place : a + a + (b + b - (a + a)) ≡ high - 1 = omega (arith, odd, order) in
        omega (arith, ap (node_sum nodes (a + a)) more, sum_more each (a + a) (b + b - (a + a)), ap each place, one)
