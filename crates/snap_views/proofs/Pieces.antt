-- Where the pieces of a list begin, and pieces that adjoin.
use Rattle.std.proofs.Common.{◌≡◌, ℕ, ◌+◌, ◌-◌, ◌*◌, ◌/◌, ◌<◌, ◌≤◌, List, ◌++◌, take, drop, ap, ◌∙◌, arith}
use Rattle.std.proofs.Math.Nat.{div-mul-le_self, div-le_self, mul-div_cancel_left, mul-le-mul_right}
use Rattle.std.proofs.Math.Seq.{take-add}
use Rattle.std.proofs.lemmas.List.{drop-drop}
use Rattle.std.proofs.lemmas.Nat.{le-div}

pub starts_grow : (p q n k : ℕ) → 0 < k → p ≤ q → p * n / k ≤ q * n / k
starts_grow p q n k some le = le-div (p * n / k) (q * n) k some (let a = div-mul-le_self (p * n) k in let b = mul-le-mul_right n le in omega (arith, a, b))

pub starts_at_zero : (n k : ℕ) → 0 * n / k ≡ 0
starts_at_zero n k = omega (arith, div-le_self (0 * n) k)

pub ends_whole : (n k : ℕ) → 0 < k → k * n / k ≡ n
ends_whole n k some = mul-div_cancel_left n some

pub starts_inside : (p n k : ℕ) → 0 < k → p ≤ k → p * n / k ≤ n
starts_inside p n k some le = let last = ends_whole n k some in let grow = starts_grow p k n k some le in omega (arith, last, grow)

pub range_joined : {X : Type 0} (xs : List X) (from middle to : ℕ) → from ≤ middle → middle ≤ to → take (to - from) (drop from xs) ≡ take (middle - from) (drop from xs) ++ take (to - middle) (drop middle xs)
range_joined xs from middle to l m =
    let both : to - from ≡ (middle - from) + (to - middle) = omega arith in
    let on : from + (middle - from) ≡ middle = omega arith in
    ap (λ n. take n (drop from xs)) both ∙ take-add (middle - from) (to - middle) (drop from xs)
    ∙ ap (λ z. take (middle - from) (drop from xs) ++ take (to - middle) z) (drop-drop (middle - from) from xs ∙ ap (λ n. drop n xs) on)
