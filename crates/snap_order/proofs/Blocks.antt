-- The keys of blocks of calls, put together.
use Rattle.std.proofs.Common.{◌≡◌, ℕ, zero, suc, ◌+◌, ◌-◌, ◌<◌, ◌≤◌, cond, List, [], ◌∷◌, ◌++◌, length, map, take, drop, get_or, Vec, Global, sym, ap, ◌∙◌, subst, arith, length-append}
use Rattle.std.specs.Prelude.{Result}
use Rattle.std.specs.List.{AllZip, filter, range_with_len}
use Rattle.std.specs.declared.alloc.AllocError.{AllocError}
use Rattle.std.proofs.Math.Seq.{get_or-append_seam}
use Rattle.std.proofs.lemmas.List.{get_or_append_left, take_all, drop_more, map-append}
use Rattle.std.proofs.lemmas.List.Elements.{filter-append}
use Rattle.snap_core.specs.Calls.{Call, call_numbered, nobody}
use Rattle.snap_theory.specs.Keys.{key_of, printed_keys}
use Rattle.snap_theory.specs.Levels.{is_printed}
use Rattle.snap_views.proofs.Pieces.{range_joined, starts_grow, starts_inside}
use Rattle.snap_order.specs.inside.Blocks.{AreBlocks, IsBlock, block_start, keys_between}

-- the keys of ranges that adjoin

pub keys_join : (calls : List Call) (from middle to : ℕ) → from ≤ middle → middle ≤ to → keys_between calls from to ≡ keys_between calls from middle ++ keys_between calls middle to
keys_join calls from middle to l m =
    let p = is_printed calls in
    let low = take (middle - from) (drop from calls) in
    let high = take (to - middle) (drop middle calls) in
    ap (λ z. map (key_of calls) (filter p z)) (range_joined calls from middle to l m)
    ∙ ap (map (key_of calls)) (filter-append p low high)
    ∙ map-append (key_of calls) (filter p low) (filter p high)

pub none_between : (calls : List Call) (from : ℕ) → keys_between calls from from ≡ []
none_between calls from = let none : from - from ≡ 0 = omega arith in ap (λ n. map (key_of calls) (filter (is_printed calls) (take n (drop from calls)))) none

pub one_more : (calls : List Call) (from i : ℕ) → from ≤ i → i < length calls →
    keys_between calls from (i + 1) ≡ keys_between calls from i ++ map (key_of calls) (cond (is_printed calls (call_numbered calls i)) (call_numbered calls i ∷ []) [])
one_more calls from i low l =
    let one : (i + 1) - i ≡ 1 = omega arith in
    keys_join calls from i (i + 1) low (omega arith)
    ∙ ap (λ z. keys_between calls from i ++ map (key_of calls) (filter (is_printed calls) z)) (ap (λ n. take n (drop i calls)) one ∙ ap (take 1) (drop_more calls i nobody l))

pub all_between : (calls : List Call) → keys_between calls 0 (length calls) ≡ printed_keys calls
all_between calls = ap (λ z. map (key_of calls) (filter (is_printed calls) z)) (take_all (length calls - 0) calls (omega arith))

-- the last block, and those before it

pub last_block : (calls : List Call) (blocks : ℕ) (made : List (Result (Vec (ℕ × ℕ) Global) AllocError)) (last : Result (Vec (ℕ × ℕ) Global) AllocError) → AreBlocks calls blocks (made ++ last ∷ []) → IsBlock calls blocks (length made) last
last_block calls blocks made last h =
    subst (IsBlock calls blocks (length made)) (get_or-append_seam made last [] last) (h (length made) last (omega (arith, length-append made (last ∷ []))))

pub blocks_before : (calls : List Call) (blocks : ℕ) (made : List (Result (Vec (ℕ × ℕ) Global) AllocError)) (last : Result (Vec (ℕ × ℕ) Global) AllocError) → AreBlocks calls blocks (made ++ last ∷ []) → AreBlocks calls blocks made
blocks_before calls blocks made last h = λ i none l.
    subst (IsBlock calls blocks i) (get_or_append_left made (last ∷ []) none i l) (h i none (omega (arith, l, length-append made (last ∷ []))))

-- the keys of a block before those after it
pub block_joined : (calls : List Call) (blocks n m : ℕ) (low high : List (ℕ × ℕ)) → 0 < blocks → m ≡ n + 1 → m ≤ blocks →
    low ≡ keys_between calls (block_start blocks n (length calls)) (block_start blocks (n + 1) (length calls)) → high ≡ keys_between calls (block_start blocks m (length calls)) (length calls) →
    low ++ high ≡ keys_between calls (block_start blocks n (length calls)) (length calls)
block_joined calls blocks n m low high some e within a b =
    let all = length calls in
    ap (λ z. z ++ high) a ∙ ap (λ z. keys_between calls (block_start blocks n all) (block_start blocks (n + 1) all) ++ z) (b ∙ ap (λ z. keys_between calls (block_start blocks z all) all) e)
    ∙ sym (keys_join calls (block_start blocks n all) (block_start blocks (n + 1) all) all (starts_grow n (n + 1) all blocks some (omega arith)) (starts_inside (n + 1) all blocks some (omega (arith, e, within))))

-- what stands beside the numbers of a range, by its place
pub zipped_at : {Y : Type 0} (R : ℕ → Y → Type 0) (a n : ℕ) (ys : List Y) → AllZip R (range_with_len a n) ys → (i : ℕ) (none : Y) → i < length ys → R (a + i) (get_or ys i none)
zipped_at R a zero [] h i none l = absurd (omega (arith, l))
zipped_at R a zero (y ∷ ys) h i none l = absurd h
zipped_at R a (suc n) [] h i none l = absurd h
zipped_at R a (suc n) (y ∷ ys) h zero none l = let at : a ≡ a + zero = omega arith in subst (λ z. R z y) at h.0
zipped_at R a (suc n) (y ∷ ys) h (suc i) none l = let at : (a + 1) + i ≡ a + suc i = omega arith in subst (λ z. R z (get_or ys i none)) at (zipped_at R (a + 1) n ys h.1 i none (omega (arith, l)))
