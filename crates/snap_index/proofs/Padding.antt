-- Tables that are kept as far as they have something.
use Rattle.std.proofs.Common.{inl, inr, ◌⊎◌, ◌≡◌, ◌<◌, ◌≤◌, ◌+◌, ◌-◌, ◌++◌, ◌∷◌, [], ℕ, suc, List, Vec, Global, length, set, get_or, replicate, sym, ap, ◌∙◌, append_assoc, arith}
use Rattle.std.proofs.lemmas.List.{map-append, map-set, length-map, length-append, get_or-append_right, get_or-map, get_or-replicate, get_or_append_left, set-append_left}
use Rattle.std.proofs.Common.{length-set}
use Rattle.std.proofs.lemmas.Bool.{cases_lt}
use Rattle.snap_index.specs.Rows.{rows}
use Rattle.snap_index.specs.inside.Tables.{padded}

padded_more : {A : Type 0} (table : List (List A)) → length table < 256 → padded (table ++ [] ∷ []) ≡ padded table
padded_more table small =
    append_assoc table ([] ∷ []) (replicate (256 - length (table ++ [] ∷ [])) [])
    ∙ ap (λ n. table ++ [] ∷ replicate (256 - n) []) (length-append table ([] ∷ []))
    ∙ ap (λ n. table ++ replicate n []) left
  where
    left : suc (256 - (length table + 1)) ≡ 256 - length table
    left = omega arith

-- a list more, with nothing in it
pub room_made : {A : Type 0} (table : List (Vec A Global)) (row : Vec A Global) → row.items ≡ [] → length table < 256 → padded (rows (table ++ row ∷ [])) ≡ padded (rows table)
room_made table row empty small =
    ap padded (map-append (λ (v : Vec _ Global). v.items) table (row ∷ []))
    ∙ ap (λ items. padded (rows table ++ items ∷ [])) empty
    ∙ padded_more (rows table) (rw length-map small)

-- a list that is kept, changed
pub row_set : {A : Type 0} (table : List (Vec A Global)) (k : ℕ) (row : Vec A Global) → k < length table → padded (rows (set table k row)) ≡ set (padded (rows table)) k row.items
row_set table k row within =
    ap padded (map-set (λ (v : Vec _ Global). v.items) table k row)
    ∙ ap (λ n. set (rows table) k row.items ++ replicate (256 - n) []) (length-set (rows table) k row.items)
    ∙ sym (set-append_left (rows table) (replicate (256 - length (rows table)) []) k row.items (rw length-map within))

-- a list that is kept, read
pub row_read : {A : Type 0} (table : List (Vec A Global)) (k : ℕ) (row : Vec A Global) → k < length table → get_or (padded (rows table)) k [] ≡ (get_or table k row).items
row_read table k row within =
    get_or_append_left (rows table) (replicate (256 - length (rows table)) []) [] k (rw length-map within)
    ∙ get_or-map (λ (v : Vec _ Global). v.items) table k row [] within

pub padded_row : {A : Type 0} (table : List (Vec A Global)) (k : ℕ) → k < length table → get_or (padded (rows table)) k [] ≡ get_or (rows table) k []
padded_row table k within = get_or_append_left (rows table) (replicate (256 - length (rows table)) []) [] k (rw length-map within)

-- a list that is not kept
pub row_missing : {A : Type 0} (table : List (Vec A Global)) (k : ℕ) → length table ≤ k → k < 256 → get_or (padded (rows table)) k [] ≡ []
row_missing table k behind within =
    get_or-append_right (rows table) (replicate (256 - length (rows table)) []) (length table) k [] (length-map table (λ (v : Vec _ Global). v.items)) behind
    ∙ get_or-replicate (256 - length (rows table)) (k - length table) [] [] (omega (arith, length-map table (λ (v : Vec _ Global). v.items)))

-- a list that has nothing, kept or not
pub row_empty : {A : Type 0} (table : List (Vec A Global)) (k : ℕ) → (k < length table → get_or (rows table) k [] ≡ []) → k < 256 → get_or (padded (rows table)) k [] ≡ []
row_empty table k kept within = go (cases_lt k (length table))
  where
    go : (k < length table) ⊎ (length table ≤ k) → get_or (padded (rows table)) k [] ≡ []
    go (inl lt) = padded_row table k lt ∙ kept lt
    go (inr le) = row_missing table k le within

-- one list more that has nothing, below those that have nothing
pub row_below : {A : Type 0} (table : List (Vec A Global)) (count : ℕ) (row : Vec A Global) → get_or table (count - 1) row ≡ row → row.items ≡ [] → 0 < count
    → ((i : ℕ) → count ≤ i → i < length table → get_or (rows table) i [] ≡ []) → (i : ℕ) → count - 1 ≤ i → i < length table → get_or (rows table) i [] ≡ []
row_below table count row is empty some above i behind within = go (cases_lt i count)
  where
    go : (i < count) ⊎ (count ≤ i) → get_or (rows table) i [] ≡ []
    go (inr le) = above i le within
    go (inl lt) =
        let last : i ≡ count - 1 = omega arith in
        get_or-map (λ (v : Vec _ Global). v.items) table i row [] within ∙ ap (λ n. (get_or table n row).items) last ∙ ap (λ (v : Vec _ Global). v.items) is ∙ empty
