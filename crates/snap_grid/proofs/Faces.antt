-- Our rows against those of another block, in the columns whose bounds do not tell all.
use Rattle.std.proofs.Common.{◌≡◌, ℕ, ◌+◌, ◌*◌, ◌-◌, ◌%◌, ◌<◌, Bool, true, false, not, cond, ◌&&◌, ◌||◌, List, [], ◌∷◌, ◌++◌, take, drop, length, get_or, refl, sym, ap, ◌∙◌, inl, inr, arith}
use Rattle.std.specs.Prelude.{nat_lt, bit_or, bit_and, bit_xor}
use Rattle.std.specs.List.{list_any}
use Rattle.std.specs.Int.{bit_at}
use Rattle.std.proofs.lemmas.Bool.{lt-ltb, le-ltb, cases_lt}
use Rattle.std.proofs.lemmas.List.{get_or_default, take-append-drop}
use Rattle.std.proofs.lemmas.Nat.Bits.{bit_at-zero, bit_at_xor}
use Rattle.std.proofs.lemmas.List.Folds.{list_any-append, list_any_more}
use Rattle.snap_masks.specs.declared.facing.Facing.{Facing}
use Rattle.snap_grid.specs.Columns.{number, passes, any_passes}
use Rattle.snap_grid.specs.inside.Facing.{any_faces}
use Rattle.snap_grid.specs.inside.Kept.{HaveRows, AreRows}
use Rattle.snap_masks.specs.Masks.{mask_by, mask_below}
use Rattle.snap_masks.proofs.Bits.{bit_below, bit_not_below, mask_from_bits, mask_below_same, mask_places}
use Rattle.snap_masks.proofs.Bits.{mask_or, mask_and}
use Rattle.snap_grid.proofs.Passing.{row_at, row_count, any_more}

-- the columns that are asked tell as much as the first j of all

pub or_false : (p : Bool) → (p || false) ≡ p
or_false true = refl
or_false false = refl

faces_more : (more : Bool) (columns : List Facing) (column : Facing) (a b : ℕ) → any_faces more (columns ++ column ∷ []) a b ≡ (any_faces more columns a b || passes more (number column.ours.now a) (number column.theirs.now b))
faces_more more columns column a b = list_any-append (λ (c : Facing). passes more (number c.ours.now a) (number c.theirs.now b)) columns (column ∷ [])
    ∙ ap (λ z. any_faces more columns a b || z) (or_false (passes more (number column.ours.now a) (number column.theirs.now b)))

module _ (more : Bool) (columns masks : List (List ℕ)) (from n all j block count a i : ℕ) (near far : List Facing) (column : Facing) (d : List ℕ) (rows : AreRows columns masks from n all) (l : j < length columns) (have : HaveRows columns (block * 512 + count)) (k : a < n) (m : i < count) (o : column.ours.now ≡ get_or masks j column.ours.now) (t : column.theirs.now ≡ take (block * 512 + count - block * 512) (drop (block * 512) (get_or columns j d))) (h : (any_faces more near a i || any_faces more far a i) ≡ any_passes more (take j columns) (from + a) (block * 512 + i)) where
  pushed_passes : ((any_faces more near a i || any_faces more far a i) || passes more (number column.ours.now a) (number column.theirs.now i)) ≡ any_passes more (take (j + 1) columns) (from + a) (block * 512 + i)
  pushed_passes = (λ z. h z || passes more (ours z) (theirs z)) ∙ sym (any_more more columns j (from + a) (block * 512 + i) l)
    where
      ours : number column.ours.now a ≡ number (get_or columns j []) (from + a)
      ours = ap (λ z. get_or z a 0) (o ∙ get_or_default masks j column.ours.now [] (omega (arith, l, rows.count)) ∙ rows.masked j l) ∙ row_at (get_or columns j []) from n a k

      theirs : number column.theirs.now i ≡ number (get_or columns j []) (block * 512 + i)
      theirs = ap (λ z. get_or z i 0) t ∙ row_at (get_or columns j d) (block * 512) (block * 512 + count - block * 512) i (omega (arith, m)) ∙ ap (λ z. number z (block * 512 + i)) (get_or_default columns j d [] l)

  pub near_pushed : (any_faces more (near ++ column ∷ []) a i || any_faces more far a i) ≡ any_passes more (take (j + 1) columns) (from + a) (block * 512 + i)
  near_pushed = ap (λ z. z || any_faces more far a i) (faces_more more near column a i) ∙ turned (any_faces more near a i) (passes more (number column.ours.now a) (number column.theirs.now i)) (any_faces more far a i) ∙ pushed_passes
    where
      turned : (p q r : Bool) → ((p || q) || r) ≡ ((p || r) || q)
      turned true q r = refl
      turned false true true = refl
      turned false true false = refl
      turned false false true = refl
      turned false false false = refl

  pub far_pushed : (any_faces more near a i || any_faces more (far ++ column ∷ []) a i) ≡ any_passes more (take (j + 1) columns) (from + a) (block * 512 + i)
  far_pushed = ap (λ z. any_faces more near a i || z) (faces_more more far column a i) ∙ three (any_faces more near a i) (any_faces more far a i) (passes more (number column.ours.now a) (number column.theirs.now i)) ∙ pushed_passes
    where
      three : (p q r : Bool) → (p || (q || r)) ≡ ((p || q) || r)
      three true q r = refl
      three false q r = refl

pub faces_passed_over : (more : Bool) (columns : List (List ℕ)) (j a s : ℕ) (asked : Bool) → j < length columns → passes more (number (get_or columns j []) a) (number (get_or columns j []) s) ≡ false →
    asked ≡ any_passes more (take j columns) a s → asked ≡ any_passes more (take (j + 1) columns) a s
faces_passed_over more columns j a s asked l none h =
    h ∙ sym (any_more more columns j a s l ∙ ap (λ z. any_passes more (take j columns) a s || z) none ∙ or_false (any_passes more (take j columns) a s))

-- the lengths of what faces

pub ours_length : (columns masks : List (List ℕ)) (from n all j : ℕ) (ours : List ℕ) → AreRows columns masks from n all → j < length columns → ours ≡ get_or masks j ours → length ours ≡ n
ours_length columns masks from n all j ours rows l e =
    ap length (e ∙ get_or_default masks j ours [] (omega (arith, l, rows.count)) ∙ rows.masked j l) ∙ row_count (get_or columns j []) from n (rows.within j l)

-- a row against the first j columns, and one more

module _ (columns : List Facing) (j row n : ℕ) (flag : ℕ → Bool) (d : Facing) (l : j < length columns) (ours : length (get_or columns j d).ours.now ≡ n) where
  more_faces : (more : Bool) (a : ℕ) → any_faces more (take (j + 1) columns) a row ≡ (any_faces more (take j columns) a row || passes more (number (get_or columns j d).ours.now a) (number (get_or columns j d).theirs.now row))
  more_faces more a = list_any_more (λ (c : Facing). passes more (number c.ours.now a) (number c.theirs.now row)) columns j d l

  pub less_joined : (m q y : ℕ) → y ≡ number (get_or columns j d).theirs.now row → m ≡ mask_below (λ a. flag a || any_faces false (take j columns) a row) n → q ≡ mask_by (λ x. nat_lt x y) (get_or columns j d).ours.now →
      bit_or m q ≡ mask_below (λ a. flag a || any_faces false (take (j + 1) columns) a row) n
  less_joined m q y s e h =
      (λ i. bit_or (e i) ((h ∙ ap (λ z. mask_by (λ x. nat_lt x z) (get_or columns j d).ours.now) s ∙ mask_places (λ x. nat_lt x (number (get_or columns j d).theirs.now row)) (get_or columns j d).ours.now n ours) i))
      ∙ mask_or n (λ a. flag a || any_faces false (take j columns) a row) (λ a. nat_lt (number (get_or columns j d).ours.now a) (number (get_or columns j d).theirs.now row)) (λ a. flag a || any_faces false (take (j + 1) columns) a row)
      (λ a. ap (λ z. flag a || z) (more_faces false a) ∙ three (flag a) (any_faces false (take j columns) a row) (nat_lt (number (get_or columns j d).ours.now a) (number (get_or columns j d).theirs.now row)))
    where
      three : (p q r : Bool) → (p || (q || r)) ≡ ((p || q) || r)
      three true q r = refl
      three false q r = refl

  pub at_most_joined : (m q y : ℕ) → y ≡ number (get_or columns j d).theirs.now row + 1 → m ≡ mask_below (λ a. not (flag a || any_faces true (take j columns) a row)) n → q ≡ mask_by (λ x. nat_lt x y) (get_or columns j d).ours.now →
      bit_and m q ≡ mask_below (λ a. not (flag a || any_faces true (take (j + 1) columns) a row)) n
  at_most_joined m q y s e h =
      (λ i. bit_and (e i) ((h ∙ mask_places (λ x. nat_lt x y) (get_or columns j d).ours.now n ours) i))
      ∙ mask_and n (λ a. not (flag a || any_faces true (take j columns) a row)) (λ a. nat_lt (number (get_or columns j d).ours.now a) y) (λ a. not (flag a || any_faces true (take (j + 1) columns) a row))
      (λ a. ap (λ z. not (flag a || z)) (more_faces true a) ∙ three (flag a) (any_faces true (take j columns) a row) _ _ (at_most (number (get_or columns j d).ours.now a)))
    where
      at_most : (u : ℕ) → nat_lt u y ≡ not (nat_lt (number (get_or columns j d).theirs.now row) u)
      at_most u = elim (cases_lt (number (get_or columns j d).theirs.now row) u) [
        | inl above ↦ le-ltb _ _ (omega (arith, s, above)) ∙ sym (ap not (lt-ltb _ _ above))
        | inr below ↦ lt-ltb _ _ (omega (arith, s, below)) ∙ sym (ap not (le-ltb _ _ below))
      ]

      three : (p q r s : Bool) → s ≡ not r → not (p || (q || r)) ≡ (not (p || q) && s)
      three true q r s e = refl
      three false true r s e = refl
      three false false r s e = sym e

-- a row against all columns

any_later : (f : Facing → Bool) (columns : List Facing) (k : ℕ) → list_any f (take k columns) ≡ true → list_any f columns ≡ true
any_later f columns k h = sym (ap (list_any f) (take-append-drop k columns)) ∙ list_any-append f (take k columns) (drop k columns) ∙ ap (λ z. z || list_any f (drop k columns)) h

-- once each of our rows is known to pass a row both ways, no column tells more
module _ (columns : List Facing) (k row n all m q : ℕ) (flag : ℕ → Bool) (whole : all ≡ mask_below (λ a. true) n) where
  full : (more : Bool) → ((a : ℕ) → a < n → (flag a || any_faces more (take k columns) a row) ≡ true) → all ≡ mask_below (λ a. flag a || any_faces more columns a row) n
  full more h = mask_from_bits (λ a. flag a || any_faces more columns a row) n all
      (λ a l. ap (λ z. bit_at z a) whole ∙ bit_below (λ a. true) n a l ∙ sym (ap {B = ℕ} (λ z. cond z 1 0) (later (flag a) a (h a l))))
      (λ a l. ap (λ z. bit_at z a) whole ∙ bit_not_below (λ a. true) n a l)
    where
      later : (p : Bool) (a : ℕ) → (p || any_faces more (take k columns) a row) ≡ true → (p || any_faces more columns a row) ≡ true
      later true a h = refl
      later false a h = any_later (λ (c : Facing). passes more (number c.ours.now a) (number c.theirs.now row)) columns k h

  pub full_more : m ≡ mask_below (λ a. not (flag a || any_faces true (take k columns) a row)) n → m ≡ 0 → all ≡ mask_below (λ a. flag a || any_faces true columns a row) n
  full_more e none = full true (λ a l. bit_none (flag a || any_faces true (take k columns) a row) (bit_at m a) (ap (λ z. bit_at z a) e ∙ bit_below (λ a. not (flag a || any_faces true (take k columns) a row)) n a l) (ap (λ z. bit_at z a) none ∙ bit_at-zero a))
    where
      bit_none : (p : Bool) (x : ℕ) → x ≡ cond (not p) 1 0 → x ≡ 0 → p ≡ true
      bit_none true x h z = refl
      bit_none false x h z = absurd (omega (arith, h, z))

  pub full_less : q ≡ mask_below (λ a. flag a || any_faces false (take k columns) a row) n → bit_xor q all ≡ 0 → all ≡ mask_below (λ a. flag a || any_faces false columns a row) n
  full_less e none = full false (λ a l. bit_one (flag a || any_faces false (take k columns) a row) (bit_at q a) (bit_at all a) (ap (λ z. bit_at z a) e ∙ bit_below (λ a. flag a || any_faces false (take k columns) a row) n a l) (ap (λ z. bit_at z a) whole ∙ bit_below (λ a. true) n a l)
      (sym (bit_at_xor q all a) ∙ ap (λ z. bit_at z a) none ∙ bit_at-zero a))
    where
      bit_one : (p : Bool) (x y : ℕ) → x ≡ cond p 1 0 → y ≡ cond true 1 0 → (x + y) % 2 ≡ 0 → p ≡ true
      bit_one true x y f g h = refl
      bit_one false x y f g h = absurd (omega (arith, f, g, h))

-- where each of our rows passes, more columns tell nothing
pub full_still : (p r : ℕ → Bool) (n all : ℕ) → all ≡ mask_below (λ a. true) n → all ≡ mask_below p n → all ≡ mask_below (λ a. p a || r a) n
full_still p r n all whole e = mask_from_bits (λ a. p a || r a) n all
    (λ a l. one (p a) (r a) (bit_at all a) (ap (λ z. bit_at z a) whole ∙ bit_below (λ a. true) n a l) (ap (λ z. bit_at z a) e ∙ bit_below p n a l))
    (λ a l. ap (λ z. bit_at z a) whole ∙ bit_not_below (λ a. true) n a l)
  where
    one : (p r : Bool) (x : ℕ) → x ≡ cond true 1 0 → x ≡ cond p 1 0 → x ≡ cond (p || r) 1 0
    one true r x f g = g
    one false r x f g = absurd (omega (arith, f, g))

-- no column tells nothing
pub none_face : (more : Bool) (columns : List Facing) (row n : ℕ) (p : ℕ → Bool) → length columns ≡ 0 → mask_below p n ≡ mask_below (λ a. p a || any_faces more columns a row) n
none_face more [] row n p e = mask_below_same p (λ a. p a || any_faces more [] a row) n (λ a l. sym (or_false (p a)))
none_face more (column ∷ columns) row n p e = absurd (omega (arith, e))
