use Rattle.std.proofs.Common.{◌≡◌, ◌≤◌, ◌<◌, ◌+◌, ◌-◌, ◌++◌, ◌∷◌, [], ℕ, List, take, drop, length, get_or, ap, ◌∙◌, refl, arith, length-drop}
use Rattle.std.specs.Prelude.{Some}
use Rattle.std.proofs.lemmas.List.{nil_from_length, append-nil, with_items_is}
use Rattle.snap_masks.specs.declared.bounds.Bounds.{Bounds}
use Rattle.snap_masks.specs.inside.Tables.{AreUnder}
use Rattle.snap_masks.proofs.masks.Masks.of.Goals as goal
use Rattle.snap_masks.proofs.masks.Masks.of.Goals.{then-spread-limit+in_ok-under, else-spread-limit+in_ok-of}
use borrow.Rule.Slice.PartMut.{post_of}

-- a table that was filled after its first mask
behind_first : (d t p : List ℕ) → 0 < length d → length p ≡ 0 → take 1 d ++ (t ++ p) ≡ get_or d 0 0 ∷ t
behind_first [] t p some none = absurd (omega (arith, some))
behind_first (x ∷ d) t p some none = ap (λ z. x ∷ (t ++ z)) (nil_from_length p none) ∙ ap (λ z. x ∷ z) (append-nil t)

post_size : (a k : ℕ) (d : List ℕ) → length (post_of a k d) ≡ length d - (a + k)
post_size a k d = length-drop k (drop a d) ∙ omega (arith, length-drop a d)

no_table : (numbers : List ℕ) (b : Bounds) (under : List ℕ) → ((i : ℕ) → i < length numbers → (b.least ≤ get_or numbers i 0) × (get_or numbers i 0 ≤ b.greatest)) → under ≡ [] → AreUnder numbers b under
no_table numbers b under h none = rw none (record { bounded = h; first = refl; tabled = λ x l. absurd (omega (arith, l)); long = λ l. absurd (omega (arith, l)) })

pub invariant_of-result : goal.invariant_of-result
invariant_of-result c =
    elim c.if-spread-limit.branch [
      | then-spread-limit+in_ok-under w ↦
          let d : List ℕ = w.deref_mut.result.now in
          let table : List ℕ = w.fill.new.table in
          let size : length d ≡ c.saturating_sub-spread.result + 4 = omega (arith, w.in_ok-under.ensures.count) in
          let post : length (post_of 1 (length d - 1) d) ≡ 0 = omega (arith, size, post_size 1 (length d - 1) d) in
          let all : take 1 d ++ (table ++ post_of 1 (length d - 1) d) ≡ get_or d 0 0 ∷ table = behind_first d table (post_of 1 (length d - 1) d) (omega (arith, size)) post in
          let filled : length table ≡ c.saturating_sub-spread.result + 3 = omega (arith, w.fill.ensures.size, size) in
          let items : c.if-spread-limit.under.items ≡ get_or d 0 0 ∷ table = ap (λ v. v.items) w.under-is ∙ with_items_is w.in_ok-under.under _ (ap length all ∙ omega (arith, filled, w.in_ok-under.under.ok, w.in_ok-under.ensures.count)) ∙ all in
          record {
            few = c.requires.numbers;
            tabled = rw items (record { bounded = c.of-bounds.ensures; first = ap (λ z. get_or z 0 0) w.deref_mut.ensures.value ∙ w.in_ok-under.ensures.empty 0; tabled = λ x l. w.fill.ensures.tabled x (omega (arith, l, w.fill.ensures.size)); long = λ l. (omega (arith, size, w.fill.ensures.size), omega (arith, size, w.fill.ensures.size, c.saturating_sub-spread.ensures)) });
            ranked_else = λ none. absurd (omega (arith, none, ap length items));
            whole = c.mask_of_all.ensures;
          }
      | else-spread-limit+in_ok-of w ↦
          record {
            few = c.requires.numbers;
            tabled = no_table c.args.numbers.now c.of-bounds.result c.if-spread-limit.under.items c.of-bounds.ensures (ap (λ v. v.items) w.under-is ∙ c.new-under.ensures.items);
            ranked_else = λ none. w.ranked-is ∙ ap Some w.in_ok-of.ensures;
            whole = c.mask_of_all.ensures;
          }
    ]
