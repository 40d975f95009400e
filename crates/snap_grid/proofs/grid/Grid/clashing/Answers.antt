use Rattle.std.proofs.lemmas.Result.{IfOk-from_err}
use Rattle.std.proofs.Common.{◌≡◌, ◌≤◌, ◌+◌, ◌*◌, ◌<◌, ℕ, Bool, List, length, get_or, ap, subst, ◌∙◌, arith}
use Rattle.std.specs.Prelude.{true, false, nat_lt, bit_and, bit_or, take, drop}
use Rattle.snap_grid.specs.Columns.{GridValue, HaveSameRows, number, any_passes, clashes, drops}
use Rattle.snap_masks.specs.Masks.{mask_by, mask_below}
use Rattle.snap_grid.specs.inside.Facing.{faces}
use Rattle.std.proofs.lemmas.Bool.{lt-ltb}
use Rattle.snap_masks.proofs.Bits.{mask_below_same}
use Rattle.snap_grid.proofs.Passing.{row_at, row_count}
use Rattle.snap_grid.proofs.Clashing.{drop_lane, few_ones, few_pairs, lane, with_more, with_none, with_nothing}
use Rattle.snap_grid.proofs.grid.Grid.clashing.Goals as goal

pub returns-then-are_apart : goal.returns-then-are_apart
returns-then-are_apart c = rw c.none.ensures (with_nothing c.args.self.now c.args.ours.now.from c.args.ours.now.count (c.args.block * 512) c.args.count (c.are_apart.ensures c.if-are_apart.true))

pub against-requires-clause-rows : goal.against-requires-clause-rows
against-requires-clause-rows c =
    let same = subst (λ (g : GridValue). HaveSameRows g.columns g.begins g.ends) c.self.view_is c.self.invariant.same in
    rw c.requires.columns (λ j l. omega (arith, same.each j l, c.requires.whole, c.requires.some))

pub against-requires-clause-small : goal.against-requires-clause-small
against-requires-clause-small c =
    let same = subst (λ (g : GridValue). HaveSameRows g.columns g.begins g.ends) c.self.view_is c.self.invariant.same in
    omega (arith, same.few, c.requires.whole, c.requires.some)

pub loop-i-init : goal.loop-i-init
loop-i-init c = rw c.none-rows.ensures (record { small = omega arith; found = with_none c.args.self.now c.args.ours.now.from c.args.ours.now.count (c.args.block * 512) })

-- the mask of the rows that pass one, by what bounds and columns tell
faced : (p q : ℕ → Bool) (n m mask : ℕ) → mask ≡ mask_below p m → m ≡ n → ((a : ℕ) → a < n → p a ≡ q a) → mask ≡ mask_below q n
faced p q n m mask e f h = e ∙ ap (mask_below p) f ∙ mask_below_same p q n h

-- the mask of one lane, by what the loop read
here : (g : GridValue) (columns : List (List ℕ)) (from n s more less before : ℕ) (begins ends : List ℕ) → HaveSameRows g.columns g.begins g.ends → columns ≡ g.columns → from + n ≤ length g.begins → ends ≡ take n (drop from g.ends) → begins ≡ g.begins →
    more ≡ mask_below (λ a. any_passes true columns (from + a) s) n → less ≡ mask_below (λ a. any_passes false columns (from + a) s) n → before ≡ mask_by (λ x. nat_lt x (get_or begins s 0)) ends →
    bit_and more (bit_or less before) ≡ mask_below (λ a. clashes g (from + a) s) n
here g columns from n s more less before begins ends same of_grid within e b m l h =
    lane g from n s more less before
    (m ∙ ap (λ z. mask_below (λ a. any_passes true z (from + a) s) n) of_grid)
    (l ∙ ap (λ z. mask_below (λ a. any_passes false z (from + a) s) n) of_grid)
    (h ∙ ap (λ z. mask_by (λ x. nat_lt x (get_or z s 0)) ends) b ∙ ap (λ z. mask_by (λ x. nat_lt x (number g.begins s)) z) e)
    (omega (arith, within, same.ended))

-- the same of the rows that drop
dropping_here : (g : GridValue) (columns : List (List ℕ)) (from n s more before : ℕ) (begins ends : List ℕ) → HaveSameRows g.columns g.begins g.ends → columns ≡ g.columns → from + n ≤ length g.begins → ends ≡ take n (drop from g.ends) → begins ≡ g.begins →
    more ≡ mask_below (λ a. any_passes true columns (from + a) s) n → before ≡ mask_by (λ x. nat_lt x (get_or begins s 0)) ends → bit_and more before ≡ mask_below (λ a. drops g (from + a) s) n
dropping_here g columns from n s more before begins ends same of_grid within e b m h =
    drop_lane g from n s more before
    (m ∙ ap (λ z. mask_below (λ a. any_passes true z (from + a) s) n) of_grid)
    (h ∙ ap (λ z. mask_by (λ x. nat_lt x (get_or z s 0)) ends) b ∙ ap (λ z. mask_by (λ x. nat_lt x (number g.begins s)) z) e)
    (omega (arith, within, same.ended))

pub overflow_add-found : goal.overflow_add-found
overflow_add-found c =
    let g = c.args.self.now in
    let b = c.args.ours.now in
    let s = c.args.block * 512 + c.loop-i.i in
    let same = subst (λ (g : GridValue). HaveSameRows g.columns g.begins g.ends) c.self.view_is c.self.invariant.same in
    let begins = ap (λ (g : GridValue). g.begins) c.self.view_is in
    let before = c.before-before.ensures ∙ ap (λ z. mask_by (λ x. nat_lt x z) c.args.ends.now) c.number.ensures in
    let against = c.in_ok-against.against in
    let more = faced (λ a. faces true against.more against.near.items against.far.items a c.loop-i.i) (λ a. any_passes true b.columns.now (b.from + a) s) b.count against.ours _ c.passing-passing.ensures.more c.in_ok-against.ensures.rows.0 (λ a l. c.in_ok-against.ensures.more a c.loop-i.i l c.loop-i-test.true) in
    let less = faced (λ a. faces false against.less against.near.items against.far.items a c.loop-i.i) (λ a. any_passes false b.columns.now (b.from + a) s) b.count against.ours _ c.passing-passing.ensures.less c.in_ok-against.ensures.rows.0 (λ a l. c.in_ok-against.ensures.less a c.loop-i.i l c.loop-i-test.true) in
    let mask = c.and-mask.ensures ∙ ap (bit_and c.passing-passing.result.more) c.or.ensures ∙ here g b.columns.now b.from b.count s _ _ _ c.self.inside.begins c.args.ends.now same c.requires.columns c.requires.within c.requires.ends begins more less before in
    record { fits = omega (arith, c.loop-i.invariant.small, c.loop-i-test.true, c.requires.whole, (c.from-found.ensures ∙ c.count.ensures), b.rows.few, few_ones (λ a. clashes g (b.from + a) s) b.count c.and-mask.result mask) }

pub overflow_add-drops : goal.overflow_add-drops
overflow_add-drops c =
    let g = c.args.self.now in
    let b = c.args.ours.now in
    let s = c.args.block * 512 + c.loop-i.i in
    let same = subst (λ (g : GridValue). HaveSameRows g.columns g.begins g.ends) c.self.view_is c.self.invariant.same in
    let begins = ap (λ (g : GridValue). g.begins) c.self.view_is in
    let before = c.before-before.ensures ∙ ap (λ z. mask_by (λ x. nat_lt x z) c.args.ends.now) c.number.ensures in
    let against = c.in_ok-against.against in
    let more = faced (λ a. faces true against.more against.near.items against.far.items a c.loop-i.i) (λ a. any_passes true b.columns.now (b.from + a) s) b.count against.ours _ c.passing-passing.ensures.more c.in_ok-against.ensures.rows.0 (λ a l. c.in_ok-against.ensures.more a c.loop-i.i l c.loop-i-test.true) in
    let dropping = c.and-dropping.ensures ∙ dropping_here g b.columns.now b.from b.count s _ _ c.self.inside.begins c.args.ends.now same c.requires.columns c.requires.within c.requires.ends begins more before in
    let few = few_pairs (drops g) b.from b.count (c.args.block * 512) c.loop-i.i c.loop-i.drops b.rows.few c.loop-i.invariant.found.drops in
    record { fits = omega (arith, few, c.loop-i-test.true, c.requires.whole, (c.from-drops.ensures ∙ c.count-in-loop-i.ensures), b.rows.few, few_ones (λ a. drops g (b.from + a) s) b.count c.and-dropping.result dropping) }

pub loop-i-preserved : goal.loop-i-preserved
loop-i-preserved c =
    let g = c.args.self.now in
    let b = c.args.ours.now in
    let s = c.args.block * 512 + c.loop-i.i in
    let same = subst (λ (g : GridValue). HaveSameRows g.columns g.begins g.ends) c.self.view_is c.self.invariant.same in
    let begins = ap (λ (g : GridValue). g.begins) c.self.view_is in
    let before = c.before-before.ensures ∙ ap (λ z. mask_by (λ x. nat_lt x z) c.args.ends.now) c.number.ensures in
    let against = c.in_ok-against.against in
    let more = faced (λ a. faces true against.more against.near.items against.far.items a c.loop-i.i) (λ a. any_passes true b.columns.now (b.from + a) s) b.count against.ours _ c.passing-passing.ensures.more c.in_ok-against.ensures.rows.0 (λ a l. c.in_ok-against.ensures.more a c.loop-i.i l c.loop-i-test.true) in
    let less = faced (λ a. faces false against.less against.near.items against.far.items a c.loop-i.i) (λ a. any_passes false b.columns.now (b.from + a) s) b.count against.ours _ c.passing-passing.ensures.less c.in_ok-against.ensures.rows.0 (λ a l. c.in_ok-against.ensures.less a c.loop-i.i l c.loop-i-test.true) in
    let mask = c.and-mask.ensures ∙ ap (bit_and c.passing-passing.result.more) c.or.ensures ∙ here g b.columns.now b.from b.count s _ _ _ c.self.inside.begins c.args.ends.now same c.requires.columns c.requires.within c.requires.ends begins more less before in
    let dropping = c.and-dropping.ensures ∙ dropping_here g b.columns.now b.from b.count s _ _ c.self.inside.begins c.args.ends.now same c.requires.columns c.requires.within c.requires.ends begins more before in
    record {
      small = omega (arith, c.loop-i.invariant.small, (c.from-found.ensures ∙ c.count.ensures), b.rows.few, few_ones (λ a. clashes g (b.from + a) s) b.count c.and-mask.result mask);
      found = with_more g b.from b.count (c.args.block * 512) c.loop-i.i c.loop-i.found c.loop-i.drops c.loop-i.rows c.and-mask.result c.and-dropping.result _ _ c.or-rows.result mask dropping
          (ap (λ z. c.loop-i.found + z) (c.from-found.ensures ∙ c.count.ensures)) (ap (λ z. c.loop-i.drops + z) (c.from-drops.ensures ∙ c.count-in-loop-i.ensures)) c.or-rows.ensures c.loop-i.invariant.found;
    }

-- an end of ours and a begin of theirs, by their bounds
end_at : (g : GridValue) (from n a : ℕ) (ends : List ℕ) → ends ≡ take n (drop from g.ends) → a < n → get_or ends a 0 ≡ number g.ends (from + a)
end_at g from n a ends e l = ap (λ z. get_or z a 0) e ∙ row_at g.ends from n a l

pub kinds_clashing-requires-then-bounds-begins-clause-apart : goal.kinds_clashing-requires-then-bounds-begins-clause-apart
kinds_clashing-requires-then-bounds-begins-clause-apart c = λ a i k l.
    let g = c.args.self.now in
    let b = c.args.ours.now in
    let s = c.args.block * 512 + i in
    let same = subst (λ (g : GridValue). HaveSameRows g.columns g.begins g.ends) c.self.view_is c.self.invariant.same in
    let size = ap (λ (g : GridValue). length g.begins) c.self.view_is in
    let begins = ap (λ (g : GridValue). get_or g.begins s 0) c.self.view_is in
    let begin = (c.bounds-begins.ensures s (omega arith) (omega (arith, l, c.requires.whole)) (omega (arith, l, c.requires.whole, size))).0 in
    let count = ap length c.requires.ends ∙ row_count g.ends b.from b.count (omega (arith, same.ended, c.requires.within)) in
    let end = (c.bounds-2.ensures a (omega (arith, k, count))).1 in
    lt-ltb _ _ (omega (arith, begins, begin, end, end_at g b.from b.count a c.args.ends.now c.requires.ends k, c.if-bounds-begins.true))

pub are_apart-requires-clause-columns : goal.are_apart-requires-clause-columns
are_apart-requires-clause-columns c = c.requires.columns

pub are_apart-requires-clause-ends : goal.are_apart-requires-clause-ends
are_apart-requires-clause-ends c = c.requires.ends

pub are_apart-requires-clause-within : goal.are_apart-requires-clause-within
are_apart-requires-clause-within c = c.requires.within

pub are_apart-requires-clause-some : goal.are_apart-requires-clause-some
are_apart-requires-clause-some c = c.requires.some

pub are_apart-requires-clause-few : goal.are_apart-requires-clause-few
are_apart-requires-clause-few c = omega (arith, c.requires.whole)

pub are_apart-requires-clause-rows : goal.are_apart-requires-clause-rows
are_apart-requires-clause-rows c = omega (arith, c.requires.whole)

pub against-requires-clause-some : goal.against-requires-clause-some
against-requires-clause-some c = c.requires.some

pub kinds_clashing-requires-clause-columns : goal.kinds_clashing-requires-clause-columns
kinds_clashing-requires-clause-columns c = c.requires.columns

pub kinds_clashing-requires-clause-some : goal.kinds_clashing-requires-clause-some
kinds_clashing-requires-clause-some c = c.requires.some

pub kinds_clashing-requires-clause-whole : goal.kinds_clashing-requires-clause-whole
kinds_clashing-requires-clause-whole c = c.requires.whole

pub kinds_clashing-requires-clause-rows : goal.kinds_clashing-requires-clause-rows
kinds_clashing-requires-clause-rows c = c.in_ok-against.ensures.rows

pub kinds_clashing-requires-clause-more : goal.kinds_clashing-requires-clause-more
kinds_clashing-requires-clause-more c = c.in_ok-against.ensures.more

pub kinds_clashing-requires-clause-less : goal.kinds_clashing-requires-clause-less
kinds_clashing-requires-clause-less c = c.in_ok-against.ensures.less

pub kinds_clashing-requires-then-bounds-begins-clause-columns : goal.kinds_clashing-requires-then-bounds-begins-clause-columns
kinds_clashing-requires-then-bounds-begins-clause-columns c = c.requires.columns

pub kinds_clashing-requires-then-bounds-begins-clause-some : goal.kinds_clashing-requires-then-bounds-begins-clause-some
kinds_clashing-requires-then-bounds-begins-clause-some c = c.requires.some

pub kinds_clashing-requires-then-bounds-begins-clause-whole : goal.kinds_clashing-requires-then-bounds-begins-clause-whole
kinds_clashing-requires-then-bounds-begins-clause-whole c = c.requires.whole

pub kinds_clashing-requires-then-bounds-begins-clause-rows : goal.kinds_clashing-requires-then-bounds-begins-clause-rows
kinds_clashing-requires-then-bounds-begins-clause-rows c = c.in_ok-against.ensures.rows

pub kinds_clashing-requires-then-bounds-begins-clause-more : goal.kinds_clashing-requires-then-bounds-begins-clause-more
kinds_clashing-requires-then-bounds-begins-clause-more c = c.in_ok-against.ensures.more

pub kinds_clashing-requires-then-bounds-begins-clause-less : goal.kinds_clashing-requires-then-bounds-begins-clause-less
kinds_clashing-requires-then-bounds-begins-clause-less c = c.in_ok-against.ensures.less

pub returns-in_err-against : goal.returns-in_err-against
returns-in_err-against c = IfOk-from_err c.from_residual.result _ c.from_residual.ensures.0
