use Rattle.std.proofs.Common.{◌≡◌, ◌≤◌, ◌<◌, ◌+◌, ◌*◌, ℕ, true, false, List, take, drop, length, get_or, sym, ap, subst, ◌∙◌, arith}
use Rattle.std.specs.Prelude.{nat_lt}
use Rattle.std.proofs.lemmas.Bool.{le-ltb}
use Rattle.snap_grid.specs.Columns.{GridValue, HaveSameRows, any_passes, number}
use Rattle.snap_grid.specs.inside.Kept.{HaveRows}
use Rattle.snap_grid.proofs.Passing.{row_at, row_count}
use Rattle.snap_grid.proofs.Clashing.{apart_by_less, apart_by_more, apart_by_one}
use Rattle.snap_grid.proofs.grid.Grid.are_apart.Goals as goal

have_rows : (g : GridValue) (columns : List (List ℕ)) (n : ℕ) → HaveSameRows g.columns g.begins g.ends → columns ≡ g.columns → n ≤ length g.begins → HaveRows columns n
have_rows g columns n same e l = subst (λ z. HaveRows z n) (sym e) (λ j m. omega (arith, same.each j m, l))

pub none_pass-requires : goal.none_pass-requires
none_pass-requires c = λ j m.
    let same = subst (λ (g : GridValue). HaveSameRows g.columns g.begins g.ends) c.self.view_is c.self.invariant.same in
    omega (arith, have_rows c.args.self.now c.args.ours.now.columns.now (c.args.block * 512 + c.args.count) same c.requires.columns c.requires.rows j m, c.requires.some)

pub returns-then-none_pass : goal.returns-then-none_pass
returns-then-none_pass c = λ _ a i k l.
    let g = c.args.self.now in
    let b = c.args.ours.now in
    let s = c.args.block * 512 + i in
    let same = subst (λ (g : GridValue). HaveSameRows g.columns g.begins g.ends) c.self.view_is c.self.invariant.same in
    let rows = have_rows g b.columns.now (s + 1) same c.requires.columns (omega (arith, l, c.requires.rows)) in
    apart_by_more g (b.from + a) s (ap (λ z. any_passes true z (b.from + a) s) (sym c.requires.columns) ∙ c.none_pass.ensures c.if-none_pass.true a s k (omega arith) (omega (arith, l, c.requires.few)) rows)

pub none_pass-requires-2 : goal.none_pass-requires-2
none_pass-requires-2 c = λ j m.
    let same = subst (λ (g : GridValue). HaveSameRows g.columns g.begins g.ends) c.self.view_is c.self.invariant.same in
    omega (arith, have_rows c.args.self.now c.args.ours.now.columns.now (c.args.block * 512 + c.args.count) same c.requires.columns c.requires.rows j m, c.requires.some)

-- an end of ours is not before a begin of theirs
late : (g : GridValue) (from n a s end begin : ℕ) (ends begins : List ℕ) → ends ≡ take n (drop from g.ends) → begins ≡ g.begins → a < n → end ≤ get_or ends a 0 → get_or begins s 0 ≤ begin → begin ≤ end → nat_lt (number g.ends (from + a)) (number g.begins s) ≡ false
late g from n a s end begin ends begins e b k least greatest l =
    le-ltb _ _ (omega (arith, least, greatest, l, ap (λ z. get_or z a 0) e ∙ row_at g.ends from n a k, ap (λ z. get_or z s 0) b))

pub returns-then-len-le1 : goal.returns-then-len-le1
returns-then-len-le1 c = λ _ a i k l.
    let g = c.args.self.now in
    let b = c.args.ours.now in
    let s = c.args.block * 512 + i in
    let same = subst (λ (g : GridValue). HaveSameRows g.columns g.begins g.ends) c.self.view_is c.self.invariant.same in
    let ended = ap length c.requires.ends ∙ row_count g.ends b.from b.count (omega (arith, same.ended, c.requires.within)) in
    let size = ap (λ (g : GridValue). length g.begins) c.self.view_is in
    let begin = (c.bounds-begins.ensures s (omega arith) (omega (arith, l, c.requires.few)) (omega (arith, l, c.requires.rows, size))).1 in
    apart_by_one g (b.from + a) s (omega (arith, c.if-len-le1.true, c.len.ensures, c.self.inside.columns.ok, ap (λ (g : GridValue). length g.columns) c.self.view_is))
    (late g b.from b.count a s c.bounds.result.least c.bounds-begins.result.greatest c.args.ends.now c.self.inside.begins c.requires.ends (ap (λ (g : GridValue). g.begins) c.self.view_is) k (c.bounds.ensures a (omega (arith, k, ended))).0 begin c.if-begins-bounds.false)

pub returns : goal.returns
returns c = λ soon a i k l.
    let g = c.args.self.now in
    let b = c.args.ours.now in
    let s = c.args.block * 512 + i in
    let same = subst (λ (g : GridValue). HaveSameRows g.columns g.begins g.ends) c.self.view_is c.self.invariant.same in
    let rows = have_rows g b.columns.now (s + 1) same c.requires.columns (omega (arith, l, c.requires.rows)) in
    let ended = ap length c.requires.ends ∙ row_count g.ends b.from b.count (omega (arith, same.ended, c.requires.within)) in
    let size = ap (λ (g : GridValue). length g.begins) c.self.view_is in
    let begin = (c.bounds-begins.ensures s (omega arith) (omega (arith, l, c.requires.few)) (omega (arith, l, c.requires.rows, size))).1 in
    apart_by_less g (b.from + a) s (ap (λ z. any_passes false z (b.from + a) s) (sym c.requires.columns) ∙ c.none_pass-2.ensures soon a s k (omega arith) (omega (arith, l, c.requires.few)) rows)
    (late g b.from b.count a s c.bounds.result.least c.bounds-begins.result.greatest c.args.ends.now c.self.inside.begins c.requires.ends (ap (λ (g : GridValue). g.begins) c.self.view_is) k (c.bounds.ensures a (omega (arith, k, ended))).0 begin c.if-begins-bounds.false)
