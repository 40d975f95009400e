use Rattle.std.proofs.Common.{◌≡◌, ◌≤◌, ◌<◌, ◌+◌, ◌*◌, ◌-◌, ◌&&◌, ◌||◌, ℕ, Bool, List, take, length, get_or, refl, sym, ap, subst, ◌∙◌, arith}
use Rattle.std.specs.Prelude.{true, false, cond, min, count_by, count_ones, bit_or}
use Rattle.std.specs.List.{list_any, range_with_len}
use Rattle.std.proofs.lemmas.List.{take_all}
use Rattle.std.proofs.lemmas.List.FromFn.{length-range_with_len}
use Rattle.std.proofs.lemmas.List.Folds.{list_any_more}
use Rattle.std.proofs.lemmas.List.Sums.{count_by-le-length, sum_by_more, sum_by_more_le}
use Rattle.snap_grid.specs.declared.kind.Kind.{Kind}
use Rattle.snap_grid.specs.Columns.{GridValue, any_passes}
use Rattle.snap_grid.specs.inside.Facing.{faces}
use Rattle.snap_grid.specs.inside.Kinds.{AreKinds, sum_of_kinds}
use Rattle.snap_masks.specs.Masks.{mask_below}
use Rattle.std.proofs.lemmas.Nat.{mul-le}
use Rattle.std.proofs.lemmas.Nat.Bits.{bit_at-zero}
use Rattle.snap_masks.proofs.Bits.{mask_below_same, mask_from_bits, ones_below}
use Rattle.snap_masks.proofs.Bits.{mask_or}
use Rattle.snap_grid.proofs.Clashing.{sum_small}
use Rattle.snap_grid.proofs.Joining.{few_times}
use Rattle.snap_grid.proofs.Kindred.{sum_told, tells, with_kinds}
use Rattle.snap_grid.proofs.grid.Grid.kinds_clashing.Goals as goal
use Rattle.snap_grid.proofs.grid.Grid.kinds_clashing.Goals.{then-apart, else-apart}

-- the mask of one kind
told : (columns : List (List ℕ)) (g : GridValue) (from n first row kind_row ours mask : ℕ) (apart : Bool) (p q : ℕ → Bool) → mask ≡ mask_below (λ a. p a && (apart || q a)) ours → ours ≡ n → columns ≡ g.columns → row ≡ kind_row →
    ((a : ℕ) → a < n → p a ≡ any_passes true columns (from + a) (first + row)) → ((a : ℕ) → a < n → q a ≡ any_passes false columns (from + a) (first + row)) → mask ≡ mask_below (λ a. tells g.columns apart (from + a) (first + kind_row)) n
told columns g from n first row kind_row ours mask apart p q e o c r h k =
    e ∙ ap (mask_below (λ a. p a && (apart || q a))) o
    ∙ mask_below_same (λ a. p a && (apart || q a)) (λ a. tells g.columns apart (from + a) (first + kind_row)) n (λ a l. (λ i. h a l i && (apart || k a l i)) ∙ (λ i. tells (c i) apart (from + a) (first + r i)))

-- how many pairs one kind adds
module _ (g : GridValue) (from n first m k times count mask : ℕ) (apart : Bool) (kinds : List Kind) (kind : Kind) (h : AreKinds g.columns first m kinds) (few : n ≤ 512) (few_theirs : m ≤ 512) (l : k < length kinds) (e : kind ≡ get_or kinds k kind) (t : times ≡ kind.times) (c : count ≡ count_ones mask) (told_is : mask ≡ mask_below (λ a. tells g.columns apart (from + a) (first + kind.row)) n) where
  abbrev each : Kind → ℕ
  each kind = kind.times * count_by (λ a. tells g.columns apart (from + a) (first + kind.row)) (range_with_len 0 n)

  adds : times * count ≡ each (get_or kinds k kind)
  adds = (λ i. t i * (c ∙ ap count_ones told_is ∙ ones_below (λ a. tells g.columns apart (from + a) (first + kind.row)) n) i) ∙ ap each e

  found_more : (found : ℕ) → found ≡ sum_of_kinds (λ b. count_by (λ a. tells g.columns apart (from + a) b) (range_with_len 0 n)) first (take k kinds) →
      found + times * count ≡ sum_of_kinds (λ b. count_by (λ a. tells g.columns apart (from + a) b) (range_with_len 0 n)) first (take (k + 1) kinds)
  found_more found f = omega (arith, f, adds, sum_by_more each kinds k kind l)

  found_few : (found : ℕ) → found ≡ sum_of_kinds (λ b. count_by (λ a. tells g.columns apart (from + a) b) (range_with_len 0 n)) first (take k kinds) → found + times * count ≤ 262144
  found_few found f =
      omega (
        arith,
        f,
        adds,
        sum_by_more_le each kinds k kind l,
        sum_told g.columns from n first m apart kinds h,
        few_theirs,
        sum_small (λ b. count_by (λ a. tells g.columns apart (from + a) b) (range_with_len 0 n)) 512 (λ b. omega (arith, few, count_by-le-length (λ a. tells g.columns apart (from + a) b) (range_with_len 0 n), length-range_with_len 0 n)) m first,
      )

  rows_more : (rows new : ℕ) → new ≡ bit_or rows mask → rows ≡ mask_below (λ a. list_any (λ kind. tells g.columns apart (from + a) (first + kind.row)) (take k kinds)) n →
      new ≡ mask_below (λ a. list_any (λ kind. tells g.columns apart (from + a) (first + kind.row)) (take (k + 1) kinds)) n
  rows_more rows new o r =
      o ∙ (λ i. bit_or (r i) (told_is i))
      ∙ mask_or n (λ a. list_any (λ kind. tells g.columns apart (from + a) (first + kind.row)) (take k kinds)) (λ a. tells g.columns apart (from + a) (first + kind.row)) (λ a. list_any (λ kind. tells g.columns apart (from + a) (first + kind.row)) (take (k + 1) kinds))
      (λ a. list_any_more (λ (kind : Kind). tells g.columns apart (from + a) (first + kind.row)) kinds k kind l ∙ ap (λ (z : Kind). list_any (λ kind. tells g.columns apart (from + a) (first + kind.row)) (take k kinds) || tells g.columns apart (from + a) (first + z.row)) (sym e))

pub loop-k-init : goal.loop-k-init
loop-k-init c = record { found = refl; rows = c.none-rows.ensures ∙ mask_from_bits (λ a. false) c.args.ours.now.count 0 (λ i l. bit_at-zero i) (λ i l. bit_at-zero i) }

pub clashing-mask-requires : goal.clashing-mask-requires
clashing-mask-requires c =
    let g = c.args.self.now in
    let b = c.args.ours.now in
    let against = c.args.against.now in
    let first = c.args.block * 512 in
    let kinds = c.kinds_of-kinds.result.now in
    let kind = c.index-kinds-k.result in
    let k = c.loop-k.k in
    let are = subst (λ z. AreKinds g.columns first z kinds) (sym c.requires.whole) c.kinds_of-kinds.ensures in
    omega (arith, c.from.ensures, ap (λ (z : Kind). z.row) c.index-kinds-k.is, are.within k kind c.loop-k-test.true, c.requires.rows.1)

pub overflow_mul-found : goal.overflow_mul-found
overflow_mul-found c =
    let g = c.args.self.now in
    let few = few_times g.columns (c.args.block * 512) (min 512 (length g.begins - c.args.block * 512)) c.loop-k.k c.kinds_of-kinds.result.now c.index-kinds-k.result c.loop-k-test.true c.kinds_of-kinds.ensures in
    let times : c.from-in-loop-k.result ≤ 512 = omega (arith, few, c.from-in-loop-k.ensures, ap (λ (z : Kind). z.times) c.index-kinds-k.is) in
    record { fits = omega (arith, mul-le c.from-in-loop-k.result c.from-in-loop-k-2.result 512 4294967295 times (omega (arith, c.from-in-loop-k-2.ensures))) }

pub overflow_add-found : goal.overflow_add-found
overflow_add-found c =
    let g = c.args.self.now in
    let b = c.args.ours.now in
    let against = c.args.against.now in
    let first = c.args.block * 512 in
    let kinds = c.kinds_of-kinds.result.now in
    let kind = c.index-kinds-k.result in
    let k = c.loop-k.k in
    let are = subst (λ z. AreKinds g.columns first z kinds) (sym c.requires.whole) c.kinds_of-kinds.ensures in
    let row : c.from.result < c.args.count = omega (arith, c.from.ensures, ap (λ (z : Kind). z.row) c.index-kinds-k.is, are.within k kind c.loop-k-test.true) in
    let mask = told b.columns.now g b.from b.count first c.from.result kind.row against.ours c.clashing-mask.result c.args.apart (λ a. faces true against.more against.near.items against.far.items a c.from.result) (λ a. faces false against.less against.near.items against.far.items a c.from.result) c.clashing-mask.ensures c.requires.rows.0 c.requires.columns c.from.ensures
    (λ a l. c.requires.more a c.from.result l row) (λ a l. c.requires.less a c.from.result l row) in
    record { fits = omega (arith, found_few g b.from b.count first c.args.count k c.from-in-loop-k.result c.from-in-loop-k-2.result c.clashing-mask.result c.args.apart kinds kind are b.rows.few (omega (arith, c.requires.whole)) c.loop-k-test.true c.index-kinds-k.is c.from-in-loop-k.ensures (c.from-in-loop-k-2.ensures ∙ c.count.ensures) mask c.loop-k.found c.loop-k.invariant.found) }

pub loop-k-preserved : goal.loop-k-preserved
loop-k-preserved c =
    let g = c.args.self.now in
    let b = c.args.ours.now in
    let against = c.args.against.now in
    let first = c.args.block * 512 in
    let kinds = c.kinds_of-kinds.result.now in
    let kind = c.index-kinds-k.result in
    let k = c.loop-k.k in
    let are = subst (λ z. AreKinds g.columns first z kinds) (sym c.requires.whole) c.kinds_of-kinds.ensures in
    let row : c.from.result < c.args.count = omega (arith, c.from.ensures, ap (λ (z : Kind). z.row) c.index-kinds-k.is, are.within k kind c.loop-k-test.true) in
    let mask = told b.columns.now g b.from b.count first c.from.result kind.row against.ours c.clashing-mask.result c.args.apart (λ a. faces true against.more against.near.items against.far.items a c.from.result) (λ a. faces false against.less against.near.items against.far.items a c.from.result) c.clashing-mask.ensures c.requires.rows.0 c.requires.columns c.from.ensures
    (λ a l. c.requires.more a c.from.result l row) (λ a l. c.requires.less a c.from.result l row) in
    record {
      found = found_more g b.from b.count first c.args.count k c.from-in-loop-k.result c.from-in-loop-k-2.result c.clashing-mask.result c.args.apart kinds kind are b.rows.few (omega (arith, c.requires.whole)) c.loop-k-test.true c.index-kinds-k.is c.from-in-loop-k.ensures (c.from-in-loop-k-2.ensures ∙ c.count.ensures) mask c.loop-k.found c.loop-k.invariant.found;
      rows = rows_more g b.from b.count first c.args.count k c.from-in-loop-k.result c.from-in-loop-k-2.result c.clashing-mask.result c.args.apart kinds kind are b.rows.few (omega (arith, c.requires.whole)) c.loop-k-test.true c.index-kinds-k.is c.from-in-loop-k.ensures (c.from-in-loop-k-2.ensures ∙ c.count.ensures) mask c.loop-k.rows c.or-rows.result c.or-rows.ensures c.loop-k.invariant.rows;
    }

pub returns : goal.returns
returns c =
    let g = c.args.self.now in
    let b = c.args.ours.now in
    let first = c.args.block * 512 in
    let kinds = c.kinds_of-kinds.result.now in
    let are = subst (λ z. AreKinds g.columns first z kinds) (sym c.requires.whole) c.kinds_of-kinds.ensures in
    let all = take_all c.loop-k.k kinds c.loop-k-test.false in
    let found = c.loop-k.invariant.found ∙ ap (sum_of_kinds (λ z. count_by (λ a. tells g.columns c.args.apart (b.from + a) z) (range_with_len 0 b.count)) first) all in
    let rows = c.loop-k.invariant.rows ∙ ap (λ z. mask_below (λ a. list_any (λ kind. tells g.columns c.args.apart (b.from + a) (first + kind.row)) z) b.count) all in
    let drops : c.if-apart.result ≡ cond c.args.apart c.loop-k.found 0 =
    elim c.if-apart.branch [
      | then-apart w ↦ w.result-is ∙ sym (ap (λ z. cond z c.loop-k.found 0) w.if-apart.true)
      | else-apart w ↦ w.result-is ∙ sym (ap (λ z. cond z c.loop-k.found 0) w.if-apart.false)
    ] in
    rw drops (with_kinds g b.from b.count first c.args.count kinds are c.args.apart c.loop-k.found c.loop-k.rows c.requires.apart found rows)
