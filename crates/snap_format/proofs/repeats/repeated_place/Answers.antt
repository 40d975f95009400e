use Rattle.std.proofs.Common.{◌≡◌, ◌<◌, ◌≤◌, ◌∙◌, false, length, refl, subst, sym, arith, rules}
use Rattle.std.specs.Prelude.{◌==◌}
use Rattle.std.specs.List.{IsDistinct}
use borrow.Author.Count.{below_more}
use Rattle.std.proofs.lemmas.List.{take_all}
use Rattle.snap_format.specs.declared.stamped.Stamped.{Stamped}
use Rattle.snap_format.specs.Stamping.{FirstRepeat, repeats_at}
use Rattle.snap_format.specs.Stamps.{stamps_of}
use Rattle.snap_format.proofs.RepeatFacts.{apart_before, first_repeat, none_seen, seen_at, seen_next, text_order}
use Rattle.snap_format.proofs.repeats.repeated_place.Goals as goal

pub loop-i-init : goal.loop-i-init
loop-i-init c = record { seen = none_seen _ _ c.new-seen.ensures.empty refl; first = λ j lt. absurd (omega arith) }

pub returns-then-not-branch : goal.returns-then-not-branch
returns-then-not-branch c = λ xs p up.
    let ys = c.sort_by_place.new.stamped.items in
    let lt : c.loop-i.i < length ys = search rules in
    let same = text_order xs c.args.stamped.items ys p up c.sort_by_place.ensures.same c.sort_by_place.ensures.rising in
    let known = sym c.if-not-branch.true ∙ c.in_ok-insert.ensures.added in
    subst (λ zs. FirstRepeat zs c.index-then-not-branch.result.now.place) same (first_repeat c.loop-i.seen ys c.loop-i.i c.index.result.now c.index-then-not-branch.result.now lt c.index.ensures c.index-then-not-branch.ensures c.loop-i.invariant.seen known c.loop-i.invariant.first)

pub loop-i-preserved : goal.loop-i-preserved
loop-i-preserved c =
    let ys = c.sort_by_place.new.stamped.items in
    let lt : c.loop-i.i < length ys = search rules in
    let fresh = sym c.if-not-branch.false ∙ c.in_ok-insert.ensures.added in
    record {
      seen = seen_next c.loop-i.seen c.insert.new.self ys c.loop-i.i c.index.result.now lt c.index.ensures c.loop-i.invariant.seen c.in_ok-insert.ensures.updates fresh;
      first = below_more (λ j. repeats_at ys j ≡ false) c.loop-i.i c.loop-i.invariant.first (seen_at c.loop-i.seen ys c.loop-i.i c.index.result.now _ lt c.index.ensures c.loop-i.invariant.seen fresh);
    }

pub unreachable-requires : goal.unreachable-requires
unreachable-requires c =
    let ys = c.sort_by_place.new.stamped.items in
    let all : length ys ≤ c.loop-i.i = search rules in
    c.requires (apart_before (λ (x : Stamped). x.at) c.args.stamped.items ys c.sort_by_place.ensures.same (subst (λ zs. IsDistinct (λ a b. a == b) (stamps_of zs)) (take_all c.loop-i.i ys all) c.loop-i.invariant.seen.distinct))
