use Rattle.std.proofs.Common.{◌≡◌, ◌++◌, take, ◌+◌, length, subst, sym, arith}
use Rattle.std.specs.List.{flat_map}
use Rattle.snap_core.specs.Calls.{calls_of}
use Rattle.snap_conditions.proofs.Ranges.{empty_between}
use Rattle.snap_views.specs.Seen.{views_between}
use Rattle.snap_explain.specs.Faults.{fault_text}
use Rattle.snap_explain.specs.FirstFaults.{firsts_among}
use Rattle.snap_explain.proofs.FirstFaults.{IsTold, one_more, told_next, told_none}
use Rattle.snap_explain.proofs.first_faults.put_between.Goals as goal

pub loop-place-init : goal.loop-place-init
loop-place-init g c =
    let calls = calls_of c.args.index.now in
    let text = fault_text c.args.lines.listed c.args.lines.records.now calls in
    subst (λ rs. IsTold text c.args.left (firsts_among c.args.kind calls rs) c.args.out.now.items c.args.out.now.items c.args.left) (sym (empty_between calls c.args.between.0)) (told_none text c.args.left c.args.out.now.items)

pub loop-place-preserved : goal.loop-place-preserved
loop-place-preserved g c =
    let calls = calls_of c.args.index.now in
    let text = fault_text c.args.lines.listed c.args.lines.records.now calls in
    let next = one_more calls c.args.between.0 c.loop-place.place c.loop-place.auto.place (omega (arith, c.loop-place-test.true, c.requires.views)) in
    subst (λ rs. IsTold text c.args.left (firsts_among c.args.kind calls rs) c.args.out.now.items c.put_at.new.out.items c.in_ok-more.more) (sym next)
    (told_next text c.args.kind calls _ _ c.args.left _ _ _ _ _ c.loop-place.invariant c.in_ok-more.ensures.text c.in_ok-more.ensures.more)

pub returns-clause-text : goal.returns-clause-text
returns-clause-text g c =
    let calls = calls_of c.args.index.now in
    let end : c.loop-place.place ≡ c.args.between.1 = omega (arith, c.loop-place-test.false, c.loop-place.auto.place-end c.requires.order) in
    subst (λ to. c.loop-place.out.items ≡ c.args.out.now.items ++ flat_map (fault_text c.args.lines.listed c.args.lines.records.now calls) (take c.args.left (firsts_among c.args.kind calls (views_between calls c.args.between.0 to)))) end
    c.loop-place.invariant.said

pub returns-clause-more : goal.returns-clause-more
returns-clause-more g c =
    let calls = calls_of c.args.index.now in
    let end : c.loop-place.place ≡ c.args.between.1 = omega (arith, c.loop-place-test.false, c.loop-place.auto.place-end c.requires.order) in
    subst (λ to. c.loop-place.more + length (take c.args.left (firsts_among c.args.kind calls (views_between calls c.args.between.0 to))) ≡ c.args.left) end c.loop-place.invariant.more
