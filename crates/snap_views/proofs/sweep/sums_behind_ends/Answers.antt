use Rattle.std.proofs.Common.{◌≡◌, ◌+◌, ◌<◌, ◌∙◌, Some, length, set, get_or, max, sym, ap, subst, arith}
use Rattle.std.proofs.lemmas.List.{length-set, get_or_default}
use Rattle.snap_core.specs.Calls.{calls_of, views_of}
use Rattle.snap_index.specs.declared.call.Call.{Call as IndexedCall}
use Rattle.snap_views.specs.Seen.{view_in}
use Rattle.snap_views.specs.inside.Sweeps.{IsSwept}
use Rattle.snap_views.proofs.Chains.{sum_in, view_is}
use Rattle.snap_views.proofs.Ordering.{view_swept, view_places}
use Rattle.snap_views.proofs.sweep.sums_behind_ends.Goals as goal
use Rattle.snap_views.proofs.sweep.sums_behind_ends.Goals.{in-Some, in_default}

pub index-requires : goal.index-requires
index-requires g c =
    let es = c.args.index.now in
    let within : c.loop-place.place < length (views_of (calls_of es)) = omega (arith, c.loop-place-test.true, c.view_count-place-end.ensures) in
    let at = view_places es c.requires.kept (view_in (calls_of es) c.loop-place.place) (view_is (calls_of es) c.loop-place.place within) in
    let ends : Some c.in-Some.ended ≡ Some at.ended = sym c.in-Some.is ∙ ap (λ (z : IndexedCall). z.ended) c.view_at.ensures.call ∙ at.ends in
    let same : c.in-Some.ended ≡ at.ended = cc in
    omega (arith, same, at.within, c.loop-place.behind.ok, c.loop-place.invariant.size)

pub index_mut-requires : goal.index_mut-requires
index_mut-requires g c =
    let es = c.args.index.now in
    let within : c.loop-place.place < length (views_of (calls_of es)) = omega (arith, c.loop-place-test.true, c.view_count-place-end.ensures) in
    let at = view_places es c.requires.kept (view_in (calls_of es) c.loop-place.place) (view_is (calls_of es) c.loop-place.place within) in
    let ends : Some c.in-Some.ended ≡ Some at.ended = sym c.in-Some.is ∙ ap (λ (z : IndexedCall). z.ended) c.view_at.ensures.call ∙ at.ends in
    let same : c.in-Some.ended ≡ at.ended = cc in
    omega (arith, same, at.within, c.loop-place.behind.ok, c.loop-place.invariant.size)

pub loop-place-preserved : goal.loop-place-preserved
loop-place-preserved g c =
    let es = c.args.index.now in
    let calls = calls_of es in
    let n = c.loop-place.place in
    let old = c.loop-place.behind.items in
    let within : n < length (views_of calls) = omega (arith, c.loop-place-test.true, c.view_count-place-end.ensures) in
    let at = view_places es c.requires.kept (view_in calls n) (view_is calls n within) in
    let ends = ap (λ (z : IndexedCall). z.ended) c.view_at.ensures.call in
    elim c.match-view_at.branch [
      | in-Some w ↦
          let ended = w.in-Some.ended in
          let there : Some ended ≡ Some at.ended = sym w.in-Some.is ∙ ends ∙ at.ends in
          let same : ended ≡ at.ended = cc in
          let more : w.max.result ≡ max (get_or old (ended + 1) 0) (get_or c.args.sums.now n 0) = w.max.ensures ∙ ap (λ z. max z (get_or c.args.sums.now n 0)) (w.index.ensures ∙ get_or_default old (ended + 1) w.index.result.now 0 (omega (arith, same, at.within, c.loop-place.invariant.size))) in
          let items : c.match-view_at.behind.items ≡ set old (ended + 1) (max (get_or old (ended + 1) 0) (get_or c.args.sums.now n 0)) = ap (λ z. z.items) w.behind-is ∙ ap (set old (ended + 1)) more in
          record {
            size = ap length items ∙ length-set old (ended + 1) (max (get_or old (ended + 1) 0) (get_or c.args.sums.now n 0)) ∙ c.loop-place.invariant.size;
            sums = subst (IsSwept calls (n + 1) 0) (sym items)
                (view_swept calls n ended (get_or c.args.sums.now n 0) old within (sym ends ∙ w.in-Some.is) (sum_in calls c.args.sums.now n 0 c.requires.sums within) (omega (arith, same, at.within, c.loop-place.invariant.size)) c.loop-place.invariant.sums);
          }
      | in_default w ↦ absurd (w.in_default.not-Some at.ended (ends ∙ at.ends))
    ]

pub returns-clause-size : goal.returns-clause-size
returns-clause-size g c = c.loop-place.invariant.size

pub returns-clause-sums : goal.returns-clause-sums
returns-clause-sums g c =
    let all : c.loop-place.place ≡ length (views_of (calls_of c.args.index.now)) = omega (arith, c.loop-place-test.false, c.loop-place.auto.place-end, c.view_count-place-end.ensures) in
    subst (λ n. IsSwept (calls_of c.args.index.now) n 0 c.loop-place.behind.items) all c.loop-place.invariant.sums
