use Rattle.std.proofs.Common.{◌≡◌, ◌++◌, ◌∷◌, ◌∙◌, [], ℕ, Vec, Global, length, set, take, ap, subst, arith}
use Rattle.std.proofs.lemmas.List.{length-map, take_all}
use Rattle.snap_index.specs.Rows.{rows}
use Rattle.snap_versions.specs.inside.Listed.{call_listed, calls_listed, operation_listed}
use Rattle.snap_versions.specs.inside.Versions.{AreVersionsOf, versions_in}
use Rattle.snap_versions.proofs.Listing.{listed_more}
use Rattle.snap_versions.proofs.Tables.{none_listed, update_listed, view_listed, whole_back}
use Rattle.snap_versions.proofs.versions.lists_of.Goals as goal
use Rattle.snap_versions.proofs.versions.lists_of.Goals.{in-Update+in_ok-put, in_default}

pub loop-call-init : goal.loop-call-init
loop-call-init c = none_listed (rows c.in_ok-lists.lists.items) c.in_ok-lists.ensures

pub put-requires : goal.put-requires
put-requires c = omega (arith, c.deref_mut.ensures.len, ap length c.deref_mut.ensures.value, c.loop-call.invariant.size, length-map c.loop-call.lists.items (λ (v : Vec ℕ Global). v.items))

pub loop-call-preserved : goal.loop-call-preserved
loop-call-preserved c =
    let calls = c.args.calls.now in
    let i = c.loop-call.call-index in
    let x = c.call-item.result in
    let old = c.loop-call.lists.items in
    let more = listed_more calls i x c.loop-call-test.true c.call-item.is in
    elim c.match-call.branch [
      | in-Update+in_ok-put w ↦
          let e = w.in-Update.entry in
          let size : length w.put.new.lists ≡ length old = w.in_ok-put.ensures.size ∙ ap length w.deref_mut.ensures.value in
          let lists : c.match-call.lists.items ≡ w.put.new.lists = ap (λ (v : Vec (Vec ℕ Global) Global). v.items) w.lists-is ∙ whole_back _ old w.put.new.lists c.loop-call.lists.ok.0 size in
          let put : rows w.put.new.lists ≡ set (rows old) e.component (versions_in (rows old) e.component ++ e.number ∷ []) =
          w.in_ok-put.ensures.put ∙ ap (λ z. set (rows z) e.component (versions_in (rows z) e.component ++ e.number ∷ [])) w.deref_mut.ensures.value in
          rw (more, lists, put)
          (update_listed (calls_listed (take i calls)) (rows old) (call_listed x) e (omega (arith, w.in_ok-put.ensures.byte, c.loop-call.invariant.size)) (ap operation_listed w.in-Update.is) c.loop-call.invariant)
      | in_default w ↦
          rw (more, w.lists-is) (view_listed (calls_listed (take i calls)) (rows old) (call_listed x) _ (ap operation_listed w.in_default.is) c.loop-call.invariant)
    ]

pub returns : goal.returns
returns c = subst (λ z. AreVersionsOf (calls_listed z) (rows c.loop-call.lists.items)) (take_all c.loop-call.call-index c.args.calls.now c.loop-call-test.false) c.loop-call.invariant
