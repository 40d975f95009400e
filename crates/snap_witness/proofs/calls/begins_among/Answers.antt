use Rattle.std.proofs.Common.{◌≡◌, Some, sym, ap, ◌∙◌}
use Rattle.std.specs.Option.{option_copied}
use Rattle.snap_core.specs.Calls.{calls_of, call_numbered}
use Rattle.snap_index.specs.IndexedCalls.{as_indexed}
use Rattle.snap_index.specs.declared.call.Call.{Call as IndexedCall}
use Rattle.snap_index.proofs.Known.{indexed_within}
use Rattle.snap_theory.specs.Kept.{is_among}
use Rattle.snap_witness.proofs.calls.begins_among.Goals as goal

pub unreachable-requires : goal.unreachable-requires
unreachable-requires g c = let gone = sym (ap option_copied c.in_default.is) ∙ c.call.ensures ∙ indexed_within (calls_of c.args.index.now) c.args.number c.requires in cc

pub returns : goal.returns
returns g c =
    let read : Some c.in-Some.call.now ≡ Some (as_indexed (call_numbered (calls_of c.args.index.now) c.args.number)) =
    sym (ap option_copied c.in-Some.is) ∙ c.call.ensures ∙ indexed_within (calls_of c.args.index.now) c.args.number c.requires in
    let same : c.in-Some.call.now ≡ as_indexed (call_numbered (calls_of c.args.index.now) c.args.number) = cc in
    c.is_among.ensures ∙ ap (λ (z : IndexedCall). is_among c.args.places.now z.begun) same
