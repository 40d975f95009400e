use Rattle.std.proofs.Common.{◌+◌, arith}
use Rattle.std.proofs.lemmas.List.{take_rest}
use Rattle.snap_names.specs.Lists.{byte_lists}
use Rattle.snap_names.proofs.ListFacts.{cut_more, last_name, no_bytes, some_bytes, whole_list}
use Rattle.snap_names.proofs.list.names_in.Goals.{then-not-is_empty+in_ok-add_name-2, else-not-is_empty}
use Rattle.snap_names.proofs.list.names_in.Goals as goal

pub loop-length-preserved : goal.loop-length-preserved
loop-length-preserved c =
    let rest = c.loop-length.rest.now in
    let more = cut_more c.args.end c.in-Some.length c.args.text.now (byte_lists c.loop-length.names.items) rest (omega arith) c.in-Some.ensures c.loop-length.invariant in
    rw (c.in_ok-add_name.ensures, take_rest rest (c.in-Some.length + 1)) more

pub returns : goal.returns
returns c =
    let rest = c.loop-length.rest.now in
    let before = byte_lists c.loop-length.names.items in
    elim c.if-not-is_empty.branch [
      | then-not-is_empty+in_ok-add_name-2 w ↦ rw (w.names-is, w.in_ok-add_name-2.ensures) (last_name c.args.end c.args.text.now before rest (some_bytes rest w.if-not-is_empty.ensures) c.in_default.ensures c.loop-length.invariant)
      | else-not-is_empty w ↦ rw w.names-is (whole_list c.args.end c.args.text.now before rest (no_bytes rest w.if-not-is_empty.ensures) c.loop-length.invariant)
    ]
