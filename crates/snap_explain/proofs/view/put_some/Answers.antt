use Rattle.std.proofs.Common.{◌++◌, codes, decimal}
use Rattle.std.specs.List.{flat_map}
use Rattle.snap_report.proofs.Pieces.{piece_added}
use Rattle.snap_explain.specs.Views.{named_text, other_count, some_text}
use Rattle.snap_explain.proofs.Pieces.{four_pieces}
use Rattle.snap_explain.proofs.view.put_some.Goals as goal

pub returns : goal.returns
unfolding some_text
returns c =
    let out = c.args.out.now.items in
    let updates = c.args.updates.now in
    let es = c.args.entries.now in
    piece_added c.extend_from_slice.result c.extend_from_slice.new.self.items c.put_number.new.out.items (codes " more entries")
    (out ++ some_text updates es) c.extend_from_slice.ensures.items
    (rw (c.in_ok-put_number.ensures, c.in_ok-put_each_named.ensures, c.other_count.ensures)
    (four_pieces out (flat_map (named_text updates) es) (codes " and ") (decimal (other_count updates es)) (codes " more entries")))
