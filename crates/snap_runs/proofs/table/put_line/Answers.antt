use Rattle.std.proofs.Common.{◌++◌, codes}
use Rattle.snap_core.specs.Calls.{call_numbered, calls_of}
use Rattle.snap_report.proofs.Pieces.{piece_added}
use Rattle.snap_runs.specs.Mapping.{columns, map_line}
use Rattle.snap_runs.proofs.Tables.{line_pieces}
use Rattle.snap_runs.proofs.table.put_line.Goals as goal

pub returns : goal.returns
unfolding map_line
returns c =
    let out = c.args.out.now.items in
    let mine = columns c.args.mine.now (call_numbered (calls_of c.args.left.now) c.args.pair.0) in
    let theirs = columns c.args.theirs.now (call_numbered (calls_of c.args.index.now) c.args.pair.1) in
    piece_added c.extend_from_slice-2.result c.extend_from_slice-2.new.self.items c.put_columns-2.new.out.items (codes "\n")
    (out ++ map_line c.args.mine.now c.args.theirs.now (call_numbered (calls_of c.args.left.now) c.args.pair.0, call_numbered (calls_of c.args.index.now) c.args.pair.1)) c.extend_from_slice-2.ensures.items
    (rw (c.in_ok-put_columns-2.ensures, c.in_ok-extend_from_slice.ensures.items, c.in_ok-put_columns.ensures) (line_pieces out mine theirs))
