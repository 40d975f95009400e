use Rattle.std.proofs.Common.{◌++◌, ◌∙◌, codes}
use Rattle.snap_core.specs.Calls.{call_numbered, calls_of, entries_of}
use Rattle.snap_report.proofs.Pieces.{piece_added}
use Rattle.snap_explain.specs.Calls.{call_begin}
use Rattle.snap_explain.specs.Views.{shown_text, view_text}
use Rattle.snap_explain.proofs.Pieces.{four_pieces}
use Rattle.snap_explain.proofs.view.put_view.Goals as goal

pub returns : goal.returns
unfolding view_text
returns g c =
    let out = c.args.out.now.items in
    let call = call_numbered (calls_of c.args.index.now) c.args.view in
    piece_added c.extend_from_slice-2.result c.extend_from_slice-2.new.self.items c.put_shown.new.out.items (codes "\n")
    (out ++ view_text c.args.lines.listed c.args.lines.records.now c.args.updates.now call) c.extend_from_slice-2.ensures.items
    (rw (c.in_ok-put_shown.ensures, c.in_ok-extend_from_slice.ensures.items, c.in_ok-put_begin.ensures, c.entries.ensures.entries ∙ c.view_numbered.ensures)
    (four_pieces out (call_begin c.args.lines.records.now call) (codes "view") (shown_text c.args.lines.listed c.args.updates.now (entries_of call.operation)) (codes "\n")))
