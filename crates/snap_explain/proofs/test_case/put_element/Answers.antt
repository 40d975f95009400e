use Rattle.std.proofs.Common.{◌++◌, append_assoc, codes}
use Rattle.snap_report.proofs.Pieces.{piece_added}
use Rattle.snap_explain.specs.TestCases.{element_text}
use Rattle.snap_explain.proofs.test_case.put_element.Goals as goal

pub returns : goal.returns
returns c =
    let out = c.args.out.now.items in
    piece_added c.extend_from_slice-3.result c.extend_from_slice-3.new.self.items c.extend_from_slice-2.new.self.items (codes ">\n")
    (out ++ element_text c.args.ending c.args.said.now) c.extend_from_slice-3.ensures.items
    (rw (c.in_ok-extend_from_slice-2.ensures.items, c.in_ok-extend_from_slice.ensures.items, c.in_ok-put_xml.ensures, c.in_ok-put_element_front.ensures, c.element_of.ensures) (simp append_assoc))
