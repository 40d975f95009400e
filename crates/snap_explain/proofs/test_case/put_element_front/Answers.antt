use Rattle.std.proofs.Common.{◌++◌, codes}
use Rattle.snap_report.proofs.Pieces.{piece_added}
use Rattle.snap_explain.specs.TestCases.{element_front, element_of, first_line}
use Rattle.snap_explain.specs.Xml.{xml_text}
use Rattle.snap_explain.proofs.Pieces.{five_pieces}
use Rattle.snap_explain.proofs.test_case.put_element_front.Goals as goal

pub returns : goal.returns
returns c =
    let out = c.args.out.now.items in
    piece_added c.extend_from_slice-4.result c.extend_from_slice-4.new.self.items c.put_xml.new.out.items (codes "\">")
    (out ++ element_front c.args.ending c.args.said.now) c.extend_from_slice-4.ensures.items
    (rw (c.in_ok-put_xml.ensures, c.in_ok-extend_from_slice-3.ensures.items, c.in_ok-extend_from_slice-2.ensures.items, c.in_ok-extend_from_slice.ensures.items, c.element_of.ensures, c.first_line.ensures)
    (five_pieces out (codes "<") (element_of c.args.ending) (codes " message=\"") (xml_text (first_line c.args.said.now)) (codes "\">")))
