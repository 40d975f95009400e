use Rattle.std.proofs.Common.{◌≡◌, ◌++◌, drop}
use Rattle.snap_explain.specs.Xml.{xml_from}
use Rattle.snap_explain.proofs.xml.put_xml.Given as goal

abbrev pub invariant-loop-byte : goal.invariant-loop-byte
invariant-loop-byte l = l.out.items ++ xml_from l.before l.last (drop l.byte-index l.text) ≡ l.fn.out.items ++ xml_from 0 0 l.text
