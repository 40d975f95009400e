use Rattle.snap_explain.proofs.XmlFacts.{reads_back, stays_inside}
use Rattle.snap_explain.proofs.xml.xml_laws.Goals as goal

pub returns-clause-stays_inside : goal.returns-clause-stays_inside
returns-clause-stays_inside c = stays_inside

pub returns-clause-reads_back : goal.returns-clause-reads_back
returns-clause-reads_back c = reads_back
