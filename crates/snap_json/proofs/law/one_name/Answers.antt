use Rattle.snap_json.proofs.Names as names
use Rattle.snap_json.proofs.law.one_name.Goals as goal

pub returns : goal.returns
returns c = names.one_name
