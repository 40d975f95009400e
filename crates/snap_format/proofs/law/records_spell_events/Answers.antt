use Rattle.snap_format.proofs.RecordFacts.{records_spell}
use Rattle.snap_format.proofs.law.records_spell_events.Goals as goal

pub returns : goal.returns
returns c = records_spell
