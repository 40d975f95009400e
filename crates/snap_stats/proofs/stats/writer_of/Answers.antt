use Rattle.std.proofs.Common.{◌≡◌}
use Rattle.snap_stats.specs.Shown.{writer_of}
use Rattle.snap_stats.proofs.Components.{no_writer, writer_found}
use Rattle.snap_stats.proofs.stats.writer_of.Goals as goal

pub returns-in-Some : goal.returns-in-Some
unfolding writer_of
returns-in-Some g c = writer_found _ c.in-Some.call.now c.in-Some.ensures

pub returns-in-None : goal.returns-in-None
unfolding writer_of
returns-in-None g c = no_writer _ c.in-None.ensures
