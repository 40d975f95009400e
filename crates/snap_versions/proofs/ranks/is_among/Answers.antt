use Rattle.std.proofs.Common.{◌∙◌}
use Rattle.snap_versions.proofs.Ranking.{search_finds}
use Rattle.snap_versions.proofs.ranks.is_among.Goals as goal

pub returns : goal.returns
returns c = c.is_ok.ensures.value ∙ search_finds c.args.versions.now c.args.number c.binary_search.result c.requires c.binary_search.ensures.position
