use Rattle.snap_follow.specs.inside.Folders.{KeepsFolder}
use Rattle.snap_follow.proofs.folder.FolderTexts.take_names.Given as goal

abbrev pub invariant-loop-name : goal.invariant-loop-name
invariant-loop-name g l = record {
  can : (goal.iterator-loop-name g).can_next l.name-iterator;
  finite : (goal.iterator-loop-name g).is_finite l.name-iterator;
  same : KeepsFolder l.fn.self l.self;
}
