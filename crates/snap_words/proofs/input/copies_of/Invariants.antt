use Rattle.std.proofs.Common.{◌≡◌, map, take}
use Rattle.snap_words.specs.Jobs.{texts_of}
use Rattle.snap_words.proofs.input.copies_of.Given as goal

abbrev pub invariant-loop-name : goal.invariant-loop-name
invariant-loop-name l = texts_of l.copies.items ≡ map (λ name. name.now) (take l.name-index l.names)
