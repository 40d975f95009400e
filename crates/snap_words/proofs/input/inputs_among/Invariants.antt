use Rattle.std.proofs.Common.{◌≡◌, ◌≤◌, take}
use Rattle.snap_words.specs.Jobs.{inputs_in, texts_of}
use Rattle.snap_words.proofs.input.inputs_among.Given as goal

abbrev pub invariant-loop-name : goal.invariant-loop-name
invariant-loop-name l = (l.count ≡ inputs_in (texts_of (take l.name-index l.names))) × (l.count ≤ l.name-index)
