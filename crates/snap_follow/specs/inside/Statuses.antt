-- The exit statuses of windows, and their words.
use Rattle.std.specs.Prelude.{ℕ, List, codes}
use Rattle.snap_follow.specs.declared.sums.Kind.{Kind}
use Rattle.snap_follow.specs.declared.sums.Kind.TheVariants.{Atomic, OnlyRegular, NotRegular, Refused, Failed}

abbrev pub code_of : Kind → ℕ
code_of Atomic = 0
code_of OnlyRegular = 1
code_of NotRegular = 2
code_of Refused = 3
code_of Failed = 4

abbrev pub word_of : Kind → List ℕ
word_of Atomic = codes "atomic"
word_of OnlyRegular = codes "only-regular"
word_of NotRegular = codes "not-regular"
word_of Refused = codes "refused"
word_of Failed = codes "failed"
