use Rattle.std.proofs.Common.{◌≡◌, count_by, take}
use Rattle.snap_files.specs.Suites.{is_failure}
use Rattle.snap_files.proofs.suite.failures_among.Given as goal

abbrev pub invariant-loop-page : goal.invariant-loop-page
invariant-loop-page l = l.count ≡ count_by (λ page. is_failure page.0) (take l.page-index l.pages)
