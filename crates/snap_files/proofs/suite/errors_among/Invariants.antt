use Rattle.std.proofs.Common.{◌≡◌, count_by, take}
use Rattle.snap_files.specs.Suites.{is_error}
use Rattle.snap_files.proofs.suite.errors_among.Given as goal

abbrev pub invariant-loop-page : goal.invariant-loop-page
invariant-loop-page l = l.count ≡ count_by (λ page. is_error page.0) (take l.page-index l.pages)
