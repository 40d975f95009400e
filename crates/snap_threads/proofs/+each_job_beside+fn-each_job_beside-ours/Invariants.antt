use Rattle.std.proofs.Common.{◌+◌, ◌*◌}
use Rattle.snap_threads.proofs.+each_job_beside+fn-each_job_beside-ours.Given as goal

abbrev pub decreases-each_job_beside : goal.decreases-each_job_beside
decreases-each_job_beside g l = 2 * l.jobs.len

abbrev pub decreases-ours : goal.decreases-ours
decreases-ours g l = 2 * l.jobs.len + 1
