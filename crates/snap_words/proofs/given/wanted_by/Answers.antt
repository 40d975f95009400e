use Rattle.std.proofs.Common.{◌∙◌, subst, sym}
use Rattle.snap_words.specs.Cutting.{IsCut}
use Rattle.snap_words.specs.Jobs.{IsCheck, IsDraw, IsExplain, IsFollow, IsRecord, IsShrink, IsStats}
use Rattle.snap_words.proofs.given.wanted_by.Goals as goal

-- the job is the one that `job_of` gives, and so is want of memory
pub returns-in-Ok-clause-check : goal.returns-in-Ok-clause-check
returns-in-Ok-clause-check c = λ asked files whole means.
    subst (IsCheck asked files) (sym (c.in_ok-whole_job-in-Ok.ensures.same (c.deref-in-Ok.ensures.value ∙ whole))) (c.in-Ok.ensures.check asked files means)

pub returns-clause-check : goal.returns-clause-check
returns-clause-check c = λ asked files whole means. c.readable.ensures (c.in-Err.ensures.check asked files means)

pub returns-in-Ok-clause-follow : goal.returns-in-Ok-clause-follow
returns-in-Ok-clause-follow c = λ limit windows files whole means.
    subst (IsFollow limit windows files) (sym (c.in_ok-whole_job-in-Ok.ensures.same (c.deref-in-Ok.ensures.value ∙ whole))) (c.in-Ok.ensures.follow limit windows files means)

pub returns-clause-follow : goal.returns-clause-follow
returns-clause-follow c = λ limit windows files whole means. c.readable.ensures (c.in-Err.ensures.follow limit windows files means)

pub returns-in-Ok-clause-cut : goal.returns-in-Ok-clause-cut
returns-in-Ok-clause-cut c = λ limit quiet files whole means.
    subst (IsCut limit quiet files) (sym (c.in_ok-whole_job-in-Ok.ensures.same (c.deref-in-Ok.ensures.value ∙ whole))) (c.in-Ok.ensures.cut limit quiet files means)

pub returns-clause-cut : goal.returns-clause-cut
returns-clause-cut c = λ limit quiet files whole means. c.readable.ensures (c.in-Err.ensures.cut limit quiet files means)

pub returns-in-Ok-clause-shrink : goal.returns-in-Ok-clause-shrink
returns-in-Ok-clause-shrink c = λ limit shrunk files whole means.
    subst (IsShrink limit shrunk files) (sym (c.in_ok-whole_job-in-Ok.ensures.same (c.deref-in-Ok.ensures.value ∙ whole))) (c.in-Ok.ensures.shrink limit shrunk files means)

pub returns-clause-shrink : goal.returns-clause-shrink
returns-clause-shrink c = λ limit shrunk files whole means. c.readable.ensures (c.in-Err.ensures.shrink limit shrunk files means)

pub returns-in-Ok-clause-explain : goal.returns-in-Ok-clause-explain
returns-in-Ok-clause-explain c = λ limit cut drawn all faults files whole means.
    subst (IsExplain limit cut drawn all faults files) (sym (c.in_ok-whole_job-in-Ok.ensures.same (c.deref-in-Ok.ensures.value ∙ whole))) (c.in-Ok.ensures.explain limit cut drawn all faults files means)

pub returns-clause-explain : goal.returns-clause-explain
returns-clause-explain c = λ limit cut drawn all faults files whole means. c.readable.ensures (c.in-Err.ensures.explain limit cut drawn all faults files means)

pub returns-in-Ok-clause-draw : goal.returns-in-Ok-clause-draw
returns-in-Ok-clause-draw c = λ limit form part files whole means.
    subst (IsDraw limit form part files) (sym (c.in_ok-whole_job-in-Ok.ensures.same (c.deref-in-Ok.ensures.value ∙ whole))) (c.in-Ok.ensures.draw limit form part files means)

pub returns-clause-draw : goal.returns-clause-draw
returns-clause-draw c = λ limit form part files whole means. c.readable.ensures (c.in-Err.ensures.draw limit form part files means)

pub returns-in-Ok-clause-stats : goal.returns-in-Ok-clause-stats
returns-in-Ok-clause-stats c = λ limit json files whole means.
    subst (IsStats limit json files) (sym (c.in_ok-whole_job-in-Ok.ensures.same (c.deref-in-Ok.ensures.value ∙ whole))) (c.in-Ok.ensures.stats limit json files means)

pub returns-clause-stats : goal.returns-clause-stats
returns-clause-stats c = λ limit json files whole means. c.readable.ensures (c.in-Err.ensures.stats limit json files means)

pub returns-in-Ok-clause-recording : goal.returns-in-Ok-clause-recording
returns-in-Ok-clause-recording c = λ events workers rounds seed flags files whole means.
    subst (IsRecord workers rounds seed flags) (sym (c.in_ok-whole_job-in-Ok.ensures.same (c.deref-in-Ok.ensures.value ∙ whole))) (c.in-Ok.ensures.recording events workers rounds seed flags files means)

pub returns-clause-recording : goal.returns-clause-recording
returns-clause-recording c = λ events workers rounds seed flags files whole means. c.readable.ensures (c.in-Err.ensures.recording events workers rounds seed flags files means)
