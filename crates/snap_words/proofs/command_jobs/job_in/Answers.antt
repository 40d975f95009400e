use Rattle.std.proofs.Common.{◌∙◌, ap, codes, refl}
use Rattle.snap_words.specs.Jobs.{first_name}
use Rattle.snap_words.proofs.Finding.{has_name}
use Rattle.snap_words.proofs.command_jobs.job_in.Goals as goal

pub returns-in-check-clause-asked : goal.returns-in-check-clause-asked
returns-in-check-clause-asked c = record {
  check = λ asked _ asks. c.judged_in.ensures.check asked asks;
  follow = λ limit windows _ asks. c.judged_in.ensures.follow limit windows asks;
  cut = λ limit quiet _ asks. c.judged_in.ensures.cut limit quiet asks;
  shrink = λ limit shrunk other _. absurd (has_name _ _ (codes "shrink") c.in-check.is refl refl other);
  drawn_map = λ other _. absurd (has_name _ _ (codes "shrink") c.in-check.is refl refl other);
  explain = λ limit cut drawn whole faults other _. absurd (has_name _ _ (codes "explain") c.in-check.is refl refl other);
  drawn_faults = λ other _. absurd (has_name _ _ (codes "explain") c.in-check.is refl refl other);
  one_writer = λ other _. absurd (has_name _ _ (codes "explain") c.in-check.is refl refl other);
  draw = λ limit form part other _. absurd (has_name _ _ (codes "draw") c.in-check.is refl refl other);
  stats = λ limit json other _. absurd (has_name _ _ (codes "stats") c.in-check.is refl refl other);
  repeated = λ other _. absurd (has_name _ _ (codes "stats") c.in-check.is refl refl other);
  recording = λ events workers rounds seed flags other _. absurd (has_name _ _ (codes "record") c.in-check.is refl refl other);
  unfollowed = λ _ asks. c.judged_in.ensures.unfollowed asks;
  unheeded = λ _ asks. c.judged_in.ensures.unheeded asks;
  uncut = λ _ asks. c.judged_in.ensures.uncut asks;
  overfull = λ other _. absurd (has_name _ _ (codes "record") c.in-check.is refl refl other);
}

pub returns-in-shrink-clause-asked : goal.returns-in-shrink-clause-asked
returns-in-shrink-clause-asked c = record {
  check = λ asked other _. absurd (has_name _ _ (codes "check") c.in-shrink.is refl refl other);
  follow = λ limit windows other _. absurd (has_name _ _ (codes "check") c.in-shrink.is refl refl other);
  cut = λ limit quiet other _. absurd (has_name _ _ (codes "check") c.in-shrink.is refl refl other);
  shrink = λ limit shrunk _ asks. c.shrink_in.ensures.asked limit shrunk _ (c.into_file.ensures ∙ ap first_name c.requires.named.files_are) asks;
  drawn_map = λ _ asks. c.shrink_in.ensures.both asks;
  explain = λ limit cut drawn whole faults other _. absurd (has_name _ _ (codes "explain") c.in-shrink.is refl refl other);
  drawn_faults = λ other _. absurd (has_name _ _ (codes "explain") c.in-shrink.is refl refl other);
  one_writer = λ other _. absurd (has_name _ _ (codes "explain") c.in-shrink.is refl refl other);
  draw = λ limit form part other _. absurd (has_name _ _ (codes "draw") c.in-shrink.is refl refl other);
  stats = λ limit json other _. absurd (has_name _ _ (codes "stats") c.in-shrink.is refl refl other);
  repeated = λ other _. absurd (has_name _ _ (codes "stats") c.in-shrink.is refl refl other);
  recording = λ events workers rounds seed flags other _. absurd (has_name _ _ (codes "record") c.in-shrink.is refl refl other);
  unfollowed = λ other _. absurd (has_name _ _ (codes "check") c.in-shrink.is refl refl other);
  unheeded = λ other _. absurd (has_name _ _ (codes "check") c.in-shrink.is refl refl other);
  uncut = λ other _. absurd (has_name _ _ (codes "check") c.in-shrink.is refl refl other);
  overfull = λ other _. absurd (has_name _ _ (codes "record") c.in-shrink.is refl refl other);
}

pub returns-in-explain-clause-asked : goal.returns-in-explain-clause-asked
returns-in-explain-clause-asked c = record {
  check = λ asked other _. absurd (has_name _ _ (codes "check") c.in-explain.is refl refl other);
  follow = λ limit windows other _. absurd (has_name _ _ (codes "check") c.in-explain.is refl refl other);
  cut = λ limit quiet other _. absurd (has_name _ _ (codes "check") c.in-explain.is refl refl other);
  shrink = λ limit shrunk other _. absurd (has_name _ _ (codes "shrink") c.in-explain.is refl refl other);
  drawn_map = λ other _. absurd (has_name _ _ (codes "shrink") c.in-explain.is refl refl other);
  explain = λ limit cut drawn whole faults _ asks. c.explain_in.ensures.asked limit cut drawn whole faults _ (c.into_file-in-explain.ensures ∙ ap first_name c.requires.named.files_are) asks;
  drawn_faults = λ _ asks. c.explain_in.ensures.several asks;
  one_writer = λ _ asks. c.explain_in.ensures.one_writer asks;
  draw = λ limit form part other _. absurd (has_name _ _ (codes "draw") c.in-explain.is refl refl other);
  stats = λ limit json other _. absurd (has_name _ _ (codes "stats") c.in-explain.is refl refl other);
  repeated = λ other _. absurd (has_name _ _ (codes "stats") c.in-explain.is refl refl other);
  recording = λ events workers rounds seed flags other _. absurd (has_name _ _ (codes "record") c.in-explain.is refl refl other);
  unfollowed = λ other _. absurd (has_name _ _ (codes "check") c.in-explain.is refl refl other);
  unheeded = λ other _. absurd (has_name _ _ (codes "check") c.in-explain.is refl refl other);
  uncut = λ other _. absurd (has_name _ _ (codes "check") c.in-explain.is refl refl other);
  overfull = λ other _. absurd (has_name _ _ (codes "record") c.in-explain.is refl refl other);
}

pub returns-in-draw-clause-asked : goal.returns-in-draw-clause-asked
returns-in-draw-clause-asked c = record {
  check = λ asked other _. absurd (has_name _ _ (codes "check") c.in-draw.is refl refl other);
  follow = λ limit windows other _. absurd (has_name _ _ (codes "check") c.in-draw.is refl refl other);
  cut = λ limit quiet other _. absurd (has_name _ _ (codes "check") c.in-draw.is refl refl other);
  shrink = λ limit shrunk other _. absurd (has_name _ _ (codes "shrink") c.in-draw.is refl refl other);
  drawn_map = λ other _. absurd (has_name _ _ (codes "shrink") c.in-draw.is refl refl other);
  explain = λ limit cut drawn whole faults other _. absurd (has_name _ _ (codes "explain") c.in-draw.is refl refl other);
  drawn_faults = λ other _. absurd (has_name _ _ (codes "explain") c.in-draw.is refl refl other);
  one_writer = λ other _. absurd (has_name _ _ (codes "explain") c.in-draw.is refl refl other);
  draw = λ limit form part _ asks. c.draw_in.ensures.asked limit form part _ (c.into_file-in-draw.ensures ∙ ap first_name c.requires.named.files_are) asks;
  stats = λ limit json other _. absurd (has_name _ _ (codes "stats") c.in-draw.is refl refl other);
  repeated = λ other _. absurd (has_name _ _ (codes "stats") c.in-draw.is refl refl other);
  recording = λ events workers rounds seed flags other _. absurd (has_name _ _ (codes "record") c.in-draw.is refl refl other);
  unfollowed = λ other _. absurd (has_name _ _ (codes "check") c.in-draw.is refl refl other);
  unheeded = λ other _. absurd (has_name _ _ (codes "check") c.in-draw.is refl refl other);
  uncut = λ other _. absurd (has_name _ _ (codes "check") c.in-draw.is refl refl other);
  overfull = λ other _. absurd (has_name _ _ (codes "record") c.in-draw.is refl refl other);
}

pub returns-in-stats-clause-asked : goal.returns-in-stats-clause-asked
returns-in-stats-clause-asked c = record {
  check = λ asked other _. absurd (has_name _ _ (codes "check") c.in-stats.is refl refl other);
  follow = λ limit windows other _. absurd (has_name _ _ (codes "check") c.in-stats.is refl refl other);
  cut = λ limit quiet other _. absurd (has_name _ _ (codes "check") c.in-stats.is refl refl other);
  shrink = λ limit shrunk other _. absurd (has_name _ _ (codes "shrink") c.in-stats.is refl refl other);
  drawn_map = λ other _. absurd (has_name _ _ (codes "shrink") c.in-stats.is refl refl other);
  explain = λ limit cut drawn whole faults other _. absurd (has_name _ _ (codes "explain") c.in-stats.is refl refl other);
  drawn_faults = λ other _. absurd (has_name _ _ (codes "explain") c.in-stats.is refl refl other);
  one_writer = λ other _. absurd (has_name _ _ (codes "explain") c.in-stats.is refl refl other);
  draw = λ limit form part other _. absurd (has_name _ _ (codes "draw") c.in-stats.is refl refl other);
  stats = λ limit json _ asks. c.stats_in.ensures.asked limit json asks;
  repeated = λ _ asks. c.stats_in.ensures.repeated asks;
  recording = λ events workers rounds seed flags other _. absurd (has_name _ _ (codes "record") c.in-stats.is refl refl other);
  unfollowed = λ other _. absurd (has_name _ _ (codes "check") c.in-stats.is refl refl other);
  unheeded = λ other _. absurd (has_name _ _ (codes "check") c.in-stats.is refl refl other);
  uncut = λ other _. absurd (has_name _ _ (codes "check") c.in-stats.is refl refl other);
  overfull = λ other _. absurd (has_name _ _ (codes "record") c.in-stats.is refl refl other);
}

pub returns-in_default-clause-asked : goal.returns-in_default-clause-asked
returns-in_default-clause-asked c = record {
  check = λ asked other _. absurd (c.in_default.not-check other);
  follow = λ limit windows other _. absurd (c.in_default.not-check other);
  cut = λ limit quiet other _. absurd (c.in_default.not-check other);
  shrink = λ limit shrunk other _. absurd (c.in_default.not-shrink other);
  drawn_map = λ other _. absurd (c.in_default.not-shrink other);
  explain = λ limit cut drawn whole faults other _. absurd (c.in_default.not-explain other);
  drawn_faults = λ other _. absurd (c.in_default.not-explain other);
  one_writer = λ other _. absurd (c.in_default.not-explain other);
  draw = λ limit form part other _. absurd (c.in_default.not-draw other);
  stats = λ limit json other _. absurd (c.in_default.not-stats other);
  repeated = λ other _. absurd (c.in_default.not-stats other);
  recording = λ events workers rounds seed flags _ asks. c.record_in.ensures.asked events workers rounds seed flags asks;
  unfollowed = λ other _. absurd (c.in_default.not-check other);
  unheeded = λ other _. absurd (c.in_default.not-check other);
  uncut = λ other _. absurd (c.in_default.not-check other);
  overfull = λ _ asks. c.record_in.ensures.overfull asks;
}
