use Rattle.std.proofs.Common.{◌≡◌, ◌++◌, ◌∙◌, ap, codes, sym, true, false}
use Rattle.std.specs.Prelude.{nat_lt}
use Rattle.std.proofs.lemmas.Bool.{le-ltb, lt-ltb}
use Rattle.snap_report.specs.Lines.{text_of}
use Rattle.snap_report.proofs.Pieces.{piece_added}
use Rattle.snap_stats.specs.Lines.{shows_concurrency, warning_by}
use Rattle.snap_stats.proofs.text.put_warning.Goals as goal

pub returns-then-stats-gt1 : goal.returns-then-stats-gt1
returns-then-stats-gt1 c =
    let s = c.args.stats.now in
    let out = c.args.out.now.items in
    piece_added c.extend_from_slice.result c.extend_from_slice.new.self.items out (codes "no view overlapped an update: this run shows nothing of concurrency\n") _ c.extend_from_slice.ensures.items
    (ap (λ b. out ++ text_of (warning_by false b)) (sym (lt-ltb 1 s.most_open c.if-stats-gt1.true)) ∙ ap (λ b. out ++ text_of (warning_by b (nat_lt 1 s.most_open))) (sym c.if-shows_concurrency.false ∙ c.shows_concurrency.ensures))

pub returns-else-stats-gt1 : goal.returns-else-stats-gt1
returns-else-stats-gt1 c =
    let s = c.args.stats.now in
    let out = c.args.out.now.items in
    piece_added c.extend_from_slice-else-stats-gt1.result c.extend_from_slice-else-stats-gt1.new.self.items out (codes "nothing overlapped: this run shows nothing of concurrency\n") _ c.extend_from_slice-else-stats-gt1.ensures.items
    (ap (λ b. out ++ text_of (warning_by false b)) (sym (le-ltb 1 s.most_open c.if-stats-gt1.false)) ∙ ap (λ b. out ++ text_of (warning_by b (nat_lt 1 s.most_open))) (sym c.if-shows_concurrency.false ∙ c.shows_concurrency.ensures))
