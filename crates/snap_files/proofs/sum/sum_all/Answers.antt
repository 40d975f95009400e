use Rattle.std.proofs.Common.{◌∙◌, inr, refl, sym}
use Rattle.snap_core.specs.Counting.{failures_in}
use Rattle.snap_files.specs.Sums.{counting, judged_of}
use Rattle.snap_files.proofs.Pages.{send_rose, sent_front, sent_whole}
use Rattle.snap_files.proofs.Summing.{greatest_is, names_are}
use Rattle.snap_files.proofs.sum.sum_all.Goals as goal

pub returns-then-is_err-clause-some : goal.returns-then-is_err-clause-some
returns-then-is_err-clause-some g c =
    let opens = g.O.Opener.opens c.args.files.now.opener.now in
    let all = c.in_ok-sums.ensures in
    let text = c.in_ok-text.ensures (judged_of all.pages) (names_are opens (counting c.args.check) c.args.files.now.names.now all.pages all.each) all.sums_are in
    let sent = rw (c.deref.ensures.value, text) at c.send.ensures.bytes in
    inr (record { pages = all.pages; each = all.each; wrote = sent_front _ _ _ c.send.result sent })

pub returns-clause-all : goal.returns-clause-all
returns-clause-all g c =
    let opens = g.O.Opener.opens c.args.files.now.opener.now in
    let all = c.in_ok-sums.ensures in
    let text = c.in_ok-text.ensures (judged_of all.pages) (names_are opens (counting c.args.check) c.args.files.now.names.now all.pages all.each) all.sums_are in
    let sent = rw (c.deref.ensures.value, text) at c.send.ensures.bytes in
    record {
      pages = all.pages;
      each = all.each;
      greatest = c.greatest.ensures (judged_of all.pages) all.sums_are ∙ greatest_is all.pages;
      wrote = sent_whole _ _ _ c.send.result sent (sym c.is_err.ensures.value ∙ c.if-is_err.false);
      told = all.told;
    }

pub returns-then-is_err-clause-all : goal.returns-then-is_err-clause-all
returns-then-is_err-clause-all g c = tt

pub returns-then-is_err-clause-counts : goal.returns-then-is_err-clause-counts
returns-then-is_err-clause-counts g c = (refl, send_rose (failures_in c.args.writer.now) (failures_in c.send.new.self) c.send.result c.send.ensures.counts (sym c.is_err.ensures.value ∙ c.if-is_err.true))
