use Rattle.std.proofs.Common.{arith, vec_items}
use Rattle.snap_files.proofs.Suites.{all_answered, round_answered}
use Rattle.snap_files.proofs.suite.all_pages.Goals as goal

pub loop-from-preserved : goal.loop-from-preserved
loop-from-preserved g c =
    record {
      within = c.round_at-round.ensures.within;
      all = round_answered (g.O.Opener.opens c.args.files.now.opener.now) c.args.options c.args.files.now.names.now c.loop-from.from c.round_at-round.result.now (vec_items c.loop-from.pages) (vec_items c.in_ok-more.more) (vec_items c.append.new.self)
          c.round_at-round.ensures.names c.loop-from.invariant.all c.in_ok-more.ensures c.in_ok-append.ensures.items;
    }

pub returns : goal.returns
returns g c =
    all_answered (g.O.Opener.opens c.args.files.now.opener.now) c.args.options c.args.files.now.names.now c.loop-from.from (vec_items c.loop-from.pages) (omega (arith, c.loop-from-test.false)) c.loop-from.invariant.all
