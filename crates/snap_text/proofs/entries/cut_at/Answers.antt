use Rattle.std.proofs.Common.{◌≡◌, ◌+◌, drop, length, take, arith, ap}
use Rattle.std.proofs.lemmas.List.{length-take, take_rest}
use Rattle.snap_text.proofs.KnownFacts.{cut_place}
use Rattle.snap_text.proofs.entries.cut_at.Goals as goal

pub split_at-requires : goal.split_at-requires
split_at-requires c =
    let cut = cut_place c.args.olds.now c.args.old.now c.args.at c.requires.known c.requires.place c.requires.space in
    omega (arith, cut.within, c.spaces.ensures)

pub returns : goal.returns
returns c =
    let cut = cut_place c.args.olds.now c.args.old.now c.args.at c.requires.known c.requires.place c.requires.space in
    let front : c.split_at.result.0.now ≡ take (c.spaces.result + 1) c.args.olds.now = c.split_at.ensures.front in
    let back : c.split_at.result.1.now ≡ drop (c.spaces.result + 1) c.args.olds.now = c.split_at.ensures.back in
    record {
      some = omega (arith, cut.within, c.spaces.ensures, ap length front, length-take (c.spaces.result + 1) c.args.olds.now);
      front = rw (front, c.spaces.ensures) cut.front_is;
      cut = take_rest c.args.old.now (c.args.at + 1);
      rest = rw (take_rest c.args.old.now (c.args.at + 1), back, c.spaces.ensures) cut.rest_is;
    }
