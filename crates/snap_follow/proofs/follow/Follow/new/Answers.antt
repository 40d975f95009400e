use Rattle.std.proofs.Common.{[], arith, inl, inr, refl, subst, sym}
use Rattle.snap_follow.specs.Misses.{AreMissed}
use Rattle.snap_follow.specs.declared.form.Form.TheVariants.{Plain}
use Rattle.snap_follow.proofs.Missing.{none_missed}
use Rattle.snap_follow.proofs.Placing.{span_of_none}
use Rattle.snap_follow.proofs.follow.Follow.new.Goals as goal

pub returns : goal.returns
returns c = record {
  least_is = refl;
  most_is = c.new.ensures.limit;
  opened = omega arith;
  before = [];
  since = [];
  taken = c.new.ensures.taken;
  windows = refl;
  span_is = c.behind.ensures.none;
  form = Plain;
  form_is = inr (refl, refl, refl, refl);
  earlier = [];
  here = [];
  said = refl;
  places = [];
  places_are = refl;
  span_in = span_of_none _ [] 0;
  missed = subst (AreMissed [] [] []) (sym c.behind.ensures.missed) (none_missed [] []);
  texts_say = refl;
  lines_say = inl (refl, refl, c.new-4.ensures);
  waiting = c.new-4.ensures;
  place_is = record { text_is = refl; record_is = refl };
}
