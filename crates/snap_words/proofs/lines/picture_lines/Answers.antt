use Rattle.std.proofs.Common.{Some, ap, arith, refl, sym}
use Rattle.std.proofs.lemmas.Bool.{false≢true}
use Rattle.std.specs.Fmt.{digits}
use Rattle.clap.proofs.OnLiterals.{clap_on_literals}
use Rattle.snap_words.proofs.Numbers.{one_text, ten_text}
use Rattle.snap_words.proofs.Meanings.{asks_greatest, asks_many, asks_usual, means, no_number, no_place, one_number}
use Rattle.snap_words.proofs.lines.picture_lines.Goals as goal

pub returns-clause-shrink_alone : goal.returns-clause-shrink_alone
unfolding clap_on_literals
returns-clause-shrink_alone c = λ name. means _ _ _ _ refl refl (record { picture_is = refl; map_is = refl; limit_is = asks_usual _ refl refl }) refl

pub returns-clause-shrink_drawn : goal.returns-clause-shrink_drawn
unfolding clap_on_literals
returns-clause-shrink_drawn c = λ name. means _ _ _ _ refl refl (record { picture_is = refl; map_is = refl; limit_is = asks_usual _ refl refl }) refl

pub returns-clause-shrink_mapped : goal.returns-clause-shrink_mapped
unfolding clap_on_literals
returns-clause-shrink_mapped c = λ name. means _ _ _ _ refl refl (record { picture_is = refl; map_is = refl; limit_is = asks_usual _ refl refl }) refl

pub returns-clause-drawn_map : goal.returns-clause-drawn_map
unfolding clap_on_literals
returns-clause-drawn_map c = λ name. means _ _ _ _ refl refl (record { drawn = refl; mapped = refl }) refl

pub returns-clause-explain_alone : goal.returns-clause-explain_alone
unfolding clap_on_literals
returns-clause-explain_alone c = λ name. means _ _ _ _ refl refl (record { limit_is = asks_usual _ refl refl; faults_fit = (omega arith, omega arith); one_drawn = λ _. refl; cut_is = refl; drawn_is = refl; whole_is = refl; faults_are = ap Some (sym one_text) }) refl

pub returns-clause-explain_drawn : goal.returns-clause-explain_drawn
unfolding clap_on_literals
returns-clause-explain_drawn c = λ name. means _ _ _ _ refl refl (record { limit_is = asks_usual _ refl refl; faults_fit = (omega arith, omega arith); one_drawn = λ _. refl; cut_is = refl; drawn_is = refl; whole_is = refl; faults_are = ap Some (sym one_text) }) refl

pub returns-clause-explain_all : goal.returns-clause-explain_all
unfolding clap_on_literals
returns-clause-explain_all c = λ name. means _ _ _ _ refl refl (record { limit_is = asks_usual _ refl refl; faults_fit = (omega arith, omega arith); one_drawn = λ _. refl; cut_is = refl; drawn_is = refl; whole_is = refl; faults_are = ap Some (sym one_text) }) refl

pub returns-clause-explain_faults : goal.returns-clause-explain_faults
unfolding clap_on_literals
returns-clause-explain_faults c = λ name. means _ _ _ _ refl refl (record { limit_is = asks_usual _ refl refl; faults_fit = (omega arith, omega arith); one_drawn = λ d. absurd (false≢true d); cut_is = refl; drawn_is = refl; whole_is = refl; faults_are = ap Some (sym ten_text) }) refl

pub returns-clause-drawn_faults : goal.returns-clause-drawn_faults
unfolding clap_on_literals
returns-clause-drawn_faults c = λ name. means _ _ _ _ refl refl (record { faults = 10; faults_fit = (omega arith, omega arith); several = omega arith; drawn = refl; faults_are = ap Some (sym ten_text) }) refl

pub returns-clause-draw_alone : goal.returns-clause-draw_alone
unfolding clap_on_literals
returns-clause-draw_alone c = λ name. means _ _ _ _ refl refl (record { limit_is = asks_usual _ refl refl; svg_is = refl; text_is = refl; scheme = record { light_is = refl; dark_is = refl }; room = no_number _; calls_are = refl; place = no_place _ refl refl }) refl

pub returns-clause-draw_light : goal.returns-clause-draw_light
unfolding clap_on_literals
returns-clause-draw_light c = λ name. means _ _ _ _ refl refl (record { limit_is = asks_usual _ refl refl; svg_is = refl; text_is = refl; scheme = record { light_is = refl; dark_is = refl }; room = no_number _; calls_are = refl; place = no_place _ refl refl }) refl

pub returns-clause-draw_svg : goal.returns-clause-draw_svg
unfolding clap_on_literals
returns-clause-draw_svg c = λ name. means _ _ _ _ refl refl (record { limit_is = asks_usual _ refl refl; svg_is = refl; text_is = refl; scheme = record { light_is = refl; dark_is = refl }; room = no_number _; calls_are = refl; place = no_place _ refl refl }) refl

pub returns-clause-draw_dark : goal.returns-clause-draw_dark
unfolding clap_on_literals
returns-clause-draw_dark c = λ name. means _ _ _ _ refl refl (record { limit_is = asks_usual _ refl refl; svg_is = refl; text_is = refl; scheme = record { light_is = refl; dark_is = refl }; room = no_number _; calls_are = refl; place = no_place _ refl refl }) refl

pub returns-clause-draw_text : goal.returns-clause-draw_text
unfolding clap_on_literals
returns-clause-draw_text c = λ name. means _ _ _ _ refl refl (record { limit_is = asks_usual _ refl refl; svg_is = refl; text_is = refl; scheme = record { light_is = refl; dark_is = refl }; room = no_number _; calls_are = refl; place = no_place _ refl refl }) refl

pub returns-clause-shrink_events : goal.returns-clause-shrink_events
unfolding clap_on_literals
returns-clause-shrink_events c = λ name. means _ _ _ _ refl refl (record { picture_is = refl; map_is = refl; limit_is = asks_greatest _ refl refl }) refl

pub returns-clause-explain_events : goal.returns-clause-explain_events
unfolding clap_on_literals
returns-clause-explain_events c = λ name. means _ _ _ _ refl refl (record { limit_is = asks_greatest _ refl refl; faults_fit = (omega arith, omega arith); one_drawn = λ _. refl; cut_is = refl; drawn_is = refl; whole_is = refl; faults_are = ap Some (sym one_text) }) refl

pub returns-clause-draw_events : goal.returns-clause-draw_events
unfolding clap_on_literals
returns-clause-draw_events c = λ name. means _ _ _ _ refl refl (record { limit_is = asks_greatest _ refl refl; svg_is = refl; text_is = refl; scheme = record { light_is = refl; dark_is = refl }; room = no_number _; calls_are = refl; place = no_place _ refl refl }) refl

pub returns-clause-shrink_writers : goal.returns-clause-shrink_writers
unfolding clap_on_literals
returns-clause-shrink_writers c = λ name. means _ _ _ _ refl refl (record { picture_is = refl; map_is = refl; limit_is = asks_many _ refl refl }) refl

pub returns-clause-explain_writers : goal.returns-clause-explain_writers
unfolding clap_on_literals
returns-clause-explain_writers c = λ name. means _ _ _ _ refl refl (record { limit_is = asks_many _ refl refl; faults_fit = (omega arith, omega arith); one_drawn = λ _. refl; cut_is = refl; drawn_is = refl; whole_is = refl; faults_are = ap Some (sym one_text) }) refl

pub returns-clause-draw_writers : goal.returns-clause-draw_writers
unfolding clap_on_literals
returns-clause-draw_writers c = λ name. means _ _ _ _ refl refl (record { limit_is = asks_many _ refl refl; svg_is = refl; text_is = refl; scheme = record { light_is = refl; dark_is = refl }; room = no_number _; calls_are = refl; place = no_place _ refl refl }) refl

pub returns-clause-draw_from : goal.returns-clause-draw_from
unfolding clap_on_literals digits
returns-clause-draw_from c = λ name. means _ _ _ _ refl refl (record {
  limit_is = asks_usual _ refl refl;
  svg_is = refl;
  text_is = refl;
  scheme = record { light_is = refl; dark_is = refl };
  room = one_number _ 500 (omega arith, omega arith);
  calls_are = refl;
  place = record { from_fits = one_number _ 5 (omega arith); around_fits = no_number _; from_is = refl; around_is = refl };
}) refl

pub returns-clause-draw_around : goal.returns-clause-draw_around
unfolding clap_on_literals digits
returns-clause-draw_around c = λ name. means _ _ _ _ refl refl (record {
  limit_is = asks_usual _ refl refl;
  svg_is = refl;
  text_is = refl;
  scheme = record { light_is = refl; dark_is = refl };
  room = no_number _;
  calls_are = refl;
  place = record { from_fits = no_number _; around_fits = one_number _ 5 (omega arith); from_is = refl; around_is = refl };
}) refl
