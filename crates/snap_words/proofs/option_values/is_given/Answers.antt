use Rattle.std.proofs.Common.{◌≡◌, ◌∙◌, Option, Some, None, ap, is_some, refl}
use Rattle.std.specs.Prelude.{option_map}
use Rattle.clap.specs.Words.{found_of}
use Rattle.clap.proofs.WalkLemmas.{first_value-rows}
use Rattle.snap_words.proofs.option_values.is_given.Goals as goal

kept : {A B : Type 0} → (f : A → B) (found : Option A) → is_some found ≡ is_some (option_map f found)
kept f None = refl
kept f (Some a) = refl

pub returns : goal.returns
returns c = c.is_some.ensures ∙ kept (λ s. s.now) c.get_str.result ∙ ap is_some (c.get_str.ensures ∙ first_value-rows (found_of c.args.matches.now) c.args.id.now)
