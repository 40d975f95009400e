use Rattle.std.proofs.Common.{◌≡◌, ◌∙◌, Bool, List, Option, Some, None, ap, codes, false, sym, true, ℕ}
use Rattle.std.specs.Str.{bytes_eq}
use Rattle.snap_core.specs.declared.writers.Writers.{Writers}
use Rattle.snap_core.specs.declared.writers.Writers.TheVariants.{One, Many}
use Rattle.snap_words.specs.Limits.{writers_text}
use Rattle.snap_words.proofs.writers.writers_of.Goals as goal

-- how many writers there are, by whether a word is each of those that say so
abbrev chosen : Bool → Bool → Option Writers
chosen true many = Some One
chosen false true = Some Many
chosen false false = None

abbrev chosen_by : List ℕ → Option Writers
chosen_by word = chosen (bytes_eq word (codes "one")) (bytes_eq word (codes "many"))

says : (word : List ℕ) (writers : Writers) → word ≡ writers_text writers → chosen_by word ≡ Some writers
says word One is = ap chosen_by is
says word Many is = ap chosen_by is

-- a word says one thing
same_writers : (word : List ℕ) (said writers : Writers) → word ≡ writers_text said → word ≡ writers_text writers → Some said ≡ Some writers
same_writers word said writers is asked = sym (says word said is) ∙ says word writers asked

-- a word that is neither says nothing
no_writers : (word : List ℕ) → (word ≡ codes "one" → ⊥) → (word ≡ codes "many" → ⊥) → (writers : Writers) → word ≡ writers_text writers → ⊥
no_writers word not_one not_many One is = not_one is
no_writers word not_one not_many Many is = not_many is

pub returns-in-one : goal.returns-in-one
returns-in-one c = record { given = λ writers asked. same_writers c.args.word.now One writers c.in-one.is asked }

pub returns-in-many : goal.returns-in-many
returns-in-many c = record { given = λ writers asked. same_writers c.args.word.now Many writers c.in-many.is asked }

pub returns-in_default : goal.returns-in_default
returns-in_default c = record { given = λ writers asked. absurd (no_writers c.args.word.now c.in_default.not-one c.in_default.not-many writers asked) }
