use Rattle.std.proofs.Common.{◌≡◌, ◌∙◌, Bool, List, Option, Some, None, ap, codes, false, sym, true, ℕ}
use Rattle.std.specs.Str.{bytes_eq}
use Rattle.snap_words.specs.declared.format.Format.{Format}
use Rattle.snap_words.specs.declared.format.Format.TheVariants.{Plain, Json, Junit}
use Rattle.snap_words.specs.Jobs.{format_text}
use Rattle.snap_words.proofs.format.format_of.Goals as goal

-- the format, by whether a word is each of those that name one
abbrev chosen : Bool → Bool → Bool → Option Format
chosen true json junit = Some Plain
chosen false true junit = Some Json
chosen false false true = Some Junit
chosen false false false = None

abbrev chosen_by : List ℕ → Option Format
chosen_by word = chosen (bytes_eq word (codes "plain")) (bytes_eq word (codes "json")) (bytes_eq word (codes "junit"))

says : (word : List ℕ) (format : Format) → word ≡ format_text format → chosen_by word ≡ Some format
says word Plain is = ap chosen_by is
says word Json is = ap chosen_by is
says word Junit is = ap chosen_by is

-- a word names one format
same_format : (word : List ℕ) (said format : Format) → word ≡ format_text said → word ≡ format_text format → Some said ≡ Some format
same_format word said format is asked = sym (says word said is) ∙ says word format asked

-- a word that is none of the three names none
no_format : (word : List ℕ) → (word ≡ codes "plain" → ⊥) → (word ≡ codes "json" → ⊥) → (word ≡ codes "junit" → ⊥) → (format : Format) → word ≡ format_text format → ⊥
no_format word not_plain not_json not_junit Plain is = not_plain is
no_format word not_plain not_json not_junit Json is = not_json is
no_format word not_plain not_json not_junit Junit is = not_junit is

pub returns-in-plain : goal.returns-in-plain
returns-in-plain c = record { given = λ format asked. same_format c.args.word.now Plain format c.in-plain.is asked }

pub returns-in-json : goal.returns-in-json
returns-in-json c = record { given = λ format asked. same_format c.args.word.now Json format c.in-json.is asked }

pub returns-in-junit : goal.returns-in-junit
returns-in-junit c = record { given = λ format asked. same_format c.args.word.now Junit format c.in-junit.is asked }

pub returns-in_default : goal.returns-in_default
returns-in_default c = record { given = λ format asked. absurd (no_format c.args.word.now c.in_default.not-plain c.in_default.not-json c.in_default.not-junit format asked) }
