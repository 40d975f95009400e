use Rattle.std.proofs.Common.{◌≡◌, ◌∙◌, Bool, List, Option, Some, None, ap, codes, false, sym, true, ℕ}
use Rattle.std.specs.Str.{bytes_eq}
use Rattle.snap_words.specs.declared.color.Color.{Color}
use Rattle.snap_words.specs.declared.color.Color.TheVariants.{Auto, Always, Never}
use Rattle.snap_words.specs.Jobs.{color_text}
use Rattle.snap_words.proofs.color.color_of.Goals as goal

-- when there are colours, by whether a word is each of those that say so
abbrev chosen : Bool → Bool → Bool → Option Color
chosen true always never = Some Auto
chosen false true never = Some Always
chosen false false true = Some Never
chosen false false false = None

abbrev chosen_by : List ℕ → Option Color
chosen_by word = chosen (bytes_eq word (codes "auto")) (bytes_eq word (codes "always")) (bytes_eq word (codes "never"))

says : (word : List ℕ) (color : Color) → word ≡ color_text color → chosen_by word ≡ Some color
says word Auto is = ap chosen_by is
says word Always is = ap chosen_by is
says word Never is = ap chosen_by is

-- a word says one thing
same_color : (word : List ℕ) (said color : Color) → word ≡ color_text said → word ≡ color_text color → Some said ≡ Some color
same_color word said color is asked = sym (says word said is) ∙ says word color asked

-- a word that is none of the three says nothing
no_color : (word : List ℕ) → (word ≡ codes "auto" → ⊥) → (word ≡ codes "always" → ⊥) → (word ≡ codes "never" → ⊥) → (color : Color) → word ≡ color_text color → ⊥
no_color word not_auto not_always not_never Auto is = not_auto is
no_color word not_auto not_always not_never Always is = not_always is
no_color word not_auto not_always not_never Never is = not_never is

pub returns-in-auto : goal.returns-in-auto
returns-in-auto c = record { given = λ color asked. same_color c.args.word.now Auto color c.in-auto.is asked }

pub returns-in-always : goal.returns-in-always
returns-in-always c = record { given = λ color asked. same_color c.args.word.now Always color c.in-always.is asked }

pub returns-in-never : goal.returns-in-never
returns-in-never c = record { given = λ color asked. same_color c.args.word.now Never color c.in-never.is asked }

pub returns-in_default : goal.returns-in_default
returns-in_default c = record { given = λ color asked. absurd (no_color c.args.word.now c.in_default.not-auto c.in_default.not-always c.in_default.not-never color asked) }
