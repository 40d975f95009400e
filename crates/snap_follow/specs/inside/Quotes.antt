-- What the machine of `csv` makes of a line, with its quotes and without them.
use Rattle.std.specs.Prelude.{⊤, ◌≡◌, ◌≢◌, ◌⊎◌, ◌++◌, ℕ, Bool, true, false, List, []}
use Rattle.csv.specs.Machine.{is_end, next_record, step}
use Rattle.csv.specs.Reading.{default_config}
use Rattle.csv.specs.declared.parser.Action.TheVariants as act
use Rattle.csv.specs.declared.parser.State.{State}
use Rattle.csv.specs.declared.parser.State.TheVariants as st
use Rattle.snap_follow.specs.declared.quotes.At.{At}
use Rattle.snap_follow.specs.declared.quotes.At.TheVariants.{Begin, Bare, Quoted, Closed}
use Rattle.snap_text.specs.Fields.{Fields}

-- the front of a line brings the machine to this state, these fields and this begin of a field, and ends no record
abbrev pub Reaches : List ℕ → State → Fields → List ℕ → Type 0
Reaches front s fields field = (rest : List ℕ) → next_record default_config st.StartRecord [] [] (front ++ rest) ≡ next_record default_config s fields field rest

-- a field may begin, or has some bytes without quotes
abbrev pub IsOutside : State → Type 0
IsOutside s = (s ≡ st.StartRecord) ⊎ ((s ≡ st.StartField) ⊎ (s ≡ st.InField))

-- the states of the machine with the quotes and without them
abbrev pub Stand : At → State → State → Type 0
Stand Begin quoted bare = (quoted ≡ bare) × ((bare ≡ st.StartRecord) ⊎ (bare ≡ st.StartField))
Stand Bare quoted bare = (quoted ≡ st.InField) × (bare ≡ st.InField)
Stand Quoted quoted bare = (quoted ≡ st.InQuoted) × IsOutside bare
Stand Closed quoted bare = (quoted ≡ st.AfterQuote) × IsOutside bare

-- a byte goes without any effect but that of a quote, or stays with the same effect as before
abbrev pub Steps : At → ℕ → At → Bool → Type 0
Steps at byte next false = (quoted bare : State) → Stand at quoted bare → ((step default_config quoted byte).1 ≡ act.Skip) × Stand next (step default_config quoted byte).0 bare
Steps at byte next true = (quoted bare : State) → Stand at quoted bare →
    ((step default_config quoted byte).1 ≡ (step default_config bare byte).1) × (is_end (step default_config bare byte).1 ≡ false)
    × ((step default_config bare byte).0 ≢ st.StartRecord) × Stand next (step default_config quoted byte).0 (step default_config bare byte).0

-- not between quotes
abbrev pub IsNotQuoted : At → Type 0
IsNotQuoted Begin = ⊤
IsNotQuoted Bare = ⊤
IsNotQuoted Quoted = ⊥
IsNotQuoted Closed = ⊤

-- of the front of a line the machine makes the same fields with the quotes and without them
pub record IsStripped (line left bare : List ℕ) (at : At) : Type 0 where
  pub front : List ℕ
  pub whole : line ≡ front ++ left
  pub quoted : State
  pub unquoted : State
  pub fields : Fields
  pub field : List ℕ
  pub with_quotes : Reaches front quoted fields field
  pub without : Reaches bare unquoted fields field
  pub stand : Stand at quoted unquoted
  pub begun : unquoted ≡ st.StartRecord → bare ≡ []
