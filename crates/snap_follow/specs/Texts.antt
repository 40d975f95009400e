-- The bytes of the texts of a recording, if they are known, and what is known of other texts.
use Rattle.std.specs.Prelude.{⊤, ℕ, List, [], ◌∷◌, ◌≡◌, Option, Some, None, option_map}
use Rattle.std.specs.Global.{Vec}
use Rattle.snap_names.specs.Walks.{IsWalk}
use Rattle.snap_names.specs.declared.folders.Entry.{Entry}
use Rattle.snap_follow.specs.declared.texts.Lost.{Lost as LostName}
use Rattle.snap_follow.specs.declared.texts.Reason.TheVariants.{Shorter}
use Rattle.snap_follow.specs.declared.texts.TextsFault.{TextsFault}
use Rattle.snap_follow.specs.declared.texts.TextsFault.TheVariants.{Lost, Memory}

-- a text alone, or none once it is taken
abbrev pub alone : {R : Type 0} → (R → Option (List ℕ)) → Option R → Option (List (List ℕ))
alone remaining None = Some []
alone remaining (Some text) = option_map (λ bytes. bytes ∷ []) (remaining text)

-- the number of texts that were taken, of one text
abbrev pub taken : {R : Type 0} → Option R → ℕ
taken None = 1
taken (Some text) = 0

-- the first of the texts that were left comes
abbrev pub Comes : Option (List (List ℕ)) → Option (List (List ℕ)) → Option (List ℕ) → Type 0
Comes None new text = Unit {0}
Comes (Some []) new text = ⊥
Comes (Some (bytes ∷ later)) new text = (text ≡ Some bytes) × (new ≡ Some later)

-- if a name is lost, this holds of it
abbrev pub OnLost : (LostName → Type 0) → TextsFault → Type 0
OnLost P (Lost lost) = P lost
OnLost P Memory = ⊤

-- the text of this name has become shorter
abbrev pub IsShorter : List ℕ → LostName → Type 0
IsShorter name lost = (lost.name.items ≡ name) × (lost.reason ≡ Shorter)

-- a folder may have been listed, with all folders below it
abbrev pub WasListed : (List ℕ → Option (List Entry) → Type 0) → List ℕ → Type 0
WasListed lists folder = (names : List (Vec ℕ)) × IsWalk lists folder names

-- texts were looked for, and none is there: none was opened, and none was found
pub record AreNone {T : Type 0} (count : T → ℕ) (waits looked : T → Type 0) (old new : T) : Type 0 where
  pub none_opened : count new ≡ count old
  pub none_found : ¬ waits new
  pub looked_for : looked new
