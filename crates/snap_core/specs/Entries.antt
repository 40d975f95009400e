-- What a view's entries are, and what they say of a component.
use Rattle.std.specs.Prelude.{ℕ, Bool, true, false, not, ◌&&◌, List, [], ◌∷◌, ◌≡◌, ◌==◌, nat_lt, find, Option, Some, None, if◌then◌else◌, ◌<◌, All}
use Rattle.std.specs.List.{list_any}
use Rattle.snap_core.specs.declared.entry.Entry.{Entry}
use Rattle.snap_core.specs.declared.entry.TheConstants.{COMPONENT_COUNT}
use Rattle.snap_core.specs.declared.view.ViewRefusal.{ViewRefusal}
use Rattle.snap_core.specs.declared.view.ViewRefusal.TheVariants.{NotRising, ZeroNumber}

-- each component is greater than the one before it
abbrev pub rises : List Entry → Bool
rises [] = true
rises (d ∷ []) = true
rises (d ∷ e ∷ es) = nat_lt d.component e.component && rises (e ∷ es)

abbrev pub has_zero : List Entry → Bool
has_zero es = list_any (λ e. e.number == 0) es

-- the first refusal that applies
abbrev pub view_refusal : List Entry → Option ViewRefusal
view_refusal es = if not (rises es) then Some NotRising else if has_zero es then Some ZeroNumber else None

abbrev pub component_count : ℕ
component_count = COMPONENT_COUNT

-- a component fits a byte
abbrev pub HasByteComponent : Entry → Type 0
HasByteComponent e = e.component < component_count

-- the fields of an entry, as their types keep them
abbrev pub EntryFits : Entry → Type 0
EntryFits e = HasByteComponent e × (e.number < 4294967296) × (e.value < 4294967296)

pub record AreEntries (es : List Entry) : Type 0 where
  pub rising : rises es ≡ true
  pub positive : has_zero es ≡ false
  pub fit : All EntryFits es

-- the entry of a component
abbrev pub entry_of : ℕ → List Entry → Option Entry
entry_of k es = find (λ e. e.component == k) es

abbrev pub number_in : Option Entry → ℕ
number_in None = 0
number_in (Some e) = e.number

abbrev pub value_in : Option Entry → ℕ
value_in None = 0
value_in (Some e) = e.value
