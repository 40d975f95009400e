-- What a desk learns from each kind of step.
use Rattle.std.specs.Prelude.{◌≡◌, ℕ, ◌/◌, ◌%◌, ◌<◌, ◌≤◌, suc, true, List, [], ◌∷◌, length, cond, nat_lt}
use mathlib.Core.Option.{some}
use lib.ListN.{get_elem?}
use Rattle.atomic_table.specs.Table.{Me, Step}
use Rattle.snap_account.specs.declared.account.Account.{Account}
use Rattle.snap_account.specs.Calls.{Mem, ViewRecord, AllNumbered, writes_of, view_records_of, stamps_of, in_word, begun_store, begun_view, wrote, read, ended, middled, gave_up}
use Rattle.snap_account.specs.declared.account.Doing.{Doing}
use Rattle.snap_account.specs.declared.account.Doing.TheVariants.{Idle, Begun, Written, Viewing, Scanning}
use Rattle.snap_account.specs.Rule.{first_step, of_desk}

abbrev pub Seated : Type 0
Seated = Me (Unit {0}) (List Account)

-- the entry that a word encodes
abbrev pub entry_of : ℕ → ℕ × ℕ
entry_of w = (w / 4294967296, w % 4294967296)

-- the tick is above all stamps of the desk
abbrev pub Above : ℕ → Seated → Type 0
Above n me = (a : Account) → me.0 ≡ a ∷ [] → (x : ℕ) → Mem x (stamps_of a) → x < n

abbrev pub BeginsStore : Step (Unit {0}) → Seated → ℕ → Seated → Type 0
BeginsStore st me n now = (now ≡ (first_step (begun_store n) me.0, me.1)) × Above n me

abbrev pub BeginsView : Step (Unit {0}) → Seated → ℕ → Seated → Type 0
BeginsView st me n now = (now ≡ (first_step (begun_view n) me.0, me.1)) × Above n me

abbrev pub Writes : Step (Unit {0}) → Seated → ℕ → Seated → Type 0
Writes st me n now = now ≡ (first_step (wrote (entry_of n)) me.0, me.1)

-- an open collect has read xs; of a scan, since its last middle tick
abbrev pub HasRead : Doing → List (ℕ × ℕ) → Type 0
HasRead Idle xs = ⊥
HasRead (Begun b) xs = ⊥
HasRead (Written b n v) xs = ⊥
HasRead (Viewing b ys) xs = ys ≡ xs
HasRead (Scanning s) xs = s.since ≡ xs

-- if a collect has read all components, so have the desk's earlier ones
abbrev pub ReadAll : Seated → Type 0
ReadAll me = (a : Account) → me.0 ≡ a ∷ [] → (xs : List (ℕ × ℕ)) → HasRead a.doing xs → (r : ViewRecord) → Mem r (view_records_of a) → r.over ≡ true → length r.shown ≡ length xs

abbrev pub Ends : Step (Unit {0}) → Seated → ℕ → Seated → Type 0
Ends st me n now = (now ≡ (first_step (ended n) me.0, me.1)) × Above n me × ReadAll me

abbrev pub Middles : Step (Unit {0}) → Seated → ℕ → Seated → Type 0
Middles st me n now = (now ≡ (first_step (middled n) me.0, me.1)) × Above n me

abbrev pub GivesUp : Step (Unit {0}) → Seated → ℕ → Seated → Type 0
GivesUp st me n now = (now ≡ (first_step (gave_up n) me.0, me.1)) × Above n me

-- Of its own component a desk reads its last store. Of each component it reads nothing older than in its earlier views.
abbrev pub Learns : ℕ → Account → ℕ × ℕ → Type 0
Learns k a p = (k ≡ a.desk → (p ≡ in_word a) × AllNumbered (writes_of a)) × ((r : ViewRecord) → Mem r (view_records_of a) → r.over ≡ true → (q : ℕ × ℕ) → get_elem? r.shown k ≡ some q → q.0 ≤ p.0)

abbrev pub Reads : Step (Unit {0}) → Seated → ℕ → Seated → Type 0
Reads st me n now = (now ≡ (first_step (read (entry_of n)) me.0, me.1))
    × ((k : ℕ) (a : Account) → st.word ≡ suc k → me.0 ≡ a ∷ [] → Learns k a (entry_of n))

-- the first account of a list, and the others after it
abbrev pub only_first : List Account → List Account
only_first [] = []
only_first (a ∷ v) = a ∷ []

abbrev pub but_first : List Account → List Account
but_first [] = []
but_first (a ∷ v) = v

-- a seat of several desks learns that its accounts are of different desks
abbrev pub HasEachOnce : Step (Unit {0}) → Seated → ℕ → Seated → Type 0
HasEachOnce st me n now = (now ≡ me) × ((d : ℕ) → of_desk d me.0 ≤ 1)

-- the highest desk comes first
abbrev pub insert : Account → List Account → List Account
insert a [] = a ∷ []
insert a (c ∷ v) = cond (nat_lt c.desk a.desk) (a ∷ c ∷ v) (c ∷ insert a v)

abbrev pub merge : List Account → List Account → List Account
merge v [] = v
merge v (a ∷ u) = insert a (merge v u)
