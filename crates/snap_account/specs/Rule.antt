-- What is true of the board between any two steps.
use Rattle.std.specs.Prelude.{◌≡◌, ℕ, ◌+◌, ◌*◌, ◌<◌, ◌≤◌, ◌==◌, zero, suc, true, List, [], ◌∷◌, length, map}
use mathlib.Core.Option.{some}
use lib.ListN.{get_elem?}
use Rattle.atomic_table.specs.Table.{State}
use Rattle.snap_account.specs.declared.account.Account.{Account}
use Rattle.snap_account.specs.declared.account.Doing.TheVariants.{Idle}
use Rattle.snap_core.specs.Sums.{total, one_if, times, once_below}
use Rattle.snap_account.specs.Marks.{Marked}
use Rattle.snap_account.specs.Drawn.{drawn}
use Rattle.snap_account.specs.Calls.{Mem, Write, ViewRecord, writes_of, view_records_of, stamps_of, all_stamps, in_word}

-- strictly rising
abbrev pub Rising : List ℕ → Type 0
Rising [] = Unit {0}
Rising (x ∷ []) = Unit {0}
Rising (x ∷ y ∷ ys) = (x < y) × Rising (y ∷ ys)

-- the numbers are n, n + 1, ..
abbrev pub Numbered : ℕ → List Write → Type 0
Numbered n [] = Unit {0}
Numbered n (w ∷ ws) = (w.number ≡ n) × Numbered (suc n) ws

-- what is true of the account of desk k by itself, on a board of n desks
pub record Own (n k : ℕ) (a : Account) : Type 0 where
  pub desk : a.desk ≡ k
  pub rising : Rising (stamps_of a)
  pub ticks : length (all_stamps a) ≤ a.ticks
  pub numbered : Numbered 1 (writes_of a)
  pub count : length (writes_of a) ≡ (in_word a).0
  pub small : (in_word a).1 < 4294967296
  pub whole : (v : ViewRecord) → Mem v (view_records_of a) → v.over ≡ true → length v.shown ≡ n
  pub ends : (v : ViewRecord) → Mem v (view_records_of a) → v.over ≡ true → v.begun < v.ended

-- the view v read p of the component of the account c
pub record Sees (v : ViewRecord) (p : ℕ × ℕ) (c : Account) : Type 0 where
  -- it is no newer than the word
  pub old : p.0 ≤ (in_word c).0
  -- no later store ended before the view began
  pub fresh : (w : Write) → Mem w (writes_of c) → p.0 < w.number → w.over ≡ true → v.begun ≤ w.ended
  -- number 0 is the initial state
  pub blank : p.0 ≡ 0 → p.1 ≡ 0
  -- it was stored, and the store began before the view ended
  pub real : 0 < p.0 → (w : Write) × Mem w (writes_of c) × (w.number ≡ p.0) × (w.value ≡ p.1) × (v.over ≡ true → w.begun < v.ended)

-- if r ended before s began, s shows nothing older
abbrev pub After : ViewRecord → ViewRecord → Type 0
After r s = r.over ≡ true → r.ended < s.begun → (k : ℕ) (p q : ℕ × ℕ) → get_elem? r.shown k ≡ some p → get_elem? s.shown k ≡ some q → p.0 ≤ q.0

abbrev pub clock : List Account → ℕ
clock b = total (λ a. a.ticks) b

-- Each tick below the clock is a begin, a middle tick or an end of exactly one call. Each desk drew its own ticks in their order.
pub record Ticked (b : List Account) : Type 0 where
  pub once : (x : ℕ) → total (λ a. times x (drawn a)) b ≡ once_below x (clock b)
  pub rising : (k : ℕ) (a : Account) → get_elem? b k ≡ some a → Rising (drawn a)

-- what is true of all accounts together, desk by desk
pub record Core (n : ℕ) (b : List Account) : Type 0 where
  pub size : length b ≡ n
  pub own : (k : ℕ) (a : Account) → get_elem? b k ≡ some a → Own n k a
  pub below : (k : ℕ) (a : Account) → get_elem? b k ≡ some a → (x : ℕ) → Mem x (all_stamps a) → x < clock b
  pub apart : (x : ℕ) → total (λ a. times x (all_stamps a)) b ≤ 1
  pub sees : (i : ℕ) (a : Account) → get_elem? b i ≡ some a → (v : ViewRecord) → Mem v (view_records_of a)
      → (k : ℕ) (c : Account) → get_elem? b k ≡ some c → (p : ℕ × ℕ) → get_elem? v.shown k ≡ some p → Sees v p c
  pub after : (i : ℕ) (a : Account) → get_elem? b i ≡ some a → (r : ViewRecord) → Mem r (view_records_of a)
      → (j : ℕ) (c : Account) → get_elem? b j ≡ some c → (s : ViewRecord) → Mem s (view_records_of c) → After r s

-- a component's word
abbrev pub code : ℕ × ℕ → ℕ
code p = p.0 * 4294967296 + p.1

-- the words of the table: the clock, and a word for each desk
abbrev pub words_of : List Account → List ℕ
words_of b = clock b ∷ map (λ a. code (in_word a)) b

abbrev pub of_desk : ℕ → List Account → ℕ
of_desk d v = total (λ a. one_if (a.desk == d)) v

-- the views of all seats hold these accounts, each once
pub record Held (n : ℕ) (views : List (List Account)) (b : List Account) : Type 0 where
  pub fits : (seat : ℕ) (v : List Account) → get_elem? views seat ≡ some v → (a : Account) → Mem a v → get_elem? b a.desk ≡ some a
  pub once : (d : ℕ) → total (of_desk d) views ≡ once_below d n

-- The rule of a board of n desks that draw at most `most` ticks each. It ties the accounts of all seats to the words.
pub record Boarded (n most : ℕ) (s : State (Unit {0}) (List Account)) : Type 0 where
  pub accounts : List Account
  pub words : s.words ≡ words_of accounts
  pub held : Held n s.views accounts
  pub core : Core n accounts
  pub scans : Marked n accounts
  pub ticks : Ticked accounts
  pub limit : (k : ℕ) (a : Account) → get_elem? accounts k ≡ some a → a.ticks ≤ most

abbrev pub newcomer : ℕ → Account
newcomer d = record { desk = d; calls = []; doing = Idle; ticks = 0 }

-- the highest desk first
abbrev pub newcomers : ℕ → List Account
newcomers zero = []
newcomers (suc n) = newcomer n ∷ newcomers n

-- the first account of a seat's view makes a step
abbrev pub first_step : (Account → Account) → List Account → List Account
first_step f [] = []
first_step f (a ∷ v) = f a ∷ v
