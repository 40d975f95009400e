-- What is true of scans between any two steps.
use Rattle.std.specs.Prelude.{◌≡◌, ℕ, ◌+◌, ◌<◌, ◌≤◌, true, List, length, ⊤}
use mathlib.Core.Option.{some}
use lib.ListN.{get_elem?}
use Rattle.snap_core.specs.Sums.{total}
use Rattle.snap_account.specs.declared.account.Account.{Account}
use Rattle.snap_account.specs.declared.account.Answered.{Answered}
use Rattle.snap_account.specs.declared.account.Answer.{Answer}
use Rattle.snap_account.specs.declared.account.Answer.TheVariants.{Stored, Viewed, Scanned, Interfered}
use Rattle.snap_account.specs.declared.account.Doing.{Doing}
use Rattle.snap_account.specs.declared.account.Doing.TheVariants.{Idle, Begun, Written, Viewing, Scanning}
use Rattle.snap_account.specs.Calls.{Mem, Write, Mark, writes_of, marks_of, in_word}

-- one component of one scan, against the stores of the component's desk
pub record Spans (m : Mark) (k : ℕ) (c : Account) : Type 0 where
  -- what was read before the middle tick is no newer than the word
  pub known : (p : ℕ × ℕ) → get_elem? m.before k ≡ some p → p.0 ≤ (in_word c).0
  -- its store began before the middle tick
  pub began : (p : ℕ × ℕ) → get_elem? m.before k ≡ some p → (w : Write) → Mem w (writes_of c) → w.number ≡ p.0 → w.begun < m.middle
  -- what was read since is no older than that, nor than any store that had ended by the middle tick
  pub later : (p q : ℕ × ℕ) → get_elem? m.before k ≡ some p → get_elem? m.since k ≡ some q → p.0 ≤ q.0
  pub fresh : (q : ℕ × ℕ) → get_elem? m.since k ≡ some q → (w : Write) → Mem w (writes_of c) → w.over ≡ true → w.ended < m.middle → w.number ≤ q.0

-- if the middle tick of r is before that of s, s has since read nothing older than r had read before
abbrev pub InTurn : Mark → Mark → Type 0
InTurn r s = r.middle < s.middle → (k : ℕ) (p q : ℕ × ℕ) → get_elem? r.before k ≡ some p → get_elem? s.since k ≡ some q → p.0 ≤ q.0

-- A scan by itself, on a board of n desks. Its middle tick is between its begin and its end, and the collect before it is whole.
pub record Inside (n : ℕ) (m : Mark) : Type 0 where
  pub begins : m.begun < m.middle
  pub ends : m.over ≡ true → m.middle < m.ended
  pub whole : length m.before ≡ n

-- the sum of the numbers of a collect
abbrev pub sum : List (ℕ × ℕ) → ℕ
sum xs = total (λ p. p.0) xs

-- each unequal collect adds at least one to the numbers
abbrev pub HasClimbed : Answer → Type 0
HasClimbed (Stored n v) = ⊤
HasClimbed (Viewed xs) = ⊤
HasClimbed (Scanned t xs) = ⊤
HasClimbed (Interfered n xs ys) = sum xs + n ≤ sum ys

abbrev pub IsClimbing : Doing → Type 0
IsClimbing Idle = ⊤
IsClimbing (Begun b) = ⊤
IsClimbing (Written b n v) = ⊤
IsClimbing (Viewing b xs) = ⊤
IsClimbing (Scanning s) = sum s.first + length s.middles ≤ sum s.before + 1

pub record Climbs (a : Account) : Type 0 where
  pub answered : (r : Answered) → Mem r a.calls → HasClimbed r.op
  pub doing : IsClimbing a.doing

-- the scans of all accounts together, desk by desk
pub record Marked (n : ℕ) (b : List Account) : Type 0 where
  pub inside : (i : ℕ) (a : Account) → get_elem? b i ≡ some a → (m : Mark) → Mem m (marks_of a) → Inside n m
  pub spans : (i : ℕ) (a : Account) → get_elem? b i ≡ some a → (m : Mark) → Mem m (marks_of a) → (k : ℕ) (c : Account) → get_elem? b k ≡ some c → Spans m k c
  pub in_turn : (i : ℕ) (a : Account) → get_elem? b i ≡ some a → (r : Mark) → Mem r (marks_of a)
      → (j : ℕ) (c : Account) → get_elem? b j ≡ some c → (s : Mark) → Mem s (marks_of c) → InTurn r s
  pub climbs : (i : ℕ) (a : Account) → get_elem? b i ≡ some a → Climbs a
