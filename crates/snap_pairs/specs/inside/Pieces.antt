-- The pieces of the completed views, and their tallies.
use Rattle.std.specs.Prelude.{◌≡◌, ℕ, ◌+◌, ◌-◌, ◌*◌, ◌/◌, ◌<◌, min, true, List, length, slice_index_or, All, map, Result, IfOk, Option, None, MatchOption, is_some}
use Rattle.std.specs.declared.alloc.AllocError.{AllocError}
use Rattle.snap_core.specs.Calls.{Call, views_of}
use Rattle.snap_conditions.specs.Tally.{tally_of}
use Rattle.snap_views.specs.Seen.{views_between}
use Rattle.snap_conditions.specs.declared.tally.Tally.{Tally}
use Rattle.snap_threads.specs.Claiming.{CounterView, IsClaimOf, IsFinished, pieces_of}
use Rattle.snap_pairs.specs.declared.worker.Answer.{Answer}
use Rattle.snap_pairs.specs.declared.worker.Drawn.{Drawn}

-- the place of the first view of piece p, if `views` views are cut into `pieces` pieces
abbrev pub piece_start : ℕ → ℕ → ℕ → ℕ
piece_start pieces p views = p * views / pieces

-- the completed views of piece p
abbrev pub views_in_piece : List Call → ℕ → ℕ → List Call
views_in_piece calls pieces p = views_between calls (piece_start pieces p (length (views_of calls))) (piece_start pieces (p + 1) (length (views_of calls)))

-- views are compared with others in blocks of 512: the first view, at a place or after it, with which a block begins
abbrev pub block_from : ℕ → ℕ → ℕ
block_from place views = min ((place + 512 - 1) / 512 * 512) views

-- the views of the blocks that begin in piece p
abbrev pub views_in_blocks : List Call → ℕ → ℕ → List Call
views_in_blocks calls pieces p =
    let views = length (views_of calls) in
    views_between calls (block_from (piece_start pieces p views) views) (block_from (piece_start pieces (p + 1) views) views)

-- the one tally, with the read faults and the stale views of the other
abbrev pub with_reads : Tally → Tally → Tally
with_reads t reads = record t { read = reads.read; stale = reads.stale }

-- the tally of piece p: the read faults of the blocks that begin in it, and the other faults of its views
abbrev pub IsPieceTally : List Call → ℕ → ℕ → Tally → Type 0
IsPieceTally calls pieces p t = (p < pieces) × (t ≡ with_reads (tally_of calls (views_in_piece calls pieces p)) (tally_of calls (views_in_blocks calls pieces p)))

abbrev pub AreTallied : List Call → ℕ → List Drawn → Type 0
AreTallied calls pieces pairs = All (λ pair. IsPieceTally calls pieces pair.piece pair.tally) pairs

-- what a worker answers: a finished claim, and the tally of each piece that it drew
pub record IsAnswer (calls : List Call) (counter : CounterView) (answer : Answer) : Type 0 where
  pub of_counter : IsClaimOf counter answer.claim
  pub finished : IsFinished answer.claim
  pub tallied : AreTallied calls counter.pieces answer.pairs.items
  pub covers : pieces_of answer.claim ≡ map (λ pair. pair.piece) answer.pairs.items

-- each answer is good, or memory ran out
abbrev pub AreAnswers : List Call → CounterView → List (Result Answer AllocError) → Type 0
AreAnswers calls counter answers = All (λ answer. IfOk answer (IsAnswer calls counter)) answers

-- a slot for each piece, empty or with the tally of its piece
pub record FitSlots (calls : List Call) (pieces : ℕ) (slots : List (Option Tally)) : Type 0 where
  pub count : length slots ≡ pieces
  pub each : (p : ℕ) → p < pieces → MatchOption (slice_index_or slots p None) (Unit {0}) (IsPieceTally calls pieces p)

abbrev pub IsFull : List (Option Tally) → ℕ → Type 0
IsFull slots p = is_some (slice_index_or slots p None) ≡ true
