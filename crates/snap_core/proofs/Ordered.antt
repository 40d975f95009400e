-- What the calls of an ordered history are known by.
use Rattle.std.proofs.Common.{◌≡◌, ◌≢◌, ℕ, ◌<◌, ◌≤◌, true, List, Option, Some, None, ap, inl, inr, arith}
use Rattle.std.specs.List.{All, Contains}
use Rattle.std.proofs.lemmas.Bool.{false≢true, ltb-true, lt-ltb, cases_order}
use Rattle.snap_core.specs.declared.entry.Entry.{Entry}
use Rattle.snap_core.specs.declared.event.Event.{Event}
use Rattle.snap_core.specs.Events.{IsHistory, EventFits}
use Rattle.snap_core.specs.Bounded.{IsBoundedHistory, IsBoundedOrdered}
use Rattle.snap_core.specs.Calls.{Call, Views, calls_of, is_before, precedes}
use Rattle.snap_core.specs.Ordered.{EndInOrder, IsOrdered}
use Rattle.snap_core.specs.Regular.{IsViewOf, IsUpdateOf}
use Rattle.snap_core.proofs.Lists.{Pairs}
use Rattle.snap_core.proofs.Facts.{AreCalls, EarlierUpdate, Ended, precedes_to}
use Rattle.snap_core.proofs.Ends.{rises_part, apart_part, unanswered_part, answered_part}
use Rattle.snap_core.proofs.Histories.{are_calls, begins_part, earlier_part, positive_part, one_part, ordered_part, numbered_part}

pub record AreOrderedCalls (calls : List Call) : Type 0 where
  -- updates of one component begin and end in the order of their numbers
  pub begins : (a b : Call) (d e : Entry) → IsUpdateOf calls a d → IsUpdateOf calls b e → d.component ≡ e.component → d.number < e.number → a.begun < b.begun
  pub ends : EndInOrder calls
  pub earlier : (b : Call) (e : Entry) (m : ℕ) → IsUpdateOf calls b e → 0 < m → m ≤ e.number → EarlierUpdate calls e.component m
  pub positive : (b : Call) (e : Entry) → IsUpdateOf calls b e → 0 < e.number
  pub one : (a b : Call) (d e : Entry) → IsUpdateOf calls a d → IsUpdateOf calls b e → d.component ≡ e.component → d.number ≡ e.number → a ≡ b
  pub rises : (a : Call) (place : ℕ) → Contains calls a → a.ended ≡ Some place → a.begun < place
  pub ordered : (a b : Call) → Contains calls a → Contains calls b → a.begun < b.begun → a.number < b.number
  pub numbered : Pairs (λ a b. a.number < b.number) calls
  pub unanswered : (c : Call) → Contains calls c → c.operation ≡ Views None → c.ended ≡ None
  pub answered : (r : Call) → IsViewOf calls r → Ended r
  pub apart : (a b : Call) (place : ℕ) → Contains calls a → Contains calls b → a.ended ≡ Some place → b.begun ≢ place

-- what ends before a place ends before a later one
pub before_later : (o : Option ℕ) (m n : ℕ) → is_before o m ≡ true → m < n → is_before o n ≡ true
before_later None m n h l = absurd (false≢true h)
before_later (Some end) m n h l = lt-ltb end n (omega (arith, ltb-true end m h, l))

-- where updates of a component follow one another, they begin and end in the order of their numbers
pub ordered_calls : (calls : List Call) → AreCalls calls → AreOrderedCalls calls
unfolding precedes
ordered_calls calls f = record {
  begins = λ a b d e u w same less. let p = precedes_to a b (f.follows a b d e u w same less) in omega (arith, p.before, f.rises a p.place u.there p.ends);
  ends = λ a b d e place u w same less end. before_later a.ended b.begun place (f.follows a b d e u w same less) (f.rises b place w.there end);
  earlier = f.earlier;
  positive = f.positive;
  one = f.one;
  rises = f.rises;
  ordered = f.ordered;
  numbered = f.numbered;
  unanswered = f.unanswered;
  answered = f.answered;
  apart = f.apart;
}

-- a history with one writer of each component is ordered
pub history_is_ordered : (es : List Event) → IsHistory es → IsOrdered es
history_is_ordered es h = record { well_formed = h.well_formed; numbered = h.numbered; in_order = (ordered_calls (calls_of es) (are_calls es h)).ends }

-- of two updates of one component the one with the smaller number begins first
pub begins_no_later : (calls : List Call) → AreOrderedCalls calls → (a b : Call) (d e : Entry) → IsUpdateOf calls a d → IsUpdateOf calls b e → d.component ≡ e.component → d.number ≤ e.number → a.begun ≤ b.begun
begins_no_later calls f a b d e x y same l = elim (cases_order d.number e.number) [
  | inl eq ↦ let q : a.begun ≡ b.begun = ap (λ (z : Call). z.begun) (f.one a b d e x y same eq) in omega arith
  | inr (inl less) ↦ omega (arith, f.begins a b d e x y same less)
  | inr (inr more) ↦ omega arith
]

-- the calls of an ordered history are what `AreOrderedCalls` says
pub are_ordered_calls : (es : List Event) → IsOrdered es → AreOrderedCalls (calls_of es)
are_ordered_calls es h = record {
  begins = begins_part es h.numbered;
  ends = h.in_order;
  earlier = earlier_part es h.numbered;
  positive = positive_part es h.numbered;
  one = one_part es h.numbered;
  rises = rises_part es;
  ordered = ordered_part es;
  numbered = numbered_part es;
  unanswered = unanswered_part es h.well_formed;
  answered = answered_part es;
  apart = apart_part es h.well_formed;
}

-- an ordered history of any length whose fields fit their types
pub record IsFittingHistory (es : List Event) : Type 0 where
  pub ordered : IsOrdered es
  pub fit : All EventFits es

pub fitting : (es : List Event) → IsBoundedOrdered es → IsFittingHistory es
fitting es h = record { ordered = h.history; fit = h.fit }

pub bounded_is_ordered : (es : List Event) → IsBoundedHistory es → IsBoundedOrdered es
bounded_is_ordered es h = record { history = history_is_ordered es h.history; short = h.short; fit = h.fit }
