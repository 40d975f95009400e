-- The records of a closed board, in the order of their stamps, are a monotone history: of collects too.
use Rattle.std.proofs.Common.{◌≡◌, ℕ, true, List, Some, sym, ap, ◌∙◌, inl, inr, arith}
use Rattle.std.proofs.lemmas.Bool.{cases_lt}
use Rattle.snap_core.specs.declared.event.Event.TheVariants.{BeginView, EndView}
use Rattle.snap_core.specs.Calls.{Call, calls_of, shown, shown_number}
use Rattle.snap_core.specs.Entries.{entry_of, number_in}
use Rattle.snap_core.specs.Monotone.{IsMonotone}
use Rattle.snap_core.specs.Regular.{IsViewOf}
use Rattle.snap_core.proofs.Facts.{precedes_to}
use Rattle.snap_core.proofs.Histories.{are_calls}
use Rattle.snap_account.specs.declared.account.Account.{Account}
use Rattle.snap_account.specs.Calls.{view_record}
use Rattle.snap_board.specs.History.{events_in, all_records, history_of, stamped_events, in_order}
use Rattle.snap_board.specs.Settled.{Settled}
use Rattle.snap_board.proofs.Listing.{listed_entry, number_at, shown_at, shown_low, shown_some}
use Rattle.snap_board.proofs.Merging.{InOrder, ViewThere, history, the_view}
use Rattle.snap_board.proofs.Ordering.{in_order_of, merged}
use Rattle.snap_board.proofs.Placed.{ViewSpan, spans, view_span}
use Rattle.snap_board.proofs.Stamps.{Stamp, stamped_at}

module _ (n : ℕ) (hand : List Account) (es : List Stamp) (h : Settled n hand) (m : InOrder hand es) where
  -- the record of a view that ended at a place
  record Looked (r : Call) (place : ℕ) : Type 0 where
    span : ViewSpan (events_in es) r place
    view : ViewThere n hand es h m r.begun place span.process span.entries

  looked : (r : Call) (place : ℕ) → IsViewOf (calls_of (events_in es)) r → r.ended ≡ Some place → Looked r place
  looked r place v ends =
      let s = view_span (events_in es) r place v.completed (spans (events_in es) (history n hand es h m) r place v.there ends) in
      record { span = s; view = the_view n hand es h m r.begun place s.process s.entries s.begins s.ends s.span }

  -- what it shows was read
  read_number : (r : Call) (place k : ℕ) (x : Looked r place) → shown_number r k ≡ (shown_at x.view.read k).0
  unfolding shown_number shown
  read_number r place k x =
      ap (λ entries. number_in (entry_of k entries)) (x.span.shows ∙ sym x.view.lists) ∙ ap number_in (listed_entry k x.view.read) ∙ number_at k (shown_at x.view.read k)

  pub monotone : IsMonotone (calls_of (events_in es))
  monotone r s v w before k =
      let p = precedes_to r s before in
      let e = (are_calls (events_in es) (history n hand es h m)).answered s w in
      let x = looked r p.place v p.ends in
      let y = looked s e.place w e.ends in
      let a = x.view in
      let b = y.view in
      let mine = read_number r p.place k x in
      let theirs = read_number s e.place k y in
      let apart = stamped_at es m.stamped p.place s.begun (a.ended, EndView x.span.process x.span.entries) (b.begun, BeginView y.span.process) a.at_end b.at_begin p.before in
      elim (cases_lt 0 (shown_at a.read k).0) [
        | inl some_shown ↦
            let low = shown_low a.read k some_shown in
            let all = h.whole a.account a.there (view_record a.begun a.ended true a.read) a.look_there in
            let whole = h.whole b.account b.there (view_record b.begun b.ended true b.read) b.look_there in
            let older = h.monotone a.account b.account a.there b.there (view_record a.begun a.ended true a.read) (view_record b.begun b.ended true b.read) a.look_there b.look_there apart
            k (shown_at a.read k) (shown_at b.read k) (shown_some a.read k low) (shown_some b.read k (omega (arith, low, all, whole))) in
            omega (arith, mine, theirs, older)
        | inr none_shown ↦ omega (arith, mine, none_shown)
      ]

pub close_monotone : (n : ℕ) (hand : List Account) → Settled n hand → IsMonotone (calls_of (history_of (all_records hand)))
close_monotone n hand h = monotone n hand (in_order (stamped_events (all_records hand))) h (in_order_of hand _ (merged n hand h))
