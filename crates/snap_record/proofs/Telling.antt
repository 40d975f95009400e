-- The history of the records of a plan's workers.
use Rattle.std.proofs.Common.{◌≡◌, ℕ, map, zero, suc, ◌+◌, ◌<◌, ◌≤◌, ◌*◌, List, [], ◌∷◌, ◌++◌, length, refl, sym, ap, ◌∙◌, subst, inl, inr, arith}
use Rattle.std.specs.List.Sorted.{IsPermutation, IsStrictlyIncreasing}
use native.Mathlib.Decide.{dec_le}
use Rattle.std.specs.Prelude.{slice_index}
use Rattle.snap_core.specs.Events.{events_of, IsHistory}
use Rattle.snap_core.specs.Calls.{calls_of}
use Rattle.snap_core.specs.Monotone.{IsMonotone}
use Rattle.snap_core.specs.Regular.{IsRegular}
use Rattle.snap_core.specs.Orders.{IsAtomic}
use Rattle.snap_board.specs.Scans.{without_collects}
use Rattle.snap_board.proofs.Keeping.{settled_kept, scans_kept, records_kept}
use Rattle.snap_board.proofs.Atomic.{atomic, all_scans, close_atomic}
use Rattle.snap_board.proofs.Climbing.{were_interfered}
use Rattle.snap_account.specs.declared.account.Account.{Account}
use Rattle.snap_board.specs.declared.record.Record.{Record}
use Rattle.snap_record.specs.Delivery.{of_worker}
use Rattle.snap_board.specs.History.{stamped_events, events_in, event_stamps, Merged, AreApart, AllCompleted, all_records, Stamped}
use Rattle.snap_account.specs.Calls.{Mem}
use Rattle.snap_board.specs.Desks.{records_in, collects_in}
use Rattle.snap_record.specs.declared.plan.Step.{Step}
use Rattle.snap_record.specs.Plans.{HasNoViews}
use Rattle.snap_record.specs.Recording.{AreStamped}
use Rattle.snap_record.specs.inside.Recording.{DidScripts, IsTold}
use Rattle.snap_board.specs.Settled.{falling}
use Rattle.snap_record.proofs.ByDesk.{first_desk}
use Rattle.snap_board.proofs.Accounts.{hand_there}
use Rattle.snap_record.proofs.ByWorker.{by_worker, sorted_out}
use Rattle.snap_board.proofs.Stamps.{Stamp}
use Rattle.snap_board.proofs.DeskEvents.{events_at}
use Rattle.snap_board.proofs.Merging.{InOrder, history, completed, regular, of_process, of_no_process}
use Rattle.snap_board.proofs.Monotone.{monotone}
use Rattle.snap_board.proofs.Ordering.{few_stamps, in_order_of}
use Rattle.snap_record.proofs.Sorting.{apart_permuted, merged_permuted}

-- the records of each worker are those of its account
by_desk : (n : ℕ) (all : List Record) (hand : List Account) → map (λ (a : Account). a.desk) hand ≡ falling n → ((a : Account) → Mem a hand → records_in a ≡ of_worker a.desk all) → by_worker n all ≡ all_records hand
unfolding by_worker
by_desk zero all [] e own = refl
by_desk zero all (a ∷ hand) e own = absurd (cc)
by_desk (suc n) all [] e own = absurd (cc)
by_desk (suc n) all (a ∷ hand) e own =
    let h = first_desk n a hand e in
    let one : of_worker n all ≡ records_in a = ap (λ p. of_worker p all) (sym h.0) ∙ sym (own a (inl refl)) in
    let rest = by_desk n all hand h.1 (λ c m. own c (inr m)) in λ i. one i ++ rest i

-- where no desk collected, the accounts without collects have the same records
same_records : (hand : List Account) → ((a : Account) → Mem a hand → collects_in a.calls ≡ 0) → all_records (map without_collects hand) ≡ all_records hand
same_records [] none = refl
same_records (a ∷ hand) none = let one = records_kept a.desk a.calls (none a (inl refl)) in let rest = same_records hand (λ c m. none c (inr m)) in λ i. one i ++ rest i

module _ (scripts : List (List Step)) (all : List Record) (interfered : ℕ) (d : DidScripts scripts all interfered) where
  abbrev n : ℕ
  n = length scripts

  abbrev hand : List Account
  hand = d.accounts

  permuted : IsPermutation all (all_records hand)
  permuted = subst (IsPermutation all) (by_desk n all hand d.settled.desks d.own) (sorted_out n all d.no_other)

  pub apart : AreApart (stamped_events all)
  apart = apart_permuted all (all_records hand) permuted (few_stamps n hand d.settled)

  merged_hand : (es : List Stamp) → Merged all es → Merged (all_records hand) es
  merged_hand es m = merged_permuted all (all_records hand) es permuted m

  in_hand : (es : List Stamp) → Merged all es → InOrder hand es
  in_hand es m = in_order_of hand es (merged_hand es m)

  pub told_history : (es : List Stamp) → Merged all es → IsHistory (events_in es)
  told_history es m = history n hand es d.settled (in_hand es m)

  pub told_completed : (es : List Stamp) → Merged all es → AllCompleted (calls_of (events_in es))
  told_completed es m = completed n hand es d.settled (in_hand es m)

  pub told_regular : (es : List Stamp) → Merged all es → IsRegular (calls_of (events_in es))
  told_regular es m = regular n hand es d.settled (in_hand es m)

  pub told_monotone : (es : List Stamp) → Merged all es → IsMonotone (calls_of (events_in es))
  told_monotone es m = monotone n hand es d.settled (in_hand es m)

  pub told_stamps : (es : List Stamp) → Merged all es → AreStamped scripts (events_in es) (event_stamps es)
  told_stamps es m = record {
    accounts = hand;
    closed = d.settled;
    calls = d.theirs.calls;
    ticks = d.ticks;
    scans = d.scans;
    interfered = were_interfered n hand d.settled d.scans;
    atomic = close_atomic n hand d.settled d.scans;
    timeline = es;
    merged = merged_hand es m;
    events_are = refl;
    stamps_are = refl;
  }

  pub told_atomic : (es : List Stamp) → Merged all es → HasNoViews scripts → IsAtomic (calls_of (events_in es))
  told_atomic es m none =
      let only = map without_collects hand in
      let same = same_records hand (λ a ma. d.theirs.views a ma ∙ none a.desk) in
      atomic n only es (settled_kept n hand d.settled) (scans_kept hand d.scans) (all_scans hand)
      (in_order_of only es (subst (λ (l : List Record). Merged l es) (sym same) (merged_hand es m)))

  pub told : (es : List Stamp) → Merged all es → IsTold all (events_in es)
  told es m p = at (dec_le n p)
    where
      at : Dec (n ≤ p) → events_of p (events_in es) ≡ events_in (stamped_events (of_worker p all))
      at (yes high) = of_no_process n hand es d.settled (in_hand es m) p high ∙ sym (ap (λ rs. events_in (stamped_events rs)) (d.no_other p high))
      at (no low) =
          let a = hand_there n hand d.settled.desks p (omega arith) in
          ap (λ q. events_of q (events_in es)) (sym a.2) ∙ of_process n hand es d.settled (in_hand es m) a.0 a.1 ∙ ap events_in (sym (events_at a.0.desk a.0.calls))
          ∙ ap (λ rs. events_in (stamped_events rs)) (d.own a.0 a.1) ∙ ap (λ q. events_in (stamped_events (of_worker q all))) a.2

pub stamped_length : (rs : List Record) → length (stamped_events rs) ≡ 2 * length rs
stamped_length [] = refl
stamped_length (r ∷ rs) = let l = stamped_length rs in omega arith

pub stamps_rise : (es : List Stamp) → Stamped es → IsStrictlyIncreasing (event_stamps es)
stamps_rise [] s k lt = absurd (omega (arith, lt))
stamps_rise (x ∷ []) s zero lt = absurd (omega (arith, lt))
stamps_rise (x ∷ y ∷ es) s zero lt = s.0 y (inl refl)
stamps_rise (x ∷ es) s (suc k) lt =
    let e : suc (k + 1) ≡ suc k + 1 = omega arith in
    subst (λ (z : ℕ). slice_index (event_stamps es) k < slice_index (event_stamps (x ∷ es)) z) e (stamps_rise es s.1 k (omega (arith, lt)))
