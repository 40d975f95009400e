-- Where blocks of views begin, and how the tallies of pieces join.
use Rattle.std.proofs.Common.{◌≡◌, ℕ, ◌≤◌, List, [], length, sym, ap, ◌∙◌, arith}
use Rattle.snap_core.specs.declared.event.Event.{Event}
use Rattle.snap_core.specs.Calls.{Call, calls_of, views_of}
use Rattle.snap_core.specs.Bounded.{IsBoundedOrdered}
use Rattle.snap_conditions.specs.declared.tally.Tally.{Tally}
use Rattle.snap_conditions.specs.Tally.{merged, tally_of, SumsFit}
use Rattle.snap_conditions.proofs.Ranges.{ranges_fit, tallies_join}
use Rattle.snap_views.specs.Seen.{views_between}
use Rattle.snap_pairs.specs.inside.Pieces.{block_from, with_reads}

pub blocks_at_zero : (views : ℕ) → block_from 0 views ≡ 0
blocks_at_zero views = grind arith

pub blocks_inside : (place views : ℕ) → block_from place views ≤ views
blocks_inside place views = grind arith

pub blocks_end : (views : ℕ) → block_from views views ≡ views
blocks_end views = grind arith

pub blocks_grow : (a b views : ℕ) → a ≤ b → block_from a views ≤ block_from b views
blocks_grow a b views le = grind arith

-- the tally of the first views, of which the read faults are those of other first views
abbrev pub front_tally : List Call → ℕ → ℕ → Tally
front_tally calls n m = with_reads (tally_of calls (views_between calls 0 n)) (tally_of calls (views_between calls 0 m))

module _ (calls : List Call) (n n' m m' : ℕ) (le : n ≤ n') (le' : m ≤ m') where
  pub front_more : merged (front_tally calls n m) (with_reads (tally_of calls (views_between calls n n')) (tally_of calls (views_between calls m m'))) ≡ front_tally calls n' m'
  front_more =
      let a = (tallies_join calls).adjoining 0 n n' (omega arith) le in
      let b = (tallies_join calls).adjoining 0 m m' (omega arith) le' in
      sym (λ i. with_reads (a i) (b i))

pub front_fits : (es : List Event) → IsBoundedOrdered es → (n n' m m' : ℕ) → n ≤ n' → n' ≤ length (views_of (calls_of es)) → m ≤ m' → m' ≤ length (views_of (calls_of es)) →
    SumsFit (front_tally (calls_of es) n m) (with_reads (tally_of (calls_of es) (views_between (calls_of es) n n')) (tally_of (calls_of es) (views_between (calls_of es) m m')))
front_fits es kept n n' m m' le end le' end' =
    let a = ranges_fit es kept 0 n n' (omega arith) le end in
    let b = ranges_fit es kept 0 m m' (omega arith) le' end' in
    record { integrity = a.integrity; proximity = a.proximity; read = b.read; write = a.write; stale = b.stale }

pub front_none : (calls : List Call) (n m : ℕ) → n ≡ 0 → m ≡ 0 → front_tally calls n m ≡ tally_of calls []
front_none calls n m e f = λ i. front_tally calls (e i) (f i)

pub front_whole : (calls : List Call) (n m : ℕ) → n ≡ length (views_of calls) → m ≡ length (views_of calls) → front_tally calls n m ≡ tally_of calls (views_of calls)
front_whole calls n m e f = (λ i. front_tally calls (e i) (f i)) ∙ ap (λ rs. with_reads (tally_of calls rs) (tally_of calls rs)) (tallies_join calls).whole
