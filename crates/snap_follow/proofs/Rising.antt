-- Stamps that rise, and turns that wait, with one among them.
use Rattle.std.proofs.Common.{◌≡◌, ◌≤◌, ◌<◌, ◌+◌, ◌-◌, ◌++◌, ◌∙◌, ℕ, List, [], ◌∷◌, zero, suc, Option, Some, None, Result, Ok, Err, arith, ap, drop, inl, inr, length, refl, subst, sym}
use Rattle.std.specs.Prelude.{◌↔◌, IsSome, MatchOption, slice_index_or}
use Rattle.std.specs.Option.{option_to_list}
use Rattle.std.proofs.lemmas.Bool.{false≢true}
use Rattle.std.specs.List.{insert}
use Rattle.std.specs.List.Sorted.{IsPermutation}
use Rattle.std.proofs.lemmas.Bool.{cases_lt}
use Rattle.std.proofs.lemmas.List.{get_or_default, length-drop, map-append}
use Rattle.std.proofs.lemmas.List.Edits.{length-insert}
use Rattle.std.proofs.lemmas.List.Sorted.{IsPermutation-append_comm, IsPermutation-append_right, IsPermutation-cons, IsPermutation-insert, IsPermutation-middle, IsPermutation-sym, IsPermutation-trans}
use Rattle.snap_core.specs.declared.event.Event.{Event}
use Rattle.snap_format.specs.Stamps.{stamped_from, stamped_row, with_stamped}
use Rattle.snap_format.specs.declared.stamped.Stamped.{Stamped}
use Rattle.snap_text.specs.Fields.{Fields}
use Rattle.snap_text.specs.declared.fault.TextFault.{TextFault}
use Rattle.snap_follow.specs.Turns.{RiseFrom, after, stamps_of}
use Rattle.snap_follow.specs.declared.waiting.Turn.{Turn}
use Rattle.snap_follow.specs.inside.Waits.{AddsTurn, FitsAt, WaitsAfter}

pub after_both : (n : ℕ) (xs ys : List ℕ) → after n (xs ++ ys) ≡ after (after n xs) ys
after_both n [] ys = refl
after_both n (x ∷ xs) ys = after_both (x + 1) xs ys

rise_behind : (n : ℕ) (xs ys : List ℕ) → RiseFrom n (xs ++ ys) → RiseFrom (after n xs) ys
rise_behind n [] ys h = h
rise_behind n (x ∷ xs) ys h = rise_behind (x + 1) xs ys h.1

rise_both : (n : ℕ) (xs ys zs : List ℕ) → RiseFrom n (xs ++ ys) → RiseFrom (after n xs) zs → RiseFrom n (xs ++ zs)
rise_both n [] ys zs h behind = behind
rise_both n (x ∷ xs) ys zs h behind = (h.0, rise_both (x + 1) xs ys zs h.1 behind)

-- a turn among others, at the place that fits it
fits_behind : (w : Turn) (ws : List Turn) (at k : ℕ) → FitsAt (w ∷ ws) at (suc k) → FitsAt ws at k
fits_behind w ws at k fits = record {
  within = omega (arith, fits.within);
  low = λ d some.
      let is : suc k - 1 ≡ suc (k - 1) = omega (arith, some) in
      subst (λ z. (slice_index_or (w ∷ ws) z d).at < at) is (fits.low d (omega arith));
  high = λ d more. fits.high d (omega (arith, more));
}

rise_at : (n : ℕ) (turns : List Turn) (i : ℕ) (turn : Turn) → RiseFrom n (stamps_of turns) → (i ≡ 0 → n ≤ turn.at) → FitsAt turns turn.at i → RiseFrom n (stamps_of (insert turns i turn))
rise_at n [] zero turn h low fits = (low refl, tt)
rise_at n (w ∷ ws) zero turn h low fits = (low refl, (omega (arith, fits.high turn (omega arith)), h.1))
rise_at n [] (suc k) turn h low fits = absurd (omega (arith, fits.within))
rise_at n (w ∷ ws) (suc k) turn h low fits = (h.0, rise_at (w.at + 1) ws k turn h.1 first (fits_behind w ws turn.at k fits))
  where
    first : k ≡ 0 → w.at + 1 ≤ turn.at
    first none =
        let is : suc k - 1 ≡ 0 = omega (arith, none) in
        let lower = subst (λ z. (slice_index_or (w ∷ ws) z turn).at < turn.at) is (fits.low turn (omega arith)) in
        omega (arith, lower)

-- one turn more waits, and all stamps still rise
pub rise_added : (taken waiting new : List Turn) (turn : Turn) → RiseFrom 0 (stamps_of (taken ++ waiting)) → after 0 (stamps_of taken) ≤ turn.at → AddsTurn waiting turn new → RiseFrom 0 (stamps_of (taken ++ new))
rise_added taken waiting new turn h low adds =
    let both = subst (RiseFrom 0) (map-append (λ t. t.at) taken waiting) h in
    let behind = rise_at (after 0 (stamps_of taken)) waiting adds.rank turn (rise_behind 0 (stamps_of taken) (stamps_of waiting) both) (λ _. low) adds.fits in
    let same : stamps_of (taken ++ new) ≡ stamps_of taken ++ stamps_of (insert waiting adds.rank turn) =
    ap (λ z. stamps_of (taken ++ z)) adds.placed ∙ map-append (λ t. t.at) taken (insert waiting adds.rank turn) in
    subst (RiseFrom 0) (sym same) (rise_both 0 (stamps_of taken) (stamps_of waiting) (stamps_of (insert waiting adds.rank turn)) both behind)

-- the same turns, and one more
pub turns_added : (all here waiting new : List Turn) (turn : Turn) → IsPermutation all (here ++ waiting) → AddsTurn waiting turn new → IsPermutation (all ++ turn ∷ []) (here ++ new)
turns_added all here waiting new turn same adds =
    let placed = subst (λ z. IsPermutation (turn ∷ waiting) z) (sym adds.placed) (IsPermutation-insert waiting adds.rank turn) in
    IsPermutation-trans (all ++ turn ∷ []) (turn ∷ all) (here ++ new) (IsPermutation-append_comm all (turn ∷ []))
    (IsPermutation-trans (turn ∷ all) (turn ∷ (here ++ waiting)) (here ++ new) (IsPermutation-cons turn all (here ++ waiting) same)
    (IsPermutation-trans (turn ∷ (here ++ waiting)) (here ++ turn ∷ waiting) (here ++ new) (IsPermutation-sym (here ++ turn ∷ waiting) (turn ∷ (here ++ waiting)) (IsPermutation-middle here turn waiting))
    (IsPermutation-append_right here (turn ∷ waiting) new placed)))

-- the stamped events of records, and of one more
with_both : (place : ℕ) (r : Result (ℕ × Event) TextFault) (xs ys : List Stamped) → with_stamped place r (xs ++ ys) ≡ with_stamped place r xs ++ ys
with_both place (Ok x) xs ys = refl
with_both place (Err f) xs ys = refl

pub stamped_more : (place last : ℕ) (rows : List Fields) (row : Fields) (x : ℕ × Event) → stamped_row row ≡ Ok x → last ≡ place + length rows → stamped_from place (rows ++ row ∷ []) ≡ stamped_from place rows ++ record { at = x.0; place = last; event = x.1 } ∷ []
stamped_more place last [] row x is count =
    let same : last ≡ place = omega (arith, count) in
    subst (λ z. stamped_from place (row ∷ []) ≡ record { at = x.0; place = z; event = x.1 } ∷ []) (sym same) (ap (λ z. with_stamped place z []) is)
stamped_more place last (r ∷ rows) row x is count =
    let one : List Stamped = record { at = x.0; place = last; event = x.1 } ∷ [] in
    ap (with_stamped place (stamped_row r)) (stamped_more (place + 1) last rows row x is (omega (arith, count))) ∙ with_both place (stamped_row r) (stamped_from (place + 1) rows) one

-- the first of some turns is taken
pub popped : (result : Option Turn) (old new : List Turn) (n : ℕ) (Same : Type 0) → old ≡ option_to_list result ++ new → (IsSome result ↔ (0 < n)) → (n ≡ 0 → ⊥) → MatchOption result Same (λ turn. old ≡ turn ∷ new)
popped None old new n Same is some more = absurd (false≢true (some.1 (omega (arith, more))))
popped (Some turn) old new n Same is some more = is

-- how many wait then
pub longer_by : (old new : List Turn) (turn : Turn) → AddsTurn old turn new → length new ≡ length old + 1
longer_by old new turn adds = ap length adds.placed ∙ length-insert old adds.rank turn adds.fits.within

pub waits_more : (late : ℕ) (old new : List Turn) (turn : Turn) → AddsTurn old turn new → length new ≤ late → WaitsAfter late (length old) (length new)
waits_more late old new turn adds few = let one = longer_by old new turn adds in ((λ _. one), λ full. absurd (omega (arith, one, few, full)))

pub waits_same : (late : ℕ) (old more new : List Turn) (turn : Turn) → AddsTurn old turn more → late < length more → new ≡ drop 1 more → WaitsAfter late (length old) (length new)
waits_same late old more new turn adds full is =
    let one = longer_by old more turn adds in
    let rest : length new ≡ length more - 1 = ap length is ∙ length-drop 1 more in
    ((λ few. absurd (omega (arith, one, few, full))), λ _. omega (arith, one, rest))

pub waits_within : (late n m : ℕ) → WaitsAfter late n m → n ≤ late → m ≤ late
waits_within late n m waits within = elim (cases_lt n late) [
  | inl few ↦ omega (arith, waits.0 few, few)
  | inr full ↦ omega (arith, waits.1 full, within)
]

-- the turn at a place
pub same_at : (xs : List Turn) (i : ℕ) (x d : Turn) → i < length xs → x ≡ slice_index_or xs i x → slice_index_or xs i d ≡ x
same_at xs i x d below is = get_or_default xs i d x below ∙ sym is
