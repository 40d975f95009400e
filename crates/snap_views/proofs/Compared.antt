-- Two views compared by the row of the first and the entries of the second.
use Rattle.std.proofs.Common.{◌≡◌, ℕ, zero, suc, ◌+◌, ◌-◌, ◌<◌, ◌≤◌, List, [], ◌∷◌, length, get_or, min, Option, Some, None, refl, sym, ap, subst, ◌∙◌, inl, inr, arith, add-one}
use Rattle.std.specs.Prelude.{◌==◌}
use Rattle.std.proofs.Math.Nat.{min-le_left}
use Rattle.std.proofs.lemmas.Bool.{cases_lt, eqb-true}
use Rattle.std.proofs.lemmas.List.Elements.{All-contains}
use Rattle.snap_core.specs.declared.entry.Entry.{Entry}
use Rattle.snap_core.specs.Entries.{entry_of, number_in, EntryFits, AreEntries}
use Rattle.snap_core.proofs.Lists.{Contains-from_In, In-get_or}
use Rattle.snap_core.proofs.Members.{In-find}
use Rattle.snap_views.specs.Rows.{number_among, row_number, sum_below, IsLessSomewhere}
use Rattle.snap_theory.proofs.Entries.{nothing, AreSorted, sorted, sorted_tail, unlisted_below, listed_behind, above}
use Rattle.snap_views.proofs.Rows.{entry_at}
use Rattle.snap_views.proofs.Sums.{sum_none, sum_more, sum_skip, sum_le, sum_some, sum_small}

-- the lesser of what two views show of a component
abbrev pub lesser_at : List ℕ → List Entry → ℕ → ℕ
lesser_at numbers ds j = min (number_among ds j) (row_number numbers j)

-- a component of which entries show a number has an entry
pub record IsListed (ds : List Entry) (j : ℕ) : Type 0 where
  pub entry : Entry
  pub fits : EntryFits entry
  pub component : entry.component ≡ j
  pub number : number_among ds j ≡ entry.number

pub is_listed : (ds : List Entry) → AreEntries ds → (j : ℕ) → 0 < number_among ds j → IsListed ds j
is_listed ds h j l = go (entry_of j ds) refl l
  where
    go : (o : Option Entry) → entry_of j ds ≡ o → 0 < number_in o → IsListed ds j
    go None e m = absurd (omega arith)
    go (Some d) e m =
        let i = In-find (λ x. x.component == j) ds d e in
        record { entry = d; fits = All-contains EntryFits ds d h.fit (Contains-from_In ds d i.0); component = eqb-true d.component j i.1; number = ap number_in e }

pub number_small : (ds : List Entry) → AreEntries ds → (j : ℕ) → number_among ds j < 4294967296
number_small ds h j = elim (cases_lt 0 (number_among ds j)) [
  | inl l ↦ let d = is_listed ds h j l in omega (arith, d.number, d.fits.1)
  | inr l ↦ omega arith
]

-- no number is shown of a component below the first entry, nor between two neighbours

before_first : (ds : List Entry) → AreSorted ds → (j : ℕ) → (0 < length ds → j < (get_or ds 0 nothing).component) → number_among ds j ≡ 0
before_first [] s j h = refl
before_first (d ∷ ds) s j h = ap number_in (unlisted_below j d ds s (h (omega arith)))

between : (ds : List Entry) → AreSorted ds → (i j : ℕ) → i < length ds → (get_or ds i nothing).component < j → (suc i < length ds → j < (get_or ds (suc i) nothing).component) → number_among ds j ≡ 0
between [] s i j l m h = absurd (omega arith)
between (d ∷ ds) s zero j l m h = ap number_in (listed_behind j d ds (λ e. omega (arith, e, m))) ∙ before_first ds (sorted_tail d ds s) j (λ k. h (omega (arith, k)))
between (d ∷ ds) s (suc i) j l m h =
    let past = above d ds s (get_or ds i nothing) (In-get_or ds i nothing (omega arith)) in
    ap number_in (listed_behind j d ds (λ e. omega (arith, e, m, past))) ∙ between ds (sorted_tail d ds s) i j (omega arith) m (λ k. h (omega (arith, k)))

rising : (ds : List Entry) → AreSorted ds → (i : ℕ) → suc i < length ds → (get_or ds i nothing).component < (get_or ds (suc i) nothing).component
rising [] s i l = absurd (omega arith)
rising (d ∷ ds) s zero l = above d ds s (get_or ds 0 nothing) (In-get_or ds 0 nothing (omega arith))
rising (d ∷ ds) s (suc i) l = rising ds (sorted_tail d ds s) i (omega arith)

-- the sums over the components below an edge, where the entries before place i were looked at and the others are not below it
pub record IsCompared (numbers : List ℕ) (ds : List Entry) (i edge lesser sum : ℕ) : Type 0 where
  pub within : edge ≤ 256
  pub reached : i < length ds → edge ≤ (get_or ds i nothing).component
  pub gap : (j : ℕ) → edge ≤ j → (i < length ds → j < (get_or ds i nothing).component) → number_among ds j ≡ 0
  pub lesser_is : lesser ≡ sum_below (lesser_at numbers ds) edge
  pub sum_is : sum ≡ sum_below (number_among ds) edge

pub not_compared : (numbers : List ℕ) (ds : List Entry) → AreEntries ds → IsCompared numbers ds 0 0 0 0
not_compared numbers ds h = record {
  within = omega arith;
  reached = λ l. omega arith;
  gap = λ j l m. before_first ds (sorted ds h) j m;
  lesser_is = sym (sum_none (lesser_at numbers ds));
  sum_is = sym (sum_none (number_among ds));
}

none_lesser : (numbers : List ℕ) (ds : List Entry) (j : ℕ) → number_among ds j ≡ 0 → lesser_at numbers ds j ≡ 0
none_lesser numbers ds j z = omega (arith, z, min-le_left (number_among ds j) (row_number numbers j))

pub compared_next : (numbers : List ℕ) (ds : List Entry) (i edge lesser sum new_lesser new_sum : ℕ) → AreEntries ds → i < length ds →
    new_lesser ≡ lesser + min (get_or ds i nothing).number (row_number numbers (get_or ds i nothing).component) → new_sum ≡ sum + (get_or ds i nothing).number →
    IsCompared numbers ds i edge lesser sum → IsCompared numbers ds (i + 1) ((get_or ds i nothing).component + 1) new_lesser new_sum
compared_next numbers ds i edge lesser sum new_lesser new_sum h l a b c = record {
  within = omega (arith, small);
  reached = λ m. omega (arith, subst (λ z. e.component < (get_or ds z nothing).component) (sym (add-one i)) (rising ds (sorted ds h) i (omega (arith, m))));
  gap = λ j m n. between ds (sorted ds h) i j l (omega (arith, m)) (λ k. subst (λ z. j < (get_or ds z nothing).component) (add-one i) (n (omega (arith, k))));
  lesser_is = omega (arith, a, c.lesser_is, sum_more (lesser_at numbers ds) k, skip_lesser, own_lesser);
  sum_is = omega (arith, b, c.sum_is, sum_more (number_among ds) k, skip_sum, own);
}
  where
    e : Entry
    e = get_or ds i nothing

    k : ℕ
    k = e.component

    small : k < 256
    small = (h.fit i nothing l).0

    own : number_among ds k ≡ e.number
    own = ap number_in (entry_at ds i nothing (sorted ds h) l)

    own_lesser : lesser_at numbers ds k ≡ min e.number (row_number numbers k)
    own_lesser = ap (λ n. min n (row_number numbers k)) own

    none : (j : ℕ) → edge ≤ j → j < k → number_among ds j ≡ 0
    none j m n = c.gap j m (λ _. n)

    skip_lesser : sum_below (lesser_at numbers ds) k ≡ sum_below (lesser_at numbers ds) edge
    skip_lesser = sum_skip (lesser_at numbers ds) edge (k - edge) k (omega (arith, c.reached l)) (λ j m n. none_lesser numbers ds j (none j m n))

    skip_sum : sum_below (number_among ds) k ≡ sum_below (number_among ds) edge
    skip_sum = sum_skip (number_among ds) edge (k - edge) k (omega (arith, c.reached l)) none

-- the sums are small
pub compared_small : (numbers : List ℕ) (ds : List Entry) (i edge lesser sum : ℕ) → AreEntries ds → IsCompared numbers ds i edge lesser sum → (lesser ≤ sum) × (sum ≤ 1099511627520)
compared_small numbers ds i edge lesser sum h c = (
  omega (arith, c.lesser_is, c.sum_is, sum_le (lesser_at numbers ds) (number_among ds) (λ j. min-le_left (number_among ds j) (row_number numbers j)) edge),
  omega (arith, c.sum_is, c.within, sum_small (number_among ds) (number_small ds h) edge),
)

-- where the lesser numbers have a smaller sum than those of the row

pub less_there : (numbers : List ℕ) (ds : List Entry) (n : ℕ) → n ≤ 256 → sum_below (lesser_at numbers ds) n < sum_below (row_number numbers) n → IsLessSomewhere (number_among ds) (row_number numbers)
less_there numbers ds n m l = let r = sum_some (lesser_at numbers ds) (row_number numbers) n l in (r.0, omega (arith, r.1), omega (arith, r.2))

-- the whole sums, where all entries were looked at
pub record AreWhole (numbers : List ℕ) (ds : List Entry) (lesser sum : ℕ) : Type 0 where
  pub lesser_is : lesser ≡ sum_below (lesser_at numbers ds) 256
  pub sum_is : sum ≡ sum_below (number_among ds) 256

pub are_whole : (numbers : List ℕ) (ds : List Entry) (i edge lesser sum : ℕ) → length ds ≤ i → IsCompared numbers ds i edge lesser sum → AreWhole numbers ds lesser sum
are_whole numbers ds i edge lesser sum l c = record {
  lesser_is = c.lesser_is ∙ sym (sum_skip (lesser_at numbers ds) edge (256 - edge) 256 (omega (arith, c.within)) (λ j m n. none_lesser numbers ds j (none j m)));
  sum_is = c.sum_is ∙ sym (sum_skip (number_among ds) edge (256 - edge) 256 (omega (arith, c.within)) (λ j m n. none j m));
}
  where
    none : (j : ℕ) → edge ≤ j → number_among ds j ≡ 0
    none j m = c.gap j m (λ k. absurd (omega (arith, k, l)))
