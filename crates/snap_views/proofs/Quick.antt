-- The quick test against read faults.
use Rattle.std.proofs.Common.{◌≡◌, ℕ, ◌<◌, ◌≤◌, Bool, true, false, ◌&&◌, ◌||◌, List, [], ◌∷◌, refl, sym, ap, ◌∙◌, subst, inl, inr, arith}
use Rattle.std.specs.List.{sum_by, All}
use Rattle.std.proofs.lemmas.Bool.{false≢true, false_from_ne_true}
use Rattle.std.proofs.lemmas.List.Elements.{All-contains}
use Rattle.std.proofs.lemmas.List.Sums.{sum_by-cons, sum_by-le-sum_by}
use Rattle.snap_core.specs.declared.event.Event.{Event}
use Rattle.snap_core.specs.Entries.{HasByteComponent}
use Rattle.snap_core.specs.Bounded.{IsBoundedOrdered}
use Rattle.snap_core.specs.Calls.{Call, calls_of, views_of, precedes, shown_number, entries_of}
use Rattle.snap_core.proofs.Lists.{In, Contains-from_In}
use Rattle.snap_core.proofs.Facts.{shown_in, shows_positive}
use Rattle.snap_core.proofs.Fits.{bytes_of_events}
use Rattle.snap_theory.specs.Faults.{components, exceeds, read_fault, read_faults}
use Rattle.snap_views.specs.Quick.{AreComparable, AreOrdered, shown_sum, NoReadFaultExactly}
use Rattle.snap_theory.proofs.Exceeding.{exceeds_to, exceeds_not}
use Rattle.snap_theory.proofs.Components.{byte_views}
use Rattle.snap_theory.proofs.FaultLists.{in_range, read_from, read_none}

sum_lt : (f g : ℕ → ℕ) (xs : List ℕ) → ((x : ℕ) → f x ≤ g x) → (y : ℕ) → In y xs → f y < g y → sum_by f xs < sum_by g xs
sum_lt f g [] le y i l = absurd i
sum_lt f g (x ∷ xs) le y (inl e) l =
    let less : f x < g x = subst (λ z. f z < g z) (sym e) l in
    omega (arith, less, sum_by-cons f x xs, sum_by-cons g x xs, sum_by-le-sum_by f g xs le)
sum_lt f g (x ∷ xs) le y (inr i) l = omega (arith, le x, sum_by-cons f x xs, sum_by-cons g x xs, sum_lt f g xs le y i l)

-- a view that shows no more than another of any component has no greater sum
pub no_greater : (r s : Call) → exceeds r s ≡ false → shown_sum r ≤ shown_sum s
unfolding shown_sum
no_greater r s h = sum_by-le-sum_by (shown_number r) (shown_number s) components (λ k. exceeds_not r s k h)

-- and a smaller one where it shows less of some component
pub smaller : (r s : Call) → All HasByteComponent (entries_of s.operation) → exceeds r s ≡ false → exceeds s r ≡ true → shown_sum r < shown_sum s
unfolding shown_sum
smaller r s b h x =
    let m = exceeds_to s r x in
    let p = shows_positive s m.component (let l = m.more in omega (arith, l)) in
    let i = shown_in s m.component p.entry p.is in
    let byte = All-contains HasByteComponent (entries_of s.operation) p.entry b (Contains-from_In (entries_of s.operation) p.entry i.0) in
    let there = in_range 256 0 m.component (omega arith) (let same = i.1 in omega (arith, byte, same)) in
    sum_lt (shown_number r) (shown_number s) components (λ k. exceeds_not r s k h) m.component there m.more

faultless : (r s : Call) → (exceeds r s ≡ true → exceeds s r ≡ false) → (precedes r s ≡ true → shown_sum r ≤ shown_sum s) → All HasByteComponent (entries_of r.operation) → read_fault r s ≡ false
unfolding read_fault
faultless r s c o b = at (exceeds r s) (precedes r s) refl refl
  where
    at : (x p : Bool) → exceeds r s ≡ x → precedes r s ≡ p → (exceeds r s && (precedes r s || exceeds s r)) ≡ false
    at false p e f = ap (λ z. z && (precedes r s || exceeds s r)) e
    at true true e f = absurd (omega (arith, o f, smaller s r b (c e) e))
    at true false e f = ap (λ z. z && (precedes r s || exceeds s r)) e ∙ ap (λ z. z || exceeds s r) f ∙ c e

-- what no read fault tells of two views
comparable : (r s : Call) → read_fault r s ≡ false → exceeds r s ≡ true → exceeds s r ≡ false
unfolding read_fault
comparable r s h x = false_from_ne_true (exceeds s r) (λ y. false≢true (sym h ∙ ap (λ z. z && (precedes r s || exceeds s r)) x ∙ ap (λ z. precedes r s || z) y ∙ or_true (precedes r s)))
  where
    or_true : (b : Bool) → (b || true) ≡ true
    or_true true = refl
    or_true false = refl

ordered : (r s : Call) → read_fault r s ≡ false → precedes r s ≡ true → shown_sum r ≤ shown_sum s
unfolding read_fault
ordered r s h p = no_greater r s (false_from_ne_true (exceeds r s) (λ x. false≢true (sym h ∙ ap (λ z. z && (precedes r s || exceeds s r)) x ∙ ap (λ z. z || exceeds s r) p)))

pub no_read_fault_exactly : NoReadFaultExactly
no_read_fault_exactly es b = (
  λ e. record {
    comparable = λ r s v w. comparable r s (read_from (calls_of es) e r s v w);
    ordered = λ r s v w. ordered r s (read_from (calls_of es) e r s v w);
  },
  λ q. read_none (calls_of es) (λ r s v w. faultless r s (q.comparable r s v w) (q.ordered r s v w) (byte_views es b r v.there)),
)

-- the same of a history

pub none_by_test : (es : List Event) → IsBoundedOrdered es → AreComparable (calls_of es) → AreOrdered (calls_of es) → read_faults (calls_of es) (views_of (calls_of es)) ≡ []
none_by_test es kept c o = (no_read_fault_exactly es (bytes_of_events es kept.fit)).1 (record { comparable = c; ordered = o })

pub test_by_none : (es : List Event) → IsBoundedOrdered es → read_faults (calls_of es) (views_of (calls_of es)) ≡ [] → AreComparable (calls_of es) × AreOrdered (calls_of es)
test_by_none es kept e = let t = (no_read_fault_exactly es (bytes_of_events es kept.fit)).0 e in (t.comparable, t.ordered)
