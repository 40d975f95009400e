-- The faults of each kind rise strictly, and updates are alone.
use Rattle.std.proofs.Common.{◌≡◌, ◌≢◌, ◌⊎◌, ◌||◌, ℕ, zero, suc, ◌+◌, ◌<◌, List, [], ◌∷◌, map, Some, refl, sym, ap, ◌∙◌, subst, inl, inr, arith}
use Rattle.std.specs.List.{filter, flat_map, range_with_len}
use Rattle.snap_core.specs.declared.entry.Entry.{Entry}
use Rattle.snap_core.specs.Entries.{AreEntries}
use Rattle.snap_core.specs.Calls.{Call, calls_of, views_of, is_view, entries_of}
use Rattle.snap_core.proofs.Lists.{In, In-from_Contains, In-append_cases, Pairs, Pairs-append, Pairs-weaker, Pairs-filter, AllPairs-from_Pairs}
use Rattle.snap_core.proofs.Members.{In-from_map, Pairs-map}
use Rattle.snap_theory.specs.Faults.{components, listed, integrity_fault, old_fault, early_fault, read_fault, write_fault, integrity_faults, proximity_faults, read_faults, write_faults, first_of}
use Rattle.snap_theory.specs.KeyOrder.{KeyLess}
use Rattle.snap_theory.specs.Rising.{ByComponent, ByOther, ByComponents, RiseStrictly, FaultsRiseAlways}
use Rattle.snap_theory.specs.Updates.{UpdatesAreAlone}
use Rattle.snap_theory.proofs.Entries.{AreSorted, sorted, sorted_tail, above}
use Rattle.snap_theory.proofs.Local.{numbered_to}
use Rattle.snap_theory.proofs.Components.{fit_views}
use Rattle.snap_theory.proofs.FaultLists.{from_views}
use Rattle.snap_core.proofs.Ordered.{AreOrderedCalls, are_ordered_calls, history_is_ordered}
use Rattle.snap_theory.specs.VersionLaws.{OrderedFaultsRise, OrderedUpdatesAreAlone}

-- lists that are made of others

in_flat_map : {X Y : Type 0} (f : X → List Y) (xs : List X) (y : Y) → In y (flat_map f xs) → (x : X) × In x xs × In y (f x)
in_flat_map f [] y i = absurd i
in_flat_map f (x ∷ xs) y i = elim (In-append_cases y (f x) (flat_map f xs) i) [
  | inl j ↦ (x, inl refl, j)
  | inr j ↦ let r = in_flat_map f xs y j in (r.0, inr r.1, r.2)
]

pairs_flat_map : {X Y : Type 0} (Q : X → X → Type 0) (R : Y → Y → Type 0) (f : X → List Y) (xs : List X) → Pairs Q xs → ((x : X) → In x xs → Pairs R (f x)) →
    ((x z : X) (a b : Y) → Q x z → In a (f x) → In b (f z) → R a b) → Pairs R (flat_map f xs)
pairs_flat_map Q R f [] p h far = tt
pairs_flat_map Q R f (x ∷ xs) p h far =
    Pairs-append R (f x) (flat_map f xs) (h x (inl refl)) (pairs_flat_map Q R f xs p.1 (λ z i. h z (inr i)) far)
    (λ a b i j. let r = in_flat_map f xs b j in far x r.0 a b (p.0 r.0 r.1) i r.2)

-- what rises

abbrev Lower : Call → Call → Type 0
Lower r s = r.number < s.number

views_rise : (calls : List Call) → AreOrderedCalls calls → Pairs Lower (views_of calls)
unfolding views_of
views_rise calls f = Pairs-filter Lower is_view calls f.numbered

in_range_from : (n a k : ℕ) → In k (range_with_len (a + 1) n) → a < k
in_range_from zero a k i = absurd i
in_range_from (suc n) a k (inl e) = omega (arith, e)
in_range_from (suc n) a k (inr i) = omega (arith, in_range_from n (a + 1) k i)

range_rises : (n a : ℕ) → Pairs (λ j k. j < k) (range_with_len a n)
range_rises zero a = tt
range_rises (suc n) a = (λ k i. in_range_from n a k i, range_rises n (a + 1))

entries_rise : (es : List Entry) → AreSorted es → Pairs (λ d e. d.component < e.component) es
entries_rise [] s = tt
entries_rise (e ∷ es) s = (λ d i. above e es s d i, entries_rise es (sorted_tail e es s))

listed_rise : (r : Call) → AreEntries (entries_of r.operation) → Pairs (λ j k. j < k) (listed r)
listed_rise r f = Pairs-map (λ j k. j < k) (λ (e : Entry). e.component) (entries_of r.operation) (entries_rise (entries_of r.operation) (sorted (entries_of r.operation) f))

-- faults that rise are a set

rise_strictly : {F : Type 0} (Less : F → F → Type 0) → ((f : F) → Less f f → ⊥) → (faults : List F) → Pairs Less faults → RiseStrictly Less faults
rise_strictly {F} Less never faults p = record {
  rising = AllPairs-from_Pairs Less faults p;
  distinct = AllPairs-from_Pairs (λ f g. f ≢ g) faults (Pairs-weaker Less (λ f g. f ≢ g) faults (λ f g i j l e. never g (subst (λ z. Less z g) e l)) p);
  least = λ f g e c. lowest faults p f g e (In-from_Contains faults g c);
}
  where
    lowest : (xs : List F) → Pairs Less xs → (f g : F) → first_of xs ≡ Some f → In g xs → (f ≡ g) ⊎ Less f g
    lowest [] q f g e i = absurd i
    lowest (x ∷ xs) q f g e (inl s) = let same : x ≡ f = cc in inl (sym same ∙ s)
    lowest (x ∷ xs) q f g e (inr i) = let same : x ≡ f = cc in inr (subst (λ z. Less z g) same (q.0 g i))

-- faults of views that rise, each with others of its own
beside_views : {X : Type 0} (R : Call × X → Call × X → Type 0) (found : Call → List X) (rs : List Call) → Pairs Lower rs → ((r s : Call) (x y : X) → r.number < s.number → R (r, x) (s, y)) →
    ((r : Call) → In r rs → Pairs (λ x y. R (r, x) (r, y)) (found r)) → Pairs R (flat_map (λ r. map (λ x. (r, x)) (found r)) rs)
beside_views R found rs p far own =
    pairs_flat_map Lower R (λ r. map (λ x. (r, x)) (found r)) rs p (λ r i. Pairs-map R (λ x. (r, x)) (found r) (own r i)) (λ r s a b l i j.
    let x = In-from_map (λ x. (r, x)) (found r) a i in
    let y = In-from_map (λ y. (s, y)) (found s) b j in
    subst (λ z. R z b) x.is (subst (λ z. R (r, x.it) z) y.is (far r s x.it y.it l)))

-- those of components that rise
by_components : (calls : List Call) → AreOrderedCalls calls → (found : Call → List ℕ) → ((r : Call) → In r (views_of calls) → Pairs (λ j k. j < k) (found r)) → Pairs ByComponent (flat_map (λ r. map (λ k. (r, k)) (found r)) (views_of calls))
by_components calls f found rise =
    beside_views ByComponent found (views_of calls) (views_rise calls f) (λ r s j k l. inl l)
    (λ r i. Pairs-weaker (λ j k. j < k) (λ j k. ByComponent (r, j) (r, k)) (found r) (λ j k a b l. inr (refl, l)) (rise r i))

by_others : (calls : List Call) → AreOrderedCalls calls → Pairs ByOther (read_faults calls (views_of calls))
unfolding read_faults
by_others calls f =
    let found = λ (r : Call). filter (read_fault r) (views_of calls) in
    beside_views ByOther found (views_of calls) (views_rise calls f) (λ r s x y l. inl l)
    (λ r i. Pairs-weaker Lower (λ s t. ByOther (r, s) (r, t)) (found r) (λ s t a b l. inr (refl, l)) (Pairs-filter Lower (read_fault r) (views_of calls) (views_rise calls f)))

-- the write faults of one view
missed_by : List Call → Call → List (Call × ℕ × ℕ)
missed_by calls r = flat_map (λ j. map (λ k. (r, j, k)) (filter (write_fault calls r j) (listed r))) components

missed_rise : (calls : List Call) (r : Call) → AreEntries (entries_of r.operation) → Pairs ByComponents (missed_by calls r)
unfolding missed_by
missed_rise calls r e =
    pairs_flat_map (λ j k. j < k) ByComponents (λ j. map (λ k. (r, j, k)) (filter (write_fault calls r j) (listed r))) components (range_rises 256 0)
    (λ j i. Pairs-map ByComponents (λ k. (r, j, k)) (filter (write_fault calls r j) (listed r))
    (Pairs-weaker (λ k l. k < l) (λ k l. ByComponents (r, j, k) (r, j, l)) (filter (write_fault calls r j) (listed r)) (λ k l a b m. inr (refl, inr (refl, m)))
    (Pairs-filter (λ k l. k < l) (write_fault calls r j) (listed r) (listed_rise r e))))
    (λ j m a b l i n.
    let x = In-from_map (λ k. (r, j, k)) (filter (write_fault calls r j) (listed r)) a i in
    let y = In-from_map (λ k. (r, m, k)) (filter (write_fault calls r m) (listed r)) b n in
    subst (λ z. ByComponents z b) x.is (subst (λ z. ByComponents (r, j, x.it) z) y.is (inr (refl, inl l))))

of_view : (calls : List Call) (r : Call) (f : Call × ℕ × ℕ) → In f (missed_by calls r) → f.0 ≡ r
unfolding missed_by
of_view calls r f i =
    let x = in_flat_map (λ j. map (λ k. (r, j, k)) (filter (write_fault calls r j) (listed r))) components f i in
    let y = In-from_map (λ k. (r, x.0, k)) (filter (write_fault calls r x.0) (listed r)) f x.2 in
    ap (λ (z : Call × ℕ × ℕ). z.0) (sym y.is)

by_both : (calls : List Call) → AreOrderedCalls calls → ((r : Call) → In r (views_of calls) → AreEntries (entries_of r.operation)) → Pairs ByComponents (write_faults calls (views_of calls))
unfolding write_faults missed_by
by_both calls f fit =
    pairs_flat_map Lower ByComponents (missed_by calls) (views_of calls) (views_rise calls f) (λ r i. missed_rise calls r (fit r i)) (λ r s a b l i j.
    let x = ap (λ (z : Call). z.number) (of_view calls r a i) in
    let y = ap (λ (z : Call). z.number) (of_view calls s b j) in
    inl (omega (arith, x, y, l)))

-- no fault stands before itself
never_itself : (a : ℕ × ℕ) → KeyLess a a → ⊥
never_itself a (inl l) = omega (arith, l)
never_itself a (inr l) = omega (arith, l.1)

never_both : (f : Call × ℕ × ℕ) → ByComponents f f → ⊥
never_both f (inl l) = omega (arith, l)
never_both f (inr l) = never_itself (f.1, f.2) l.1

pub ordered_faults_rise : OrderedFaultsRise
unfolding integrity_faults proximity_faults
ordered_faults_rise es h fits =
    let calls = calls_of es in
    let f = are_ordered_calls es h in
    let fit = λ (r : Call) (i : In r (views_of calls)). fit_views es fits r (from_views calls r i).there in
    let old = λ (r : Call) (k : ℕ). old_fault calls r k || early_fault calls r k in
    record {
      integrity = rise_strictly ByComponent (λ x. never_itself (x.0.number, x.1)) _ (by_components calls f (λ r. filter (integrity_fault calls r) (listed r)) (λ r i. Pairs-filter (λ j k. j < k) (integrity_fault calls r) (listed r) (listed_rise r (fit r i))));
      proximity = rise_strictly ByComponent (λ x. never_itself (x.0.number, x.1)) _ (by_components calls f (λ r. filter (old r) components) (λ r i. Pairs-filter (λ j k. j < k) (old r) components (range_rises 256 0)));
      read = rise_strictly ByOther (λ x. never_itself (x.0.number, x.1.number)) _ (by_others calls f);
      write = rise_strictly ByComponents never_both _ (by_both calls f fit);
    }

pub ordered_updates_are_alone : OrderedUpdatesAreAlone
ordered_updates_are_alone es h k n a b i j p q =
    let calls = calls_of es in
    let x = numbered_to calls k n a (In-from_Contains calls a i) p in
    let y = numbered_to calls k n b (In-from_Contains calls b j) q in
    (are_ordered_calls es h).one a b x.entry y.entry x.update y.update (x.component ∙ sym y.component) (x.number ∙ sym y.number)

-- of a history with one writer of each component

pub faults_rise_always : FaultsRiseAlways
faults_rise_always es h = ordered_faults_rise es (history_is_ordered es h)

pub updates_are_alone : UpdatesAreAlone
updates_are_alone es h = ordered_updates_are_alone es (history_is_ordered es h)
