-- Of which component a read fault is, how faults of ranges join, and what calls show.
use Rattle.std.proofs.Common.{◌≡◌, ℕ, zero, suc, ◌+◌, ◌<◌, ◌≤◌, Bool, true, false, cond, List, [], ◌∷◌, ◌++◌, Some, refl, sym, ap, ◌∙◌, subst, append_assoc, inl, inr, arith}
use Rattle.std.specs.Prelude.{nat_lt, find}
use Rattle.std.specs.List.{Contains, All, range_with_len}
use Rattle.std.proofs.lemmas.Bool.{ltb-true, ltb-false, lt-ltb, and_parts, false≢true, cases_eq}
use Rattle.std.proofs.lemmas.Grind.{flat_map-append}
use Rattle.std.proofs.lemmas.List.Elements.{All-contains, All-nil}
use Rattle.snap_core.specs.Entries.{HasByteComponent, EntryFits, AreEntries}
use Rattle.snap_core.specs.declared.entry.Entry.{Entry}
use Rattle.snap_core.specs.declared.event.Event.{Event}
use Rattle.snap_core.specs.declared.event.Event.TheVariants.{BeginUpdate, BeginView, EndUpdate, EndView}
use Rattle.snap_core.specs.Events.{HasByteComponents, IsByteEvent, EventFits}
use Rattle.snap_core.specs.Calls.{Call, Operation, Views, calls_of, next_answer, answer_at, entries_of, shown_number}
use Rattle.snap_theory.specs.Faults.{exceeds, read_fault, least_exceeding, integrity_faults, proximity_faults, read_faults, write_faults}
use Rattle.snap_theory.specs.FaultLaws.{FaultsJoin, IsLeastExceeding, ReadFaultHasComponent}
use Rattle.snap_core.proofs.Lists.{Contains-from_In}
use Rattle.snap_core.proofs.Begun.{Begun, Next, nothing, found, next, operation_at}
use Rattle.snap_core.proofs.Ends.{begun_of}
use Rattle.snap_core.proofs.Histories.{in_history}
use Rattle.snap_core.proofs.Facts.{shown_in, shows_positive}
use Rattle.snap_theory.proofs.Exceeding.{exceeds_to}
use Rattle.snap_theory.proofs.StaleViews.{stale_joined}

pub faults_join : (calls rs ss : List Call) → FaultsJoin calls rs ss
unfolding integrity_faults proximity_faults read_faults write_faults
faults_join calls rs ss = record {
  integrity = flat_map-append _ rs ss;
  proximity = flat_map-append _ rs ss;
  read = flat_map-append _ rs ss;
  write = flat_map-append _ rs ss;
  stale = stale_joined calls rs ss;
}

-- the first number that passes, in a range that has one
record First (p : ℕ → Bool) (n a : ℕ) : Type 0 where
  number : ℕ
  found : find p (range_with_len a n) ≡ Some number
  passes : p number ≡ true
  least : (j : ℕ) → a ≤ j → j < number → p j ≡ false

first_in : (p : ℕ → Bool) (n a k : ℕ) → a ≤ k → k < a + n → p k ≡ true → First p n a
first_in p zero a k l m h = absurd (omega arith)
first_in p (suc n) a k l m h = go (p a) refl (first_in p n (a + 1) k)
  where
    go : (b : Bool) → p a ≡ b → (a + 1 ≤ k → k < a + 1 + n → p k ≡ true → First p n (a + 1)) → First p (suc n) a
    go true t rest = record { number = a; found = ap (λ b. cond b (Some a) (find p (range_with_len (a + 1) n))) t; passes = t; least = λ j x y. absurd (omega arith) }
    go false t rest =
        let other : ¬ (k ≡ a) = λ e. false≢true (sym t ∙ ap p (sym e) ∙ h) in
        let r = rest (omega (arith, other)) (omega arith) h in
        record {
          number = r.number;
          found = ap (λ b. cond b (Some a) (find p (range_with_len (a + 1) n))) t ∙ r.found;
          passes = r.passes;
          least = λ j x y. elim (cases_eq j a) [ inl e ↦ ap p e ∙ t | inr e ↦ r.least j (omega (arith, e)) y ];
        }

-- a view that shows more of some component than another does so of a least one
pub least_exceeded : (r s : Call) → All HasByteComponent (entries_of r.operation) → exceeds r s ≡ true → (k : ℕ) × (least_exceeding r s ≡ Some k) × IsLeastExceeding r s k
unfolding least_exceeding
least_exceeded r s b h =
    let x = exceeds_to r s h in
    let e = shows_positive r x.component (omega (arith, x.more)) in
    let i = shown_in r x.component e.entry e.is in
    let small = All-contains HasByteComponent (entries_of r.operation) e.entry b (Contains-from_In (entries_of r.operation) e.entry i.0) in
    let f = first_in (λ k. nat_lt (shown_number s k) (shown_number r k)) 256 0 x.component (omega arith) (omega (arith, small, i.1)) (lt-ltb _ _ x.more) in
    (f.number, f.found, record { more = ltb-true _ _ f.passes; least = λ j l. ltb-false _ _ (f.least j (omega arith) l) })

pub least_there : (r s : Call) → All HasByteComponent (entries_of r.operation) → read_fault r s ≡ true → (k : ℕ) × (least_exceeding r s ≡ Some k) × IsLeastExceeding r s k
unfolding read_fault
least_there r s b h = least_exceeded r s b (and_parts _ _ h).0

-- what holds of no entries and of what each event answers holds of what each call shows
pub shown_by_calls : (P : List Entry → Type 0) → P [] → (es : List Event) → ((x : Event) → Contains es x → P (entries_of (Views (answer_at x)))) → (c : Call) → Contains (calls_of es) c → P (entries_of c.operation)
shown_by_calls P none es answers c i = subst (λ (o : Operation). P (entries_of o)) (sym (ap (λ (z : Call). z.operation) x.is)) (at x.event refl)
  where
    x : Begun 0 0 es c
    x = begun_of es c i

    at : (e : Event) → x.event ≡ e → P (entries_of (operation_at x.event x.after))
    at (BeginUpdate p d) h = subst (λ z. P (entries_of (operation_at z x.after))) (sym h) none
    at (EndUpdate p) h = subst (λ z. P (entries_of (operation_at z x.after))) (sym h) none
    at (EndView p s) h = subst (λ z. P (entries_of (operation_at z x.after))) (sym h) none
    at (BeginView p) h = subst (λ z. P (entries_of (operation_at z x.after))) (sym h) (go (next p 0 x.after))
      where
        go : Next p 0 x.after → P (entries_of (Views (next_answer p x.after)))
        go (nothing u v w) = subst (λ z. P (entries_of (Views z))) (sym w) none
        go (found mid y rest u q none_of v w) =
            let split : es ≡ (x.before ++ x.event ∷ mid) ++ y ∷ rest = x.split ∙ ap (λ z. x.before ++ x.event ∷ z) u ∙ sym (append_assoc x.before (x.event ∷ mid) (y ∷ rest)) in
            subst (λ z. P (entries_of (Views z))) (sym w) (answers y (in_history es y (x.before ++ x.event ∷ mid) rest split))

byte_answer : (x : Event) → IsByteEvent x → All HasByteComponent (entries_of (Views (answer_at x)))
byte_answer (BeginUpdate p e) b = All-nil HasByteComponent
byte_answer (BeginView p) b = All-nil HasByteComponent
byte_answer (EndUpdate p) b = All-nil HasByteComponent
byte_answer (EndView p s) b = b

-- what a call shows is of bytes
pub byte_views : (es : List Event) → HasByteComponents es → (c : Call) → Contains (calls_of es) c → All HasByteComponent (entries_of c.operation)
byte_views es b = shown_by_calls (All HasByteComponent) (All-nil HasByteComponent) es (λ x i. byte_answer x (All-contains IsByteEvent es x b i))

no_entries : AreEntries []
no_entries = record { rising = refl; positive = refl; fit = All-nil EntryFits }

fit_answer : (x : Event) → EventFits x → AreEntries (entries_of (Views (answer_at x)))
fit_answer (BeginUpdate p e) f = no_entries
fit_answer (BeginView p) f = no_entries
fit_answer (EndUpdate p) f = no_entries
fit_answer (EndView p s) f = f.1

-- what a call shows is a view's entries
pub fit_views : (es : List Event) → All EventFits es → (c : Call) → Contains (calls_of es) c → AreEntries (entries_of c.operation)
fit_views es f = shown_by_calls AreEntries no_entries es (λ x i. fit_answer x (All-contains EventFits es x f i))

pub read_fault_has_component : ReadFaultHasComponent
read_fault_has_component es b r s i h = least_there r s (byte_views es b r i) h
