-- The versions of updates, as a set keeps them.
use Rattle.std.proofs.Common.{◌≡◌, suc, ◌<◌, ◌*◌, ◌+◌, ◌^◌, ℕ, Bool, true, false, cond, ◌&&◌, ◌||◌, List, [], ◌∷◌, ◌++◌, Some, None, refl, sym, ap, ◌∙◌, subst, arith}
use Rattle.std.specs.Prelude.{◌==◌, All}
use Rattle.std.specs.BTreeSet.{BTreeSet, contains}
use Rattle.std.specs.BTreeSet.{Updates as Inserts}
use Rattle.std.specs.List.{list_any}
use Rattle.std.specs.BTreeMap.{is_at}
use Rattle.std.specs.Ordering.{nat_cmp}
use Rattle.std.proofs.lemmas.Bool.{false≢true, eq-eqb, and_from}
use Rattle.std.proofs.lemmas.Bool.Decides.{nat_tests}
use Rattle.std.proofs.lemmas.List.Folds.{list_any-append}
use Rattle.snap_core.specs.declared.entry.Entry.{Entry}
use Rattle.snap_core.specs.declared.event.Event.{Event}
use Rattle.snap_core.specs.declared.event.Event.TheVariants.{BeginUpdate, BeginView, EndUpdate, EndView}
use Rattle.snap_core.specs.Calls.{Call, Updates, calls_of}
use Rattle.snap_core.specs.declared.history.EventRefusal.TheVariants as refusals
use Rattle.snap_core.specs.Refusals.{is_busy, is_idle, is_other}
use Rattle.snap_core.specs.Events.{EventFits, process_of}
use Rattle.snap_core.proofs.Begun.{Begun, Compared, alike, begins, first, second, compare_splits, update_event}
use Rattle.snap_core.proofs.Ends.{begun_of}
use Rattle.snap_core.proofs.Lists.{In-from_Contains}
use Rattle.snap_theory.proofs.Moved.{of_one_number}
use Rattle.snap_theory.specs.Versioned.{AreVersioned}
use Rattle.snap_versions.specs.Refused.{AreTaken, begins_version, has_known_version, store_refusal}
use Rattle.snap_versions.specs.inside.Turns.{HasVersions, is_version, version_of}

key : Entry → ℕ
key e = e.component * 2 ^ 32 + e.number

-- ---- one number stands for a component and a number

same_key : (d e : Entry) → d.number < 2 ^ 32 → e.number < 2 ^ 32 → (key e == key d) ≡ ((d.component == e.component) && (d.number == e.number))
unfolding key
same_key d e m n = grind (arith, nat_tests)

is_same : (p q : ℕ) (e : Entry) (x : Event) → EventFits (BeginUpdate p e) → EventFits x → is_version (key e) (version_of x) ≡ begins_version e x
unfolding key
is_same p q e (BeginUpdate r d) f g = same_key d e g.1.1 f.1.1
is_same p q e (BeginView r) f g = refl
is_same p q e (EndUpdate r) f g = refl
is_same p q e (EndView r s) f g = refl

known_is : (p : ℕ) (e : Entry) (es : List Event) → EventFits (BeginUpdate p e) → All EventFits es → list_any (λ x. is_version (key e) (version_of x)) es ≡ list_any (begins_version e) es
known_is p e [] f all = refl
known_is p e (x ∷ es) f all = ap (λ b. b || list_any (λ y. is_version (key e) (version_of y)) es) (is_same p 0 e x f (all 0 x (omega arith))) ∙ ap (λ b. begins_version e x || b) (known_is p e es f (λ k d lt. all (suc k) d (omega (arith, lt))))

-- ---- a set of versions

pub none_have : (seen : BTreeSet ℕ) → seen.keys ≡ [] → HasVersions seen []
none_have seen none q = rw none refl

at_is : (x q : ℕ) → is_at (nat_cmp x) q ≡ (q == x)
at_is x q = grind (arith, nat_tests)

either : (b c : Bool) → cond b true c ≡ (c || (b || false))
either true true = refl
either true false = refl
either false true = refl
either false false = refl

-- an event with a version more
pub has_next : (old new : BTreeSet ℕ) (es : List Event) (x : Event) (v : ℕ) → HasVersions old es → version_of x ≡ Some v → Inserts nat_cmp old new v true → HasVersions new (es ++ x ∷ [])
has_next old new es x v h is u q =
    u.0 q ∙ ap (λ b. cond b true (contains nat_cmp old q)) (at_is v q) ∙ either (q == v) (contains nat_cmp old q)
    ∙ ap (λ b. b || ((q == v) || false)) (h q)
    ∙ ap (λ z. list_any (λ e. is_version q (version_of e)) es || (is_version q z || false)) (sym is)
    ∙ sym (list_any-append (λ e. is_version q (version_of e)) es (x ∷ []))

-- an event without a version more
pub has_still : (seen : BTreeSet ℕ) (es : List Event) (x : Event) → HasVersions seen es → version_of x ≡ None → HasVersions seen (es ++ x ∷ [])
has_still seen es x h is q =
    h q ∙ unchanged (list_any (λ e. is_version q (version_of e)) es) ∙ ap (λ z. list_any (λ e. is_version q (version_of e)) es || (is_version q z || false)) (sym is)
    ∙ sym (list_any-append (λ e. is_version q (version_of e)) es (x ∷ []))
  where
    unchanged : (b : Bool) → b ≡ (b || (false || false))
    unchanged true = refl
    unchanged false = refl

-- whether a version is known, by the set
pub known_by : (seen : BTreeSet ℕ) (es : List Event) (x : Event) (v : ℕ) → HasVersions seen es → All EventFits es → EventFits x → version_of x ≡ Some v → contains nat_cmp seen v ≡ has_known_version es x
unfolding key
known_by seen es (BeginUpdate p e) v h all f is = let same : key e ≡ v = cc in ap (contains nat_cmp seen) (sym same) ∙ h (key e) ∙ known_is p e es f all
known_by seen es (BeginView p) v h all f is = cc
known_by seen es (EndUpdate p) v h all f is = cc
known_by seen es (EndView p s) v h all f is = cc

pub unknown_by : (es : List Event) (x : Event) → version_of x ≡ None → has_known_version es x ≡ false
unknown_by es (BeginUpdate p e) is = cc
unknown_by es (BeginView p) is = refl
unknown_by es (EndUpdate p) is = refl
unknown_by es (EndView p s) is = refl

-- ---- events that are taken

pub none_taken : AreTaken []
none_taken [] after e h = cc
none_taken (x ∷ before) after e h = cc

pub one_more : (es : List Event) (x : Event) → AreTaken es → store_refusal es x ≡ None → AreTaken (es ++ x ∷ [])
one_more es x taken fine before after e split = go (compare_splits es x [] before e after split)
  where
    go : Compared es x [] before e after → store_refusal before e ≡ None
    go (alike p q r) = rw (← p, ← q) fine
    go (first mid p q) = absurd (empty mid q)
      where
        empty : (mid : List Event) → [] ≡ mid ++ e ∷ after → ⊥
        empty [] h = cc
        empty (z ∷ mid) h = cc
    go (second mid p q) = taken before mid e p

-- so a version is taken once
not_known : (es : List Event) (e : Event) → store_refusal es e ≡ None → has_known_version es e ≡ false
not_known es e h = by (is_busy es e) (is_idle es e) (is_other es e) (has_known_version es e) h
  where
    by : (b i o v : Bool) → cond b (Some refusals.Busy) (cond i (Some refusals.Idle) (cond o (Some refusals.OtherOp) (cond v (Some refusals.Number) None))) ≡ None → v ≡ false
    by true i o v h = cc
    by false true o v h = cc
    by false false true v h = cc
    by false false false true h = cc
    by false false false false h = refl

twice : (before mid : List Event) (p : ℕ) (d e : Entry) → d.component ≡ e.component → d.number ≡ e.number → list_any (begins_version e) (before ++ BeginUpdate p d ∷ mid) ≡ true
twice [] mid p d e k n = ap (λ b. b || list_any (begins_version e) mid) (and_from _ _ (eq-eqb _ _ k) (eq-eqb _ _ n))
twice (x ∷ before) mid p d e k n = ap (λ b. begins_version e x || b) (twice before mid p d e k n) ∙ always (begins_version e x)
  where
    always : (b : Bool) → (b || true) ≡ true
    always true = refl
    always false = refl

-- an update after another one with its version is refused
repeats : (es : List Event) → AreTaken es → (a b : Call) (x : Begun 0 0 es a) (y : Begun 0 0 es b) (d e : Entry) (mid : List Event) → a.operation ≡ Updates d → b.operation ≡ Updates e → d.component ≡ e.component → d.number ≡ e.number → y.before ≡ x.before ++ x.event ∷ mid → ⊥
repeats es taken a b x y d e mid wa wb k n front =
    false≢true (sym (not_known y.before (BeginUpdate (process_of y.event) e) (subst (λ z. store_refusal y.before z ≡ None) ye (taken y.before y.after y.event y.split)))
    ∙ rw (front, xe) (twice x.before mid (process_of x.event) d e k n))
  where
    xe : x.event ≡ BeginUpdate (process_of x.event) d
    xe = update_event x.event x.after d (sym (ap (λ (z : Call). z.operation) x.is) ∙ wa)

    ye : y.event ≡ BeginUpdate (process_of y.event) e
    ye = update_event y.event y.after e (sym (ap (λ (z : Call). z.operation) y.is) ∙ wb)

pub taken_once : (es : List Event) → AreTaken es → AreVersioned (calls_of es)
taken_once es taken a b d e i j k n = go (compare_splits x.before x.event x.after y.before y.event y.after (sym x.split ∙ y.split))
  where
    x : Begun 0 0 es a
    x = begun_of es a i.there

    y : Begun 0 0 es b
    y = begun_of es b j.there

    go : Compared x.before x.event x.after y.before y.event y.after → a ≡ b
    go (alike p q r) = of_one_number es a b (In-from_Contains _ _ i.there) (In-from_Contains _ _ j.there) (x.at_number ∙ ap (λ z. 0 + begins z) p ∙ sym y.at_number)
    go (first mid p q) = absurd (repeats es taken a b x y d e mid i.writes j.writes k n p)
    go (second mid p q) = absurd (repeats es taken b a y x e d mid j.writes i.writes (sym k) (sym n) p)
