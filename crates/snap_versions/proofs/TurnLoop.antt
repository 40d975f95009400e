-- One event after the other: what the pass over the events of a store keeps.
use Rattle.std.proofs.Common.{◌≡◌, ◌<◌, ◌+◌, ℕ, suc, Bool, true, false, cond, List, [], ◌∷◌, ◌++◌, length, get_or, take, drop, Option, Some, None, refl, sym, ap, ◌∙◌, not, subst, arith, add-one}
use Rattle.std.specs.Prelude.{◌==◌, All, slice_set}
use Rattle.std.specs.BTreeSet.{BTreeSet, contains, Updates}
use Rattle.std.specs.Ordering.{nat_cmp}
use Rattle.std.proofs.lemmas.Bool.{eqb-true, eqb-false}
use Rattle.std.proofs.lemmas.Grind.{get_or-set_at}
use Rattle.std.proofs.lemmas.List.Elements.{All-push}
use Rattle.std.proofs.lemmas.List.{get_or-set_other, get_or_default, length-set, length-take-le, take-append-drop}
use Rattle.std.proofs.Math.Seq.{drop-cons, take-suc}
use Rattle.snap_core.specs.declared.event.Event.{Event}
use Rattle.snap_core.specs.declared.history.EventRefusal.{EventRefusal}
use Rattle.snap_core.specs.declared.history.EventRefusal.TheVariants as refusals
use Rattle.snap_core.specs.Events.{EventFits, IsWellFormed, process_of}
use Rattle.snap_core.specs.Refusals.{last_event}
use Rattle.snap_versions.specs.declared.turns.Kind.{Kind}
use Rattle.snap_versions.specs.Refused.{AreStored, AreTaken, IsRefusedAt, store_refusal}
use Rattle.snap_versions.specs.inside.Turns.{AreOpen, HasVersions, opened_by, opened_in, turn_refusal, version_of}
use Rattle.snap_versions.proofs.TurnFacts.{known_version, taken_turn, turn_refused, turn_taken}
use Rattle.snap_versions.proofs.VersionFacts.{has_next, has_still, known_by, none_have, none_taken, one_more, taken_once, unknown_by}

pub record Keeps (calls : List (Option Kind)) (seen : BTreeSet ℕ) (es : List Event) : Type 0 where
  pub taken : AreTaken es
  pub turns : IsWellFormed es
  pub begun : AreOpen calls es
  pub have : HasVersions seen es
  pub fit : All EventFits es

-- each event has a place for its process
abbrev pub HasRoom : List (Option Kind) → List Event → Type 0
HasRoom calls es = (j : ℕ) (e : Event) → j < length es → process_of (get_or es j e) < length calls

last_push : (q : ℕ) (o : Option Event) (es : List Event) (x : Event) → last_event q o (es ++ x ∷ []) ≡ cond (process_of x == q) (Some x) (last_event q o es)
last_push q o [] x = by (process_of x == q)
  where
    by : (b : Bool) → cond b (Some x) o ≡ cond b (Some x) o
    by b = refl
last_push q o (e ∷ es) x = last_push q (cond (process_of e == q) (Some e) o) es x

next_calls : (calls : List (Option Kind)) (es : List Event) (x : Event) → AreOpen calls es → process_of x < length calls → AreOpen (slice_set calls (process_of x) (opened_by x)) (es ++ x ∷ [])
next_calls calls es x h lt q = go (process_of x == q) refl
  where
    go : (b : Bool) → (process_of x == q) ≡ b → get_or (slice_set calls (process_of x) (opened_by x)) q None ≡ opened_in (last_event q None (es ++ x ∷ []))
    go true t = let same : process_of x ≡ q = eqb-true _ _ t in get_or-set_at calls (process_of x) q (opened_by x) None (sym same) lt ∙ sym (ap opened_in (last_push q None es x ∙ ap (λ b. cond b (Some x) (last_event q None es)) t))
    go false t = let other = eqb-false _ _ t in get_or-set_other calls (process_of x) q (opened_by x) None (λ e. other (sym e)) ∙ h q ∙ sym (ap opened_in (last_push q None es x ∙ ap (λ b. cond b (Some x) (last_event q None es)) t))

pub at_first : (calls : List (Option Kind)) (seen : BTreeSet ℕ) → ((p : ℕ) → get_or calls p None ≡ None) → seen.keys ≡ [] → Keeps calls seen []
at_first calls seen closed none = record { taken = none_taken; turns = λ p. tt; begun = closed; have = none_have seen none; fit = λ k d lt. absurd (omega arith) }

longer : (es : List Event) (i : ℕ) (x : Event) → i < length es → x ≡ get_or es i x → take (i + 1) es ≡ take i es ++ x ∷ []
longer es i x lt is = rw (add-one, take-suc es i x lt) (ap (λ z. take i es ++ z ∷ []) (sym is))

-- the event is taken: with a new version, or without one
pub with_version : (calls : List (Option Kind)) (old new : BTreeSet ℕ) (es : List Event) (i : ℕ) (x : Event) (v : ℕ) → i < length es → x ≡ get_or es i x → Keeps calls old (take i es) → process_of x < length calls → EventFits x
    → turn_refusal (get_or calls (process_of x) None) x ≡ None → version_of x ≡ Some v → contains nat_cmp old v ≡ false → Updates nat_cmp old new v true
    → Keeps (slice_set calls (process_of x) (opened_by x)) new (take (i + 1) es)
with_version calls old new es i x v lt is k room f turn version fresh u = subst (Keeps (slice_set calls (process_of x) (opened_by x)) new) (sym (longer es i x lt is)) (record {
  taken = one_more (take i es) x k.taken (turn_taken (take i es) x k.turns turns (sym (known_by old (take i es) x v k.have k.fit f version) ∙ fresh));
  turns = taken_turn (take i es) x k.turns turns;
  begun = next_calls calls (take i es) x k.begun room;
  have = has_next old new (take i es) x v k.have version u;
  fit = All-push EventFits (take i es) x k.fit f;
})
  where
    turns : turn_refusal (opened_in (last_event (process_of x) None (take i es))) x ≡ None
    turns = sym (ap (λ z. turn_refusal z x) (k.begun (process_of x))) ∙ turn

pub without_version : (calls : List (Option Kind)) (seen : BTreeSet ℕ) (es : List Event) (i : ℕ) (x : Event) → i < length es → x ≡ get_or es i x → Keeps calls seen (take i es) → process_of x < length calls → EventFits x
    → turn_refusal (get_or calls (process_of x) None) x ≡ None → version_of x ≡ None → Keeps (slice_set calls (process_of x) (opened_by x)) seen (take (i + 1) es)
without_version calls seen es i x lt is k room f turn version = subst (Keeps (slice_set calls (process_of x) (opened_by x)) seen) (sym (longer es i x lt is)) (record {
  taken = one_more (take i es) x k.taken (turn_taken (take i es) x k.turns turns (unknown_by (take i es) x version));
  turns = taken_turn (take i es) x k.turns turns;
  begun = next_calls calls (take i es) x k.begun room;
  have = has_still seen (take i es) x k.have version;
  fit = All-push EventFits (take i es) x k.fit f;
})
  where
    turns : turn_refusal (opened_in (last_event (process_of x) None (take i es))) x ≡ None
    turns = sym (ap (λ z. turn_refusal z x) (k.begun (process_of x))) ∙ turn

-- or it is refused
refused_here : (calls : List (Option Kind)) (seen : BTreeSet ℕ) (es : List Event) (i : ℕ) (x : Event) (r : EventRefusal) → i < length es → x ≡ get_or es i x → Keeps calls seen (take i es) → store_refusal (take i es) x ≡ Some r → IsRefusedAt es i r
refused_here calls seen es i x r lt is k refused = record {
  before = take i es;
  after = drop (suc i) es;
  event = x;
  split = sym (take-append-drop i es) ∙ ap (λ z. take i es ++ z) (drop-cons es i x lt ∙ ap (λ z. z ∷ drop (suc i) es) (sym is));
  place_is = sym (length-take-le i es (omega (arith, lt)));
  refused = refused;
  first = k.taken;
}

pub refused_turn : (calls : List (Option Kind)) (seen : BTreeSet ℕ) (es : List Event) (i : ℕ) (x : Event) (r : EventRefusal) → i < length es → x ≡ get_or es i x → Keeps calls seen (take i es)
    → turn_refusal (get_or calls (process_of x) None) x ≡ Some r → IsRefusedAt es i r
refused_turn calls seen es i x r lt is k turn =
    refused_here calls seen es i x r lt is k (turn_refused (take i es) x r k.turns (sym (ap (λ z. turn_refusal z x) (k.begun (process_of x))) ∙ turn))

pub refused_version : (calls : List (Option Kind)) (seen : BTreeSet ℕ) (es : List Event) (i : ℕ) (x : Event) (v : ℕ) → i < length es → x ≡ get_or es i x → Keeps calls seen (take i es) → EventFits x
    → turn_refusal (get_or calls (process_of x) None) x ≡ None → version_of x ≡ Some v → contains nat_cmp seen v ≡ true → IsRefusedAt es i refusals.Number
refused_version calls seen es i x v lt is k f turn version known =
    refused_here calls seen es i x refusals.Number lt is k (known_version (take i es) x k.turns (sym (ap (λ z. turn_refusal z x) (k.begun (process_of x))) ∙ turn) (sym (known_by seen (take i es) x v k.have k.fit f version) ∙ known))

-- at the end
pub all_taken : (calls : List (Option Kind)) (seen : BTreeSet ℕ) (es : List Event) → Keeps calls seen es → AreStored es
all_taken calls seen es k = record { taken = k.taken; well_formed = k.turns; versioned = taken_once es k.taken }

-- what the set says of a version
pub known_from : (added known : Bool) → added ≡ not known → added ≡ false → known ≡ true
known_from added true a n = refl
known_from added false a n = cc

pub new_from : (added known : Bool) → added ≡ not known → added ≡ true → known ≡ false
new_from added true a n = cc
new_from added false a n = refl

pub begun_at : (calls : List (Option Kind)) (p q : ℕ) (k : Option Kind) → p ≡ q → q < length calls → k ≡ get_or calls p k → k ≡ get_or calls q None
begun_at calls p q k same lt is = is ∙ ap (λ n. get_or calls n k) same ∙ get_or_default calls q k None lt

pub stays_room : (calls : List (Option Kind)) (es : List Event) (p : ℕ) (k : Option Kind) → HasRoom calls es → HasRoom (slice_set calls p k) es
stays_room calls es p k room j e lt = subst (λ n. process_of (get_or es j e) < n) (sym (length-set calls p k)) (room j e lt)
