-- The numbers of the calls that begin at kept places, call by call.
use Rattle.std.proofs.Common.{◌≡◌, ℕ, zero, suc, ◌+◌, ◌<◌, Bool, true, false, cond, List, [], ◌∷◌, ◌++◌, length, take, map, refl, ap, ◌∙◌, inl, inr, arith, All}
use Rattle.std.proofs.lemmas.List.{take_more, map-append}
use Rattle.std.proofs.lemmas.List.Elements.{filter-append}
use Rattle.snap_core.specs.declared.event.Event.{Event}
use Rattle.snap_core.specs.Calls.{Call, calls_of, call_numbered}
use Rattle.snap_core.proofs.Histories.{numbered_calls}
use Rattle.snap_core.proofs.Lists.{In, In-from_filter}
use Rattle.snap_index.proofs.Known.{number_within, own_number}
use Rattle.snap_index.specs.IndexedCalls.{number_of}
use Rattle.snap_theory.specs.FaultWitnesses.{Fault, fault_calls}
use Rattle.snap_theory.specs.Kept.{is_place_of}
use Rattle.snap_witness.specs.Keeping.{calls_begun, calls_kept, numbers_kept}

one_begun : (keeps : ℕ → Bool) (c : Call) (b : Bool) → keeps c.begun ≡ b → calls_begun keeps (c ∷ []) ≡ cond b (c ∷ []) []
one_begun keeps c b e = ap (λ z. cond z (c ∷ []) []) e

one_number : (c : Call) (i : ℕ) (b : Bool) → c.number ≡ i → map number_of (cond b (c ∷ []) []) ≡ cond b (i ∷ []) []
one_number c i true e = ap (λ n. n ∷ []) e
one_number c i false e = refl

-- one more call
pub begun_more : (keeps : ℕ → Bool) (es : List Event) (i : ℕ) (b : Bool) → i < length (calls_of es) → keeps (call_numbered (calls_of es) i).begun ≡ b →
    map number_of (calls_begun keeps (take (i + 1) (calls_of es))) ≡ map number_of (calls_begun keeps (take i (calls_of es))) ++ cond b (i ∷ []) []
begun_more keeps es i b l e =
    let c = call_numbered (calls_of es) i in
    ap (λ z. map number_of (calls_begun keeps z)) (take_more (calls_of es) i _ l)
    ∙ ap (map number_of) (filter-append (λ (c : Call). keeps c.begun) (take i (calls_of es)) (c ∷ []) ∙ ap (λ z. calls_begun keeps (take i (calls_of es)) ++ z) (one_begun keeps c b e))
    ∙ map-append number_of (calls_begun keeps (take i (calls_of es))) (cond b (c ∷ []) [])
    ∙ ap (λ z. map number_of (calls_begun keeps (take i (calls_of es))) ++ z) (one_number c i b (numbered_calls es i _ l))

-- the same places keep the same calls
pub begun_same : (f g : ℕ → Bool) (cs : List Call) → ((x : ℕ) → f x ≡ g x) → calls_begun f cs ≡ calls_begun g cs
begun_same f g [] h = refl
begun_same f g (c ∷ cs) h = ap (λ b. cond b (c ∷ calls_begun f cs) (calls_begun f cs)) (h c.begun) ∙ ap (λ z. cond (g c.begun) (c ∷ z) z) (begun_same f g cs h)

-- the calls of these numbers are the calls themselves

begun_in : (keeps : ℕ → Bool) (cs : List Call) (c : Call) → In c (calls_begun keeps cs) → In c cs
begun_in keeps cs c i = (In-from_filter (λ (c : Call). keeps c.begun) cs c i).0

numbered : (es : List Event) (cs : List Call) → ((c : Call) → In c cs → In c (calls_of es)) → map (call_numbered (calls_of es)) (map number_of cs) ≡ cs
numbered es [] h = refl
numbered es (c ∷ cs) h = ap (λ z. z ∷ map (call_numbered (calls_of es)) (map number_of cs)) (own_number es c (h c (inl refl))) ∙ ap (λ z. c ∷ z) (numbered es cs (λ d i. h d (inr i)))

pub kept_numbered : (es : List Event) (f : Fault) → map (call_numbered (calls_of es)) (numbers_kept es f) ≡ calls_kept es f
unfolding calls_kept
kept_numbered es f = numbered es (calls_kept es f) (λ c i. begun_in (is_place_of (fault_calls es f)) (calls_of es) c i)

within : (es : List Event) (cs : List Call) → ((c : Call) → In c cs → In c (calls_of es)) → All (λ n. n < length (calls_of es)) (map number_of cs)
within es [] h i d l = absurd (omega (arith, l))
within es (c ∷ cs) h zero d l = number_within es c (h c (inl refl))
within es (c ∷ cs) h (suc i) d l = within es cs (λ e j. h e (inr j)) i d (omega (arith, l))

pub kept_within : (es : List Event) (f : Fault) → All (λ n. n < length (calls_of es)) (numbers_kept es f)
unfolding calls_kept
kept_within es f = within es (calls_kept es f) (λ c i. begun_in (is_place_of (fault_calls es f)) (calls_of es) c i)
