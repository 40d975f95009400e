-- What a call of the index says of its call, and where calls are found.
use Rattle.std.proofs.Common.{rules, ◌≡◌, ◌<◌, ◌≤◌, ℕ, suc, false, List, [], ◌∷◌, length, map, get_or, slice_get, Option, Some, None, refl, sym, ap, ◌∙◌, arith, Fits, w32, Bor}
use Rattle.std.specs.Prelude.{is_some, nat_lt}
use Rattle.std.specs.List.{Contains}
use Rattle.std.specs.Option.{option_map, option_copied, IfSome}
use Rattle.std.proofs.lemmas.Bool.{ltb-true, ltb-false}
use Rattle.std.proofs.lemmas.List.{get_or-map, length-map}
use Rattle.std.proofs.lemmas.List.Elements.{Contains-get_or}
use Rattle.std.proofs.lemmas.List.Sums.{length-filter, count_by-le-length}
use Rattle.std.proofs.lemmas.Option.{slice_get-get_or, slice_get_past, slice_get_read}
use Rattle.snap_core.specs.declared.entry.Entry.{Entry}
use Rattle.snap_core.specs.declared.event.Event.{Event}
use Rattle.snap_core.specs.declared.event.Event.TheVariants.{BeginUpdate, BeginView, EndUpdate, EndView}
use Rattle.snap_core.specs.Events.{event_cap}
use Rattle.snap_core.specs.Calls.{Operation, Updates, Views, calls_from, calls_of, views_of, nobody, call_numbered, is_view, is_before, precedes}
use Rattle.snap_core.specs.Calls.{Call as SpecCall}
use Rattle.snap_core.proofs.Lists.{In, Contains-from_In}
use Rattle.snap_core.proofs.Histories.{numbered_calls}
use Rattle.snap_index.specs.declared.call.CallOp.TheVariants.{Update, View}
use Rattle.snap_index.specs.declared.call.Call.{Call}
use Rattle.snap_index.specs.IndexedCalls.{as_indexed, indexed_op, number_of}

-- there are no more calls than events
from_count : (n place : ℕ) (es : List Event) → length (calls_from n place es) ≤ length es
from_count n place [] = omega arith
from_count n place (BeginUpdate p e ∷ es) = omega (arith, from_count (suc n) (suc place) es)
from_count n place (BeginView p ∷ es) = omega (arith, from_count (suc n) (suc place) es)
from_count n place (EndUpdate p ∷ es) = omega (arith, from_count n (suc place) es)
from_count n place (EndView p s ∷ es) = omega (arith, from_count n (suc place) es)

pub call_count_within : (es : List Event) → length (calls_of es) ≤ length es
unfolding calls_of
call_count_within es = from_count 0 0 es

pub word_fits : (n : ℕ) → n ≤ event_cap → Fits w32 n
word_fits n l = search (rules, l)

pub count_is : (es : List Event) (calls : List Call) → calls ≡ map as_indexed (calls_of es) → length calls ≡ length (calls_of es)
count_is es calls h = ap length h ∙ length-map (calls_of es) as_indexed

pub indexed_read : (es : List Event) (calls : List Call) (n : ℕ) (d : Call) → calls ≡ map as_indexed (calls_of es) → n < length calls → get_or calls n d ≡ as_indexed (call_numbered (calls_of es) n)
indexed_read es calls n d h l = ap (λ z. get_or z n d) h ∙ get_or-map as_indexed (calls_of es) n nobody d (omega (arith, count_is es calls h))

-- the call of a number is one of the calls
pub numbered_there : (calls : List SpecCall) (n : ℕ) → n < length calls → Contains calls (call_numbered calls n)
numbered_there calls n l = Contains-get_or calls n nobody l

-- a call stands at its number
pub at_own_number : (es : List Event) (c : SpecCall) → In c (calls_of es) → slice_get (calls_of es) c.number ≡ Some c
at_own_number es c i =
    let k = Contains-from_In (calls_of es) c i in
    let n : c.number ≡ k.0 = ap number_of (sym k.2) ∙ numbered_calls es k.0 c k.1 in
    ap (slice_get (calls_of es)) n ∙ slice_get-get_or (calls_of es) k.0 c k.1 ∙ ap Some k.2

-- what an option that was mapped came from
pub record Mapped {X Y : Type 0} (f : X → Y) (o : Option X) (y : Y) : Type 0 where
  pub from : X
  pub is : o ≡ Some from
  pub to : f from ≡ y

pub mapped_some : {X Y : Type 0} (f : X → Y) (o : Option X) (y : Y) → option_map f o ≡ Some y → Mapped f o y
mapped_some f None y h = absurd (cc h)
mapped_some f (Some x) y h = let e : f x ≡ y = cc in record { from = x; is = refl; to = e }

pub mapped_none : {X Y : Type 0} (f : X → Y) (o : Option X) → option_map f o ≡ None → o ≡ None
mapped_none f None h = refl
mapped_none f (Some x) h = absurd (cc h)

-- what an operation is, by its bare form
pub update_from : (o : Operation) (e : Entry) → indexed_op o ≡ Update e → o ≡ Updates e
update_from (Updates d) e h = let g : d ≡ e = cc in ap Updates g
update_from (Views a) e h = absurd (cc)

pub view_from : (o : Operation) → indexed_op o ≡ View → (a : Option (List Entry)) × (o ≡ Views a)
view_from (Updates d) h = absurd (cc)
view_from (Views a) h = (a, refl)

-- precedence by the end of the first call
pub precedes_at : (a b : SpecCall) (place : ℕ) → a.ended ≡ Some place → precedes a b ≡ nat_lt place b.begun
unfolding precedes
precedes_at a b place h = ap (λ o. is_before o b.begun) h

pub precedes_none : (a b : SpecCall) → a.ended ≡ None → precedes a b ≡ false
unfolding precedes
precedes_none a b h = ap (λ o. is_before o b.begun) h

pub view_count_within : (calls : List SpecCall) → length (views_of calls) ≤ length calls
unfolding views_of
view_count_within calls = omega (arith, length-filter is_view calls, count_by-le-length is_view calls)

-- what a slice gives at a place
pub got : {X : Type 0} (xs : List X) (r : Option (Bor X)) (i : ℕ) → is_some r ≡ nat_lt i (length xs) → IfSome r (λ x. x.now ≡ get_or xs i x.now) → option_copied r ≡ slice_get xs i
got xs None i t e = sym (slice_get_past xs i (ltb-false i (length xs) (sym t)))
got xs (Some x) i t e = sym (slice_get_read xs (length xs) i x.now refl (ltb-true i (length xs) (sym t)) e)
