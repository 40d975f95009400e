-- What the calls of a history are known by, and what the words on one call mean.
use Rattle.std.proofs.Common.{◌≡◌, ◌≢◌, ℕ, ◌<◌, ◌≤◌, Bool, true, false, cond, List, [], ◌∷◌, Option, Some, None, refl, sym, ap, ◌∙◌, inl, inr, arith}
use Rattle.std.specs.Prelude.{◌==◌, find}
use Rattle.std.specs.List.{Contains}
use Rattle.std.proofs.lemmas.Bool.{ltb-true, lt-ltb, eqb-true, false≢true}
use Rattle.snap_core.specs.declared.entry.Entry.{Entry}
use Rattle.snap_core.specs.Calls.{Call, precedes, is_before, entries_of, shown, shown_number, Views}
use Rattle.snap_core.specs.Entries.{number_in}
use Rattle.snap_core.specs.Regular.{IsViewOf, IsUpdateOf}
use Rattle.snap_core.proofs.Lists.{In, Pairs}

-- an update of the same component
pub record EarlierUpdate (calls : List Call) (k m : ℕ) : Type 0 where
  pub call : Call
  pub entry : Entry
  pub update : IsUpdateOf calls call entry
  pub component : entry.component ≡ k
  pub number : entry.number ≡ m

pub record Ended (a : Call) : Type 0 where
  pub place : ℕ
  pub ends : a.ended ≡ Some place

pub record AreCalls (calls : List Call) : Type 0 where
  -- updates of one component follow one another in the order of their numbers
  pub follows : (a b : Call) (d e : Entry) → IsUpdateOf calls a d → IsUpdateOf calls b e → d.component ≡ e.component → d.number < e.number → precedes a b ≡ true
  -- an update's component has one of each number up to its own
  pub earlier : (b : Call) (e : Entry) (m : ℕ) → IsUpdateOf calls b e → 0 < m → m ≤ e.number → EarlierUpdate calls e.component m
  pub positive : (b : Call) (e : Entry) → IsUpdateOf calls b e → 0 < e.number
  pub one : (a b : Call) (d e : Entry) → IsUpdateOf calls a d → IsUpdateOf calls b e → d.component ≡ e.component → d.number ≡ e.number → a ≡ b
  pub rises : (a : Call) (place : ℕ) → Contains calls a → a.ended ≡ Some place → a.begun < place
  pub ordered : (a b : Call) → Contains calls a → Contains calls b → a.begun < b.begun → a.number < b.number
  pub numbered : Pairs (λ a b. a.number < b.number) calls
  pub unanswered : (c : Call) → Contains calls c → c.operation ≡ Views None → c.ended ≡ None
  pub answered : (r : Call) → IsViewOf calls r → Ended r
  pub apart : (a b : Call) (place : ℕ) → Contains calls a → Contains calls b → a.ended ≡ Some place → b.begun ≢ place

-- precedence, taken apart and made
pub record Precedes (a b : Call) : Type 0 where
  pub place : ℕ
  pub ends : a.ended ≡ Some place
  pub before : place < b.begun

pub precedes_to : (a b : Call) → precedes a b ≡ true → Precedes a b
unfolding precedes
precedes_to a b h = go a.ended refl h
  where
    go : (o : Option ℕ) → a.ended ≡ o → is_before o b.begun ≡ true → Precedes a b
    go None e t = absurd (false≢true t)
    go (Some place) e t = record { place = place; ends = e; before = ltb-true place b.begun t }

pub precedes_from : (a b : Call) → Precedes a b → precedes a b ≡ true
unfolding precedes
precedes_from a b h = ap (λ o. is_before o b.begun) h.ends ∙ lt-ltb h.place b.begun h.before

-- what precedes an update precedes a later begin too
pub precedes_later : (a b c : Call) → precedes a b ≡ true → b.begun ≤ c.begun → precedes a c ≡ true
precedes_later a b c h l = let p = precedes_to a b h in precedes_from a c (record { place = p.place; ends = p.ends; before = omega (arith, p.before) })

-- what a view shows
pub shown_number_at : (r : Call) (k : ℕ) (e : Entry) → shown r k ≡ Some e → shown_number r k ≡ e.number
unfolding shown_number
shown_number_at r k e h = ap number_in h

pub shown_number_none : (r : Call) (k : ℕ) → shown r k ≡ None → shown_number r k ≡ 0
unfolding shown_number
shown_number_none r k h = ap number_in h

pub record ShowsEntry (r : Call) (k : ℕ) : Type 0 where
  pub entry : Entry
  pub is : shown r k ≡ Some entry

pub shows_positive : (r : Call) (k : ℕ) → 0 < shown_number r k → ShowsEntry r k
unfolding shown_number
shows_positive r k h = go (shown r k) refl h
  where
    go : (o : Option Entry) → shown r k ≡ o → 0 < number_in o → ShowsEntry r k
    go None e l = absurd (omega arith)
    go (Some d) e l = record { entry = d; is = e }

find_in : (es : List Entry) (k : ℕ) (e : Entry) → find (λ d. d.component == k) es ≡ Some e → In e es × (e.component ≡ k)
find_in [] k e h = absurd (cc h)
find_in (d ∷ es) k e h = go (d.component == k) refl h (find_in es k e)
  where
    go : (b : Bool) → (d.component == k) ≡ b → cond b (Some d) (find (λ c. c.component == k) es) ≡ Some e → (find (λ c. c.component == k) es ≡ Some e → In e es × (e.component ≡ k)) → In e (d ∷ es) × (e.component ≡ k)
    go true t g rest = let same : d ≡ e = cc in (inl same, ap (λ (c : Entry). c.component) (sym same) ∙ eqb-true d.component k t)
    go false t g rest = let r = rest g in (inr r.0, r.1)

pub shown_in : (r : Call) (k : ℕ) (e : Entry) → shown r k ≡ Some e → In e (entries_of r.operation) × (e.component ≡ k)
unfolding shown
shown_in r k e h = find_in (entries_of r.operation) k e h
