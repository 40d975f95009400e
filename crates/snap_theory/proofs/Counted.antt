-- Updates and views with ranks as numbers: the ranks of the updates of a component are in the order of their versions.
use Rattle.std.proofs.Common.{◌≡◌, ◌↔◌, ℕ, suc, ◌<◌, ◌≤◌, Bool, true, false, cond, List, [], ◌∷◌, map, Option, Some, None, refl, sym, ap, ◌∙◌, inl, inr, arith}
use Rattle.std.specs.Prelude.{◌==◌}
use Rattle.std.specs.List.{count_by, list_any}
use Rattle.std.proofs.lemmas.Bool.{false≢true, and_from, and_parts, cases_order, eq-eqb, eqb-true, false_from_ne_true, lt-ltb, ltb-true}
use Rattle.snap_core.specs.declared.entry.Entry.{Entry}
use Rattle.snap_core.specs.declared.writers.Writers.TheVariants.{Many}
use Rattle.snap_core.specs.Entries.{entry_of}
use Rattle.snap_core.specs.Calls.{Call, Operation, Updates, Views, entries_of, is_update_numbered, precedes, shown, writes_number}
use Rattle.snap_core.specs.Orders.{is_completed, is_update, is_writing, last_written, written_by}
use Rattle.snap_core.specs.Refusals.{writes_below}
use Rattle.snap_core.specs.Regular.{IsUpdateOf}
use Rattle.snap_core.proofs.Lists.{In, In-from_Contains, Contains-from_In, any_from, any_to, count_le, count_lt}
use Rattle.snap_theory.specs.Versioned.{counted, counted_calls, counted_entry, counted_number, counted_operation, writes_component}
use Rattle.snap_theory.specs.Versions.{IsAtomicInOrder, IsLaterVersion}
use Rattle.snap_theory.specs.Windows.{nothing}
use Rattle.snap_theory.proofs.Empty.{atomic_from_nothing}
use Rattle.snap_theory.proofs.Images.{Among, IsImage, Shows, in_order_image, in_order_origin}
use Rattle.snap_theory.proofs.LastWritten.{last_written_from}
use Rattle.snap_theory.proofs.Timed.{AreMade, counted_times}

-- the updates below a version

pub record WritesBelow (o : Operation) (e : Entry) : Type 0 where
  pub entry : Entry
  pub writes : o ≡ Updates entry
  pub component : entry.component ≡ e.component
  pub number : entry.number < e.number

pub below_to : (o : Operation) (e : Entry) → writes_below o e ≡ true → WritesBelow o e
below_to (Updates d) e t = let p = and_parts _ _ t in record { entry = d; writes = refl; component = eqb-true _ _ p.0; number = ltb-true _ _ p.1 }
below_to (Views answer) e t = absurd (false≢true t)

pub below_from : (o : Operation) (e : Entry) → WritesBelow o e → writes_below o e ≡ true
below_from o e w = ap (λ z. writes_below z e) w.writes ∙ and_from _ _ (eq-eqb _ _ w.component) (lt-ltb _ _ w.number)

not_below_itself : (o : Operation) (e : Entry) → o ≡ Updates e → writes_below o e ≡ false
not_below_itself o e s = false_from_ne_true _ (λ t. let w = below_to o e t in let q : Updates w.entry ≡ Updates e = sym w.writes ∙ s in let same : w.entry ≡ e = cc in let l = w.number in omega (arith, l, ap (λ (z : Entry). z.number) same))

below_component : (o : Operation) (e : Entry) → writes_below o e ≡ true → writes_component e.component o ≡ true
below_component o e t = let w = below_to o e t in ap (writes_component e.component) w.writes ∙ eq-eqb _ _ w.component

is_numbered : (c : Call) (k n : ℕ) (d : Entry) → c.operation ≡ Updates d → d.component ≡ k → d.number ≡ n → is_update_numbered k n c ≡ true
unfolding is_update_numbered
is_numbered c k n d w p q = ap (λ o. writes_number o k n) w ∙ and_from _ _ (eq-eqb _ _ p) (eq-eqb _ _ q)

record NumberedEntry (c : Call) (k n : ℕ) : Type 0 where
  entry : Entry
  writes : c.operation ≡ Updates entry
  component : entry.component ≡ k
  number : entry.number ≡ n

numbered_entry : (c : Call) (k n : ℕ) → is_update_numbered k n c ≡ true → NumberedEntry c k n
unfolding is_update_numbered
numbered_entry c k n t = go c.operation refl t
  where
    go : (o : Operation) → c.operation ≡ o → writes_number o k n ≡ true → NumberedEntry c k n
    go (Updates d) w t = let p = and_parts _ _ t in record { entry = d; writes = w; component = eqb-true _ _ p.0; number = eqb-true _ _ p.1 }
    go (Views answer) w t = absurd (false≢true t)

-- the rank of a version

abbrev pub below : List Call → Entry → ℕ
below calls e = count_by (λ c. writes_below c.operation e) calls

abbrev all_of : List Call → ℕ → ℕ
all_of calls k = count_by (λ c. writes_component k c.operation) calls

abbrev is_known : List Call → Entry → Bool
is_known calls e = list_any (is_update_numbered e.component e.number) calls

known_rank : (calls : List Call) (e : Entry) → is_known calls e ≡ true → counted_number calls e ≡ suc (below calls e)
known_rank calls e t = ap (λ b. cond b (suc (below calls e)) (suc (all_of calls e.component))) t

unknown_rank : (calls : List Call) (e : Entry) → is_known calls e ≡ false → counted_number calls e ≡ suc (all_of calls e.component)
unknown_rank calls e t = ap (λ b. cond b (suc (below calls e)) (suc (all_of calls e.component))) t

-- an update is known, so it counts those below it
update_known : (calls : List Call) (c : Call) (e : Entry) → IsUpdateOf calls c e → is_known calls e ≡ true
update_known calls c e u = any_from (is_update_numbered e.component e.number) calls c (In-from_Contains _ _ u.there) (is_numbered c e.component e.number e u.writes refl refl)

pub rank : (calls : List Call) (c : Call) (e : Entry) → IsUpdateOf calls c e → counted_number calls e ≡ suc (below calls e)
rank calls c e u = known_rank calls e (update_known calls c e u)

-- entries of one component and version have one rank

below_less : (calls : List Call) (d e : Entry) → d.component ≡ e.component → d.number ≤ e.number → below calls d ≤ below calls e
below_less calls d e same less = count_le (λ c. writes_below c.operation d) (λ c. writes_below c.operation e) calls (λ c i t. let w = below_to c.operation d t in let l = w.number in below_from c.operation e (record { entry = w.entry; writes = w.writes; component = w.component ∙ same; number = omega (arith, l, less) }))

pub same_rank : (calls : List Call) (d e : Entry) → d.component ≡ e.component → d.number ≡ e.number → counted_number calls d ≡ counted_number calls e
same_rank calls d e same n = go (is_known calls d) refl
  where
    test : is_known calls d ≡ is_known calls e
    test = ap (λ k. list_any (is_update_numbered k d.number) calls) same ∙ ap (λ m. list_any (is_update_numbered e.component m) calls) n

    go : (b : Bool) → is_known calls d ≡ b → counted_number calls d ≡ counted_number calls e
    go true t = omega (arith, known_rank calls d t, known_rank calls e (sym test ∙ t), below_less calls d e same (omega (arith, n)), below_less calls e d (sym same) (omega (arith, n)))
    go false t = unknown_rank calls d t ∙ ap (λ k. suc (all_of calls k)) same ∙ sym (unknown_rank calls e (sym test ∙ t))

-- the ranks of the updates of a component rise with their versions
pub ranks_rise : (calls : List Call) (a b : Call) (d e : Entry) → IsUpdateOf calls a d → IsUpdateOf calls b e → d.component ≡ e.component → d.number < e.number → counted_number calls d < counted_number calls e
ranks_rise calls a b d e u w same less =
    let l = count_lt (λ c. writes_below c.operation d) (λ c. writes_below c.operation e) calls
    (λ c i t. let x = below_to c.operation d t in let m = x.number in below_from c.operation e (record { entry = x.entry; writes = x.writes; component = x.component ∙ same; number = omega (arith, m, less) }))
    a (In-from_Contains _ _ u.there) (not_below_itself a.operation d u.writes) (below_from a.operation e (record { entry = d; writes = u.writes; component = same; number = less })) in
    omega (arith, l, rank calls a d u, rank calls b e w)

-- and their versions with their ranks
pub versions_rise : (calls : List Call) (a b : Call) (d e : Entry) → IsUpdateOf calls a d → IsUpdateOf calls b e → d.component ≡ e.component → counted_number calls d < counted_number calls e → d.number < e.number
versions_rise calls a b d e u w same l = elim (cases_order d.number e.number) [
  | inl q ↦ absurd (let n = same_rank calls d e same q in omega (arith, l, n))
  | inr (inl less) ↦ less
  | inr (inr more) ↦ absurd (let m = ranks_rise calls b a e d w u (sym same) more in omega (arith, l, m))
]

-- a version that no update has gets a higher one
unknown_is_higher : (calls : List Call) (b : Call) (s e : Entry) → IsUpdateOf calls b e → s.component ≡ e.component → is_known calls s ≡ false → counted_number calls e < counted_number calls s
unknown_is_higher calls b s e w same f =
    let l = count_lt (λ c. writes_below c.operation e) (λ c. writes_component e.component c.operation) calls
    (λ c i t. below_component c.operation e t)
    b (In-from_Contains _ _ w.there) (not_below_itself b.operation e w.writes) (ap (writes_component e.component) w.writes ∙ eq-eqb e.component e.component refl) in
    omega (arith, l, rank calls b e w, unknown_rank calls s f ∙ ap (λ k. suc (all_of calls k)) same)

-- so only entries of its version have the rank of an update
pub one_rank : (calls : List Call) (b : Call) (s e : Entry) → IsUpdateOf calls b e → s.component ≡ e.component → counted_number calls s ≡ counted_number calls e → s.number ≡ e.number
one_rank calls b s e w same is = go (is_known calls s) refl
  where
    go : (t : Bool) → is_known calls s ≡ t → s.number ≡ e.number
    go false t = absurd (let l = unknown_is_higher calls b s e w same t in omega (arith, l, is))
    go true t =
        let x = any_to (is_update_numbered s.component s.number) calls t in
        let y = numbered_entry x.it s.component s.number x.passes in
        let u : IsUpdateOf calls x.it y.entry = record { there = Contains-from_In _ _ x.there; writes = y.writes } in
        let one = same_rank calls y.entry s y.component y.number in
        elim (cases_order y.entry.number e.number) [
          | inl q ↦ sym y.number ∙ q
          | inr (inl less) ↦ absurd (let l = ranks_rise calls x.it b y.entry e u w (y.component ∙ same) less in omega (arith, l, one, is))
          | inr (inr more) ↦ absurd (let l = ranks_rise calls b x.it e y.entry w u (sym (y.component ∙ same)) more in omega (arith, l, one, is))
        ]

-- what calls write and show, once they are counted

pub record UpdateWas (calls : List Call) (c : Call) (e : Entry) : Type 0 where
  pub entry : Entry
  pub writes : c.operation ≡ Updates entry
  pub is : counted_entry calls entry ≡ e

pub update_was : (calls : List Call) (c : Call) (e : Entry) → (counted calls c).operation ≡ Updates e → UpdateWas calls c e
update_was calls c e w = go c.operation refl w
  where
    go : (o : Operation) → c.operation ≡ o → counted_operation calls o ≡ Updates e → UpdateWas calls c e
    go (Updates d) s t = let q : counted_entry calls d ≡ e = cc in record { entry = d; writes = s; is = q }
    go (Views None) s t = absurd (cc)
    go (Views (Some es)) s t = absurd (cc)

abbrev pub counted_option : List Call → Option Entry → Option Entry
counted_option calls None = None
counted_option calls (Some e) = Some (counted_entry calls e)

entry_counted : (calls : List Call) (k : ℕ) (es : List Entry) → entry_of k (map (counted_entry calls) es) ≡ counted_option calls (entry_of k es)
entry_counted calls k [] = refl
entry_counted calls k (e ∷ es) = go (e.component == k) (entry_counted calls k es)
  where
    go : (b : Bool) → entry_of k (map (counted_entry calls) es) ≡ counted_option calls (entry_of k es) → cond b (Some (counted_entry calls e)) (entry_of k (map (counted_entry calls) es)) ≡ counted_option calls (cond b (Some e) (entry_of k es))
    go true h = refl
    go false h = h

pub shown_counted : (calls : List Call) (r : Call) (k : ℕ) → shown (counted calls r) k ≡ counted_option calls (shown r k)
unfolding shown
shown_counted calls r k = go r.operation
  where
    go : (o : Operation) → entry_of k (entries_of (counted_operation calls o)) ≡ counted_option calls (entry_of k (entries_of o))
    go (Updates e) = refl
    go (Views None) = refl
    go (Views (Some es)) = entry_counted calls k es

written_counted : (calls : List Call) (k : ℕ) (o : Operation) (last : Option Entry) → written_by (counted_operation calls o) k (counted_option calls last) ≡ counted_option calls (written_by o k last)
written_counted calls k (Updates e) last = go (e.component == k)
  where
    go : (b : Bool) → cond b (Some (counted_entry calls e)) (counted_option calls last) ≡ counted_option calls (cond b (Some e) last)
    go true = refl
    go false = refl
written_counted calls k (Views None) last = refl
written_counted calls k (Views (Some es)) last = refl

last_counted : (calls : List Call) (k : ℕ) (last : Option Entry) (xs : List Call) → last_written k (counted_option calls last) (map (counted calls) xs) ≡ counted_option calls (last_written k last xs)
last_counted calls k last [] = refl
last_counted calls k last (x ∷ xs) =
    ap (λ o. last_written k o (map (counted calls) xs)) (written_counted calls k x.operation last) ∙ last_counted calls k (written_by x.operation k last) xs

abbrev with_fields : ℕ → ℕ → ℕ → Entry
with_fields k n v = record { component = k; number = n; value = v }

same_entry : (d e : Entry) → d.component ≡ e.component → d.number ≡ e.number → d.value ≡ e.value → d ≡ e
same_entry d e p q r = ap (λ k. with_fields k d.number d.value) p ∙ ap (λ n. with_fields e.component n d.value) q ∙ ap (λ v. with_fields e.component e.number v) r

-- counting is a change that orders do not see

module _ (calls : List Call) (made : AreMade calls) where
  image : IsImage (counted calls) calls
  unfolding is_completed is_update precedes
  image = record {
    completed = λ c. refl;
    update = λ c. update c.operation;
    view = (counted_times calls).view;
    precedence = λ a b i j. refl;
    apart = λ a b i j e. made.one a b (Contains-from_In _ _ i) (Contains-from_In _ _ j) (ap (λ (z : Call). z.number) e);
  }
    where
      update : (o : Operation) → is_writing (counted_operation calls o) ≡ is_writing o
      update (Updates e) = refl
      update (Views None) = refl
      update (Views (Some es)) = refl

  shows_to : (before : List Call) (r : Call) → Shows nothing r before → Shows nothing (counted calls r) (map (counted calls) before)
  shows_to before r h k = shown_counted calls r k ∙ ap (counted_option calls) (h k) ∙ sym (last_counted calls k None before)

  shows_from : (before : List Call) (r : Call) → Among calls before → Shows nothing (counted calls r) (map (counted calls) before) → Shows nothing r before
  shows_from before r among h k = elim (last_written_from k None before) [
    | inl none ↦ shows_none (shown r k) refl (same ∙ ap (counted_option calls) none) ∙ sym none
    | inr w ↦
        let u : IsUpdateOf calls w.call w.entry = record { there = Contains-from_In _ _ (among w.call w.there); writes = w.writes.writes } in
        shows_some w.call w.entry u w.writes.component (shown r k) refl (same ∙ ap (counted_option calls) w.last) ∙ sym w.last
  ]
    where
      same : counted_option calls (shown r k) ≡ counted_option calls (last_written k None before)
      same = sym (shown_counted calls r k) ∙ h k ∙ last_counted calls k None before

      shows_none : (o : Option Entry) → shown r k ≡ o → counted_option calls o ≡ None → shown r k ≡ None
      shows_none None s t = s
      shows_none (Some e) s t = absurd (cc)

      shows_some : (c : Call) (e : Entry) → IsUpdateOf calls c e → e.component ≡ k → (o : Option Entry) → shown r k ≡ o → counted_option calls o ≡ Some (counted_entry calls e) → shown r k ≡ Some e
      shows_some c e u there None s t = absurd (cc)
      shows_some c e u there (Some d) s t =
          let q : counted_entry calls d ≡ counted_entry calls e = cc in
          let component : d.component ≡ e.component = ap (λ (z : Entry). z.component) q in
          let number = one_rank calls c d e u component (ap (λ (z : Entry). z.number) q) in
          let value : d.value ≡ e.value = ap (λ (z : Entry). z.value) q in
          s ∙ ap Some (same_entry d e component number value)

  later_to : (a b : Call) → In a calls → In b calls → IsLaterVersion a b → IsLaterVersion (counted calls a) (counted calls b)
  later_to a b i j h d e u w same =
      let x = update_was calls a d u in
      let y = update_was calls b e w in
      let component : x.entry.component ≡ y.entry.component = ap (λ (z : Entry). z.component) x.is ∙ same ∙ sym (ap (λ (z : Entry). z.component) y.is) in
      let l = ranks_rise calls a b x.entry y.entry (record { there = Contains-from_In _ _ i; writes = x.writes }) (record { there = Contains-from_In _ _ j; writes = y.writes }) component (h x.entry y.entry x.writes y.writes component) in
      omega (arith, l, ap (λ (z : Entry). z.number) x.is, ap (λ (z : Entry). z.number) y.is)

  later_from : (a b : Call) → In a calls → In b calls → IsLaterVersion (counted calls a) (counted calls b) → IsLaterVersion a b
  later_from a b i j h d e u w same =
      versions_rise calls a b d e (record { there = Contains-from_In _ _ i; writes = u }) (record { there = Contains-from_In _ _ j; writes = w }) same
      (h (counted_entry calls d) (counted_entry calls e) (ap (counted_operation calls) u) (ap (counted_operation calls) w) same)

-- so the calls are atomic exactly when they are with ranks as numbers
pub counting : (calls : List Call) → AreMade calls → IsAtomicInOrder calls ↔ IsAtomicInOrder (counted_calls calls)
counting calls made = (
  λ a. (atomic_from_nothing Many (counted_calls calls)).0 (in_order_image (counted calls) calls nothing nothing (image calls made) (λ before r among i v. shows_to calls made before r) (later_to calls made) ((atomic_from_nothing Many calls).1 a)),
  λ a. (atomic_from_nothing Many calls).0 (in_order_origin (counted calls) calls nothing nothing (image calls made) (λ before r among i v. shows_from calls made before r among) (later_from calls made) ((atomic_from_nothing Many (counted_calls calls)).1 a)),
)
