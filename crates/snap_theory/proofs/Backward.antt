-- Where a legal order exists, the conditions hold.
use Rattle.std.proofs.Common.{◌≡◌, ◌⊎◌, ℕ, ◌<◌, ◌≤◌, true, false, List, ◌∷◌, ◌++◌, append_assoc, Option, Some, None, refl, sym, ap, ◌∙◌, subst, inl, inr, arith}
use Rattle.std.specs.Prelude.{is_some}
use Rattle.std.specs.List.{Contains}
use Rattle.std.proofs.lemmas.Bool.{false≢true}
use Rattle.std.proofs.lemmas.List.Elements.{All-contains}
use Rattle.snap_core.specs.declared.entry.Entry.{Entry}
use Rattle.snap_core.specs.Calls.{Call, Updates, precedes, is_view, shown, shown_number}
use Rattle.snap_core.specs.Regular.{IsViewOf, IsUpdateOf}
use Rattle.snap_theory.specs.Conditions.{MeetsConditions}
use Rattle.snap_theory.specs.Versions.{IsLaterVersion, IsLegalInOrder}
use Rattle.snap_core.specs.Orders.{is_completed, is_update, last_written}
use Rattle.snap_core.proofs.Lists.{In, In-from_Contains, Contains-from_In, In-append_left, In-append_right, In-append_cases, Pairs, Pairs-left, Pairs-right, Pairs-across, Pairs-from_AllPairs, Around, around}
use Rattle.snap_core.proofs.Facts.{shown_number_at, shown_number_none, shows_positive, precedes_to, precedes_later}
use Rattle.snap_theory.proofs.Legal.{Kept, completed_view}
use Rattle.snap_theory.proofs.LastWritten.{Written, last_written_from, last_written-append, written_at}
use Rattle.snap_core.proofs.Ordered.{AreOrderedCalls, begins_no_later}

-- no later call precedes an earlier one
-- a view at its place in a legal order
pub record Placed (calls order : List Call) (r : Call) : Type 0 where
  pub before : List Call
  pub after : List Call
  pub split : order ≡ before ++ r ∷ after

completed_call : (calls : List Call) → AreOrderedCalls calls → (a b : Call) → precedes a b ≡ true → is_completed a ≡ true
unfolding is_completed
completed_call calls f a b h = let p = precedes_to a b h in ap is_some p.ends

placed : (calls order : List Call) → AreOrderedCalls calls → IsLegalInOrder calls order → (r : Call) → IsViewOf calls r → Placed calls order r
placed calls order f o r v =
    let a = around r order (In-from_Contains order r (o.legal.completed r v.there (completed_view calls f r v))) in
    record { before = a.before; after = a.after; split = a.same }

in_calls : (calls order : List Call) → IsLegalInOrder calls order → (c : Call) → In c order → Contains calls c
in_calls calls order o c i = (All-contains (λ z. Contains calls z × ((is_completed z ≡ true) ⊎ (is_update z ≡ true))) order c o.legal.only (Contains-from_In order c i)).0

kept : (calls order : List Call) → IsLegalInOrder calls order → Pairs Kept order
kept calls order o = Pairs-from_AllPairs Kept order o.legal.precedence

-- the update that a view shows stands before it
pub record Source (calls before : List Call) (k : ℕ) (e : Entry) : Type 0 where
  pub call : Call
  pub there : In call before
  pub update : IsUpdateOf calls call e
  pub component : e.component ≡ k

source : (calls order : List Call) → IsLegalInOrder calls order → (before after : List Call) (r : Call) → order ≡ before ++ r ∷ after → is_view r ≡ true → (k : ℕ) (e : Entry) → shown r k ≡ Some e → Source calls before k e
source calls order o before after r split v k e s = go (last_written_from k None before)
  where
    same : last_written k None before ≡ Some e
    same = sym (o.legal.latest before after r split v k) ∙ s

    go : (last_written k None before ≡ None) ⊎ Written k before (last_written k None before) → Source calls before k e
    go (inl n) = absurd (cc (n, same))
    go (inr w) =
        let eq : w.entry ≡ e = cc (w.last, same) in
        record {
          call = w.call;
          there = w.there;
          update = record { there = in_calls calls order o w.call (subst (In w.call) (sym split) (In-append_left w.call before (r ∷ after) w.there)); writes = w.writes.writes ∙ ap Updates eq };
          component = subst (λ (z : Entry). z.component ≡ k) eq w.writes.component;
        }

-- a view shows no less than each update before it, since the numbers of its component rise
at_least : (calls order : List Call) → IsLegalInOrder calls order → (before after : List Call) (r : Call) → order ≡ before ++ r ∷ after → is_view r ≡ true → (c : Call) (e : Entry) → In c before → c.operation ≡ Updates e → e.number ≤ shown_number r e.component
at_least calls order o before after r split v c e i w = go (last_written_from e.component (Some e) part.after)
  where
    part : Around c before
    part = around c before i

    last : shown r e.component ≡ last_written e.component (Some e) part.after
    last =
        o.legal.latest before after r split v e.component
        ∙ ap (last_written e.component None) part.same
        ∙ last_written-append e.component None part.before (c ∷ part.after)
        ∙ ap (λ z. last_written e.component z part.after) (written_at e.component (last_written e.component None part.before) c e (record { writes = w; component = refl }))

    go : (last_written e.component (Some e) part.after ≡ Some e) ⊎ Written e.component part.after (last_written e.component (Some e) part.after) → e.number ≤ shown_number r e.component
    go (inl same) = omega (arith, shown_number_at r e.component e (last ∙ same))
    go (inr x) =
        let ps : Pairs IsLaterVersion (part.before ++ c ∷ part.after) = subst (Pairs IsLaterVersion) part.same (Pairs-left IsLaterVersion before (r ∷ after) (subst (Pairs IsLaterVersion) split (Pairs-from_AllPairs IsLaterVersion order o.rising))) in
        let more = (Pairs-right IsLaterVersion part.before (c ∷ part.after) ps).0 x.call x.there e x.entry w x.writes.writes (sym x.writes.component) in
        omega (arith, shown_number_at r e.component x.entry (last ∙ x.last), more)

-- of two views in the order the first shows no more than the second
earlier_shows_less : (calls order : List Call) → IsLegalInOrder calls order → (before after : List Call) (s : Call) → order ≡ before ++ s ∷ after → is_view s ≡ true → (r : Call) → In r before → is_view r ≡ true → (j : ℕ) → shown_number r j ≤ shown_number s j
earlier_shows_less calls order o before after s split v r i w j = go (shown r j) refl
  where
    part : Around r before
    part = around r before i

    split_r : order ≡ part.before ++ r ∷ (part.after ++ s ∷ after)
    split_r = split ∙ ap (λ z. z ++ s ∷ after) part.same ∙ append_assoc part.before (r ∷ part.after) (s ∷ after)

    go : (x : Option Entry) → shown r j ≡ x → shown_number r j ≤ shown_number s j
    go None e = omega (arith, shown_number_none r j e)
    go (Some d) e =
        let src = source calls order o part.before (part.after ++ s ∷ after) r split_r w j d e in
        let in_before : In src.call before = subst (In src.call) (sym part.same) (In-append_left src.call part.before (r ∷ part.after) src.there) in
        let l = at_least calls order o before after s split v src.call d in_before src.update.writes in
        let l' : d.number ≤ shown_number s j = subst (λ c. d.number ≤ shown_number s c) src.component l in
        omega (arith, shown_number_at r j d e)

-- a call that precedes one of the order stands before it
stands_before : (calls order : List Call) → AreOrderedCalls calls → IsLegalInOrder calls order → (before after : List Call) (b : Call) → order ≡ before ++ b ∷ after → Contains calls b → (a : Call) → Contains calls a → precedes a b ≡ true → In a before
stands_before calls order f o before after b split cb a ca h = elim (In-append_cases a before (b ∷ after) there) [
  | inl i ↦ i
  | inr (inl e) ↦ absurd (itself (subst (λ z. precedes a z ≡ true) e h))
  | inr (inr i) ↦ absurd (false≢true (sym ((Pairs-right Kept before (b ∷ after) (subst (Pairs Kept) split (kept calls order o))).0 a i) ∙ h))
]
  where
    there : In a (before ++ b ∷ after)
    there = subst (In a) split (In-from_Contains order a (o.legal.completed a ca (completed_call calls f a b h)))

    itself : precedes a a ≡ true → ⊥
    itself t = let p = precedes_to a a t in omega (arith, p.before, f.rises a p.place ca p.ends)

-- nothing that stands after a view or is one precedes an update that it shows
pub record Shown (calls before : List Call) (k n : ℕ) : Type 0 where
  pub call : Call
  pub entry : Entry
  pub there : In call before
  pub update : IsUpdateOf calls call entry
  pub component : entry.component ≡ k
  pub number : entry.number ≡ n

shown_update : (calls order : List Call) → IsLegalInOrder calls order → (before after : List Call) (r : Call) → order ≡ before ++ r ∷ after → is_view r ≡ true → (k : ℕ) → 0 < shown_number r k → Shown calls before k (shown_number r k)
shown_update calls order o before after r split v k l =
    let p = shows_positive r k l in
    let s = source calls order o before after r split v k p.entry p.is in
    record { call = s.call; entry = p.entry; there = s.there; update = s.update; component = s.component; number = sym (shown_number_at r k p.entry p.is) }

-- of one component, an update of no greater number began no later
integrity_part : (calls order : List Call) → AreOrderedCalls calls → IsLegalInOrder calls order → (r : Call) (k : ℕ) (e : Entry) → IsViewOf calls r → shown r k ≡ Some e → (c : Call) × IsUpdateOf calls c e
integrity_part calls order f o r k e v s =
    let p = placed calls order f o r v in
    let x = source calls order o p.before p.after r p.split v.completed k e s in
    (x.call, x.update)

early_part : (calls order : List Call) → AreOrderedCalls calls → IsLegalInOrder calls order → (r c : Call) (e : Entry) → IsViewOf calls r → IsUpdateOf calls c e → precedes r c ≡ true → shown_number r e.component < e.number
early_part calls order f o r c e v u h = omega (arith, not_shown)
  where
    not_shown : ¬ (e.number ≤ shown_number r e.component)
    not_shown l =
        let p = placed calls order f o r v in
        let x = shown_update calls order o p.before p.after r p.split v.completed e.component (omega (arith, f.positive c e u)) in
        let b = begins_no_later calls f c x.call e x.entry u x.update (sym x.component) (omega (arith, x.number)) in
        let free : precedes r x.call ≡ false = Pairs-across Kept p.before (r ∷ p.after) (subst (Pairs Kept) p.split (kept calls order o)) x.call r x.there (inl refl) in
        false≢true (sym free ∙ precedes_later r c x.call h b)

old_part : (calls order : List Call) → AreOrderedCalls calls → IsLegalInOrder calls order → (r c : Call) (e : Entry) → IsViewOf calls r → IsUpdateOf calls c e → precedes c r ≡ true → e.number ≤ shown_number r e.component
old_part calls order f o r c e v u h =
    let p = placed calls order f o r v in
    at_least calls order o p.before p.after r p.split v.completed c e (stands_before calls order f o p.before p.after r p.split v.there c u.there h) u.writes

read_part : (calls order : List Call) → AreOrderedCalls calls → IsLegalInOrder calls order → (r s : Call) → IsViewOf calls r → IsViewOf calls s → (precedes r s ≡ true) ⊎ ((k : ℕ) × (shown_number r k < shown_number s k)) → (j : ℕ) → shown_number r j ≤ shown_number s j
read_part calls order f o r s v w (inl h) j =
    let p = placed calls order f o s w in
    earlier_shows_less calls order o p.before p.after s p.split w.completed r (stands_before calls order f o p.before p.after s p.split w.there r v.there h) v.completed j
read_part calls order f o r s v w (inr x) j = elim (In-append_cases s p.before (r ∷ p.after) there) [
  | inl i ↦ absurd (omega (arith, earlier_shows_less calls order o p.before p.after r p.split v.completed s i w.completed x.0, x.1))
  | inr (inl e) ↦ absurd (let q : shown_number r x.0 ≡ shown_number s x.0 = ap (λ z. shown_number z x.0) e in omega (arith, x.1))
  | inr (inr i) ↦
      let a = around s p.after i in
      let split : order ≡ (p.before ++ r ∷ a.before) ++ s ∷ a.after = p.split ∙ ap (λ z. p.before ++ r ∷ z) a.same ∙ sym (append_assoc p.before (r ∷ a.before) (s ∷ a.after)) in
      earlier_shows_less calls order o (p.before ++ r ∷ a.before) a.after s split w.completed r (In-append_right r p.before (r ∷ a.before) (inl refl)) v.completed j
]
  where
    p : Placed calls order r
    p = placed calls order f o r v

    there : In s (p.before ++ r ∷ p.after)
    there = subst (In s) p.split (In-from_Contains order s (o.legal.completed s w.there (completed_view calls f s w)))

write_part : (calls order : List Call) → AreOrderedCalls calls → IsLegalInOrder calls order → (r a b : Call) (d e : Entry) → IsViewOf calls r → IsUpdateOf calls a d → IsUpdateOf calls b e → precedes a b ≡ true → e.number ≤ shown_number r e.component → d.number ≤ shown_number r d.component
write_part calls order f o r a b d e v x y h l =
    let p = placed calls order f o r v in
    let z = shown_update calls order o p.before p.after r p.split v.completed e.component (omega (arith, f.positive b e y)) in
    let later = precedes_later a b z.call h (begins_no_later calls f b z.call e z.entry y z.update (sym z.component) (omega (arith, z.number))) in
    let q = around z.call p.before z.there in
    let split : order ≡ q.before ++ z.call ∷ (q.after ++ r ∷ p.after) = p.split ∙ ap (λ w. w ++ r ∷ p.after) q.same ∙ append_assoc q.before (z.call ∷ q.after) (r ∷ p.after) in
    let i = stands_before calls order f o q.before (q.after ++ r ∷ p.after) z.call split z.update.there a x.there later in
    let j : In a p.before = subst (In a) (sym q.same) (In-append_left a q.before (z.call ∷ q.after) i) in
    at_least calls order o p.before p.after r p.split v.completed a d j x.writes

-- with a legal order, the conditions
pub legal_meets : (calls order : List Call) → AreOrderedCalls calls → IsLegalInOrder calls order → MeetsConditions calls
legal_meets calls order f o = record {
  integrity = integrity_part calls order f o;
  proximity_early = early_part calls order f o;
  proximity_old = old_part calls order f o;
  read = read_part calls order f o;
  write = write_part calls order f o;
}
