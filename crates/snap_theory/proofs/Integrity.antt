-- The view and the update that show an integrity fault.
use Rattle.std.proofs.Common.{◌≡◌, ℕ, true, false, ◌&&◌, List, [], ◌∷◌, Option, Some, None, refl, sym, ap, ◌∙◌, inl, arith}
use Rattle.std.specs.Prelude.{◌==◌, not}
use Rattle.std.specs.List.{list_any}
use Rattle.std.proofs.lemmas.Bool.{eqb-true, eq-eqb, false≢true, false_from_ne_true, and_parts, and_from, not-true}
use Rattle.snap_core.specs.declared.entry.Entry.{Entry}
use Rattle.snap_core.specs.declared.event.Event.{Event}
use Rattle.snap_core.specs.Calls.{Call, Operation, Updates, Views, calls_of, shown, shown_number}
use Rattle.snap_core.specs.Regular.{IsViewOf}
use Rattle.snap_core.proofs.Lists.{In, any_from, any_to}
use Rattle.snap_core.proofs.Facts.{shown_in, shown_number_at}
use Rattle.snap_theory.specs.Faults.{integrity_fault, is_unwritten, writes_entry}
use Rattle.snap_theory.specs.FaultWitnesses.{Integrity, fault_updates}
use Rattle.snap_theory.specs.Kept.{alone, kept_operation}
use Rattle.snap_theory.specs.Witness.{numbers_of, witness_of, in_witness, AreWitnesses}
use Rattle.snap_theory.proofs.Pairs.{Shows, of_one, one_apart, first_number, witnesses}
use Rattle.snap_theory.proofs.Witnesses.{origin_of, shown_there, ViewKept, view_there}
use Rattle.snap_core.proofs.Ordered.{IsFittingHistory}

record Unwritten (calls : List Call) (o : Option Entry) : Type 0 where
  entry : Entry
  is : o ≡ Some entry
  none : list_any (λ c. writes_entry c.operation entry) calls ≡ false

unwritten : (calls : List Call) (o : Option Entry) → is_unwritten calls o ≡ true → Unwritten calls o
unwritten calls None h = absurd (false≢true h)
unwritten calls (Some e) h = record { entry = e; is = refl; none = not-true _ h }

-- what writes the entry in the witness wrote it in the history
wrote : (numbers : ℕ → ℕ) (o : Operation) (e : Entry) → writes_entry (kept_operation numbers o) (alone e) ≡ true → ((d : Entry) → o ≡ Updates d → d.number ≡ e.number) → writes_entry o e ≡ true
wrote numbers (Updates d) e h n =
    let p = and_parts (d.component == e.component) ((1 == 1) && (d.value == e.value)) h in
    let q = and_parts (1 == 1) (d.value == e.value) p.1 in
    and_from _ _ p.0 (and_from _ _ (eq-eqb d.number e.number (n d refl)) q.1)
wrote numbers (Views a) e h n = absurd (false≢true h)

pub integrity_shows : (es : List Event) → IsFittingHistory es → (r : Call) (k : ℕ) → IsViewOf (calls_of es) r → integrity_fault (calls_of es) r k ≡ true → Shows es (Integrity r k) (fault_updates (Integrity r k))
unfolding integrity_fault
integrity_shows es h r k v t = record { are = w; few = omega arith; fault = (x.number, 0, (x.view, fault)); covers = λ e. absurd (false≢true (sym e)) }
  where
    u : Unwritten (calls_of es) (shown r k)
    u = unwritten (calls_of es) (shown r k) t

    number : shown_number r k ≡ u.entry.number
    number = shown_number_at r k u.entry u.is

    ps : List (ℕ × ℕ)
    ps = (k, shown_number r k) ∷ []

    w : AreWitnesses es (r ∷ []) ps
    w = witnesses es (r ∷ []) ps (of_one (IsViewOf (calls_of es)) r v) (one_apart k (shown_number r k))

    x : ViewKept es (r ∷ []) ps r
    x = view_there es (r ∷ []) ps h.ordered w r (inl refl)

    W : List Call
    W = calls_of (witness_of es (r ∷ []) ps)

    there : shown (in_witness es (r ∷ []) ps x.number r) k ≡ Some (alone u.entry)
    there = shown_there es (r ∷ []) ps x.number r k u.entry u.is (sym number ∙ sym (first_number k (shown_number r k) []))

    same_component : {o p : Operation} (e : Entry) → o ≡ Updates e → p ≡ kept_operation (numbers_of ps) o → writes_entry p (alone u.entry) ≡ true → e.component ≡ k
    same_component e q s z =
        let a : writes_entry (kept_operation (numbers_of ps) (Updates e)) (alone u.entry) ≡ true = ap (λ z. writes_entry (kept_operation (numbers_of ps) z) (alone u.entry)) (sym q) ∙ ap (λ z. writes_entry z (alone u.entry)) (sym s) ∙ z in
        eqb-true _ _ (and_parts (e.component == u.entry.component) _ a).0 ∙ (shown_in r k u.entry u.is).1

    no_writer : (d : Call) → In d W → writes_entry d.operation (alone u.entry) ≡ true → ⊥
    no_writer d i z =
        let o = origin_of es (r ∷ []) ps h.ordered w d i in
        false≢true (sym u.none ∙ any_from (λ c. writes_entry c.operation u.entry) (calls_of es) o.call o.there
        (wrote (numbers_of ps) o.call.operation u.entry (ap (λ z. writes_entry z (alone u.entry)) (sym o.operation) ∙ z)
        (λ e q. o.numbered e q ∙ ap (numbers_of ps) (same_component e q o.operation z) ∙ first_number k (shown_number r k) [] ∙ number)))

    fault : integrity_fault W (in_witness es (r ∷ []) ps x.number r) k ≡ true
    fault =
        ap (is_unwritten W) there
        ∙ ap not (false_from_ne_true _ (λ z. let y = any_to (λ c. writes_entry c.operation (alone u.entry)) W z in no_writer y.it y.there y.passes))
