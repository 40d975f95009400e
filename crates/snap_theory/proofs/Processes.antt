-- Calls that differ in processes alone are judged alike.
use Rattle.std.proofs.Common.{◌≡◌, ℕ, ◌<◌, false, List, [], ◌∷◌, map, Option, Some, refl, sym, ap, ◌∙◌, subst}
use Rattle.snap_core.specs.declared.entry.Entry.{Entry}
use Rattle.snap_core.specs.declared.event.Event.{Event}
use Rattle.snap_core.specs.Calls.{Call, calls_of, precedes, is_view, shown, shown_number, views_of}
use Rattle.snap_core.specs.Orders.{IsAtomic, is_completed, is_update, last_written, written_by}
use Rattle.snap_core.specs.Regular.{IsViewOf, IsUpdateOf, IsBegunBeforeEnd, IsRegular}
use Rattle.snap_core.proofs.Lists.{In, In-from_Contains, Contains-from_In}
use Rattle.snap_core.proofs.Members.{In-map, Origin, In-from_map}
use Rattle.snap_theory.specs.Faults.{integrity_faults, proximity_faults, read_faults, write_faults, stale_count}
use Rattle.snap_theory.specs.Levels.{printed_order}
use Rattle.snap_core.specs.declared.writers.Writers.TheVariants.{One}
use Rattle.snap_theory.specs.Windows.{nothing, IsAtomicFrom}
use Rattle.snap_theory.specs.Processes.{anyones, AreSameCalls, HaveSameFaults, ProcessesDoNotMatter}
use Rattle.snap_theory.proofs.Empty.{atomic_from_nothing}
use Rattle.snap_theory.proofs.Images.{IsImage, atomic_image, atomic_origin}
use Rattle.snap_theory.proofs.Moved.{of_one_number}
use Rattle.snap_theory.proofs.StaleViews.{monotone_exactly}
use Rattle.snap_theory.proofs.AnyonesFaults.{integrity_anyones, proximity_anyones, read_anyones, write_anyones, stale_anyones, order_anyones}

-- the calls of a list, each with the same one of the other list

other_call : (calls others : List Call) → AreSameCalls calls others → (c : Call) → In c others → Origin anyones calls (anyones c)
other_call calls others same c i = In-from_map anyones calls (anyones c) (subst (In (anyones c)) (sym same) (In-map anyones others c i))

same_view : (r s : Call) → anyones r ≡ anyones s → is_view r ≡ is_view s
unfolding is_view
same_view r s e = ap is_view e

same_shown : (r s : Call) (k : ℕ) → anyones r ≡ anyones s → shown r k ≡ shown s k
unfolding shown
same_shown r s k e = ap (λ z. shown z k) e

same_number : (r s : Call) (k : ℕ) → anyones r ≡ anyones s → shown_number r k ≡ shown_number s k
unfolding shown_number shown
same_number r s k e = ap (λ z. shown_number z k) e

same_precedence : (a b c d : Call) → anyones a ≡ anyones c → anyones b ≡ anyones d → precedes a b ≡ precedes c d
unfolding precedes
same_precedence a b c d e f = ap (λ z. precedes z (anyones b)) e ∙ ap (precedes (anyones c)) f

view_of : (calls others : List Call) (r : Call) → IsViewOf others r → (o : Origin anyones calls (anyones r)) → IsViewOf calls o.it
view_of calls others r v o = record { there = Contains-from_In _ _ o.there; completed = same_view o.it r o.is ∙ v.completed }

update_of : (calls others : List Call) (c : Call) (e : Entry) → IsUpdateOf others c e → (o : Origin anyones calls (anyones c)) → IsUpdateOf calls o.it e
update_of calls others c e u o = record { there = Contains-from_In _ _ o.there; writes = ap (λ z. z.operation) o.is ∙ u.writes }

begun_as : (a b r s : Call) → anyones a ≡ anyones b → anyones r ≡ anyones s → IsBegunBeforeEnd a r → IsBegunBeforeEnd b s
begun_as a b r s e f g = record { place = g.place; ends = sym (ap (λ z. z.ended) f) ∙ g.ends; before = subst (λ n. n < g.place) (ap (λ z. z.begun) e) g.before }

regular_alike : (calls others : List Call) → AreSameCalls calls others → IsRegular calls → IsRegular others
regular_alike calls others same h = record { not_old = not_old; not_early = not_early }
  where
    of : {r : Call} → IsViewOf others r → Origin anyones calls (anyones r)
    of {r} v = other_call calls others same r (In-from_Contains _ _ v.there)

    not_old : (r c : Call) (e : Entry) → IsViewOf others r → IsUpdateOf others c e → shown_number r e.component < e.number → precedes c r ≡ false
    not_old r c e v u l =
        let o = of v in
        let w = other_call calls others same c (In-from_Contains _ _ u.there) in
        sym (same_precedence w.it o.it c r w.is o.is)
        ∙ h.not_old o.it w.it e (view_of calls others r v o) (update_of calls others c e u w) (subst (λ n. n < e.number) (sym (same_number o.it r e.component o.is)) l)

    not_early : (r : Call) (k : ℕ) (e : Entry) → IsViewOf others r → shown r k ≡ Some e → (c : Call) × IsUpdateOf others c e × IsBegunBeforeEnd c r
    not_early r k e v s =
        let o = of v in
        let u = h.not_early o.it k e (view_of calls others r v o) (same_shown o.it r k o.is ∙ s) in
        let w = other_call others calls (sym same) u.0 (In-from_Contains _ _ u.1.there) in
        (w.it, update_of others calls u.0 e u.1 w, begun_as u.0 w.it o.it r (sym w.is) o.is u.2)

-- orders

image : (es : List Event) → IsImage anyones (calls_of es)
unfolding is_completed is_update is_view precedes
image es = record {
  completed = λ c. refl;
  update = λ c. refl;
  view = λ c. refl;
  precedence = λ a b i j. refl;
  apart = λ a b i j e. of_one_number es a b i j (ap (λ z. z.number) e);
}

last_anyones : (k : ℕ) (o : Option Entry) (xs : List Call) → last_written k o (map anyones xs) ≡ last_written k o xs
last_anyones k o [] = refl
last_anyones k o (x ∷ xs) = last_anyones k (written_by x.operation k o) xs

forget : (es : List Event) → IsAtomicFrom nothing (calls_of es) → IsAtomicFrom nothing (map anyones (calls_of es))
unfolding shown
forget es = atomic_image anyones (calls_of es) nothing nothing (image es) (λ before r among i v s k. s k ∙ sym (last_anyones k (nothing k) before))

recall : (es : List Event) → IsAtomicFrom nothing (map anyones (calls_of es)) → IsAtomicFrom nothing (calls_of es)
unfolding shown
recall es = atomic_origin anyones (calls_of es) nothing nothing (image es) (λ before r among i v s k. s k ∙ last_anyones k (nothing k) before)

atomic_alike : (events others : List Event) → AreSameCalls (calls_of events) (calls_of others) → IsAtomic (calls_of events) → IsAtomic (calls_of others)
atomic_alike events others same a =
    (atomic_from_nothing One (calls_of others)).0 (recall others (subst (IsAtomicFrom nothing) same (forget events ((atomic_from_nothing One (calls_of events)).1 a))))

faults_alike : (calls others : List Call) → AreSameCalls calls others → HaveSameFaults calls others
faults_alike calls others same = record {
  integrity = sym (integrity_anyones calls) ∙ ap (λ cs. integrity_faults cs (views_of cs)) same ∙ integrity_anyones others;
  proximity = sym (proximity_anyones calls) ∙ ap (λ cs. proximity_faults cs (views_of cs)) same ∙ proximity_anyones others;
  read = sym (read_anyones calls) ∙ ap (λ cs. read_faults cs (views_of cs)) same ∙ read_anyones others;
  write = sym (write_anyones calls) ∙ ap (λ cs. write_faults cs (views_of cs)) same ∙ write_anyones others;
  stale = sym (stale_anyones calls) ∙ ap (λ cs. stale_count cs (views_of cs)) same ∙ stale_anyones others;
}

pub processes_do_not_matter : ProcessesDoNotMatter
processes_do_not_matter events others same =
    let faults = faults_alike (calls_of events) (calls_of others) same in
    record {
      regular = (regular_alike (calls_of events) (calls_of others) same, regular_alike (calls_of others) (calls_of events) (sym same));
      monotone = (
        λ m. (monotone_exactly (calls_of others)).1 (sym faults.stale ∙ (monotone_exactly (calls_of events)).0 m),
        λ m. (monotone_exactly (calls_of events)).1 (faults.stale ∙ (monotone_exactly (calls_of others)).0 m),
      );
      atomic = (atomic_alike events others same, atomic_alike others events (sym same));
      faults = faults;
      order = sym (order_anyones (calls_of events)) ∙ ap printed_order same ∙ order_anyones (calls_of others);
    }
