-- The events of a closed board can be put in the order of their stamps, and the stamps are the first numbers, each once.
use Rattle.std.proofs.Common.{◌≡◌, ℕ, ◌≤◌, ◌≢◌, ◌⊎◌, ◌==◌, Bool, true, false, cond, nat_lt, List, [], ◌∷◌, ◌++◌, map, sym, refl, ap, ◌∙◌, subst, inl, inr, ⊎_elim, arith}
use Rattle.std.proofs.lemmas.Bool.{ltb-true, ltb-false}
use Rattle.snap_core.specs.Events.{IsHistory}
use Rattle.snap_core.specs.Calls.{calls_of}
use Rattle.snap_core.specs.Regular.{IsRegular}
use Rattle.snap_account.specs.declared.account.Account.{Account}
use Rattle.std.proofs.lemmas.List.{map-append}
use Rattle.snap_account.specs.declared.account.Answered.{Answered}
use Rattle.snap_account.specs.declared.account.Answer.{Answer}
use Rattle.snap_account.specs.declared.account.Answer.TheVariants.{Stored, Viewed, Scanned, Interfered}
use Rattle.snap_board.specs.declared.record.Record.{Record}
use Rattle.snap_core.specs.Sums.{one_if, times, total}
use Rattle.snap_core.proofs.Sums.{total-append}
use Rattle.snap_account.specs.Calls.{Mem, Mark, stamps_in, marks_in, all_stamps_in}
use Rattle.snap_board.specs.Settled.{Settled}
use Rattle.snap_board.specs.Desks.{records_in}
use Rattle.snap_board.specs.History.{stamped_events, put, in_order, Stamped, Merged, all_records, history_of, AllCompleted}
use Rattle.snap_account.proofs.Lists.{mem_split, mem_left, mem_right, one_here}
use Rattle.snap_board.proofs.Stamps.{Stamp}
use Rattle.snap_board.proofs.DeskEvents.{op_events, desk_events, events_at}
use Rattle.snap_board.proofs.Merging.{InOrder, history, completed, regular}

abbrev stamps : List Stamp → List ℕ
stamps xs = map (λ (x : Stamp). x.0) xs

mem_cond : (b : Bool) (xs ys : List Stamp) (x : Stamp) → Mem x (cond b xs ys) → Mem x xs ⊎ Mem x ys
mem_cond true xs ys x m = inl m
mem_cond false xs ys x m = inr m

in_cond : (b : Bool) (xs ys : List Stamp) (x : Stamp) → Mem x xs → Mem x ys → Mem x (cond b xs ys)
in_cond true xs ys x m n = m
in_cond false xs ys x m n = n

put_mem : (x : Stamp) (xs : List Stamp) (z : Stamp) → Mem z (put x xs) → (x ≡ z) ⊎ Mem z xs
put_mem x [] z m = ⊎_elim (λ e. inl e) (λ q. absurd q) m
put_mem x (y ∷ ys) z m = ⊎_elim
    (λ f. ⊎_elim (λ e. inl e) (λ q. inr q) f)
    (λ f. ⊎_elim (λ e. inr (inl e)) (λ q. ⊎_elim (λ e. inl e) (λ r. inr (inr r)) (put_mem x ys z q)) f)
    (mem_cond (nat_lt x.0 y.0) (x ∷ y ∷ ys) (y ∷ put x ys) z m)

mem_put : (x : Stamp) (xs : List Stamp) (z : Stamp) → (x ≡ z) ⊎ Mem z xs → Mem z (put x xs)
mem_put x [] z m = ⊎_elim (λ e. inl e) (λ q. absurd q) m
mem_put x (y ∷ ys) z m = in_cond (nat_lt x.0 y.0) (x ∷ y ∷ ys) (y ∷ put x ys) z
    (⊎_elim (λ e. inl e) (λ q. inr q) m)
    (⊎_elim (λ e. inr (mem_put x ys z (inl e))) (λ q. ⊎_elim (λ e. inl e) (λ r. inr (mem_put x ys z (inr r))) q) m)

order_mem : (xs : List Stamp) (z : Stamp) → Mem z (in_order xs) → Mem z xs
order_mem [] z m = m
order_mem (x ∷ xs) z m = ⊎_elim (λ e. inl e) (λ q. inr (order_mem xs z q)) (put_mem x (in_order xs) z m)

mem_order : (xs : List Stamp) (z : Stamp) → Mem z xs → Mem z (in_order xs)
mem_order [] z m = m
mem_order (x ∷ xs) z m = mem_put x (in_order xs) z (⊎_elim (λ e. inl e) (λ q. inr (mem_order xs z q)) m)

stamped_put : (x : Stamp) (xs : List Stamp) → Stamped xs → ((y : Stamp) → Mem y xs → y.0 ≢ x.0) → Stamped (put x xs)
stamped_put x [] st other = ((λ y m. absurd m), tt)
stamped_put x (y ∷ ys) st other = at (nat_lt x.0 y.0) refl (stamped_put x ys st.1 (λ z m. other z (inr m)))
  where
    at : (b : Bool) → nat_lt x.0 y.0 ≡ b → Stamped (put x ys) → Stamped (cond b (x ∷ y ∷ ys) (y ∷ put x ys))
    at true is rest = let lt = ltb-true x.0 y.0 is in ((λ z m. ⊎_elim (λ e. let s = ap (λ (q : Stamp). q.0) e in omega arith) (λ q. let l = st.0 z q in omega arith) m), st)
    at false is rest =
        let le = ltb-false x.0 y.0 is in
        let ne = other y (inl refl) in
        ((λ z m. ⊎_elim (λ e. let s = ap (λ (q : Stamp). q.0) e in omega arith) (λ q. st.0 z q) (put_mem x ys z m)), rest)

times_mem : (s : ℕ) (xs : List Stamp) (y : Stamp) → Mem y xs → y.0 ≡ s → 1 ≤ times s (stamps xs)
times_mem s [] y m is = absurd m
times_mem s (x ∷ xs) y m is = ⊎_elim
    (λ e. let one : one_if (x.0 == s) ≡ 1 = ap (λ z. one_if (z == s)) (ap (λ (q : Stamp). q.0) e ∙ is) ∙ one_here s in omega arith)
    (λ q. let r = times_mem s xs y q is in omega arith)
    m

stamped_order : (xs : List Stamp) → ((s : ℕ) → times s (stamps xs) ≤ 1) → Stamped (in_order xs)
stamped_order [] few = tt
stamped_order (x ∷ xs) few = stamped_put x (in_order xs) (stamped_order xs (λ s. let f = few s in omega arith))
    (λ y m same. let f = few x.0 in let one = one_here x.0 in let t = times_mem x.0 xs y (order_mem xs y m) same in omega arith)

pub events-append : (rs qs : List Record) → stamped_events (rs ++ qs) ≡ stamped_events rs ++ stamped_events qs
events-append [] qs = refl
events-append (r ∷ rs) qs = ap (λ l. (r.begun, Rattle.snap_board.specs.History.begin_of r.process r.op) ∷ (r.ended, Rattle.snap_board.specs.History.end_of r.process r.op) ∷ l) (events-append rs qs)

-- the stamps of a desk's events are among its stamps
events_few : (s d : ℕ) (rs : List Answered) → times s (stamps (desk_events d rs)) ≤ times s (stamps_in rs)
events_few s d [] = omega arith
events_few s d (r ∷ rs) = one r.op (events_few s d rs)
  where
    one : (o : Answer) → times s (stamps (desk_events d rs)) ≤ times s (stamps_in rs) → times s (stamps (op_events d r.begun r.ended o ++ desk_events d rs)) ≤ times s (r.begun ∷ r.ended ∷ stamps_in rs)
    one (Stored n v) rest = omega arith
    one (Viewed xs) rest = omega arith
    one (Scanned t xs) rest = omega arith
    one (Interfered n xs ys) rest = omega arith

times_all : (s : ℕ) (hand : List Account) → times s (stamps (stamped_events (all_records hand))) ≤ total (λ (a : Account). times s (all_stamps_in a.calls)) hand
times_all s [] = omega arith
times_all s (a ∷ hand) =
    let r = times_all s hand in
    let e = events_few s a.desk a.calls in
    let more = total-append (λ y. one_if (y == s)) (stamps_in a.calls) (map (λ (m : Mark). m.middle) (marks_in a.calls)) in
    let t = ap (λ l. times s (stamps l)) (events-append (records_in a) (all_records hand)) ∙ ap (times s) (map-append (λ (x : Stamp). x.0) (stamped_events (records_in a)) (stamped_events (all_records hand)))
    ∙ total-append (λ y. one_if (y == s)) (stamps (stamped_events (records_in a))) (stamps (stamped_events (all_records hand))) in
    let same = ap (λ l. times s (stamps l)) (events_at a.desk a.calls) in omega arith

events_mem : (hand : List Account) (x : Stamp) → Mem x (stamped_events (all_records hand)) → (a : Account) × Mem a hand × Mem x (desk_events a.desk a.calls)
events_mem [] x m = absurd m
events_mem (a ∷ hand) x m = ⊎_elim (λ q. (a, inl refl, subst (λ (l : List Stamp). Mem x l) (events_at a.desk a.calls) q)) (λ q. let r = events_mem hand x q in (r.0, inr r.1, r.2))
    (mem_split (stamped_events (records_in a)) (stamped_events (all_records hand)) x (subst (λ (l : List Stamp). Mem x l) (events-append (records_in a) (all_records hand)) m))

mem_events : (hand : List Account) (a : Account) → Mem a hand → (x : Stamp) → Mem x (desk_events a.desk a.calls) → Mem x (stamped_events (all_records hand))
mem_events [] a m x q = absurd m
mem_events (c ∷ hand) a m x q = subst (λ (l : List Stamp). Mem x l) (sym (events-append (records_in c) (all_records hand))) (⊎_elim
    (λ e. mem_left (stamped_events (records_in c)) (stamped_events (all_records hand)) x (subst (λ (l : List Stamp). Mem x l) (sym (events_at c.desk c.calls)) (subst (λ (z : Account). Mem x (desk_events z.desk z.calls)) (sym e) q)))
    (λ r. mem_right (stamped_events (records_in c)) (stamped_events (all_records hand)) x (mem_events hand a r x q))
    m)

pub few_stamps : (n : ℕ) (hand : List Account) → Settled n hand → (s : ℕ) → times s (stamps (stamped_events (all_records hand))) ≤ 1
few_stamps n hand h s = let t = times_all s hand in let a = h.apart s in omega arith

pub merged : (n : ℕ) (hand : List Account) → Settled n hand → Merged (all_records hand) (in_order (stamped_events (all_records hand)))
merged n hand h = record {
  stamped = stamped_order (stamped_events (all_records hand)) (few_stamps n hand h);
  all = λ x q. mem_order (stamped_events (all_records hand)) x q;
  only = λ x m. order_mem (stamped_events (all_records hand)) x m;
}

pub in_order_of : (hand : List Account) (es : List Stamp) → Merged (all_records hand) es → InOrder hand es
in_order_of hand es m = record { stamped = m.stamped; all = λ a ma x q. m.all x (mem_events hand a ma x q); only = λ x mx. events_mem hand x (m.only x mx) }

pub close_history : (n : ℕ) (hand : List Account) → Settled n hand → IsHistory (history_of (all_records hand))
close_history n hand h = history n hand (in_order (stamped_events (all_records hand))) h (in_order_of hand _ (merged n hand h))

pub close_completed : (n : ℕ) (hand : List Account) → Settled n hand → AllCompleted (calls_of (history_of (all_records hand)))
close_completed n hand h = completed n hand (in_order (stamped_events (all_records hand))) h (in_order_of hand _ (merged n hand h))

pub close_regular : (n : ℕ) (hand : List Account) → Settled n hand → IsRegular (calls_of (history_of (all_records hand)))
close_regular n hand h = regular n hand (in_order (stamped_events (all_records hand))) h (in_order_of hand _ (merged n hand h))
