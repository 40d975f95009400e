-- Of scripts without a scan the stamps are the places of their events.
use Rattle.std.proofs.Common.{◌≡◌, ℕ, zero, suc, ◌+◌, ◌<◌, ◌≤◌, List, [], ◌∷◌, ◌++◌, length, sym, refl, ap, ◌∙◌, subst, inl, inr, ⊎_elim, arith}
use Rattle.std.proofs.lemmas.Bool.Decides.{nat_tests}
use Rattle.std.specs.Prelude.{slice_index, slice_index_or}
use Rattle.snap_core.specs.declared.event.Event.{Event}
use Rattle.snap_core.specs.Sums.{once_below, times, total}
use Rattle.snap_account.specs.declared.account.Account.{Account}
use Rattle.snap_account.specs.declared.account.Answer.{Answer}
use Rattle.snap_account.specs.declared.account.Answer.TheVariants as answers
use Rattle.snap_account.specs.declared.account.Answered.{Answered}
use Rattle.snap_account.specs.Calls.{Mem}
use Rattle.snap_account.specs.Drawn.{drawn_by, drawn_in}
use Rattle.snap_account.specs.Rule.{clock}
use Rattle.snap_account.proofs.Accounts.{rec_with}
use Rattle.snap_account.proofs.Lists.{mem_split, mem_left, mem_one, mem_right, one_same}
use Rattle.snap_board.specs.History.{Stamped, event_stamps}
use Rattle.snap_board.proofs.DeskEvents.{desk_events, event_stamp, op_events}
use Rattle.snap_board.proofs.Ordering.{in_order_of}
use Rattle.snap_board.proofs.Stamps.{Stamp}
use Rattle.snap_record.specs.declared.plan.Step.{Step}
use Rattle.snap_record.specs.declared.plan.Step.TheVariants.{Store, View, Scan}
use Rattle.snap_record.specs.Choices.{one_scan, scans_in}
use Rattle.snap_record.specs.Plans.{HasNoScans}
use Rattle.snap_record.specs.Recording.{ArePlaces, AreStamped}
use Rattle.snap_record.specs.Scripts.{AreCallsOf, IsCallOf}

-- rising stamps that are all numbers from n up to m
counts_up : (n m : ℕ) (es : List Stamp) → Stamped es → ((y : Stamp) → Mem y es → n ≤ y.0) → ((y : Stamp) → Mem y es → y.0 < m) → ((x : ℕ) → n ≤ x → x < m → (y : Stamp) × Mem y es × (y.0 ≡ x))
    → (k : ℕ) → k < length (event_stamps es) → slice_index (event_stamps es) k ≡ n + k
counts_up n m [] s low high all k lt = absurd (omega arith)
counts_up n m (e ∷ es) s low high all k lt =
    at (counts_up (suc n) m es s.1 (λ y q. let r = s.0 y q in let f = first in omega arith) (λ y q. high y (inr q)) rest) k lt
  where
    first : e.0 ≡ n
    first =
        let l = low e (inl refl) in let h = high e (inl refl) in
        let t = all n (omega arith) (omega arith) in
        ⊎_elim (λ (is : e ≡ t.0). ap (λ (z : Stamp). z.0) is ∙ t.2) (λ q. let r = s.0 t.0 q in let z = t.2 in absurd (omega arith)) t.1

    rest : (x : ℕ) → suc n ≤ x → x < m → (y : Stamp) × Mem y es × (y.0 ≡ x)
    rest x le less =
        let t = all x (omega arith) less in
        ⊎_elim (λ (is : e ≡ t.0). let z = ap (λ (z : Stamp). z.0) is ∙ t.2 in let f = first in absurd (omega arith)) (λ q. (t.0, q, t.2)) t.1

    at : ((j : ℕ) → j < length (event_stamps es) → slice_index (event_stamps es) j ≡ suc n + j) → (k : ℕ) → k < length (event_stamps (e ∷ es)) → slice_index (event_stamps (e ∷ es)) k ≡ n + k
    at later zero less = let f = first in omega arith
    at later (suc k) less = let r = later k (omega arith) in omega arith

-- a call that is no scan draws the stamps of its two events alone
two_ticks : (d : ℕ) (s : Step) (b : ℕ) (ms : List ℕ) (e : ℕ) (o : Answer) → IsCallOf s (rec_with b ms e o) → one_scan s ≡ 0 → (x : ℕ) → Mem x (b ∷ ms ++ e ∷ []) → (y : Stamp) × Mem y (op_events d b e o) × (y.0 ≡ x)
two_ticks d (Scan tries) b ms e o h none x m = absurd (omega (arith, none))
two_ticks d (Store v) b ms e (answers.Stored n u) h none x m = ⊎_elim
    (λ is. (_, inl refl, is))
    (λ q. (_, inr (inl refl), mem_one x e q))
    (subst (λ (l : List ℕ). Mem x (b ∷ l ++ e ∷ [])) h.1 m)
two_ticks d (Store v) b ms e (answers.Viewed xs) h none x m = absurd h
two_ticks d (Store v) b ms e (answers.Scanned t xs) h none x m = absurd h
two_ticks d (Store v) b ms e (answers.Interfered n xs ys) h none x m = absurd h
two_ticks d View b ms e (answers.Stored n u) h none x m = absurd h
two_ticks d View b ms e (answers.Viewed xs) h none x m = ⊎_elim
    (λ is. (_, inl refl, is))
    (λ q. (_, inr (inl refl), mem_one x e q))
    (subst (λ (l : List ℕ). Mem x (b ∷ l ++ e ∷ [])) h m)
two_ticks d View b ms e (answers.Scanned t xs) h none x m = absurd h
two_ticks d View b ms e (answers.Interfered n xs ys) h none x m = absurd h

all_ticks : (d : ℕ) (steps : List Step) (rs : List Answered) → AreCallsOf steps rs → scans_in steps ≡ 0 → (x : ℕ) → Mem x (drawn_in rs) → (y : Stamp) × Mem y (desk_events d rs) × (y.0 ≡ x)
all_ticks d [] [] h none x m = absurd m
all_ticks d [] (r ∷ rs) h none x m = absurd h
all_ticks d (s ∷ steps) [] h none x m = absurd h
all_ticks d (s ∷ steps) (r ∷ rs) h none x m = ⊎_elim
    (λ q. let t = two_ticks d s r.begun r.middles r.ended r.op h.0 (omega (arith, none)) x q in (t.0, mem_left (op_events d r.begun r.ended r.op) (desk_events d rs) t.0 t.1, t.2))
    (λ q. let t = all_ticks d steps rs h.1 (omega (arith, none)) x q in (t.0, mem_right (op_events d r.begun r.ended r.op) (desk_events d rs) t.0 t.1, t.2))
    (mem_split (drawn_by r) (drawn_in rs) x m)

times_mem : (x : ℕ) (xs : List ℕ) → 1 ≤ times x xs → Mem x xs
times_mem x [] le = absurd (omega arith)
times_mem x (y ∷ xs) le = ⊎_elim (λ z. inr (times_mem x xs (omega arith))) (λ (is : y ≡ x). inl is) (one_same y x)

someone : (x : ℕ) (hand : List Account) → 1 ≤ total (λ (a : Account). times x (drawn_in a.calls)) hand → (a : Account) × Mem a hand × Mem x (drawn_in a.calls)
someone x [] le = absurd (omega arith)
someone x (a ∷ hand) le = one (λ more. someone x hand more) (times x (drawn_in a.calls)) refl
  where
    one : (1 ≤ total (λ (c : Account). times x (drawn_in c.calls)) hand → (c : Account) × Mem c hand × Mem x (drawn_in c.calls)) → (n : ℕ) → times x (drawn_in a.calls) ≡ n → (c : Account) × Mem c (a ∷ hand) × Mem x (drawn_in c.calls)
    one later zero is = let r = later (omega arith) in (r.0, inr r.1, r.2)
    one later (suc n) is = (a, inl refl, times_mem x (drawn_in a.calls) (omega arith))

once_here : (x n : ℕ) → x < n → once_below x n ≡ 1
once_here x n lt = grind (arith, nat_tests)

pub places : (scripts : List (List Step)) (history : List Event) (stamps : List ℕ) → AreStamped scripts history stamps → HasNoScans scripts → ArePlaces stamps
places scripts history stamps h none =
    let order = in_order_of h.accounts h.timeline h.merged in
    subst ArePlaces (sym h.stamps_are) (λ k short. counts_up 0 (clock h.accounts) h.timeline order.stamped (λ y m. omega arith)
    (λ y m. let o = order.only y m in h.closed.below o.0 o.1 y.0 (mem_left _ _ y.0 (event_stamp o.0.desk o.0.calls y o.2).0))
    (λ x low lt.
    let a = someone x h.accounts (let o = h.ticks.once x in let e = once_here x (clock h.accounts) lt in omega arith) in
    let t = all_ticks a.0.desk (slice_index_or scripts a.0.desk []) a.0.calls (h.calls a.0 a.1) (none a.0.desk) x a.2 in
    (t.0, order.all a.0 a.1 t.0 t.1, t.2))
    k short ∙ (let z : 0 + k ≡ k = omega arith in z))
