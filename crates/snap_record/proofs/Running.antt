-- The workers of a recorder one by one: they start, run their scripts and give their desks back.
use Rattle.std.proofs.Common.{◌≡◌, ℕ, zero, suc, ◌+◌, ◌<◌, ◌≤◌, ◌==◌, Bool, true, false, cond, Option, Some, Result, Ok, Err, List, [], ◌∷◌, ◌++◌, length, map, get_or, eq-eqb, sym, refl, ap, ◌∙◌, subst, inl, inr, ⊎_elim, arith, length-append}
use Rattle.std.specs.Prelude.{find, IfOk, IsErr, IsSome, MatchResult}
use Rattle.std.specs.declared.alloc.AllocError.{AllocError}
use Rattle.std.specs.declared.alloc.Global.{Global}
use Rattle.std.proofs.lemmas.List.{get_or_append_left, get_or_push}
use Rattle.std.proofs.lemmas.Bool.Decides.{eqb_tells}
use Rattle.std.proofs.lemmas.Result.{IfOk-from_err, IfOk-weaker}
use Rattle.crossbeam_queue.specs.SegTies.{SegId}
use Rattle.snap_core.specs.Sums.{total}
use Rattle.snap_account.specs.declared.account.Account.{Account}
use Rattle.snap_board.specs.Boards.{DeskView}
use Rattle.snap_record.specs.declared.plan.Step.{Step}
use Rattle.snap_board.specs.declared.record.Record.{Record}
use Rattle.snap_account.specs.Calls.{Mem}
use Rattle.snap_record.specs.Choices.{views_in}
use Rattle.snap_record.specs.Delivery.{of_worker, AreBelow}
use Rattle.snap_board.specs.Desks.{account, records, records_in, records_at, ticks, lost, lost_in, collects, collects_in}
use Rattle.snap_account.specs.Seats.{answered_of, desk_of, ticks_of}
use Rattle.snap_record.specs.Plans.{steps_in}
use Rattle.snap_account.specs.Plays.{only_first}
use Rattle.snap_record.specs.inside.Recording.{DidScripts}
use Rattle.snap_board.specs.Settled.{falling}
use Rattle.snap_record.specs.Relays.{SenderView, AreNew, HasPlaces, TookAll}
use Rattle.snap_account.specs.Rule.{newcomers}
use Rattle.snap_record.specs.Scripts.{AreCallsOf}
use Rattle.snap_record.specs.inside.Scripts.{DidSome}
use Rattle.snap_record.specs.inside.Workers.{EachAt, IsWorkerOf, IsUnused, AreUnused, HasRun, HaveRun, HaveDone, HaveClosed}
use Rattle.snap_record.specs.declared.worker.Recorder.{Recorder}
use Rattle.snap_record.specs.declared.worker.Worker.{Worker}
use Rattle.snap_record.specs.declared.worker.Ran.{Ran}
use Rattle.snap_record.proofs.ByDesk.{total_desks, total_more}
use Rattle.snap_board.proofs.Accounts.{hand_low}
use Rattle.snap_record.proofs.Planning.{left_short, steps_each}

module _ {X : Type 0} (P : ℕ → X → Type 0) where
  pub each_push : (xs : List X) (x : X) → EachAt P xs → P (length xs) x → EachAt P (xs ++ x ∷ [])
  each_push xs x old new k d lt = ⊎_elim
      (λ e. subst (P k) (sym (get_or_push xs x d k (sym e.1))) (subst (λ i. P i x) (sym e.1) new))
      (λ e. subst (P k) (sym (get_or_append_left xs (x ∷ []) d k (omega (arith, lt, e.1, length-append xs (x ∷ []))))) (old k d (omega (arith, lt, e.1, length-append xs (x ∷ [])))))
      (eqb_tells k (length xs))

  pub each_last : (all rest : List X) (x : X) → EachAt P all → all ≡ rest ++ x ∷ [] → P (length rest) x
  each_last all rest x h is =
      subst (P (length rest)) (get_or_push rest x x (length rest) refl) (subst (EachAt P) is h (length rest) x (omega (arith, length-append rest (x ∷ []))))

  pub each_front : (all rest : List X) (x : X) → EachAt P all → all ≡ rest ++ x ∷ [] → EachAt P rest
  each_front all rest x h is k d lt =
      subst (P k) (get_or_append_left rest (x ∷ []) d k lt) (subst (EachAt P) is h k d (omega (arith, lt, length-append rest (x ∷ []))))

pub unused_push : (r : Recorder) (n : ℕ) (ws : List Worker) (w : Worker) → AreUnused r n ws → IsWorkerOf r w → IsUnused w → w.desk.desk + length ws + 1 ≡ n → AreUnused r n (ws ++ w ∷ [])
unused_push r n ws w old of_recorder unused at = each_push (λ k x. IsWorkerOf r x × IsUnused x × (x.desk.desk + k + 1 ≡ n)) ws w old (of_recorder, unused, at)

pub unused_last : (r : Recorder) (n : ℕ) (ws rest : List Worker) (w : Worker) → AreUnused r n ws → ws ≡ rest ++ w ∷ [] → IsWorkerOf r w × IsUnused w × (w.desk.desk + length rest + 1 ≡ n)
unused_last r n ws rest w = each_last (λ k x. IsWorkerOf r x × IsUnused x × (x.desk.desk + k + 1 ≡ n)) ws rest w

pub unused_front : (r : Recorder) (n : ℕ) (ws rest : List Worker) (w : Worker) → AreUnused r n ws → ws ≡ rest ++ w ∷ [] → AreUnused r n rest
unused_front r n ws rest w = each_front (λ k x. IsWorkerOf r x × IsUnused x × (x.desk.desk + k + 1 ≡ n)) ws rest w

-- each worker's answer is what its script's run gives
pub have_run : (r : Recorder) (scripts : List (List Step)) (ws : List Worker) (rans : List Ran) → AreUnused r (length scripts) ws → length rans ≡ length ws
    → ((k : ℕ) (x : Ran) → k < length ws → (w : Worker) × ((other : Worker) → get_or ws k other ≡ w) × HasRun r w.desk.desk (get_or scripts w.desk.desk []) (get_or rans k x)) → HaveRun r scripts rans
have_run r scripts ws rans unused same each k x lt =
    let e = each k x (omega (arith, lt, same)) in
    let u = unused k e.0 (omega (arith, lt, same)) in
    let at = ap (λ (w : Worker). w.desk.desk) (e.1 e.0) in
    (subst (λ d. HasRun r d (get_or scripts d []) (get_or rans k x)) (sym e.2.desk) e.2, omega (arith, u.2, at, e.2.desk))

pub run_push : (r : Recorder) (scripts : List (List Step)) (rans : List Ran) (x : Ran) (d : ℕ) → HaveRun r scripts rans → HasRun r d (get_or scripts d []) x → d + length rans + 1 ≡ length scripts → HaveRun r scripts (rans ++ x ∷ [])
run_push r scripts rans x d old new at =
    each_push (λ k y. HasRun r y.worker.desk.desk (get_or scripts y.worker.desk.desk []) y × (y.worker.desk.desk + k + 1 ≡ length scripts)) rans x old
    (subst (λ z. HasRun r z (get_or scripts z []) x) (sym new.desk) new, omega (arith, at, new.desk))

-- what holds of the workers that ran, if it holds of those of other threads with one after them
pub one_behind : {V W : Type 0} (others_of : V → List Ran) (all_of : W → List Ran) (P : List Ran → Type 0) (own : Ran) (others : Result V AllocError) (result : Result W AllocError) → IfOk others (λ v. P (others_of v ++ own ∷ []))
    → MatchResult others (λ v. IfOk result (λ w. all_of w ≡ others_of v ++ own ∷ [])) (λ _. IsErr result) → IfOk result (λ w. P (all_of w))
one_behind others_of all_of P own (Ok v) result h e = IfOk-weaker result _ _ (λ w is. subst P (sym is) h) e
one_behind others_of all_of P own (Err error) result h e = IfOk-from_err result _ e

pub run_last : (r : Recorder) (scripts : List (List Step)) (rans rest : List Ran) (x : Ran) → HaveRun r scripts rans → rans ≡ rest ++ x ∷ []
    → HasRun r x.worker.desk.desk (get_or scripts x.worker.desk.desk []) x × (x.worker.desk.desk + length rest + 1 ≡ length scripts)
run_last r scripts rans rest x = each_last (λ k y. HasRun r y.worker.desk.desk (get_or scripts y.worker.desk.desk []) y × (y.worker.desk.desk + k + 1 ≡ length scripts)) rans rest x

pub run_front : (r : Recorder) (scripts : List (List Step)) (rans rest : List Ran) (x : Ran) → HaveRun r scripts rans → rans ≡ rest ++ x ∷ [] → HaveRun r scripts rest
run_front r scripts rans rest x = each_front (λ k y. HasRun r y.worker.desk.desk (get_or scripts y.worker.desk.desk []) y × (y.worker.desk.desk + k + 1 ≡ length scripts)) rans rest x

-- of new senders the last one has the highest place
pub new_front : (queue : SegId Global) (m : ℕ) (senders rest : List SenderView) (s : SenderView) → AreNew queue (suc m) senders → senders ≡ rest ++ s ∷ [] → AreNew queue m rest × (s ≡ record { queue = queue; place = m; sent = [] })
new_front queue m senders rest s new is = (
  record {
    count = size;
    each = λ w other lt. sym (get_or_append_left rest (s ∷ []) other w (omega (arith, lt, size))) ∙ ap (λ l. get_or l w other) (sym is) ∙ new.each w other (omega (arith, lt));
  },
  sym (get_or_push rest s s m size) ∙ ap (λ l. get_or l m s) (sym is) ∙ new.each m s (omega arith),
)
  where
    size : length rest ≡ m
    size = let a = ap length is in let b = length-append rest (s ∷ []) in omega (arith, a, b, new.count)

pub none_new : (m : ℕ) → [] ≡ newcomers (suc m) → ⊥
none_new m e = cc

-- a desk that comes out of new ones
pub new_desk : (d : DeskView) (m : ℕ) (hand : List Account) → hand ≡ newcomers (suc m) → account d ∷ [] ≡ only_first hand → (d.desk ≡ m) × (records d ≡ []) × (ticks d ≡ 0) × (lost d ≡ []) × (collects d ≡ 0) × (d.calls ≡ [])
new_desk d m hand is out =
    let first = out ∙ ap only_first is in
    let calls = ap answered_of first in (ap desk_of first, ap (records_at d.desk) calls, ap ticks_of first, ap lost_in calls, ap collects_in calls, calls)

-- one more worker gives its desk back
pub one_done : (scripts : List (List Step)) (accounts : List Account) (senders : List SenderView) (interfered more : ℕ) (s : SenderView) (a : Account) → HaveDone scripts accounts senders interfered
    → a.desk ≡ length senders → s.place ≡ a.desk → records_in a ≡ s.sent → DidSome a.desk (get_or scripts a.desk []) (records_in a) (lost_in a.calls) → collects_in a.calls ≡ views_in (get_or scripts a.desk []) → AreCallsOf (get_or scripts a.desk []) a.calls
    → more ≡ length (lost_in a.calls) → HaveDone scripts (a ∷ accounts) (senders ++ s ∷ []) (interfered + more)
one_done scripts accounts senders interfered more s a h next place sent did views calls count = record {
  desks = (λ i. next i ∷ h.desks i) ∙ ap falling longer;
  theirs = record {
    did = λ c m. ⊎_elim (λ e. subst (λ (z : Account). DidSome z.desk (get_or scripts z.desk []) (records_in z) (lost_in z.calls)) e did) (λ q. h.theirs.did c q) m;
    views = λ c m. ⊎_elim (λ e. subst (λ (z : Account). collects_in z.calls ≡ views_in (get_or scripts z.desk [])) e views) (λ q. h.theirs.views c q) m;
    left = let l = h.theirs.left in omega (arith, l, count);
    calls = λ c m. ⊎_elim (λ e. subst (λ (z : Account). AreCallsOf (get_or scripts z.desk []) z.calls) e calls) (λ q. h.theirs.calls c q) m;
  };
  places = λ w other lt. ⊎_elim
      (λ e. ap (λ (z : SenderView). z.place) (get_or_push senders s other w (sym e.1)) ∙ place ∙ next ∙ sym e.1)
      (λ e. let low : w < length senders = omega (arith, lt, e.1, length-append senders (s ∷ [])) in ap (λ (z : SenderView). z.place) (get_or_append_left senders (s ∷ []) other w low) ∙ h.places w other low)
      (eqb_tells w (length senders));
  sent = λ c m other. ⊎_elim
      (λ e. ap records_in (sym e) ∙ sent ∙ ap (λ (z : SenderView). z.sent) (sym (get_or_push senders s other c.desk (sym (ap (λ (z : Account). z.desk) (sym e) ∙ next)))))
      (λ q. h.sent c q other ∙ ap (λ (z : SenderView). z.sent) (sym (get_or_append_left senders (s ∷ []) other c.desk (hand_low (length senders) accounts h.desks c q))))
      m;
}
  where
    longer : suc (length senders) ≡ length (senders ++ s ∷ [])
    longer = let l = length-append senders (s ∷ []) in omega (arith, l)

-- with one more script, no more scans have no record than the plan has steps
pub few_left : (scripts : List (List Step)) (accounts : List Account) (senders : List SenderView) (interfered : ℕ) (rs : List Record) (more : List ℕ) (m : ℕ) → HaveDone scripts accounts senders interfered
    → m ≡ length senders → m < length scripts → DidSome m (get_or scripts m []) rs more → interfered + length more ≤ steps_in scripts
few_left scripts accounts senders interfered rs more m h is lt did =
    let size : ℕ → ℕ = λ p. length (get_or scripts p []) in
    let most = below (length senders) accounts h.desks (λ a ma. left_short a.desk (get_or scripts a.desk []) (records_in a) (lost_in a.calls) (h.theirs.did a ma)) in
    let last = left_short m (get_or scripts m []) rs more did in
    let all = total_more (suc m) (length scripts) size (omega arith) in
    let steps = steps_each scripts in
    let same = ap (λ k. total size (falling k)) is in
    let l = h.theirs.left in omega (arith, most, last, all, steps, l, same)
  where
    below : (n : ℕ) (hand : List Account) → map (λ (a : Account). a.desk) hand ≡ falling n → ((a : Account) → Mem a hand → length (lost_in a.calls) ≤ length (get_or scripts a.desk []))
        → total (λ (a : Account). length (lost_in a.calls)) hand ≤ total (λ p. length (get_or scripts p [])) (falling n)
    below n hand e le = let same = total_desks n hand (λ (a : Account). length (get_or scripts a.desk [])) (λ p. length (get_or scripts p [])) e (λ a ma. refl) in let r = sum_le hand le in omega (arith, same, r)
      where
        sum_le : (l : List Account) → ((a : Account) → Mem a l → length (lost_in a.calls) ≤ length (get_or scripts a.desk [])) → total (λ (a : Account). length (lost_in a.calls)) l ≤ total (λ (a : Account). length (get_or scripts a.desk [])) l
        sum_le [] le = omega arith
        sum_le (x ∷ l) le = let o = le x (inl refl) in let r = sum_le l (λ a ma. le a (inr ma)) in omega (arith, o, r)

-- a sender stands at each place
pub all_places : (scripts : List (List Step)) (senders : List SenderView) (interfered n : ℕ) → n ≡ length scripts → HaveClosed scripts senders interfered → HasPlaces senders n
all_places scripts senders interfered n is closed p lt = there senders (λ s. s.place == p) p (omega (arith, lt, is, closed.count)) (λ other low. eq-eqb _ p (closed.done.places p other low))
  where
    either : (b : Bool) (s : SenderView) (rest : Option SenderView) → IsSome rest → IsSome (cond b (Some s) rest)
    either true s rest is = refl
    either false s rest is = is

    there : (xs : List SenderView) (test : SenderView → Bool) (k : ℕ) → k < length xs → ((other : SenderView) → k < length xs → test (get_or xs k other) ≡ true) → IsSome (find test xs)
    there [] test k low is = absurd (omega arith)
    there (x ∷ xs) test zero low is = subst (λ b. IsSome (cond b (Some x) (find test xs))) (sym (is x low)) refl
    there (x ∷ xs) test (suc k) low is = either (test x) x (find test xs) (there xs test k (omega arith) (λ other l. is other (omega arith)))

-- the records that were taken are those of the workers
pub did_scripts : (queue : SegId Global) (scripts : List (List Step)) (senders : List SenderView) (all : List Record) (interfered n : ℕ) → n ≡ length scripts → HaveClosed scripts senders interfered → TookAll n all senders
    → DidScripts scripts all interfered
did_scripts queue scripts senders all interfered n is closed took = record {
  accounts = closed.accounts;
  settled = closed.settled;
  scans = closed.scans;
  ticks = closed.ticks;
  theirs = closed.done.theirs;
  own = λ a ma.
      let low = hand_low (length senders) closed.accounts closed.done.desks a ma in
      let other : SenderView = record { queue = queue; place = 0; sent = [] } in
      closed.done.sent a ma other ∙ sym (took.each a.desk other low) ∙ ap (λ p. of_worker p all) (closed.done.places a.desk other low);
  no_other = subst (λ k. AreBelow k all) is took.no_other;
}
