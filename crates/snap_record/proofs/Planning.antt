-- Plans, and what their scripts leave in a history.
use Rattle.std.proofs.Common.{◌≡◌, ℕ, zero, suc, ◌+◌, ◌-◌, ◌*◌, ◌<◌, ◌≤◌, ◌&&◌, not, nat_le, nat_lt, Bool, true, false, cond, ◌==◌, if◌then◌else◌, List, [], ◌∷◌, ◌++◌, length, get_or, None, Some, refl, sym, ap, subst, arith, length-append, le-ltb, ◌∙◌, append_assoc, append-nil}
use native.Mathlib.Decide.{dec_le}
use Rattle.std.proofs.Math.Nat.{suc-mul, mul-le-mul_right}
use Rattle.std.proofs.lemmas.Bool.{le-leb, ltb-false}
use Rattle.snap_core.specs.declared.event.Event.{Event}
use Rattle.snap_core.specs.Events.{events_of}
use Rattle.snap_record.specs.declared.plan.Step.{Step}
use Rattle.snap_record.specs.declared.plan.Step.TheVariants.{Store, View, Scan}
use Rattle.snap_record.specs.declared.plan.PlanRefusal.{PlanRefusal}
use Rattle.snap_record.specs.declared.plan.PlanRefusal.TheVariants.{Workers, TooLong}
use Rattle.snap_board.specs.declared.record.Record.{Record}
use Rattle.snap_board.specs.declared.record.RecordedOp.{RecordedOp}
use Rattle.snap_board.specs.declared.record.RecordedOp.TheVariants as Kind
use Rattle.snap_core.specs.Sums.{total}
use Rattle.snap_record.specs.Choices.{chosen, left_out, LeavesScans, IsScan, tries_of, one_store, stores_in, stores_but}
use Rattle.snap_account.specs.declared.account.Account.{Account}
use Rattle.snap_account.specs.declared.account.Answered.{Answered}
use Rattle.snap_account.specs.declared.account.Answer.{Answer}
use Rattle.snap_account.specs.declared.account.Answer.TheVariants.{Stored, Viewed, Scanned, Interfered}
use Rattle.snap_account.specs.Calls.{Mem, op_writes, writes_in}
use Rattle.snap_board.specs.Desks.{op_records, records_at, records_in, lost_in}
use Rattle.snap_board.proofs.Climbing.{few_tries}
use Rattle.snap_board.specs.Settled.{falling}
use Rattle.snap_record.specs.Plans.{steps_in, plan_refusal, ticks_within, worker_limit, are_workers, each_draws, draws_within, last_step, round_script, rounds_scripts, AreWorkers, AreRoundsWithin, IsRun, HasScripts}
use Rattle.snap_record.specs.inside.Scripts.{IsOpOf, DidScript, DidSome}
use Rattle.snap_board.specs.History.{stamped_events, events_in, begin_of, end_of}
use Rattle.snap_record.specs.Delivery.{of_worker}
use Rattle.snap_record.specs.inside.Recording.{DidScripts, IsTold}
use Rattle.snap_record.proofs.ByDesk.{total_desks, total_below, total_first}
use Rattle.snap_board.proofs.Accounts.{hand_low, hand_one, hand_there}
use Rattle.snap_record.proofs.ByWorker.{counted}
use Rattle.snap_record.proofs.Scripting.{both, draws_more}

pub none_some : (r : PlanRefusal) → None ≡ Some r → ⊥
none_some r e = cc

round_length : (scan : Bool) (w r : ℕ) → length (round_script scan w r) ≡ 2 * r
round_length scan w zero = refl
round_length scan w (suc r) = let l = length-append (round_script scan w r) (Store (w * 65536 + r + 1) ∷ last_step scan ∷ []) in let i = round_length scan w r in omega arith

-- a round's steps draw no more ticks than a scan's
round_draws : (scan : Bool) (w r : ℕ) (rest : List Step) (room : ℕ) → 68 * r ≤ room → draws_within (room - 68 * r) rest ≡ true → draws_within room (round_script scan w r ++ rest) ≡ true
round_draws scan w zero rest room le e = let z : room - 68 * 0 ≡ room = omega arith in ap (λ k. draws_within k rest) (sym z) ∙ e
round_draws scan w (suc r) rest room le e =
    let split : (round_script scan w r ++ Store (w * 65536 + r + 1) ∷ last_step scan ∷ []) ++ rest ≡ round_script scan w r ++ Store (w * 65536 + r + 1) ∷ last_step scan ∷ rest = append_assoc (round_script scan w r) (Store (w * 65536 + r + 1) ∷ last_step scan ∷ []) rest in
    ap (draws_within room) split ∙ round_draws scan w r (Store (w * 65536 + r + 1) ∷ last_step scan ∷ rest) room (omega arith) (two scan)
  where
    two : (b : Bool) → draws_within (room - 68 * r) (Store (w * 65536 + r + 1) ∷ last_step b ∷ rest) ≡ true
    two false =
        let one : nat_le 2 (room - 68 * r) ≡ true = le-leb 2 (room - 68 * r) (omega arith) in
        let other : nat_le 2 (room - 68 * r - 2) ≡ true = le-leb 2 (room - 68 * r - 2) (omega arith) in
        let last = draws_more (room - 68 * suc r) (room - 68 * r - 2 - 2) rest (omega arith) e in
        λ k. one k && (other k && last k)
    two true =
        let one : nat_le 2 (room - 68 * r) ≡ true = le-leb 2 (room - 68 * r) (omega arith) in
        let other : nat_le 66 (room - 68 * r - 2) ≡ true = le-leb 66 (room - 68 * r - 2) (omega arith) in
        let last = draws_more (room - 68 * suc r) (room - 68 * r - 2 - 66) rest (omega arith) e in
        λ k. one k && (other k && last k)

round_within : (most : ℕ) (scan : Bool) (w r : ℕ) → 68 * r ≤ most → draws_within most (round_script scan w r) ≡ true
round_within most scan w r le = ap (draws_within most) (sym (append-nil (round_script scan w r))) ∙ round_draws scan w r [] most le refl

rounds_length : (scan : Bool) (w r : ℕ) → length (rounds_scripts scan w r) ≡ w
rounds_length scan zero r = refl
rounds_length scan (suc w) r = let l = length-append (rounds_scripts scan w r) (round_script scan w r ∷ []) in let i = rounds_length scan w r in omega arith

steps_append : (xs ys : List (List Step)) → steps_in (xs ++ ys) ≡ steps_in xs + steps_in ys
steps_append [] ys = omega arith
steps_append (x ∷ xs) ys = let r = steps_append xs ys in omega arith

rounds_steps : (scan : Bool) (w r : ℕ) → 2 * steps_in (rounds_scripts scan w r) ≡ w * (4 * r)
rounds_steps scan zero r = omega arith
rounds_steps scan (suc w) r =
    let l = steps_append (rounds_scripts scan w r) (round_script scan w r ∷ []) in let i = rounds_steps scan w r in
    let o = round_length scan w r in let m = suc-mul w (4 * r) in omega (arith, l, i, o, m)

rounds_draw : (most : ℕ) (scan : Bool) (w r : ℕ) → 68 * r ≤ most → (rest : List (List Step)) → each_draws most rest ≡ true → each_draws most (rounds_scripts scan w r ++ rest) ≡ true
rounds_draw most scan zero r le rest e = e
rounds_draw most scan (suc w) r le rest e =
    ap (each_draws most) (append_assoc (rounds_scripts scan w r) (round_script scan w r ∷ []) rest)
    ∙ rounds_draw most scan w r le (round_script scan w r ∷ rest) (let x = round_within most scan w r le in λ k. x k && e k)

-- so many workers and rounds are a plan
pub rounds_fit : (limit : ℕ) (scan : Bool) (w r : ℕ) → AreWorkers w → AreRoundsWithin limit r → plan_refusal limit (ticks_within limit) (rounds_scripts scan w r) ≡ None
rounds_fit limit scan w r few le =
    let steps = rounds_steps scan w r in
    let lists = rounds_length scan w r in
    let draws = ap (each_draws (ticks_within limit)) (sym (append-nil (rounds_scripts scan w r))) ∙ rounds_draw (ticks_within limit) scan w r (omega (arith, le.1)) [] refl in
    let most = mul-le-mul_right (4 * r) few.1 in
    let low = le-leb 2 (length (rounds_scripts scan w r)) (omega (arith, few.0, lists)) in
    let high = le-leb (length (rounds_scripts scan w r)) worker_limit (omega (arith, few.1, lists)) in
    let fits = le-ltb limit (2 * steps_in (rounds_scripts scan w r)) (omega (arith, steps, most, le.1)) in
    λ k. if not (low k && high k) then Some Workers else if fits k then Some TooLong else if draws k then None else Some TooLong

accepted_by : (few long draws : Bool) → (if not few then Some Workers else if long then Some TooLong else if draws then None else Some TooLong) ≡ None → (long ≡ false) × (draws ≡ true)
accepted_by false long draws e = absurd (none_some Workers (sym e))
accepted_by true true draws e = absurd (none_some TooLong (sym e))
accepted_by true false true e = (refl, refl)
accepted_by true false false e = absurd (none_some TooLong (sym e))

-- a plan's scripts are short, and each draws few ticks
pub accepted : (limit : ℕ) (ss : List (List Step)) → plan_refusal limit (ticks_within limit) ss ≡ None → (2 * steps_in ss ≤ limit) × (each_draws (ticks_within limit) ss ≡ true)
accepted limit ss e = let a = accepted_by (are_workers (length ss)) (nat_lt limit (2 * steps_in ss)) (each_draws (ticks_within limit) ss) e in (ltb-false limit (2 * steps_in ss) a.0, a.1)

pub script_short : (ss : List (List Step)) (w : ℕ) → length (get_or ss w []) ≤ steps_in ss
script_short [] w = omega arith
script_short (s ∷ ss) zero = omega arith
script_short (s ∷ ss) (suc w) = let r = script_short ss w in omega arith

pub script_draws : (most : ℕ) (ss : List (List Step)) (w : ℕ) → each_draws most ss ≡ true → draws_within most (get_or ss w []) ≡ true
script_draws most [] w e = refl
script_draws most (s ∷ ss) zero e = (both (draws_within most s) (each_draws most ss) e).0
script_draws most (s ∷ ss) (suc w) e = script_draws most ss w (both (draws_within most s) (each_draws most ss) e).1

-- what a script did stands in the events of its records
pub did_run : (d : ℕ) (steps : List Step) (rs : List Record) → DidScript d steps rs → IsRun d steps (events_in (stamped_events rs))
did_run d [] [] did = tt
did_run d [] (r ∷ rs) did = absurd did
did_run d (s ∷ steps) [] did = absurd did
did_run d (s ∷ steps) (r ∷ rs) did = go s r.op did.0.1 (did_run d steps rs did.1)
  where
    go : (t : Step) (o : RecordedOp) → IsOpOf d t o → IsRun d steps (events_in (stamped_events rs)) → IsRun d (t ∷ steps) (begin_of r.process o ∷ end_of r.process o ∷ events_in (stamped_events rs))
    go (Store v) (Kind.Stored e) is rest = (is.0, is.1, rest)
    go (Store v) (Kind.Viewed es) is rest = absurd is
    go View (Kind.Stored e) is rest = absurd is
    go View (Kind.Viewed es) is rest = rest
    go (Scan tries) (Kind.Stored e) is rest = absurd is
    go (Scan tries) (Kind.Viewed es) is rest = rest

pub did_length : (d : ℕ) (steps : List Step) (rs : List Record) → DidScript d steps rs → length rs ≡ length steps
did_length d [] [] did = refl
did_length d [] (r ∷ rs) did = absurd did
did_length d (s ∷ steps) [] did = absurd did
did_length d (s ∷ steps) (r ∷ rs) did = ap suc (did_length d steps rs did.1)

chosen_short : (bs : List Bool) (ss : List Step) → length (chosen bs ss) ≤ length ss
chosen_short bs [] = omega arith
chosen_short [] (s ∷ ss) = let r = chosen_short [] ss in omega arith
chosen_short (true ∷ bs) (s ∷ ss) = let r = chosen_short bs ss in omega arith
chosen_short (false ∷ bs) (s ∷ ss) = let r = chosen_short bs ss in omega arith

left_few : (bs : List Bool) (ss : List Step) → length (left_out bs ss) ≤ length ss
left_few bs [] = omega arith
left_few [] (s ∷ ss) = omega arith
left_few (true ∷ bs) (s ∷ ss) = let r = left_few bs ss in omega arith
left_few (false ∷ bs) (s ∷ ss) = let r = left_few bs ss in let l = length-append (tries_of s) (left_out bs ss) in let o = one s in omega arith
  where
    one : (t : Step) → length (tries_of t) ≤ 1
    one (Store v) = omega arith
    one View = omega arith
    one (Scan t) = omega arith

pub left_short : (d : ℕ) (steps : List Step) (rs : List Record) (lost : List ℕ) → DidSome d steps rs lost → length lost ≤ length steps
left_short d steps rs lost did = let l = left_few did.choice steps in let e = ap length did.left in omega arith

some_short : (d : ℕ) (steps : List Step) (rs : List Record) (lost : List ℕ) → DidSome d steps rs lost → length rs ≤ length steps
some_short d steps rs lost did = let a = did_length d (chosen did.choice steps) rs did.did in let b = chosen_short did.choice steps in omega arith

get_past : (l : List (List Step)) (i : ℕ) → length l ≤ i → get_or l i [] ≡ []
get_past [] i le = refl
get_past (x ∷ l) zero le = absurd (omega arith)
get_past (x ∷ l) (suc i) le = get_past l i (omega arith)

-- how many stores there are
abbrev op_store : RecordedOp → ℕ
op_store (Kind.Stored e) = 1
op_store (Kind.Viewed es) = 0

writes_count : (d : ℕ) (rs : List Answered) → length (writes_in rs) ≡ total (λ (r : Record). op_store r.op) (records_at d rs)
writes_count d [] = refl
writes_count d (r ∷ rs) = one r.op (writes_count d rs)
  where
    one : (o : Answer) → length (writes_in rs) ≡ total (λ (r : Record). op_store r.op) (records_at d rs) → length (op_writes r.begun r.ended o ++ writes_in rs) ≡ total (λ (r : Record). op_store r.op) (op_records d r.begun r.ended o ++ records_at d rs)
    one (Stored n v) e = omega arith
    one (Viewed xs) e = omega arith
    one (Scanned t xs) e = omega arith
    one (Interfered n xs ys) e = e

did_stores : (d : ℕ) (steps : List Step) (rs : List Record) → DidScript d steps rs → total (λ (r : Record). op_store r.op) rs ≡ stores_in steps
did_stores d [] [] did = refl
did_stores d [] (r ∷ rs) did = absurd did
did_stores d (s ∷ steps) [] did = absurd did
did_stores d (s ∷ steps) (r ∷ rs) did = let k = did_stores d steps rs did.1 in let o = one s r.op did.0.1 in omega arith
  where
    one : (t : Step) (o : RecordedOp) → IsOpOf d t o → op_store o ≡ one_store t
    one (Store v) (Kind.Stored e) is = refl
    one (Store v) (Kind.Viewed es) is = absurd is
    one View (Kind.Stored e) is = absurd is
    one View (Kind.Viewed es) is = refl
    one (Scan tries) (Kind.Stored e) is = absurd is
    one (Scan tries) (Kind.Viewed es) is = refl

pub all_kept : (l : List Step) → LeavesScans [] l
all_kept [] = tt
all_kept (x ∷ l) = tt

chosen_stores : (bs : List Bool) (ss : List Step) → LeavesScans bs ss → stores_in (chosen bs ss) ≡ stores_in ss
chosen_stores bs [] h = refl
chosen_stores [] (s ∷ ss) h = let r = chosen_stores [] ss (all_kept ss) in omega arith
chosen_stores (true ∷ bs) (s ∷ ss) h = let r = chosen_stores bs ss h.1 in omega arith
chosen_stores (false ∷ bs) (s ∷ ss) h = let r = chosen_stores bs ss h.1 in let o = one s (h.0 refl) in omega arith
  where
    one : (t : Step) → IsScan t → one_store t ≡ 0
    one (Store v) h = absurd h
    one View h = absurd h
    one (Scan tries) h = refl

-- the stores of a desk are those of its script
desk_stores : (a : Account) (d : ℕ) (steps : List Step) (rs : List Record) (lost : List ℕ) → records_in a ≡ rs → DidSome d steps rs lost → length (writes_in a.calls) ≡ stores_in steps
desk_stores a d steps rs lost is did =
    writes_count a.desk a.calls ∙ ap (λ l. total (λ (r : Record). op_store r.op) l) is ∙ did_stores d (chosen did.choice steps) rs did.did ∙ chosen_stores did.choice steps did.scans

module _ (scripts : List (List Step)) (rs : List Record) (history : List Event) (interfered : ℕ) (told : IsTold rs history) (did : DidScripts scripts rs interfered) where
  -- what worker w left in the history
  record OneDid (w : ℕ) : Type 0 where
    pub choice : List Bool
    pub scans : LeavesScans choice (get_or scripts w [])
    pub each : IsRun w (chosen choice (get_or scripts w [])) (events_of w history)
    pub left : (a : Account) → Mem a did.accounts → a.desk ≡ w → left_out choice (get_or scripts w []) ≡ lost_in a.calls
    pub tries : total (λ x. x) (left_out choice (get_or scripts w [])) ≤ stores_but w scripts

  stores_beside : (a : Account) → total (λ (c : Account). cond (c.desk == a.desk) 0 (length (writes_in c.calls))) did.accounts ≡ stores_but a.desk scripts
  stores_beside a =
      total_desks (length scripts) did.accounts (λ (c : Account). cond (c.desk == a.desk) 0 (length (writes_in c.calls))) (λ v. cond (v == a.desk) 0 (stores_in (get_or scripts v []))) did.settled.desks
      (λ c mc. ap (λ k. cond (c.desk == a.desk) 0 k) (desk_stores c c.desk (get_or scripts c.desk []) (records_in c) (lost_in c.calls) refl (did.theirs.did c mc)))

  of_account : (a : Account) → Mem a did.accounts → OneDid a.desk
  of_account a ma =
      let s = did.theirs.did a ma in
      record {
        choice = s.choice;
        scans = s.scans;
        each = subst (IsRun a.desk (chosen s.choice (get_or scripts a.desk []))) (sym (told a.desk ∙ ap (λ l. events_in (stamped_events l)) (sym (did.own a ma)))) (did_run a.desk (chosen s.choice (get_or scripts a.desk [])) (records_in a) s.did);
        left = λ c mc same. s.left ∙ ap (λ (z : Account). lost_in z.calls) (hand_one (length scripts) did.accounts did.settled.desks a c ma mc (sym same));
        tries =
            let f = few_tries (length scripts) did.accounts did.settled did.scans a ma in
            let l = ap (total (λ x. x)) s.left in let b = stores_beside a in omega (arith, f, l, b);
      }

  -- beyond the scripts there is nobody
  nobody : (w : ℕ) → length scripts ≤ w → OneDid w
  nobody w high =
      let none = get_past scripts w high in
      let nothing : left_out [] (get_or scripts w []) ≡ [] = ap (left_out []) none in
      record {
        choice = [];
        scans = subst (λ (ss : List Step). LeavesScans [] ss) (sym none) tt;
        each = subst (λ (z : List Step × List Event). IsRun w z.0 z.1)
            (λ i. (sym (ap (chosen []) none) i, sym (told w ∙ ap (λ l. events_in (stamped_events l)) (did.no_other w high)) i)) tt;
        left = λ c mc same. let low = hand_low (length scripts) did.accounts did.settled.desks c mc in absurd (omega arith);
        tries = let e = ap (total (λ x. x)) nothing in omega (arith, e);
      }

  one_did : (w : ℕ) → OneDid w
  one_did w = at (dec_le (length scripts) w)
    where
      at : Dec (length scripts ≤ w) → OneDid w
      at (yes high) = nobody w high
      at (no low) = let a = hand_there (length scripts) did.accounts did.settled.desks w (omega arith) in subst OneDid a.2 (of_account a.0 a.1)

  -- what the scripts left in a history
  pub has_scripts : HasScripts scripts history interfered
  has_scripts = record {
    choices = λ w. (one_did w).choice;
    scans = λ w. (one_did w).scans;
    each = λ w. (one_did w).each;
    left =
        sym (total_desks (length scripts) did.accounts (λ (a : Account). length (lost_in a.calls)) (λ w. length (left_out (one_did w).choice (get_or scripts w []))) did.settled.desks (λ a ma. sym (ap length ((one_did a.desk).left a ma refl))))
        ∙ did.theirs.left;
    tries = λ w. (one_did w).tries;
  }

-- how many steps there are, script by script
pub steps_each : (scripts : List (List Step)) → steps_in scripts ≡ total (λ p. length (get_or scripts p [])) (falling (length scripts))
steps_each [] = refl
steps_each (s ∷ ss) = let r = steps_each ss in let f = total_first (length ss) (λ p. length (get_or (s ∷ ss) p [])) in omega (arith, r, f)

-- there are no more records than steps
pub few_records : (scripts : List (List Step)) (rs : List Record) (interfered : ℕ) → DidScripts scripts rs interfered → length rs ≤ steps_in scripts
few_records scripts rs interfered did =
    let c = counted (length scripts) rs did.no_other in
    let b = total_below (length scripts) (λ p. length (of_worker p rs)) (λ p. length (get_or scripts p [])) few in
    let s = steps_each scripts in omega (arith, c, b, s)
  where
    few : (p : ℕ) → p < length scripts → length (of_worker p rs) ≤ length (get_or scripts p [])
    few p lt =
        let a = hand_there (length scripts) did.accounts did.settled.desks p lt in
        let s = some_short a.0.desk (get_or scripts a.0.desk []) (records_in a.0) (lost_in a.0.calls) (did.theirs.did a.0 a.1) in
        let l = ap length (did.own a.0 a.1 ∙ ap (λ q. of_worker q rs) a.2) in
        let r = ap (λ q. length (get_or scripts q [])) a.2 in omega (arith, s, l, r)
