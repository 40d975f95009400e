-- A board whose desks are all in is settled, and a board that is opened keeps the rule.
use Rattle.std.proofs.Common.{◌≡◌, ℕ, zero, suc, ◌+◌, ◌*◌, ◌<◌, ◌≤◌, ◌==◌, true, true≢false, List, [], ◌∷◌, ◌++◌, length, map, take, drop, replicate, Option, Some, None, IsSome, sym, refl, ap, ◌∙◌, subst, inl, inr, ⊎_elim, arith, append-nil, take_all}
use mathlib.Core.Option.{some, some-injective, some-ne-none}
use lib.ListN.{get_elem?}
use Rattle.std.specs.Prelude.{slice_index_or}
use Rattle.std.proofs.lemmas.Bool.Decides.{nat_tests}
use Rattle.atomic_table.specs.Table.{State, opening}
use Rattle.snap_account.specs.declared.account.Account.{Account}
use Rattle.snap_account.specs.declared.account.Answered.{Answered}
use Rattle.snap_account.specs.declared.account.Answer.{Answer}
use Rattle.snap_account.specs.declared.account.Answer.TheVariants.{Stored, Viewed, Scanned, Interfered}
use Rattle.snap_account.specs.declared.account.Doing.{Doing}
use Rattle.snap_account.specs.declared.account.Doing.TheVariants.{Idle, Begun, Written, Viewing, Scanning}
use Rattle.snap_board.specs.declared.desk_state.DeskState.{DeskState}
use Rattle.snap_core.specs.Sums.{once_below, one_if, times, total}
use Rattle.snap_account.specs.Calls.{Mem, Write, ViewRecord, Mark, write, mark, op_writes, op_marks, marks_in, all_stamps_in, writes_in, view_records_in, stamps_in, open_stamps, open_marks, open_writes, open_view_records, marks_of, all_stamps, writes_of, view_records_of, stamps_of, in_word}
use Rattle.snap_account.specs.Rule.{Numbered, Rising, clock, newcomer, newcomers, Own, Boarded, code, of_desk}
use Rattle.snap_account.specs.Marks.{Climbs}
use Rattle.snap_account.specs.Seats.{Brief, brief, is_idle}
use Rattle.snap_board.specs.inside.Slots.{desks_in, slot_brief, brief_of, AllIn}
use Rattle.snap_account.specs.Drawn.{drawn, drawn_in, drawn_open}
use Rattle.snap_board.specs.Settled.{falling, Settled, ScansSettled, TicksSettled}
use Rattle.snap_account.proofs.Lists.{mem_split, mem_left, mem_one}
use Rattle.snap_account.proofs.Reading.{looks_over}
use Rattle.snap_account.proofs.Seats.{clock_most}

-- an idle account
pub idle_doing : (o : Doing) → is_idle o ≡ true → o ≡ Idle
idle_doing Idle e = refl
idle_doing (Begun b) e = absurd (true≢false (sym e))
idle_doing (Written b n v) e = absurd (true≢false (sym e))
idle_doing (Viewing b xs) e = absurd (true≢false (sym e))
idle_doing (Scanning s) e = absurd (true≢false (sym e))

pub mem_map : {B : Type 0} (f : Account → B) (l : List Account) (a : Account) → Mem a l → Mem (f a) (map f l)
mem_map f [] a m = m
mem_map f (x ∷ l) a m = ⊎_elim (λ e. inl (ap f e)) (λ q. inr (mem_map f l a q)) m

pub ins_idle : (n : ℕ) (slots : List (Option DeskState)) (x : Brief) → Mem x (desks_in n slots) → x.idle ≡ true
ins_idle zero slots x m = absurd m
ins_idle (suc n) slots x m = ⊎_elim (λ q. one (slice_index_or slots n None) q) (λ q. ins_idle n slots x q) (mem_split (slot_brief n (slice_index_or slots n None)) (desks_in n slots) x m)
  where
    one : (o : Option DeskState) → Mem x (slot_brief n o) → x.idle ≡ true
    one None q = absurd q
    one (Some k) q = ap (λ (z : Brief). z.idle) (sym (mem_one x (brief_of n k) q))

pub ins_all : (n : ℕ) (slots : List (Option DeskState)) → AllIn n slots → map (λ (b : Brief). b.desk) (desks_in n slots) ≡ falling n
ins_all zero slots all = refl
ins_all (suc n) slots all = one (slice_index_or slots n None) (all n (omega arith)) (ins_all n slots (λ d lt. all d (omega arith)))
  where
    one : (o : Option DeskState) → IsSome o → map (λ (b : Brief). b.desk) (desks_in n slots) ≡ falling n → map (λ (b : Brief). b.desk) (slot_brief n o ++ desks_in n slots) ≡ n ∷ falling n
    one None some_in rest = absurd (true≢false (sym some_in))
    one (Some k) some_in rest = ap (λ l. n ∷ l) rest

map_map : (l : List Account) → map (λ (a : Account). a.desk) l ≡ map (λ (b : Brief). b.desk) (map brief l)
map_map [] = refl
map_map (a ∷ l) = ap (λ z. a.desk ∷ z) (map_map l)

total-take : (f : Account → ℕ) (b : List Account) (m : ℕ) (a : Account) → get_elem? b m ≡ some a → total f (take (suc m) b) ≡ f a + total f (take m b)
total-take f [] m a e = absurd (some-ne-none a (sym e))
total-take f (x ∷ b) zero a e = let is : f x ≡ f a = ap f (some-injective _ _ e) in omega arith
total-take f (x ∷ b) (suc m) a e = let r = total-take f b m a e in omega arith

-- the accounts of all desks, from the highest on, are those of the board
total-hand : (f : Account → ℕ) (b hand : List Account) (m : ℕ) → map (λ (a : Account). a.desk) hand ≡ falling m → ((a : Account) → Mem a hand → get_elem? b a.desk ≡ some a) → total f hand ≡ total f (take m b)
total-hand f b [] zero e fits = refl
total-hand f b [] (suc m) e fits = absurd (cc)
total-hand f b (h ∷ hand) zero e fits = absurd (cc)
total-hand f b (h ∷ hand) (suc m) e fits =
    let first : h.desk ≡ m = some-injective _ _ (ap (λ (l : List ℕ). get_elem? l 0) e) in
    let rest : map (λ (a : Account). a.desk) hand ≡ falling m = ap (λ (l : List ℕ). drop 1 l) e in
    let r = total-hand f b hand m rest (λ a q. fits a (inr q)) in
    let t = total-take f b m h (ap (λ i. get_elem? b i) (sym first) ∙ fits h (inl refl)) in omega arith

pub writes_over : (rs : List Answered) (w : Write) → Mem w (writes_in rs) → w.over ≡ true
writes_over [] w m = absurd m
writes_over (q ∷ rs) w m = ⊎_elim (λ x. one q.op x) (λ x. writes_over rs w x) (mem_split (op_writes q.begun q.ended q.op) (writes_in rs) w m)
  where
    one : (o : Answer) → Mem w (op_writes q.begun q.ended o) → w.over ≡ true
    one (Stored i v) x = ap (λ (z : Write). z.over) (sym (mem_one w (write i v q.begun q.ended true) x))
    one (Viewed xs) x = absurd x
    one (Scanned t xs) x = absurd x
    one (Interfered i xs ys) x = absurd x

same_total : (f g : Account → ℕ) (l : List Account) → ((c : Account) → Mem c l → f c ≡ g c) → total f l ≡ total g l
same_total f g [] e = refl
same_total f g (x ∷ l) e = let a = e x (inl refl) in let t = same_total f g l (λ c m. e c (inr m)) in omega arith

pub settles : (n l id : ℕ) (hand : List Account) (slots : List (Option DeskState)) (s : State (Unit {0}) (List Account)) → Boarded n l s → get_elem? s.views id ≡ some hand → map brief hand ≡ desks_in n slots → AllIn n slots → Settled n hand
settles n l id hand slots s r at matches all =
    let b = r.accounts in let h = r.core in
    let fits : (a : Account) → Mem a hand → get_elem? b a.desk ≡ some a = λ a m. r.held.fits id hand at a m in
    let desks : map (λ (a : Account). a.desk) hand ≡ falling n = map_map hand ∙ ap (λ l. map (λ (x : Brief). x.desk) l) matches ∙ ins_all n slots all in
    let whole : take n b ≡ b = take_all n b (omega (arith, h.size)) in
    let sums : (f : Account → ℕ) → total f hand ≡ total f b = λ f. total-hand f b hand n desks fits ∙ ap (total f) whole in
    let idle : (a : Account) → Mem a hand → a.doing ≡ Idle = λ a m. idle_doing a.doing (ins_idle n slots (brief a) (subst (λ (l : List Brief). Mem (brief a) l) matches (mem_map brief hand a m))) in
    let stamps : (a : Account) → Mem a hand → stamps_of a ≡ stamps_in a.calls = λ a m. ap (λ o. stamps_in a.calls ++ open_stamps o) (idle a m) ∙ append-nil (stamps_in a.calls) in
    let writes : (a : Account) → Mem a hand → writes_of a ≡ writes_in a.calls = λ a m. ap (λ o. writes_in a.calls ++ open_writes o) (idle a m) ∙ append-nil (writes_in a.calls) in
    let marks : (a : Account) → Mem a hand → marks_of a ≡ marks_in a.calls = λ a m. ap (λ o. marks_in a.calls ++ open_marks o) (idle a m) ∙ append-nil (marks_in a.calls) in
    let every : (a : Account) → Mem a hand → all_stamps a ≡ all_stamps_in a.calls = λ a m i. stamps a m i ++ map (λ (z : Mark). z.middle) (marks a m i) in
    let look_there : (a : Account) (v : ViewRecord) → Mem v (view_records_in a.calls) → Mem v (view_records_of a) = λ a v m. mem_left (view_records_in a.calls) (open_view_records a.doing) v m in
    let all_over : (a : Account) → Mem a hand → (w : Write) → Mem w (writes_in a.calls) → Mem w (writes_of a) = λ a m w q. mem_left (writes_in a.calls) (open_writes a.doing) w q in
    record {
      desks = desks;
      idle = idle;
      rising = λ a m. subst Rising (stamps a m) (h.own a.desk a (fits a m)).rising;
      below = λ a m x q. let l = h.below a.desk a (fits a m) x (subst (λ (l : List ℕ). Mem x l) (sym (every a m)) q) in let e = sums (λ (c : Account). c.ticks) in omega arith;
      apart = λ x. let e = h.apart x in let t = sums (λ (c : Account). times x (all_stamps c)) in let u = same_total (λ (c : Account). times x (all_stamps c)) (λ (c : Account). times x (all_stamps_in c.calls)) hand (λ c m. ap (times x) (every c m)) in omega arith;
      numbered = λ a m. subst (Numbered 1) (writes a m) (h.own a.desk a (fits a m)).numbered;
      whole = λ a m v q. (h.own a.desk a (fits a m)).whole v (look_there a v q) (looks_over a.calls v q);
      regular = λ a m v q c mc p at_p.
          let see = h.sees a.desk a (fits a m) v (look_there a v q) c.desk c (fits c mc) p at_p in
          record {
            fresh = λ w mw lt. see.fresh w (all_over c mc w mw) lt (writes_over c.calls w mw);
            real = λ pos. let t = see.real pos in (t.0, subst (λ (l : List Write). Mem t.0 l) (writes c mc) t.1, t.2, t.3, t.4 (looks_over a.calls v q));
          };
      monotone = λ a c ma mc v u mv mu lt k p q at_p at_q. h.after a.desk a (fits a ma) v (look_there a v mv) c.desk c (fits c mc) u (look_there c u mu) (looks_over a.calls v mv) lt k p q at_p at_q;
    }

-- the ticks of a board whose desks are all in
pub settles_ticks : (n l id : ℕ) (hand : List Account) (slots : List (Option DeskState)) (s : State (Unit {0}) (List Account)) → Boarded n l s → get_elem? s.views id ≡ some hand → map brief hand ≡ desks_in n slots → AllIn n slots → TicksSettled hand
settles_ticks n l id hand slots s r at matches all =
    let b = r.accounts in
    let fits : (a : Account) → Mem a hand → get_elem? b a.desk ≡ some a = λ a m. r.held.fits id hand at a m in
    let desks : map (λ (a : Account). a.desk) hand ≡ falling n = map_map hand ∙ ap (λ l. map (λ (x : Brief). x.desk) l) matches ∙ ins_all n slots all in
    let whole : take n b ≡ b = take_all n b (omega (arith, r.core.size)) in
    let sums : (f : Account → ℕ) → total f hand ≡ total f b = λ f. total-hand f b hand n desks fits ∙ ap (total f) whole in
    let idle : (a : Account) → Mem a hand → a.doing ≡ Idle = λ a m. idle_doing a.doing (ins_idle n slots (brief a) (subst (λ (l : List Brief). Mem (brief a) l) matches (mem_map brief hand a m))) in
    let same : (a : Account) → Mem a hand → drawn a ≡ drawn_in a.calls = λ a m. ap (λ o. drawn_in a.calls ++ drawn_open o) (idle a m) ∙ append-nil (drawn_in a.calls) in
    record {
      once = λ x. sym (same_total (λ (c : Account). times x (drawn c)) (λ (c : Account). times x (drawn_in c.calls)) hand (λ c m. ap (times x) (same c m)))
          ∙ sums (λ (c : Account). times x (drawn c)) ∙ r.ticks.once x ∙ ap (once_below x) (sym (sums (λ (c : Account). c.ticks)));
      rising = λ a m. subst Rising (same a m) (r.ticks.rising a.desk a (fits a m));
    }

-- the clock of a board whose desks are all in
pub settles_clock : (n l id : ℕ) (hand : List Account) (slots : List (Option DeskState)) (s : State (Unit {0}) (List Account)) → Boarded n l s → get_elem? s.views id ≡ some hand → map brief hand ≡ desks_in n slots → AllIn n slots → clock hand ≤ n * l
settles_clock n l id hand slots s r at matches all =
    let b = r.accounts in
    let desks : map (λ (a : Account). a.desk) hand ≡ falling n = map_map hand ∙ ap (λ l. map (λ (x : Brief). x.desk) l) matches ∙ ins_all n slots all in
    let whole : take n b ≡ b = take_all n b (omega (arith, r.core.size)) in
    let same : clock hand ≡ clock b = total-hand (λ (c : Account). c.ticks) b hand n desks (λ a m. r.held.fits id hand at a m) ∙ ap (total (λ (c : Account). c.ticks)) whole in
    subst (λ (z : ℕ). z ≤ n * l) (sym same) (clock_most n l s r)

-- what a scan shows is what it read before its middle tick and after it
marks_same : (rs : List Answered) (m : Mark) → Mem m (marks_in rs) → (m.before ≡ m.since) × (m.over ≡ true)
marks_same [] m q = absurd q
marks_same (r ∷ rs) m q = ⊎_elim (λ x. one r.op x) (λ x. marks_same rs m x) (mem_split (op_marks r.begun r.ended r.op) (marks_in rs) m q)
  where
    one : (o : Answer) → Mem m (op_marks r.begun r.ended o) → (m.before ≡ m.since) × (m.over ≡ true)
    one (Stored n v) x = absurd x
    one (Viewed xs) x = absurd x
    one (Scanned t xs) x = let e = mem_one m (mark r.begun t r.ended true xs xs) x in (ap (λ (z : Mark). z.before) (sym e) ∙ ap (λ (z : Mark). z.since) e, ap (λ (z : Mark). z.over) (sym e))
    one (Interfered n xs ys) x = absurd x

pub settles_scans : (n l id : ℕ) (hand : List Account) (s : State (Unit {0}) (List Account)) → Boarded n l s → get_elem? s.views id ≡ some hand → ScansSettled hand
settles_scans n l id hand s r at =
    let g = r.scans in
    let fits : (a : Account) → Mem a hand → get_elem? r.accounts a.desk ≡ some a = λ a m. r.held.fits id hand at a m in
    let there : (a : Account) (m : Mark) → Mem m (marks_in a.calls) → Mem m (marks_of a) = λ a m q. mem_left (marks_in a.calls) (open_marks a.doing) m q in
    record {
      inside = λ a ma m q. let i = g.inside a.desk a (fits a ma) m (there a m q) in (i.begins, i.ends (marks_same a.calls m q).1);
      shows = λ a ma m q c mc p at_p. (let x = g.spans a.desk a (fits a ma) m (there a m q) c.desk c (fits c mc) in record {
        began = λ w mw is. x.began p at_p w (mem_left (writes_in c.calls) (open_writes c.doing) w mw) is;
        fresh = λ w mw lt. x.fresh p (ap (λ l. get_elem? l c.desk) (sym (marks_same a.calls m q).0) ∙ at_p) w (mem_left (writes_in c.calls) (open_writes c.doing) w mw) (writes_over c.calls w mw) lt;
      });
      in_turn = λ a c ma mc u v mu mv lt k p q at_p at_q. g.in_turn a.desk a (fits a ma) u (there a u mu) c.desk c (fits c mc) v (there c v mv) lt k p q at_p (ap (λ l. get_elem? l k) (sym (marks_same c.calls v mv).0) ∙ at_q);
      climbed = λ a ma x q. (g.climbs a.desk a (fits a ma)).answered x q;
    }

-- a board of n desks at the start, from desk d on
rows_from : ℕ → ℕ → List Account
rows_from d zero = []
rows_from d (suc n) = newcomer d ∷ rows_from (suc d) n

rows_at : (d n k : ℕ) (a : Account) → get_elem? (rows_from d n) k ≡ some a → a ≡ newcomer (d + k)
unfolding rows_from
rows_at d zero k a e = absurd (some-ne-none a (sym e))
rows_at d (suc n) zero a e = sym (some-injective _ _ e) ∙ (let z : d ≡ d + 0 = omega arith in ap newcomer z)
rows_at d (suc n) (suc k) a e = rows_at (suc d) n k a e ∙ (let z : suc d + k ≡ d + suc k = omega arith in ap newcomer z)

rows_there : (d n k : ℕ) → k < n → get_elem? (rows_from d n) k ≡ some (newcomer (d + k))
unfolding rows_from
rows_there d zero k lt = absurd (omega arith)
rows_there d (suc n) zero lt = let z : d ≡ d + 0 = omega arith in ap (λ i. some (newcomer i)) z
rows_there d (suc n) (suc k) lt = rows_there (suc d) n k (omega arith) ∙ (let z : suc d + k ≡ d + suc k = omega arith in ap (λ i. some (newcomer i)) z)

rows_size : (d n : ℕ) → length (rows_from d n) ≡ n
unfolding rows_from
rows_size d zero = refl
rows_size d (suc n) = ap suc (rows_size (suc d) n)

rows_words : (d n : ℕ) → map (λ (a : Account). code (in_word a)) (rows_from d n) ≡ replicate n 0
unfolding rows_from
rows_words d zero = refl
rows_words d (suc n) = ap (λ l. 0 ∷ l) (rows_words (suc d) n)

rows_clock : (d n : ℕ) → clock (rows_from d n) ≡ 0
unfolding rows_from
rows_clock d zero = refl
rows_clock d (suc n) = let r = rows_clock (suc d) n in omega arith

rows_stamps : (x d n : ℕ) → total (λ a. times x (all_stamps a)) (rows_from d n) ≡ 0
unfolding rows_from
rows_stamps x d zero = refl
rows_stamps x d (suc n) = let r = rows_stamps x (suc d) n in omega arith

new_own : (n k : ℕ) → Own n k (newcomer k)
new_own n k = record { desk = refl; rising = tt; ticks = omega arith; numbered = tt; count = refl; small = omega arith; whole = λ v m. absurd m; ends = λ v m. absurd m }

new_mem : (n : ℕ) (a : Account) → Mem a (newcomers n) → (k : ℕ) × (k < n) × (a ≡ newcomer k)
new_mem zero a m = absurd m
new_mem (suc n) a m = ⊎_elim (λ e. (n, omega arith, sym e)) (λ q. let r = new_mem n a q in (r.0, omega (arith, r.1), r.2)) m

once_more : (d n : ℕ) → one_if (n == d) + once_below d n ≡ once_below d (suc n)
once_more d n = grind (arith, nat_tests)

once_none : (d : ℕ) → once_below d 0 ≡ 0
once_none d = grind (arith, nat_tests)

rows_drawn : (x d n : ℕ) → total (λ a. times x (drawn a)) (rows_from d n) ≡ 0
unfolding rows_from
rows_drawn x d zero = refl
rows_drawn x d (suc n) = let r = rows_drawn x (suc d) n in omega arith

pub begins : (n l : ℕ) (words : List ℕ) → words ≡ replicate (suc n) 0 → Boarded n l (opening words [] (newcomers n))
begins n l words is =
    let b = rows_from 0 n in
    let new : (k : ℕ) (a : Account) → get_elem? b k ≡ some a → a ≡ newcomer k = λ k a e. rows_at 0 n k a e ∙ (let z : 0 + k ≡ k = omega arith in ap newcomer z) in
    record {
      accounts = b;
      words = is ∙ (λ i. sym (rows_clock 0 n) i ∷ sym (rows_words 0 n) i);
      held = record {
        fits = λ seat v e a m. holds seat v e a m;
        once = λ d. let t = counted d n in omega arith;
      };
      core = record {
        size = rows_size 0 n;
        own = λ k a e. subst (Own n k) (sym (new k a e)) (new_own n k);
        below = λ k a e x m. absurd (subst (λ (c : Account). Mem x (all_stamps c)) (new k a e) m);
        apart = λ x. let t = rows_stamps x 0 n in omega arith;
        sees = λ i a e v m k c e' p at_p. absurd (subst (λ (z : Account). Mem v (view_records_of z)) (new i a e) m);
        after = λ i a e v m k c e' u mu. absurd (subst (λ (z : Account). Mem v (view_records_of z)) (new i a e) m);
      };
      scans = record {
        inside = λ i a e m q. absurd (subst (λ (z : Account). Mem m (marks_of z)) (new i a e) q);
        spans = λ i a e m q. absurd (subst (λ (z : Account). Mem m (marks_of z)) (new i a e) q);
        in_turn = λ i a e m q. absurd (subst (λ (z : Account). Mem m (marks_of z)) (new i a e) q);
        climbs = λ i a e. subst Climbs (sym (new i a e)) (record { answered = λ r q. absurd q; doing = tt });
      };
      ticks = record {
        once = λ x. rows_drawn x 0 n ∙ sym (once_none x) ∙ ap (once_below x) (sym (rows_clock 0 n));
        rising = λ i a e. subst (λ (z : Account). Rising (drawn z)) (sym (new i a e)) tt;
      };
      limit = λ i a e. subst (λ (z : Account). z.ticks ≤ l) (sym (new i a e)) (omega arith);
    }
  where
    counted : (d m : ℕ) → of_desk d (newcomers m) ≡ once_below d m
    counted d zero = sym (once_none d)
    counted d (suc m) = let r = counted d m in let o = once_more d m in omega arith

    holds : (seat : ℕ) (v : List Account) → get_elem? (newcomers n ∷ []) seat ≡ some v → (a : Account) → Mem a v → get_elem? (rows_from 0 n) a.desk ≡ some a
    holds zero v e a m = let q = new_mem n a (subst (λ (l : List Account). Mem a l) (sym (some-injective _ _ e)) m) in
        let z : 0 + q.0 ≡ q.0 = omega arith in
        ap (λ (c : Account). get_elem? (rows_from 0 n) c.desk) q.2 ∙ rows_there 0 n q.0 q.1 ∙ ap (λ i. some (newcomer i)) z ∙ ap some (sym q.2)
    holds (suc seat) v e a m = absurd (some-ne-none v (sym e))
