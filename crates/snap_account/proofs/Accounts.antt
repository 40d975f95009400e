-- How the steps change the calls of an account.
use Rattle.std.proofs.Common.{◌≡◌, ℕ, ◌≤◌, ◌⊎◌, true, false, List, [], ◌∷◌, ◌++◌, sym, refl, ap, ◌∙◌, inl, inr, ⊎_elim, arith, append_assoc, length, length-append, map}
use Rattle.snap_account.specs.declared.account.Account.{Account}
use Rattle.snap_account.specs.declared.account.Answered.{Answered}
use Rattle.snap_account.specs.declared.account.Answer.{Answer}
use Rattle.snap_account.specs.declared.account.Answer.TheVariants.{Stored, Viewed, Scanned, Interfered}
use Rattle.snap_account.specs.declared.account.Doing.{Doing}
use Rattle.snap_account.specs.declared.account.Doing.TheVariants.{Idle, Begun, Written, Viewing, Scanning}
use Rattle.snap_account.specs.declared.account.Scan.{Scan}
use Rattle.snap_account.specs.Calls.{Mem, Write, ViewRecord, Mark, write, view_record, op_marks, marks_in, marks_of, middles_of, all_stamps, op_writes, op_view_records, writes_in, view_records_in, stamps_in, open_writes, open_view_records, open_stamps, writes_of, view_records_of, stamps_of, op_entry, latest, open_entry, in_word}
use Rattle.snap_account.specs.Rule.{Own}
use Rattle.snap_account.proofs.Lists.{mem_split, mem_left, mem_right, mem_one, numbered_mem}

abbrev pub acct : ℕ → List Answered → Doing → ℕ → Account
acct d rs o t = record { desk = d; calls = rs; doing = o; ticks = t }

abbrev pub rec_with : ℕ → List ℕ → ℕ → Answer → Answered
rec_with b ms e o = record { begun = b; middles = ms; ended = e; op = o }

-- a call without middle ticks
abbrev pub rec : ℕ → ℕ → Answer → Answered
rec b e o = rec_with b [] e o

-- the scan, answered
abbrev pub rec_scan : Scan → ℕ → Answer → Answered
rec_scan s e o = rec_with s.begun s.middles e o

pub writes_in-append : (rs qs : List Answered) → writes_in (rs ++ qs) ≡ writes_in rs ++ writes_in qs
writes_in-append [] qs = refl
writes_in-append (r ∷ rs) qs = ap (λ ws. op_writes r.begun r.ended r.op ++ ws) (writes_in-append rs qs) ∙ sym (append_assoc (op_writes r.begun r.ended r.op) (writes_in rs) (writes_in qs))

pub view_records_in-append : (rs qs : List Answered) → view_records_in (rs ++ qs) ≡ view_records_in rs ++ view_records_in qs
view_records_in-append [] qs = refl
view_records_in-append (r ∷ rs) qs = ap (λ ws. op_view_records r.begun r.ended r.op ++ ws) (view_records_in-append rs qs) ∙ sym (append_assoc (op_view_records r.begun r.ended r.op) (view_records_in rs) (view_records_in qs))

pub stamps_in-append : (rs qs : List Answered) → stamps_in (rs ++ qs) ≡ stamps_in rs ++ stamps_in qs
stamps_in-append [] qs = refl
stamps_in-append (r ∷ rs) qs = ap (λ xs. r.begun ∷ r.ended ∷ xs) (stamps_in-append rs qs)

pub marks_in-append : (rs qs : List Answered) → marks_in (rs ++ qs) ≡ marks_in rs ++ marks_in qs
marks_in-append [] qs = refl
marks_in-append (r ∷ rs) qs = ap (λ ms. op_marks r.begun r.ended r.op ++ ms) (marks_in-append rs qs) ∙ sym (append_assoc (op_marks r.begun r.ended r.op) (marks_in rs) (marks_in qs))

pub latest-push : (p : ℕ × ℕ) (rs : List Answered) (r : Answered) → latest p (rs ++ r ∷ []) ≡ op_entry (latest p rs) r.op
latest-push p [] r = refl
latest-push p (q ∷ rs) r = latest-push (op_entry p q.op) rs r

-- the word's entry is that of a write, or there was no store
pub latest_there : (p : ℕ × ℕ) (rs : List Answered) → (latest p rs ≡ p) ⊎ ((w : Write) × Mem w (writes_in rs) × (w.number ≡ (latest p rs).0) × (w.value ≡ (latest p rs).1))
latest_there p [] = inl refl
latest_there p (r ∷ rs) = ⊎_elim
    (λ (e : latest (op_entry p r.op) rs ≡ op_entry p r.op). first r.begun r.ended r.op (latest (op_entry p r.op) rs) e)
    (λ (t : (w : Write) × Mem w (writes_in rs) × (w.number ≡ (latest (op_entry p r.op) rs).0) × (w.value ≡ (latest (op_entry p r.op) rs).1)).
    inr (t.0, mem_right (op_writes r.begun r.ended r.op) (writes_in rs) t.0 t.1, t.2, t.3))
    (latest_there (op_entry p r.op) rs)
  where
    first : (b e : ℕ) (o : Answer) (l : ℕ × ℕ) → l ≡ op_entry p o → (l ≡ p) ⊎ ((w : Write) × Mem w (op_writes b e o ++ writes_in rs) × (w.number ≡ l.0) × (w.value ≡ l.1))
    first b e (Stored n v) l is = inr (write n v b e true, inl refl, (λ i. (sym is i).0), (λ i. (sym is i).1))
    first b e (Viewed xs) l is = inl is
    first b e (Scanned t xs) l is = inl is
    first b e (Interfered n xs ys) l is = inl is

pub word_there : (a : Account) → ((in_word a).0 ≡ 0) ⊎ ((w : Write) × Mem w (writes_of a) × (w.number ≡ (in_word a).0) × (w.value ≡ (in_word a).1))
word_there a = by a.calls a.doing
  where
    old : (rs : List Answered) (ws : List Write) → ((latest (0, 0) rs).0 ≡ 0) ⊎ ((w : Write) × Mem w (writes_in rs ++ ws) × (w.number ≡ (latest (0, 0) rs).0) × (w.value ≡ (latest (0, 0) rs).1))
    old rs ws = ⊎_elim (λ (e : latest (0, 0) rs ≡ (0, 0)). inl (λ i. (e i).0))
        (λ (t : (w : Write) × Mem w (writes_in rs) × (w.number ≡ (latest (0, 0) rs).0) × (w.value ≡ (latest (0, 0) rs).1)). inr (t.0, mem_left (writes_in rs) ws t.0 t.1, t.2, t.3))
        (latest_there (0, 0) rs)

    by : (rs : List Answered) (o : Doing) → ((open_entry (latest (0, 0) rs) o).0 ≡ 0) ⊎ ((w : Write) × Mem w (writes_in rs ++ open_writes o) × (w.number ≡ (open_entry (latest (0, 0) rs) o).0) × (w.value ≡ (open_entry (latest (0, 0) rs) o).1))
    by rs Idle = old rs []
    by rs (Begun b) = old rs []
    by rs (Written b n v) = inr (write n v b 0 false, mem_right (writes_in rs) (write n v b 0 false ∷ []) (write n v b 0 false) (inl refl), refl, refl)
    by rs (Viewing b xs) = old rs []
    by rs (Scanning s) = old rs []

-- the begin of a call is a stamp
pub look_stamp : (a : Account) (v : ViewRecord) → Mem v (view_records_of a) → Mem v.begun (stamps_of a)
look_stamp a v m = ⊎_elim (λ q. mem_left (stamps_in a.calls) (open_stamps a.doing) v.begun (done a.calls v q)) (λ q. mem_right (stamps_in a.calls) (open_stamps a.doing) v.begun (now a.doing v q)) (mem_split (view_records_in a.calls) (open_view_records a.doing) v m)
  where
    now : (o : Doing) (u : ViewRecord) → Mem u (open_view_records o) → Mem u.begun (open_stamps o)
    now Idle u q = absurd q
    now (Begun b) u q = absurd q
    now (Written b n x) u q = absurd q
    now (Viewing b xs) u q = inl (ap (λ (z : ViewRecord). z.begun) (mem_one u (view_record b 0 false xs) q))
    now (Scanning s) u q = inl (⊎_elim
        (λ e. ap (λ (z : ViewRecord). z.begun) e)
        (λ r. ⊎_elim (λ e. ap (λ (z : ViewRecord). z.begun) e) (λ x. ap (λ (z : ViewRecord). z.begun) (mem_one u (view_record s.begun 0 false s.since) x)) r)
        q)

    one : (b e : ℕ) (o : Answer) (u : ViewRecord) → Mem u (op_view_records b e o) → b ≡ u.begun
    one b e (Stored n x) u q = absurd q
    one b e (Viewed xs) u q = ap (λ (z : ViewRecord). z.begun) (mem_one u (view_record b e true xs) q)
    one b e (Scanned t xs) u q = ap (λ (z : ViewRecord). z.begun) (mem_one u (view_record b e true xs) q)
    one b e (Interfered n xs ys) u q = ⊎_elim (λ r. ap (λ (z : ViewRecord). z.begun) r) (λ r. ap (λ (z : ViewRecord). z.begun) (mem_one u (view_record b e true ys) r)) q

    done : (rs : List Answered) (u : ViewRecord) → Mem u (view_records_in rs) → Mem u.begun (stamps_in rs)
    done [] u q = absurd q
    done (r ∷ rs) u q = ⊎_elim (λ x. inl (one r.begun r.ended r.op u x)) (λ x. inr (inr (done rs u x))) (mem_split (op_view_records r.begun r.ended r.op) (view_records_in rs) u q)

pub write_stamp : (a : Account) (w : Write) → Mem w (writes_of a) → Mem w.begun (stamps_of a)
write_stamp a v m = ⊎_elim (λ q. mem_left (stamps_in a.calls) (open_stamps a.doing) v.begun (done a.calls v q)) (λ q. mem_right (stamps_in a.calls) (open_stamps a.doing) v.begun (now a.doing v q)) (mem_split (writes_in a.calls) (open_writes a.doing) v m)
  where
    now : (o : Doing) (u : Write) → Mem u (open_writes o) → Mem u.begun (open_stamps o)
    now Idle u q = absurd q
    now (Begun b) u q = absurd q
    now (Written b n x) u q = inl (ap (λ (z : Write). z.begun) (mem_one u (write n x b 0 false) q))
    now (Viewing b xs) u q = absurd q
    now (Scanning s) u q = absurd q

    one : (b e : ℕ) (o : Answer) (u : Write) → Mem u (op_writes b e o) → b ≡ u.begun
    one b e (Stored n x) u q = ap (λ (z : Write). z.begun) (mem_one u (write n x b e true) q)
    one b e (Viewed xs) u q = absurd q
    one b e (Scanned t xs) u q = absurd q
    one b e (Interfered n xs ys) u q = absurd q

    done : (rs : List Answered) (u : Write) → Mem u (writes_in rs) → Mem u.begun (stamps_in rs)
    done [] u q = absurd q
    done (r ∷ rs) u q = ⊎_elim (λ x. inl (one r.begun r.ended r.op u x)) (λ x. inr (inr (done rs u x))) (mem_split (op_writes r.begun r.ended r.op) (writes_in rs) u q)

-- the begin of a view's record, and of a store, is among all stamps
pub look_in_all : (a : Account) (v : ViewRecord) → Mem v (view_records_of a) → Mem v.begun (all_stamps a)
look_in_all a v m = mem_left (stamps_of a) (middles_of a) v.begun (look_stamp a v m)

pub write_in_all : (a : Account) (w : Write) → Mem w (writes_of a) → Mem w.begun (all_stamps a)
write_in_all a w m = mem_left (stamps_of a) (middles_of a) w.begun (write_stamp a w m)

pub mem_middle : (ms : List Mark) (m : Mark) → Mem m ms → Mem m.middle (map (λ (z : Mark). z.middle) ms)
mem_middle [] m q = q
mem_middle (x ∷ ms) m q = ⊎_elim (λ e. inl (ap (λ (z : Mark). z.middle) e)) (λ r. inr (mem_middle ms m r)) q

pub middle_in_all : (a : Account) (m : Mark) → Mem m (marks_of a) → Mem m.middle (all_stamps a)
middle_in_all a m q = mem_right (stamps_of a) (middles_of a) m.middle (mem_middle (marks_of a) m q)

-- a word with number 0 is as at the opening
latest_none : (p : ℕ × ℕ) (rs : List Answered) → length (writes_in rs) ≡ 0 → latest p rs ≡ p
latest_none p [] e = refl
latest_none p (r ∷ rs) e = by (latest_none p rs) r.op e
  where
    by : (length (writes_in rs) ≡ 0 → latest p rs ≡ p) → (o : Answer) → length (op_writes r.begun r.ended o ++ writes_in rs) ≡ 0 → latest (op_entry p o) rs ≡ p
    by rest (Stored n v) z = absurd (omega arith)
    by rest (Viewed xs) z = rest z
    by rest (Scanned t xs) z = rest z
    by rest (Interfered n xs ys) z = rest z

pub word_blank : (n k : ℕ) (a : Account) → Own n k a → (in_word a).0 ≡ 0 → (in_word a).1 ≡ 0
word_blank n k a own zero_there = by a.calls a.doing (own.count ∙ zero_there)
  where
    old : (rs : List Answered) → length (writes_in rs) ≡ 0 → (latest (0, 0) rs).1 ≡ 0
    old rs e = ap (λ (p : ℕ × ℕ). p.1) (latest_none (0, 0) rs e)

    cut : (rs : List Answered) (ws : List Write) → length (writes_in rs ++ ws) ≡ 0 → length (writes_in rs) ≡ 0
    cut rs ws e = let l = length-append (writes_in rs) ws in omega arith

    by : (rs : List Answered) (o : Doing) → length (writes_in rs ++ open_writes o) ≡ 0 → (open_entry (latest (0, 0) rs) o).1 ≡ 0
    by rs Idle e = old rs (cut rs [] e)
    by rs (Begun b) e = old rs (cut rs [] e)
    by rs (Written b n v) e = let l = length-append (writes_in rs) (write n v b 0 false ∷ []) in absurd (omega arith)
    by rs (Viewing b xs) e = old rs (cut rs [] e)
    by rs (Scanning s) e = old rs (cut rs [] e)

-- no store's number is above the word's
pub number_le : (n k : ℕ) (a : Account) → Own n k a → (w : Write) → Mem w (writes_of a) → w.number ≤ (in_word a).0
number_le n k a own w m = let b = numbered_mem 1 (writes_of a) w own.numbered m in let c = own.count in omega arith
