-- What holds of a closed board holds of its stores and scans alone.
use Rattle.std.proofs.Common.{◌≡◌, ℕ, ◌+◌, ◌<◌, ◌≤◌, ◌⊎◌, ◌==◌, List, [], ◌∷◌, ◌++◌, map, sym, refl, ap, ◌∙◌, subst, inl, inr, ⊎_elim, arith}
use lib.ListN.{get_elem?}
use Rattle.snap_core.specs.Sums.{total, times, one_if}
use Rattle.snap_core.proofs.Sums.{total-append}
use Rattle.snap_account.specs.declared.account.Account.{Account}
use Rattle.snap_account.specs.declared.account.Answered.{Answered}
use Rattle.snap_account.specs.declared.account.Answer.{Answer}
use Rattle.snap_account.specs.declared.account.Answer.TheVariants.{Stored, Viewed, Scanned, Interfered}
use Rattle.snap_account.specs.Calls.{Mem, ViewRecord, Write, Mark, op_view_records, op_writes, op_marks, view_records_in, writes_in, marks_in, stamps_in, all_stamps_in}
use Rattle.snap_account.specs.Rule.{Rising, Numbered, clock}
use Rattle.snap_board.specs.Settled.{Settled, ScansSettled}
use Rattle.snap_board.specs.Desks.{op_records, records_at, op_collects, collects_in}
use Rattle.snap_board.specs.Scans.{op_kept, kept, without_collects}
use Rattle.snap_account.proofs.Lists.{mem_split, mem_left, mem_right, mem_one}
use Rattle.snap_board.proofs.DeskEvents.{rising_head, rising_tail}

writes_kept : (rs : List Answered) → writes_in (kept rs) ≡ writes_in rs
writes_kept [] = refl
writes_kept (r ∷ rs) = one r.op (writes_kept rs)
  where
    one : (o : Answer) → writes_in (kept rs) ≡ writes_in rs → writes_in (op_kept o (record { begun = r.begun; middles = r.middles; ended = r.ended; op = o }) ++ kept rs) ≡ op_writes r.begun r.ended o ++ writes_in rs
    one (Stored n v) rest = ap (λ l. op_writes r.begun r.ended (Stored n v) ++ l) rest
    one (Viewed xs) rest = rest
    one (Scanned t xs) rest = rest
    one (Interfered n xs ys) rest = rest

marks_kept : (rs : List Answered) → marks_in (kept rs) ≡ marks_in rs
marks_kept [] = refl
marks_kept (r ∷ rs) = one r.op (marks_kept rs)
  where
    one : (o : Answer) → marks_in (kept rs) ≡ marks_in rs → marks_in (op_kept o (record { begun = r.begun; middles = r.middles; ended = r.ended; op = o }) ++ kept rs) ≡ op_marks r.begun r.ended o ++ marks_in rs
    one (Stored n v) rest = rest
    one (Viewed xs) rest = rest
    one (Scanned t xs) rest = ap (λ l. op_marks r.begun r.ended (Scanned t xs) ++ l) rest
    one (Interfered n xs ys) rest = rest

mem_kept : (rs : List Answered) (q : Answered) → Mem q (kept rs) → Mem q rs
mem_kept [] q m = m
mem_kept (r ∷ rs) q m = ⊎_elim (λ x. one r.op x) (λ x. inr (mem_kept rs q x)) (mem_split (op_kept r.op r) (kept rs) q m)
  where
    one : (o : Answer) → Mem q (op_kept o r) → Mem q (r ∷ rs)
    one (Stored n v) x = inl (mem_one q r x)
    one (Viewed xs) x = absurd x
    one (Scanned t xs) x = inl (mem_one q r x)
    one (Interfered n xs ys) x = absurd x

looks_kept : (rs : List Answered) (v : ViewRecord) → Mem v (view_records_in (kept rs)) → Mem v (view_records_in rs)
looks_kept [] v m = m
looks_kept (r ∷ rs) v m = one r.op m (λ x. looks_kept rs v x)
  where
    one : (o : Answer) → Mem v (view_records_in (op_kept o (record { begun = r.begun; middles = r.middles; ended = r.ended; op = o }) ++ kept rs)) → (Mem v (view_records_in (kept rs)) → Mem v (view_records_in rs)) → Mem v (op_view_records r.begun r.ended o ++ view_records_in rs)
    one (Stored n w) x rest = rest x
    one (Viewed xs) x rest = inr (rest x)
    one (Scanned t xs) x rest = ⊎_elim (λ e. inl e) (λ y. inr (rest y)) x
    one (Interfered n xs ys) x rest = inr (inr (rest x))

-- each view that is left is a scan's
pub look_mark : (rs : List Answered) (v : ViewRecord) → Mem v (view_records_in (kept rs)) → (m : Mark) × Mem m (marks_in (kept rs)) × (m.begun ≡ v.begun) × (m.ended ≡ v.ended) × (m.before ≡ v.shown)
look_mark [] v m = absurd m
look_mark (r ∷ rs) v m = one r.op m (λ x. look_mark rs v x)
  where
    one : (o : Answer) → Mem v (view_records_in (op_kept o (record { begun = r.begun; middles = r.middles; ended = r.ended; op = o }) ++ kept rs)) → (Mem v (view_records_in (kept rs)) → (m : Mark) × Mem m (marks_in (kept rs)) × (m.begun ≡ v.begun) × (m.ended ≡ v.ended) × (m.before ≡ v.shown))
        → (m : Mark) × Mem m (marks_in (op_kept o (record { begun = r.begun; middles = r.middles; ended = r.ended; op = o }) ++ kept rs)) × (m.begun ≡ v.begun) × (m.ended ≡ v.ended) × (m.before ≡ v.shown)
    one (Stored n w) x rest = rest x
    one (Viewed xs) x rest = rest x
    one (Scanned t xs) x rest = ⊎_elim
        (λ e. (record { begun = r.begun; middle = t; ended = r.ended; over = Rattle.std.proofs.Common.true; before = xs; since = xs }, inl refl, ap (λ (z : ViewRecord). z.begun) e, ap (λ (z : ViewRecord). z.ended) e, ap (λ (z : ViewRecord). z.shown) e))
        (λ y. let q = rest y in (q.0, inr q.1, q.2, q.3, q.4))
        x
    one (Interfered n xs ys) x rest = rest x

stamps_kept : (rs : List Answered) (x : ℕ) → Mem x (stamps_in (kept rs)) → Mem x (stamps_in rs)
stamps_kept [] x m = m
stamps_kept (r ∷ rs) x m = one r.op m (λ y. stamps_kept rs x y)
  where
    one : (o : Answer) → Mem x (stamps_in (op_kept o r ++ kept rs)) → (Mem x (stamps_in (kept rs)) → Mem x (stamps_in rs)) → Mem x (r.begun ∷ r.ended ∷ stamps_in rs)
    one (Stored n w) y rest = ⊎_elim (λ e. inl e) (λ z. ⊎_elim (λ e. inr (inl e)) (λ q. inr (inr (rest q))) z) y
    one (Viewed xs) y rest = inr (inr (rest y))
    one (Scanned t xs) y rest = ⊎_elim (λ e. inl e) (λ z. ⊎_elim (λ e. inr (inl e)) (λ q. inr (inr (rest q))) z) y
    one (Interfered n xs ys) y rest = inr (inr (rest y))

times_kept : (rs : List Answered) (x : ℕ) → times x (stamps_in (kept rs)) ≤ times x (stamps_in rs)
times_kept [] x = omega arith
times_kept (r ∷ rs) x = one r.op (times_kept rs x)
  where
    one : (o : Answer) → times x (stamps_in (kept rs)) ≤ times x (stamps_in rs) → times x (stamps_in (op_kept o r ++ kept rs)) ≤ times x (r.begun ∷ r.ended ∷ stamps_in rs)
    one (Stored n w) rest = omega arith
    one (Viewed xs) rest = omega arith
    one (Scanned t xs) rest = omega arith
    one (Interfered n xs ys) rest = omega arith

rising_front : (x : ℕ) (xs : List ℕ) → ((y : ℕ) → Mem y xs → x < y) → Rising xs → Rising (x ∷ xs)
rising_front x [] low r = tt
rising_front x (y ∷ xs) low r = (low y (inl refl), r)

rising_kept : (rs : List Answered) → Rising (stamps_in rs) → Rising (stamps_in (kept rs))
rising_kept [] r = tt
rising_kept (q ∷ rs) r =
    let tail = rising_tail q.begun (q.ended ∷ stamps_in rs) r in
    one q.op (rising_kept rs (rising_tail q.ended (stamps_in rs) tail)) (rising_head q.begun (q.ended ∷ stamps_in rs) r) (rising_head q.ended (stamps_in rs) tail)
  where
    two : Rising (stamps_in (kept rs)) → ((y : ℕ) → Mem y (q.ended ∷ stamps_in rs) → q.begun < y) → ((y : ℕ) → Mem y (stamps_in rs) → q.ended < y) → Rising (q.begun ∷ q.ended ∷ stamps_in (kept rs))
    two rest first second = (first q.ended (inl refl), rising_front q.ended (stamps_in (kept rs)) (λ y m. second y (stamps_kept rs y m)) rest)

    one : (o : Answer) → Rising (stamps_in (kept rs)) → ((y : ℕ) → Mem y (q.ended ∷ stamps_in rs) → q.begun < y) → ((y : ℕ) → Mem y (stamps_in rs) → q.ended < y) → Rising (stamps_in (op_kept o q ++ kept rs))
    one (Stored n w) rest first second = two rest first second
    one (Viewed xs) rest first second = rest
    one (Scanned t xs) rest first second = two rest first second
    one (Interfered n xs ys) rest first second = rest

-- the accounts that are left
from_map : (hand : List Account) (c : Account) → Mem c (map without_collects hand) → (a : Account) × Mem a hand × (without_collects a ≡ c)
from_map [] c m = absurd m
from_map (x ∷ hand) c m = ⊎_elim (λ e. (x, inl refl, e)) (λ q. let r = from_map hand c q in (r.0, inr r.1, r.2)) m

desks_kept : (hand : List Account) → map (λ (a : Account). a.desk) (map without_collects hand) ≡ map (λ (a : Account). a.desk) hand
desks_kept [] = refl
desks_kept (a ∷ hand) = ap (λ l. a.desk ∷ l) (desks_kept hand)

clock_kept : (hand : List Account) → clock (map without_collects hand) ≡ clock hand
clock_kept [] = refl
clock_kept (a ∷ hand) = let r = clock_kept hand in omega arith

all_kept : (rs : List Answered) (x : ℕ) → Mem x (all_stamps_in (kept rs)) → Mem x (all_stamps_in rs)
all_kept rs x m = ⊎_elim
    (λ q. mem_left (stamps_in rs) (map (λ (z : Mark). z.middle) (marks_in rs)) x (stamps_kept rs x q))
    (λ q. mem_right (stamps_in rs) (map (λ (z : Mark). z.middle) (marks_in rs)) x (subst (λ (l : List Mark). Mem x (map (λ (z : Mark). z.middle) l)) (marks_kept rs) q))
    (mem_split (stamps_in (kept rs)) (map (λ (z : Mark). z.middle) (marks_in (kept rs))) x m)

few_kept : (rs : List Answered) (x : ℕ) → times x (all_stamps_in (kept rs)) ≤ times x (all_stamps_in rs)
few_kept rs x =
    let a = total-append (λ y. one_if (y == x)) (stamps_in (kept rs)) (map (λ (z : Mark). z.middle) (marks_in (kept rs))) in
    let b = total-append (λ y. one_if (y == x)) (stamps_in rs) (map (λ (z : Mark). z.middle) (marks_in rs)) in
    let c = ap (λ (l : List Mark). times x (map (λ (z : Mark). z.middle) l)) (marks_kept rs) in let d = times_kept rs x in omega arith

total_kept : (hand : List Account) (x : ℕ) → total (λ (a : Account). times x (all_stamps_in a.calls)) (map without_collects hand) ≤ total (λ (a : Account). times x (all_stamps_in a.calls)) hand
total_kept [] x = omega arith
total_kept (a ∷ hand) x = let f = few_kept a.calls x in let r = total_kept hand x in omega arith

pub settled_kept : (n : ℕ) (hand : List Account) → Settled n hand → Settled n (map without_collects hand)
settled_kept n hand h = record {
  desks = desks_kept hand ∙ h.desks;
  idle = λ c m. let a = from_map hand c m in ap (λ (z : Account). z.doing) (sym a.2) ∙ h.idle a.0 a.1;
  rising = λ c m. let a = from_map hand c m in subst (λ (z : Account). Rising (stamps_in z.calls)) a.2 (rising_kept a.0.calls (h.rising a.0 a.1));
  below = λ c m x q. let a = from_map hand c m in let e = clock_kept hand in
      let l = h.below a.0 a.1 x (all_kept a.0.calls x (subst (λ (z : Account). Mem x (all_stamps_in z.calls)) (sym a.2) q)) in omega arith;
  apart = λ x. let t = total_kept hand x in let f = h.apart x in omega arith;
  numbered = λ c m. let a = from_map hand c m in subst (λ (z : Account). Numbered 1 (writes_in z.calls)) a.2 (subst (Numbered 1) (sym (writes_kept a.0.calls)) (h.numbered a.0 a.1));
  whole = λ c m v q. let a = from_map hand c m in h.whole a.0 a.1 v (looks_kept a.0.calls v (subst (λ (z : Account). Mem v (view_records_in z.calls)) (sym a.2) q));
  regular = λ c m v q d md p at_p. let a = from_map hand c m in let e = from_map hand d md in
      let s = h.regular a.0 a.1 v (looks_kept a.0.calls v (subst (λ (z : Account). Mem v (view_records_in z.calls)) (sym a.2) q)) e.0 e.1 p (ap (λ (z : Account). get_elem? v.shown z.desk) e.2 ∙ at_p) in
      let ws = ap (λ (z : Account). writes_in z.calls) (sym e.2) ∙ writes_kept e.0.calls in
      record {
        fresh = λ w mw lt. s.fresh w (subst (λ (l : List Write). Mem w l) ws mw) lt;
        real = λ pos. let r = s.real pos in (r.0, subst (λ (l : List Write). Mem r.0 l) (sym ws) r.1, r.2, r.3, r.4);
      };
  monotone = λ c d mc md r s mr ms lt k p q at_p at_q. let a = from_map hand c mc in let e = from_map hand d md in
      h.monotone a.0 e.0 a.1 e.1 r s (looks_kept a.0.calls r (subst (λ (z : Account). Mem r (view_records_in z.calls)) (sym a.2) mr)) (looks_kept e.0.calls s (subst (λ (z : Account). Mem s (view_records_in z.calls)) (sym e.2) ms)) lt k p q at_p at_q;
}

pub scans_kept : (hand : List Account) → ScansSettled hand → ScansSettled (map without_collects hand)
scans_kept hand g = record {
  inside = λ c mc m q. let a = from_map hand c mc in g.inside a.0 a.1 m (here a.0 c a.2 m q);
  shows = λ c mc m q d md p at_p. let a = from_map hand c mc in let e = from_map hand d md in
      let s = g.shows a.0 a.1 m (here a.0 c a.2 m q) e.0 e.1 p (ap (λ (z : Account). get_elem? m.before z.desk) e.2 ∙ at_p) in
      let ws = ap (λ (z : Account). writes_in z.calls) (sym e.2) ∙ writes_kept e.0.calls in
      record { began = λ w mw is. s.began w (subst (λ (l : List Write). Mem w l) ws mw) is; fresh = λ w mw lt. s.fresh w (subst (λ (l : List Write). Mem w l) ws mw) lt };
  in_turn = λ c d mc md r s mr ms lt k p q at_p at_q. let a = from_map hand c mc in let e = from_map hand d md in
      g.in_turn a.0 e.0 a.1 e.1 r s (here a.0 c a.2 r mr) (here e.0 d e.2 s ms) lt k p q at_p at_q;
  climbed = λ c mc r q. let a = from_map hand c mc in g.climbed a.0 a.1 r (mem_kept a.0.calls r (subst (λ (z : Account). Mem r z.calls) (sym a.2) q));
}
  where
    here : (a c : Account) → without_collects a ≡ c → (m : Mark) → Mem m (marks_in c.calls) → Mem m (marks_in a.calls)
    here a c e m q = subst (λ (l : List Mark). Mem m l) (ap (λ (z : Account). marks_in z.calls) (sym e) ∙ marks_kept a.calls) q

-- where nothing was collected, all records are left
pub records_kept : (d : ℕ) (rs : List Answered) → collects_in rs ≡ 0 → records_at d (kept rs) ≡ records_at d rs
records_kept d [] e = refl
records_kept d (r ∷ rs) e = one r.op e (λ z. records_kept d rs z)
  where
    one : (o : Answer) → op_collects o + collects_in rs ≡ 0 → (collects_in rs ≡ 0 → records_at d (kept rs) ≡ records_at d rs) → records_at d (op_kept o (record { begun = r.begun; middles = r.middles; ended = r.ended; op = o }) ++ kept rs) ≡ op_records d r.begun r.ended o ++ records_at d rs
    one (Stored n v) z rest = ap (λ l. op_records d r.begun r.ended (Stored n v) ++ l) (rest (omega arith))
    one (Viewed xs) z rest = absurd (omega arith)
    one (Scanned t xs) z rest = ap (λ l. op_records d r.begun r.ended (Scanned t xs) ++ l) (rest (omega arith))
    one (Interfered n xs ys) z rest = rest (omega arith)
