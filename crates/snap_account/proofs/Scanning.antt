-- What the steps of a scan leave in the desk's seat.
use Rattle.std.proofs.Common.{◌≡◌, ◌≢◌, ℕ, ◌+◌, ◌<◌, List, [], ◌∷◌, ◌++◌, length, sym, refl, ap, ◌∙◌, subst, inl, arith}
use Rattle.snap_account.specs.declared.account.Account.{Account}
use Rattle.snap_account.specs.declared.account.Answered.{Answered}
use Rattle.snap_account.specs.declared.account.Answer.TheVariants.{Scanned, Interfered}
use Rattle.snap_account.specs.declared.account.Doing.{Doing}
use Rattle.snap_account.specs.declared.account.Doing.TheVariants.{Idle, Begun, Written, Viewing, Scanning}
use Rattle.snap_account.specs.declared.account.Scan.{Scan}
use Rattle.snap_account.specs.Calls.{Mem, ViewRecord, view_records_in, open_view_records, stamps_in, begun_view, ended, gave_up}
use Rattle.snap_account.specs.Rule.{first_step}
use Rattle.snap_account.specs.Plays.{Seated, Above, ReadAll}
use Rattle.snap_account.specs.Seats.{idle, has_read, one_desk, doing_of, desk_of, answered_of, ticks_of, begun_of, begun_in}
use Rattle.snap_account.specs.Tries.{IsRead, IsTrying, HasAgreed, middles_made, made_in, made_of, middle_in}
use Rattle.snap_account.proofs.Lists.{mem_left, mem_right}
use Rattle.snap_account.proofs.Accounts.{acct, rec_with}
use Rattle.snap_account.proofs.Reading.{looks_over}
use Rattle.snap_account.proofs.Calling.{at_desk, viewing_after, grew, scanned_after, gave_up_after, above_old}

pub agreed_scan : (ys : List (ℕ × ℕ)) (o : Doing) → HasAgreed ys o → (s : Scan) × (o ≡ Scanning s) × (s.before ≡ ys) × (s.since ≡ ys)
agreed_scan ys Idle h = absurd h
agreed_scan ys (Begun b) h = absurd h
agreed_scan ys (Written b m v) h = absurd h
agreed_scan ys (Viewing b xs) h = absurd h
agreed_scan ys (Scanning s) h = (s, refl, h.0, h.1)

pub trying_scan : (n d : ℕ) (rs : List Answered) (xs : List (ℕ × ℕ)) (o : Doing) → IsTrying n d rs xs o → 0 < made_in o → (s : Scan) × (o ≡ Scanning s) × (s.since ≡ xs) × (s.before ≢ xs) × (length s.first ≡ n) × IsRead n d rs s.before
trying_scan n d rs xs Idle h pos = absurd h
trying_scan n d rs xs (Begun b) h pos = absurd h
trying_scan n d rs xs (Written b m v) h pos = absurd h
trying_scan n d rs xs (Viewing b ys) h pos = absurd (omega arith)
trying_scan n d rs xs (Scanning s) h pos = (s, refl, h.0, h.1, h.2, h.3)

-- a board of one desk shows that desk's last store
pub one_read : (d : ℕ) (rs : List Answered) (xs ys : List (ℕ × ℕ)) → d ≡ 0 → IsRead 1 d rs xs → IsRead 1 d rs ys → xs ≡ ys
one_read d rs [] ys z a c = absurd (let l = a.0 in omega arith)
one_read d rs (x ∷ []) [] z a c = absurd (let l = c.0 in omega arith)
one_read d rs (x ∷ []) (y ∷ []) z a c = let e = ((a.1 0 x refl).0 (sym z)).0 in let f = ((c.1 0 y refl).0 (sym z)).0 in λ i. (e ∙ sym f) i ∷ []
one_read d rs (x ∷ []) (y ∷ y2 ∷ ys) z a c = absurd (let l = c.0 in omega arith)
one_read d rs (x ∷ x2 ∷ xs) ys z a c = absurd (let l = a.0 in omega arith)

pub made_same : (v : List Account) → made_of v ≡ made_in (doing_of v)
made_same [] = refl
made_same (a ∷ v) = refl

-- the seat before the tries
pub record Ready (d : ℕ) (rs : List Answered) (t b : ℕ) (xs : List (ℕ × ℕ)) (seat : Seated) : Type 0 where
  pub me : seat ≡ at_desk (acct d rs (Viewing b xs) (t + 1))
  pub one : seat ≡ one_desk seat
  pub trying : (n : ℕ) → IsTrying n (desk_of seat.0) (answered_of seat.0) xs (doing_of seat.0)

pub get_ready : (me0 me1 me2 : Seated) (d : ℕ) (rs : List Answered) (t b : ℕ) (xs : List (ℕ × ℕ)) → me0 ≡ at_desk (idle d rs t) → me1 ≡ (first_step (begun_view b) me0.0, me0.1) → me2 ≡ has_read me1 xs → Ready d rs t b xs me2
get_ready me0 me1 me2 d rs t b xs is first second =
    let at1 = viewing_after me0 me1 d rs t b is first in
    let at2 = grew me1 me2 d rs (Viewing b []) (t + 1) xs at1 second in
    record { me = at2; one = at2 ∙ ap one_desk (sym at2); trying = λ n. subst (λ (m : Seated). IsTrying n (desk_of m.0) (answered_of m.0) xs (doing_of m.0)) (sym at2) refl }

-- the seat after the tries
pub after_tries : (me2 me3 : Seated) (d : ℕ) (rs : List Answered) (t b m : ℕ) (xs : List (ℕ × ℕ)) (o : Doing) → Ready d rs t b xs me2 → me3 ≡ one_desk me3
    → (desk_of me3.0 ≡ desk_of me2.0) × (answered_of me3.0 ≡ answered_of me2.0) × (begun_of me3.0 ≡ begun_of me2.0) → ticks_of me3.0 ≡ ticks_of me2.0 + m → doing_of me3.0 ≡ o
    → (me3 ≡ at_desk (acct d rs o (t + 1 + m))) × (begun_in o ≡ b)
after_tries me2 me3 d rs t b m xs o r one same ticks is =
    let desk = same.0 ∙ ap (λ (x : Seated). desk_of x.0) r.me in
    let recs = same.1 ∙ ap (λ (x : Seated). answered_of x.0) r.me in
    let count = ticks ∙ ap (λ (x : Seated). ticks_of x.0 + m) r.me in
    let whole : me3 ≡ at_desk (acct d rs o (t + 1 + m)) = one ∙ (λ i. at_desk (acct (desk i) (recs i) (is i) (count i))) in
    (whole, ap (λ (x : Seated). begun_of x.0) (sym whole) ∙ same.2 ∙ ap (λ (x : Seated). begun_of x.0) r.me)

-- what a scan with a record leaves
pub record ScanDone (d : ℕ) (rs : List Answered) (t b e m middle : ℕ) (ms : List ℕ) (ys : List (ℕ × ℕ)) (last : Seated) : Type 0 where
  pub me : last ≡ at_desk (idle d (rs ++ rec_with b ms e (Scanned middle ys) ∷ []) (t + m + 2))
  pub in_turn : b < e
  pub above : (x : ℕ) → Mem x (stamps_in rs) → x < b
  pub whole : (v : ViewRecord) → Mem v (view_records_in rs) → length v.shown ≡ length ys

pub scan_done : (me0 me1 me2 me3 me4 : Seated) (d : ℕ) (rs : List Answered) (t b e m : ℕ) (xs ys : List (ℕ × ℕ)) → me0 ≡ at_desk (idle d rs t) → (me1 ≡ (first_step (begun_view b) me0.0, me0.1)) × Above b me0 → me2 ≡ has_read me1 xs
    → me3 ≡ one_desk me3 → (desk_of me3.0 ≡ desk_of me2.0) × (answered_of me3.0 ≡ answered_of me2.0) × (begun_of me3.0 ≡ begun_of me2.0) → ticks_of me3.0 ≡ ticks_of me2.0 + m → HasAgreed ys (doing_of me3.0)
    → (me4 ≡ (first_step (ended e) me3.0, me3.1)) × Above e me3 × ReadAll me3 → ScanDone d rs t b e m (middle_in (doing_of me3.0)) (middles_made (doing_of me3.0)) ys me4
scan_done me0 me1 me2 me3 me4 d rs t b e m xs ys is first second one same ticks agreed last =
    let r = get_ready me0 me1 me2 d rs t b xs is first.0 second in
    let s = agreed_scan ys (doing_of me3.0) agreed in
    let a = after_tries me2 me3 d rs t b m xs (Scanning s.0) r one same ticks s.1 in
    let two : t + 1 + m + 1 ≡ t + m + 2 = omega arith in
    let made : s.0.middles ≡ middles_made (doing_of me3.0) = ap middles_made (sym s.1) in
    let mid : s.0.middle ≡ middle_in (doing_of me3.0) = ap middle_in (sym s.1) in
    let o = Scanning s.0 in
    let there : Mem b (stamps_in rs ++ s.0.begun ∷ []) = mem_right (stamps_in rs) (s.0.begun ∷ []) b (inl a.1) in
    record {
      me = scanned_after me3 me4 d rs (t + 1 + m) e s.0 a.0 last.0 ∙ (λ i. at_desk (idle d (rs ++ rec_with (a.1 i) (made i) e (Scanned (mid i) (s.3 i)) ∷ []) (two i)));
      in_turn = last.1 (acct d rs o (t + 1 + m)) (ap (λ (z : Seated). z.0) a.0) b there;
      above = above_old me0 d rs t b is first.1;
      whole = λ v q. last.2 (acct d rs o (t + 1 + m)) (ap (λ (z : Seated). z.0) a.0) ys s.3 v (mem_left (view_records_in rs) (open_view_records o) v q) (looks_over rs v q);
    }

-- what a scan without a record leaves
pub scan_lost : (me2 me3 me4 : Seated) (n d : ℕ) (rs : List Answered) (t b e m : ℕ) (xs ys : List (ℕ × ℕ)) → Ready d rs t b xs me2 → me3 ≡ one_desk me3
    → (desk_of me3.0 ≡ desk_of me2.0) × (answered_of me3.0 ≡ answered_of me2.0) × (begun_of me3.0 ≡ begun_of me2.0) → ticks_of me3.0 ≡ ticks_of me2.0 + m → made_in (doing_of me3.0) ≡ m → 0 < m → IsTrying n d rs ys (doing_of me3.0)
    → me4 ≡ (first_step (gave_up e) me3.0, me3.1) → (ms : List ℕ) × (length ms ≡ m) × (fs : List (ℕ × ℕ)) × (me4 ≡ at_desk (idle d (rs ++ rec_with b ms e (Interfered m fs ys) ∷ []) (t + m + 2)))
scan_lost me2 me3 me4 n d rs t b e m xs ys r one same ticks made pos try last =
    let s = trying_scan n d rs ys (doing_of me3.0) try (omega arith) in
    let a = after_tries me2 me3 d rs t b m xs (Scanning s.0) r one same ticks s.1 in
    let two : t + 1 + m + 1 ≡ t + m + 2 = omega arith in
    let many : length s.0.middles ≡ m = ap made_in (sym s.1) ∙ made in
    (s.0.middles, many, s.0.first, gave_up_after me3 me4 d rs (t + 1 + m) e s.0 a.0 last ∙ (λ i. at_desk (idle d (rs ++ rec_with (a.1 i) s.0.middles e (Interfered (many i) s.0.first (s.2 i)) ∷ []) (two i))))
