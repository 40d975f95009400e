-- What the steps of a call leave in the desk's seat.
use Rattle.std.proofs.Common.{◌≡◌, ℕ, ◌+◌, ◌<◌, false, length, List, [], ◌∷◌, ◌++◌, sym, refl, ap, ◌∙◌, inl, arith}
use Rattle.snap_account.specs.declared.account.Account.{Account}
use Rattle.snap_account.specs.declared.account.Answered.{Answered}
use Rattle.snap_account.specs.declared.account.Answer.TheVariants.{Stored, Viewed, Scanned, Interfered}
use Rattle.snap_account.specs.declared.account.Doing.{Doing}
use Rattle.snap_account.specs.declared.account.Doing.TheVariants.{Begun, Written, Viewing, Scanning}
use Rattle.snap_account.specs.declared.account.Scan.{Scan}
use Rattle.snap_account.proofs.Lists.{mem_left, mem_right}
use Rattle.snap_account.specs.Calls.{Mem, ViewRecord, view_record, view_records_in, stamps_in, begun_store, begun_view, wrote, ended, middled, middle_open, gave_up}
use Rattle.snap_account.specs.Rule.{code, first_step}
use Rattle.snap_account.specs.Plays.{Seated, entry_of, Above, ReadAll}
use Rattle.snap_account.specs.Seats.{idle, answered_of, showing, has_read}
use Rattle.snap_account.proofs.Accounts.{acct, rec, rec_scan}
use Rattle.snap_account.proofs.Moves.{code_number}
use Rattle.snap_account.proofs.Reading.{looks_over}

abbrev pub at_desk : Account → Seated
at_desk a = (a ∷ [], [])

pub alone_of : (me : Seated) (d : ℕ) (rs : List Answered) (t u : ℕ) → me ≡ at_desk (idle d rs t) → t ≡ u → (me ≡ at_desk (idle d (answered_of me.0) u)) × (answered_of me.0 ≡ rs)
alone_of me d rs t u is same = let r : answered_of me.0 ≡ rs = ap (λ (m : Seated). answered_of m.0) is in (is ∙ (λ i. at_desk (idle d (sym r i) (same i))), r)

pub begun_after : (me now : Seated) (d : ℕ) (rs : List Answered) (t b : ℕ) → me ≡ at_desk (idle d rs t) → now ≡ (first_step (begun_store b) me.0, me.1) → now ≡ at_desk (acct d rs (Begun b) (t + 1))
begun_after me now d rs t b is told = told ∙ ap (λ (m : Seated). (first_step (begun_store b) m.0, m.1)) is

pub viewing_after : (me now : Seated) (d : ℕ) (rs : List Answered) (t b : ℕ) → me ≡ at_desk (idle d rs t) → now ≡ (first_step (begun_view b) me.0, me.1) → now ≡ at_desk (acct d rs (Viewing b []) (t + 1))
viewing_after me now d rs t b is told = told ∙ ap (λ (m : Seated). (first_step (begun_view b) m.0, m.1)) is

pub written_after : (me now : Seated) (d : ℕ) (rs : List Answered) (t b m v word : ℕ) → me ≡ at_desk (acct d rs (Begun b) t) → word ≡ code (m, v) → v < 4294967296 → now ≡ (first_step (wrote (entry_of word)) me.0, me.1)
    → now ≡ at_desk (acct d rs (Written b m v) t)
written_after me now d rs t b m v word is words fits told =
    let e : entry_of word ≡ (m, v) = ap entry_of words ∙ code_number (m, v) fits in
    told ∙ ap (λ (x : Seated). (first_step (wrote (entry_of word)) x.0, x.1)) is ∙ (λ i. at_desk (acct d rs (Written b (e i).0 (e i).1) t))

pub stored_after : (me now : Seated) (d : ℕ) (rs : List Answered) (t b e m v : ℕ) → me ≡ at_desk (acct d rs (Written b m v) t) → now ≡ (first_step (ended e) me.0, me.1) → now ≡ at_desk (idle d (rs ++ rec b e (Stored m v) ∷ []) (t + 1))
stored_after me now d rs t b e m v is told = told ∙ ap (λ (x : Seated). (first_step (ended e) x.0, x.1)) is

pub viewed_after : (me now : Seated) (d : ℕ) (rs : List Answered) (t b e : ℕ) (xs : List (ℕ × ℕ)) → me ≡ at_desk (acct d rs (Viewing b xs) t) → now ≡ (first_step (ended e) me.0, me.1) → now ≡ at_desk (idle d (rs ++ rec b e (Viewed xs) ∷ []) (t + 1))
viewed_after me now d rs t b e xs is told = told ∙ ap (λ (x : Seated). (first_step (ended e) x.0, x.1)) is

pub scanned_after : (me now : Seated) (d : ℕ) (rs : List Answered) (t e : ℕ) (s : Scan) → me ≡ at_desk (acct d rs (Scanning s) t) → now ≡ (first_step (ended e) me.0, me.1) → now ≡ at_desk (idle d (rs ++ rec_scan s e (Scanned s.middle s.since) ∷ []) (t + 1))
scanned_after me now d rs t e s is told = told ∙ ap (λ (x : Seated). (first_step (ended e) x.0, x.1)) is

pub gave_up_after : (me now : Seated) (d : ℕ) (rs : List Answered) (t e : ℕ) (s : Scan) → me ≡ at_desk (acct d rs (Scanning s) t) → now ≡ (first_step (gave_up e) me.0, me.1)
    → now ≡ at_desk (idle d (rs ++ rec_scan s e (Interfered (length s.middles) s.first s.since) ∷ []) (t + 1))
gave_up_after me now d rs t e s is told = told ∙ ap (λ (x : Seated). (first_step (gave_up e) x.0, x.1)) is

pub middled_after : (me now : Seated) (d : ℕ) (rs : List Answered) (o : Doing) (t e : ℕ) → me ≡ at_desk (acct d rs o t) → now ≡ (first_step (middled e) me.0, me.1) → now ≡ at_desk (acct d rs (middle_open e o) (t + 1))
middled_after me now d rs o t e is told = told ∙ ap (λ (x : Seated). (first_step (middled e) x.0, x.1)) is

-- a collect has read xs
pub grew : (me now : Seated) (d : ℕ) (rs : List Answered) (o : Doing) (t : ℕ) (xs : List (ℕ × ℕ)) → me ≡ at_desk (acct d rs o t) → now ≡ has_read me xs → now ≡ at_desk (acct d rs (showing xs o) t)
grew me now d rs o t xs is told = told ∙ ap (λ (x : Seated). has_read x xs) is

-- the stamps of a call are above those of the calls before it
pub above_old : (me : Seated) (d : ℕ) (rs : List Answered) (t b : ℕ) → me ≡ at_desk (idle d rs t) → Above b me → (x : ℕ) → Mem x (stamps_in rs) → x < b
above_old me d rs t b is above x m = above (idle d rs t) (ap (λ (z : Seated). z.0) is) x (mem_left (stamps_in rs) [] x m)

pub above_begun : (me : Seated) (d : ℕ) (rs : List Answered) (t b m v e : ℕ) → me ≡ at_desk (acct d rs (Written b m v) t) → Above e me → b < e
above_begun me d rs t b m v e is above = above (acct d rs (Written b m v) t) (ap (λ (z : Seated). z.0) is) b (mem_right (stamps_in rs) (b ∷ []) b (inl refl))

pub above_view : (me : Seated) (d : ℕ) (rs : List Answered) (t b e : ℕ) (xs : List (ℕ × ℕ)) → me ≡ at_desk (acct d rs (Viewing b xs) t) → Above e me → b < e
above_view me d rs t b e xs is above = above (acct d rs (Viewing b xs) t) (ap (λ (z : Seated). z.0) is) b (mem_right (stamps_in rs) (b ∷ []) b (inl refl))

-- what a store leaves
pub record StoreDone (d : ℕ) (rs : List Answered) (t begun ended m v : ℕ) (last : Seated) : Type 0 where
  pub me : last ≡ at_desk (idle d (rs ++ rec begun ended (Stored m v) ∷ []) (t + 2))
  pub in_turn : begun < ended
  pub above : (x : ℕ) → Mem x (stamps_in rs) → x < begun

pub store_done : (me0 me1 me2 me3 : Seated) (d : ℕ) (rs : List Answered) (t b e m v word : ℕ) → me0 ≡ at_desk (idle d rs t) → word ≡ code (m, v) → v < 4294967296
    → (me1 ≡ (first_step (begun_store b) me0.0, me0.1)) × Above b me0 → me2 ≡ (first_step (wrote (entry_of word)) me1.0, me1.1) → (me3 ≡ (first_step (ended e) me2.0, me2.1)) × Above e me2 × ReadAll me2 → StoreDone d rs t b e m v me3
store_done me0 me1 me2 me3 d rs t b e m v word is words fits first second third =
    let at1 = begun_after me0 me1 d rs t b is first.0 in
    let at2 = written_after me1 me2 d rs (t + 1) b m v word at1 words fits second in
    let two : t + 1 + 1 ≡ t + 2 = omega arith in
    record {
      me = stored_after me2 me3 d rs (t + 1) b e m v at2 third.0 ∙ ap (λ z. at_desk (idle d (rs ++ rec b e (Stored m v) ∷ []) z)) two;
      in_turn = above_begun me2 d rs (t + 1) b m v e at2 third.1;
      above = above_old me0 d rs t b is first.1;
    }

-- what a collect leaves
pub record CollectDone (d : ℕ) (rs : List Answered) (t begun ended : ℕ) (xs : List (ℕ × ℕ)) (last : Seated) : Type 0 where
  pub me : last ≡ at_desk (idle d (rs ++ rec begun ended (Viewed xs) ∷ []) (t + 2))
  pub in_turn : begun < ended
  pub above : (x : ℕ) → Mem x (stamps_in rs) → x < begun
  pub whole : (v : ViewRecord) → Mem v (view_records_in rs) → length v.shown ≡ length xs

pub collect_done : (me0 me1 me2 me3 : Seated) (d : ℕ) (rs : List Answered) (t b e : ℕ) (xs : List (ℕ × ℕ)) → me0 ≡ at_desk (idle d rs t)
    → (me1 ≡ (first_step (begun_view b) me0.0, me0.1)) × Above b me0 → me2 ≡ has_read me1 xs → (me3 ≡ (first_step (ended e) me2.0, me2.1)) × Above e me2 × ReadAll me2
    → CollectDone d rs t b e xs me3
collect_done me0 me1 me2 me3 d rs t b e xs is first second third =
    let at1 = viewing_after me0 me1 d rs t b is first.0 in
    let at2 = grew me1 me2 d rs (Viewing b []) (t + 1) xs at1 second in
    let two : t + 1 + 1 ≡ t + 2 = omega arith in
    record {
      me = viewed_after me2 me3 d rs (t + 1) b e xs at2 third.0 ∙ ap (λ z. at_desk (idle d (rs ++ rec b e (Viewed xs) ∷ []) z)) two;
      in_turn = above_view me2 d rs (t + 1) b e xs at2 third.1;
      above = above_old me0 d rs t b is first.1;
      whole = λ v m. third.2 (acct d rs (Viewing b xs) (t + 1)) (ap (λ (z : Seated). z.0) at2) xs refl v (mem_left (view_records_in rs) (view_record b 0 false xs ∷ []) v m) (looks_over rs v m);
    }
