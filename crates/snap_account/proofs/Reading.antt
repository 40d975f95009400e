-- A view grows by one component.
use Rattle.std.proofs.Common.{◌≡◌, ℕ, suc, true, List, [], ◌∷◌, ◌++◌, length, sym, refl, ap, subst, ◌∙◌, ⊎_elim, arith}
use lib.ListN.{get_elem?}
use Rattle.snap_account.specs.declared.account.Account.{Account}
use Rattle.snap_account.specs.declared.account.Answered.{Answered}
use Rattle.snap_account.specs.declared.account.Answer.{Answer}
use Rattle.snap_account.specs.declared.account.Answer.TheVariants.{Stored, Viewed, Scanned, Interfered}
use Rattle.std.proofs.lemmas.List.{map-append, length-map}
use Rattle.snap_account.specs.declared.account.Doing.{Doing}
use Rattle.snap_account.specs.declared.account.Doing.TheVariants.{Idle, Begun, Written, Viewing, Scanning}
use Rattle.snap_account.specs.Calls.{Mem, ViewRecord, view_record, reading, writes_in, view_records_in, open_writes, open_view_records, open_entry, latest, op_view_records, read, read_open}
use Rattle.snap_account.specs.Rule.{first_step}
use Rattle.snap_account.specs.Plays.{Seated, entry_of, HasRead, Learns}
use Rattle.snap_account.specs.Seats.{showing, has_read, pairs, doing_of, desk_of, answered_of, ticks_of, IsUpToDate}
use Rattle.snap_account.proofs.Lists.{mem_split, mem_left, mem_one, at_push}
use Rattle.snap_account.proofs.Accounts.{acct}

pub looks_over : (rs : List Answered) (r : ViewRecord) → Mem r (view_records_in rs) → r.over ≡ true
looks_over [] r m = absurd m
looks_over (q ∷ rs) r m = ⊎_elim (λ x. one q.begun q.ended q.op x) (λ x. looks_over rs r x) (mem_split (op_view_records q.begun q.ended q.op) (view_records_in rs) r m)
  where
    one : (b e : ℕ) (o : Answer) → Mem r (op_view_records b e o) → r.over ≡ true
    one b e (Stored n v) x = absurd x
    one b e (Viewed xs) x = ap (λ (z : ViewRecord). z.over) (sym (mem_one r (view_record b e true xs) x))
    one b e (Scanned t xs) x = ap (λ (z : ViewRecord). z.over) (sym (mem_one r (view_record b e true xs) x))
    one b e (Interfered n xs ys) x = ⊎_elim (λ q. ap (λ (z : ViewRecord). z.over) (sym q)) (λ q. ap (λ (z : ViewRecord). z.over) (sym (mem_one r (view_record b e true ys) q))) x

-- what a collect has read
pub has_showing : (o : Doing) (ys xs : List (ℕ × ℕ)) → HasRead o ys → HasRead (showing xs o) xs
has_showing Idle ys xs has = has
has_showing (Begun b) ys xs has = has
has_showing (Written b n v) ys xs has = has
has_showing (Viewing b zs) ys xs has = refl
has_showing (Scanning s) ys xs has = refl

showing_same : (o : Doing) (xs : List (ℕ × ℕ)) → HasRead o xs → o ≡ showing xs o
showing_same Idle xs has = refl
showing_same (Begun b) xs has = refl
showing_same (Written b n v) xs has = refl
showing_same (Viewing b zs) xs has = ap (Viewing b) has
showing_same (Scanning s) xs has = ap (λ ys. Scanning (reading s ys)) has

read_more : (o : Doing) (ys xs : List (ℕ × ℕ)) (p : ℕ × ℕ) → HasRead o ys → read_open p (showing xs o) ≡ showing (xs ++ p ∷ []) o
read_more Idle ys xs p has = refl
read_more (Begun b) ys xs p has = refl
read_more (Written b n v) ys xs p has = refl
read_more (Viewing b zs) ys xs p has = refl
read_more (Scanning s) ys xs p has = refl

-- a reading desk's word has its last store
reading_entry : (o : Doing) (ys : List (ℕ × ℕ)) (p : ℕ × ℕ) → HasRead o ys → open_entry p o ≡ p
reading_entry Idle ys p has = refl
reading_entry (Begun b) ys p has = refl
reading_entry (Written b n v) ys p has = absurd has
reading_entry (Viewing b zs) ys p has = refl
reading_entry (Scanning s) ys p has = refl

-- a seat that is about to read
pub ready : (me : Seated) (d : ℕ) (rs : List Answered) (o : Doing) (t : ℕ) → me ≡ (acct d rs o t ∷ [], []) → HasRead o [] → (me ≡ has_read me []) × HasRead (doing_of me.0) []
ready me d rs o t is has = (
  is ∙ ap (λ (z : Doing). (acct d rs z t ∷ [], [])) (showing_same o [] has) ∙ ap (λ (x : Seated). has_read x []) (sym is),
  subst (λ (x : Seated). HasRead (doing_of x.0) []) (sym is) has,
)

pub pairs-push : (ws : List ℕ) (w : ℕ) → pairs (ws ++ w ∷ []) ≡ pairs ws ++ entry_of w ∷ []
pairs-push ws w = map-append entry_of ws (w ∷ [])

pub has_read_more : (me0 me now : Seated) (ws : List ℕ) (w : ℕ) → me ≡ has_read me0 (pairs ws) → HasRead (doing_of me0.0) [] → now ≡ (first_step (read (entry_of w)) me.0, me.1) → now ≡ has_read me0 (pairs (ws ++ w ∷ []))
has_read_more me0 me now ws w is has told =
    told ∙ ap (λ (x : Seated). (first_step (read (entry_of w)) x.0, x.1)) is
    ∙ (λ i. (acct (desk_of me0.0) (answered_of me0.0) (read_more (doing_of me0.0) [] (pairs ws) (entry_of w) has i) (ticks_of me0.0) ∷ [], []))
    ∙ ap (λ ys. has_read me0 ys) (sym (pairs-push ws w))

pub told_more : (me0 me : Seated) (ws : List ℕ) (w n : ℕ) → me ≡ has_read me0 (pairs ws) → HasRead (doing_of me0.0) [] → w ≡ suc (length ws)
    → ((k : ℕ) (a : Account) → w ≡ suc k → me.0 ≡ a ∷ [] → Learns k a (entry_of n))
    → IsUpToDate (desk_of me0.0) (answered_of me0.0) (pairs ws) → IsUpToDate (desk_of me0.0) (answered_of me0.0) (pairs (ws ++ n ∷ []))
told_more me0 me ws w n is has at learns told k p e =
    let xs = pairs ws in
    let size : length xs ≡ length ws = length-map ws entry_of in
    let rs = answered_of me0.0 in
    let o = showing xs (doing_of me0.0) in
    let a = acct (desk_of me0.0) rs o (ticks_of me0.0) in
    let l = learns (length ws) a at (ap (λ (x : Seated). x.0) is) in ⊎_elim
    (λ old. told k p old)
    (λ (new : (k ≡ length xs) × (entry_of n ≡ p)). (
      (λ same. let q = l.0 (sym size ∙ sym new.0 ∙ same) in (sym new.1 ∙ q.0 ∙ reading_entry o xs (latest (0, 0) rs) (has_showing (doing_of me0.0) [] xs has), λ v m. q.1 v (mem_left (writes_in rs) (open_writes o) v m))),
      λ r m q at_q. let le = l.1 r (mem_left (view_records_in rs) (open_view_records o) r m) (looks_over rs r m) q (ap (λ z. get_elem? r.shown z) (sym size ∙ sym new.0) ∙ at_q) in
          let is_p = ap (λ (z : ℕ × ℕ). z.0) new.1 in omega arith,
    ))
    (at_push xs (entry_of n) p k (ap (λ l. get_elem? l k) (sym (pairs-push ws n)) ∙ e))
