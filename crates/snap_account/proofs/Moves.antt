-- Each step of a desk's seat keeps the board's rule, and tells what it read.
use Rattle.std.proofs.Common.{◌≡◌, ℕ, zero, suc, ◌+◌, ◌/◌, ◌%◌, ◌^◌, ◌<◌, ◌≤◌, ◌≢◌, List, [], ◌∷◌, ◌++◌, length, set, sym, refl, ap, ◌∙◌, subst, inl, ⊎_elim, arith}
use mathlib.Core.Option.{none, some, some-injective}
use lib.ListN.{get_elem?}
use Rattle.std.specs.Prelude.{slice_index}
use Rattle.atomic_table.proofs.Lists.{at_set}
use Rattle.atomic_table.specs.Table.{step, keeps, stepped, Allows}
use Rattle.snap_account.specs.declared.account.Account.{Account}
use Rattle.snap_account.specs.declared.account.Answered.{Answered}
use Rattle.snap_account.specs.declared.account.Answer.TheVariants.{Stored, Viewed, Scanned, Interfered}
use Rattle.snap_account.specs.declared.account.Doing.{Doing}
use Rattle.snap_account.specs.declared.account.Doing.TheVariants.{Idle, Begun, Written, Viewing, Scanning}
use Rattle.snap_account.specs.declared.account.Scan.{Scan}
use Rattle.snap_account.specs.Calls.{Mem, latest, in_word, writes_of, view_records_of, stamps_of, begun_store, middles_of, begun_view, wrote, read, ended, middled, gave_up}
use Rattle.snap_core.proofs.Sums.{total-set}
use Rattle.snap_account.specs.Limits.{tick_cap}
use Rattle.snap_account.specs.Marks.{Marked}
use Rattle.snap_account.specs.Rule.{Core, Ticked, Boarded, clock, code, words_of, first_step}
use Rattle.snap_account.specs.Plays.{Seated, entry_of, BeginsStore, BeginsView, Writes, Ends, Learns, Reads, Above, HasRead, ReadAll, Middles, GivesUp}
use Rattle.snap_account.proofs.Accounts.{acct, rec, rec_scan, latest-push}
use Rattle.snap_account.proofs.Lists.{mem_left, numbered_positive}
use Rattle.snap_account.proofs.Stores.{begins_store, writes, ends_store}
use Rattle.snap_account.proofs.Steps.{begins_view, reads, ends_view, middles_first, middles, reads_again, ends_scan, gives_up, scan}
use Rattle.snap_account.proofs.Marking as marking
use Rattle.snap_account.proofs.Drawing as drawing
use Rattle.snap_account.proofs.Seats.{St, held_step, words_ticked, words_quiet, words_written, clock_word, desk_word, set_self, clock_small}

-- the account of the seat, among all
here : (n l : ℕ) (s : St) (r : Boarded n l s) (id : ℕ) (a : Account) → get_elem? s.views id ≡ some (a ∷ []) → get_elem? r.accounts a.desk ≡ some a
here n l s r id a at = r.held.fits id (a ∷ []) at a (inl refl)

-- the rule after one account changed, and the words with it
after : (n l : ℕ) (s : St) (r : Boarded n l s) (id : ℕ) (a a' : Account) (i m : ℕ) (me : Seated) → get_elem? s.views id ≡ some (a ∷ []) → a'.desk ≡ a.desk → a'.ticks ≤ a.ticks + 1 → a'.ticks ≤ l → Core n (set r.accounts a.desk a')
    → (Core n (set r.accounts a.desk a') → clock (set r.accounts a.desk a') ≤ clock r.accounts + 1 → Marked n (set r.accounts a.desk a'))
    → set s.words i m ≡ words_of (set r.accounts a.desk a') → Ticked (set r.accounts a.desk a') → Boarded n l (stepped s i m id me.1 (a' ∷ []) keeps)
after n l s r id a a' i m me at same more room core marked words ticks = record {
  accounts = set r.accounts a.desk a';
  words = words;
  held = held_step n s.views r.accounts r.held id a a' at same r.core.size;
  core = core;
  scans = marked core (let t = total-set (λ (x : Account). x.ticks) r.accounts a.desk a a' (here n l s r id a at) in omega arith);
  ticks = ticks;
  limit = λ k x e. ⊎_elim
      (λ (q : (k ≡ a.desk) × (a' ≡ x)). subst (λ (z : Account). z.ticks ≤ l) q.1 room)
      (λ (q : (k ≢ a.desk) × (get_elem? r.accounts k ≡ some x)). r.limit k x q.1)
      (at_set r.accounts a.desk k a' x e);
}

-- the clock is above all stamps of the desk
above : (n l : ℕ) (s : St) (r : Boarded n l s) (id : ℕ) (a : Account) → get_elem? s.views id ≡ some (a ∷ []) → (me : Seated) → me.0 ≡ a ∷ [] → Above (slice_index s.words 0) me
above n l s r id a at me is x at_x y my =
    let same : a ≡ x = some-injective _ _ (ap (λ (l : List Account). get_elem? l 0) (sym is ∙ at_x)) in
    let l = r.core.below a.desk a (here n l s r id a at) y (mem_left (stamps_of a) (middles_of a) y (subst (λ (z : Account). Mem y (stamps_of z)) (sym same) my)) in
    let c = clock_word r.accounts s.words r.words in omega arith

pub code_number : (p : ℕ × ℕ) → p.1 < 4294967296 → entry_of (code p) ≡ p
code_number p small = λ i. (number i, value i)
  where
    number : code p / 4294967296 ≡ p.0
    number = omega arith

    value : code p % 4294967296 ≡ p.1
    value = omega arith

first_same : (x y : Account) → x ∷ [] ≡ y ∷ [] → x ≡ y
first_same x y e = some-injective _ _ (ap (λ (l : List Account). get_elem? l 0) e)

-- a store has read nothing
not_reading : (b m v : ℕ) (o : Doing) (ys : List (ℕ × ℕ)) → Written b m v ≡ o → HasRead o ys → ⊥
not_reading b m v o ys e r = subst (λ (z : Doing). HasRead z ys) (sym e) r

-- where a collect has read all components, so have the desk's earlier ones
all_read : (n : ℕ) (b : List Account) → Core n b → (a : Account) → get_elem? b a.desk ≡ some a → ((xs : List (ℕ × ℕ)) → HasRead a.doing xs → length xs ≡ n) → (me : Seated) → me.0 ≡ a ∷ [] → ReadAll me
all_read n b h a at all me is x is_x ys e r m over =
    let same = first_same a x (sym is ∙ is_x) in
    (h.own a.desk a at).whole r (subst (λ (z : Account). Mem r (view_records_of z)) (sym same) m) over ∙ sym (all ys (subst (λ (z : Account). HasRead z.doing ys) (sym same) e))

some_account : (l : List Account) (i : ℕ) → i < length l → (x : Account) × (get_elem? l i ≡ some x)
some_account [] i lt = absurd (omega arith)
some_account (x ∷ l) zero lt = (x, refl)
some_account (x ∷ l) (suc i) lt = some_account l i (omega arith)

suc_same : (i k : ℕ) → suc i ≡ suc k → i ≡ k
suc_same i k e = omega arith

-- what a desk learns by a load
learns : (n : ℕ) (b : List Account) → Core n b → (a : Account) → get_elem? b a.desk ≡ some a → (j : ℕ) (c : Account) → get_elem? b j ≡ some c → (k : ℕ) (x : Account) → j ≡ k → a ≡ x → (q : ℕ × ℕ) → q ≡ in_word c → Learns k x q
learns n b h a mine j c at_c k x at_k is_x q e =
    subst (λ (z : ℕ × Account). Learns z.0 z.1 q) (λ i. (at_k i, is_x i)) (
      (λ same. (e ∙ ap in_word (some-injective _ _ (sym at_c ∙ ap (λ i. get_elem? b i) same ∙ mine)), numbered_positive 1 (writes_of a) (omega arith) (h.own a.desk a mine).numbered)),
      λ u mu over p at_p. let le = (h.sees a.desk a mine u mu j c at_c p at_p).old in let eq = ap (λ (z : ℕ × ℕ). z.0) e in omega arith,
    )

module _ (n l slots id : ℕ) (me : Seated) (d : ℕ) (rs : List Answered) (t : ℕ) (few : n ≤ 8) (low : l ≤ tick_cap) where
  pub begins_store_as : me.0 ≡ acct d rs Idle t ∷ [] → t + 1 ≤ l → Allows (Boarded n l) slots id me 0 (λ m. (m + 1) % 2 ^ 64) (BeginsStore (step slots 0 1 0 none) me)
  begins_store_as is room s r _ at _ =
      let a = acct d rs Idle t in
      let b = r.accounts in
      let at' : get_elem? s.views id ≡ some (a ∷ []) = at ∙ ap some is in
      let a' = acct d rs (Begun (clock b)) (t + 1) in
      let found = clock_word b s.words r.words in
      let small = clock_small n l s r few low in
      let next : (slice_index s.words 0 + 1) % 2 ^ 64 ≡ clock b + 1 = omega arith in (
        a' ∷ [],
        keeps,
        tt,
        after n l s r id a a' 0 ((slice_index s.words 0 + 1) % 2 ^ 64) me at' refl (omega arith) room (begins_store n b r.core d d rs t (here n l s r id a at'))
            (marking.begins_store n b r.core r.scans d d rs t (clock b) (here n l s r id a at'))
            (ap (λ z. set s.words 0 z) next ∙ words_ticked b d a a' (here n l s r id a at') refl refl s.words r.words)
            (drawing.ticks b r.ticks d a (here n l s r id a at') a' (drawing.within d rs Idle (Begun (clock b)) t (t + 1) (clock b) refl) refl),
        ((λ i. (first_step (begun_store (sym found i)) (sym is i), me.1)), above n l s r id a at' me is),
      )

  pub begins_view_as : me.0 ≡ acct d rs Idle t ∷ [] → t + 1 ≤ l → Allows (Boarded n l) slots id me 0 (λ m. (m + 1) % 2 ^ 64) (BeginsView (step slots 0 1 0 none) me)
  begins_view_as is room s r _ at _ =
      let a = acct d rs Idle t in
      let b = r.accounts in
      let at' : get_elem? s.views id ≡ some (a ∷ []) = at ∙ ap some is in
      let a' = acct d rs (Viewing (clock b) []) (t + 1) in
      let found = clock_word b s.words r.words in
      let small = clock_small n l s r few low in
      let next : (slice_index s.words 0 + 1) % 2 ^ 64 ≡ clock b + 1 = omega arith in (
        a' ∷ [],
        keeps,
        tt,
        after n l s r id a a' 0 ((slice_index s.words 0 + 1) % 2 ^ 64) me at' refl (omega arith) room (begins_view n b r.core d d rs t (here n l s r id a at'))
            (marking.begins_view n b r.core r.scans d d rs t (clock b) (here n l s r id a at'))
            (ap (λ z. set s.words 0 z) next ∙ words_ticked b d a a' (here n l s r id a at') refl refl s.words r.words)
            (drawing.ticks b r.ticks d a (here n l s r id a at') a' (drawing.within d rs Idle (Viewing (clock b) []) t (t + 1) (clock b) refl) refl),
        ((λ i. (first_step (begun_view (sym found i)) (sym is i), me.1)), above n l s r id a at' me is),
      )

  pub writes_as : (b0 m v word : ℕ) → me.0 ≡ acct d rs (Begun b0) t ∷ [] → m ≡ (latest (0, 0) rs).0 + 1 → v < 4294967296 → word ≡ code (m, v)
      → Allows (Boarded n l) slots id me (suc d) (λ _. word) (λ _. Writes (step slots (suc d) word 0 none) me word)
  writes_as b0 m v word is next fits words s r _ at _ =
      let a = acct d rs (Begun b0) t in
      let b = r.accounts in
      let at' : get_elem? s.views id ≡ some (a ∷ []) = at ∙ ap some is in
      let a' = acct d rs (Written b0 m v) t in
      let entry : (m, v) ≡ entry_of word = sym (ap entry_of words ∙ code_number (m, v) fits) in (
        a' ∷ [],
        keeps,
        tt,
        after n l s r id a a' (suc d) word me at' refl (omega arith) (r.limit d a (here n l s r id a at')) (writes n b r.core d d rs t b0 m v (here n l s r id a at') next fits)
            (marking.writes n b r.core r.scans d d rs t b0 m v (here n l s r id a at') next)
            (ap (λ z. set s.words (suc d) z) words ∙ words_written b d a a' (here n l s r id a at') refl s.words r.words)
            (drawing.rests b r.ticks d a (here n l s r id a at') a' refl refl),
        λ i. (first_step (wrote (entry i)) (sym is i), me.1),
      )

  pub ends_store_as : (b0 m v : ℕ) → me.0 ≡ acct d rs (Written b0 m v) t ∷ [] → t + 1 ≤ l → Allows (Boarded n l) slots id me 0 (λ z. (z + 1) % 2 ^ 64) (Ends (step slots 0 1 0 none) me)
  ends_store_as b0 m v is room s r _ at _ =
      let a = acct d rs (Written b0 m v) t in
      let b = r.accounts in
      let at' : get_elem? s.views id ≡ some (a ∷ []) = at ∙ ap some is in
      let a' = acct d (rs ++ rec b0 (clock b) (Stored m v) ∷ []) Idle (t + 1) in
      let found = clock_word b s.words r.words in
      let small = clock_small n l s r few low in
      let next : (slice_index s.words 0 + 1) % 2 ^ 64 ≡ clock b + 1 = omega arith in (
        a' ∷ [],
        keeps,
        tt,
        after n l s r id a a' 0 ((slice_index s.words 0 + 1) % 2 ^ 64) me at' refl (omega arith) room (ends_store n b r.core d d rs t b0 m v (here n l s r id a at'))
            (marking.ends_store n b r.core r.scans d d rs t b0 m v (here n l s r id a at'))
            (ap (λ z. set s.words 0 z) next ∙ words_ticked b d a a' (here n l s r id a at') (latest-push (0, 0) rs (rec b0 (clock b) (Stored m v))) refl s.words r.words)
            (drawing.ticks b r.ticks d a (here n l s r id a at') a' (drawing.at_end d rs (rec b0 (clock b) (Stored m v)) (Written b0 m v) t (t + 1) (clock b) refl) refl),
        ((λ i. (first_step (ended (sym found i)) (sym is i), me.1)), above n l s r id a at' me is, λ x is_x ys e. absurd (not_reading b0 m v x.doing ys (ap (λ (z : Account). z.doing) (first_same a x (sym is ∙ is_x))) e)),
      )

  pub ends_view_as : (b0 : ℕ) (xs : List (ℕ × ℕ)) → me.0 ≡ acct d rs (Viewing b0 xs) t ∷ [] → length xs ≡ n → t + 1 ≤ l → Allows (Boarded n l) slots id me 0 (λ z. (z + 1) % 2 ^ 64) (Ends (step slots 0 1 0 none) me)
  ends_view_as b0 xs is all room s r _ at _ =
      let a = acct d rs (Viewing b0 xs) t in
      let b = r.accounts in
      let at' : get_elem? s.views id ≡ some (a ∷ []) = at ∙ ap some is in
      let a' = acct d (rs ++ rec b0 (clock b) (Viewed xs) ∷ []) Idle (t + 1) in
      let found = clock_word b s.words r.words in
      let small = clock_small n l s r few low in
      let next : (slice_index s.words 0 + 1) % 2 ^ 64 ≡ clock b + 1 = omega arith in (
        a' ∷ [],
        keeps,
        tt,
        after n l s r id a a' 0 ((slice_index s.words 0 + 1) % 2 ^ 64) me at' refl (omega arith) room (ends_view n b r.core d d rs t b0 xs (here n l s r id a at') all)
            (marking.ends_view n b r.core r.scans d d rs t b0 (clock b) xs (here n l s r id a at'))
            (ap (λ z. set s.words 0 z) next ∙ words_ticked b d a a' (here n l s r id a at') (latest-push (0, 0) rs (rec b0 (clock b) (Viewed xs))) refl s.words r.words)
            (drawing.ticks b r.ticks d a (here n l s r id a at') a' (drawing.at_end d rs (rec b0 (clock b) (Viewed xs)) (Viewing b0 xs) t (t + 1) (clock b) refl) refl),
        ((λ i. (first_step (ended (sym found i)) (sym is i), me.1)), above n l s r id a at' me is, all_read n b r.core a (here n l s r id a at') (λ ys e. ap length (sym e) ∙ all) me is),
      )

  pub reads_as : (b0 : ℕ) (xs : List (ℕ × ℕ)) → me.0 ≡ acct d rs (Viewing b0 xs) t ∷ [] → length xs < n → Allows (Boarded n l) slots id me (suc (length xs)) (λ z. z) (Reads (step slots (suc (length xs)) 0 0 none) me)
  reads_as b0 xs is more s r _ at _ =
      let a = acct d rs (Viewing b0 xs) t in
      let b = r.accounts in
      let j : ℕ = length xs in
      let at' : get_elem? s.views id ≡ some (a ∷ []) = at ∙ ap some is in
      let size = r.core.size in
      let c = some_account b j (omega arith) in
      let p : ℕ × ℕ = in_word c.0 in
      let a' = acct d rs (Viewing b0 (xs ++ p ∷ [])) t in
      let found : slice_index s.words (suc j) ≡ code p = desk_word b s.words r.words j c.0 c.1 in
      let entry : entry_of (slice_index s.words (suc j)) ≡ p = ap entry_of found ∙ code_number p (r.core.own j c.0 c.1).small in (
        a' ∷ [],
        keeps,
        tt,
        after n l s r id a a' (suc j) (slice_index s.words (suc j)) me at' refl (omega arith) (r.limit d a (here n l s r id a at')) (reads n b r.core d d rs t b0 xs c.0 (here n l s r id a at') c.1)
            (marking.reads n b r.core r.scans d d rs t b0 xs (xs ++ p ∷ []) (here n l s r id a at'))
            (set_self s.words (suc j) ∙ r.words ∙ words_quiet b d a a' (here n l s r id a at') refl refl)
            (drawing.rests b r.ticks d a (here n l s r id a at') a' refl refl),
        (
          (λ i. (first_step (read (sym entry i)) (sym is i), me.1)),
          λ k x at_k is_x. learns n b r.core a (here n l s r id a at') j c.0 c.1 k x (suc_same j k at_k) (first_same a x (sym is ∙ is_x)) (entry_of (slice_index s.words (suc j))) entry,
        ),
      )

  pub writes_at : (b0 m v word w : ℕ) → me.0 ≡ acct d rs (Begun b0) t ∷ [] → m ≡ (latest (0, 0) rs).0 + 1 → v < 4294967296 → word ≡ code (m, v) → w ≡ suc d
      → Allows (Boarded n l) slots id me w (λ _. word) (λ _. Writes (step slots w word 0 none) me word)
  writes_at b0 m v word w is next fits words at_w =
      subst (λ (z : ℕ). Allows (Boarded n l) slots id me z (λ _. word) (λ _. Writes (step slots z word 0 none) me word)) (sym at_w) (writes_as b0 m v word is next fits words)

  pub reads_at : (b0 : ℕ) (xs : List (ℕ × ℕ)) (w : ℕ) → me.0 ≡ acct d rs (Viewing b0 xs) t ∷ [] → length xs < n → w ≡ suc (length xs) → Allows (Boarded n l) slots id me w (λ z. z) (Reads (step slots w 0 0 none) me)
  reads_at b0 xs w is more at_w = subst (λ (z : ℕ). Allows (Boarded n l) slots id me z (λ y. y) (Reads (step slots z 0 0 none) me)) (sym at_w) (reads_as b0 xs is more)

  pub reads_again_as : (s0 : Scan) → me.0 ≡ acct d rs (Scanning s0) t ∷ [] → length s0.since < n → Allows (Boarded n l) slots id me (suc (length s0.since)) (λ z. z) (Reads (step slots (suc (length s0.since)) 0 0 none) me)
  reads_again_as s0 is more s r _ at _ =
      let a = acct d rs (Scanning s0) t in
      let b = r.accounts in
      let j : ℕ = length s0.since in
      let at' : get_elem? s.views id ≡ some (a ∷ []) = at ∙ ap some is in
      let size = r.core.size in
      let c = some_account b j (omega arith) in
      let p : ℕ × ℕ = in_word c.0 in
      let a' = acct d rs (Scanning (scan s0.begun s0.first s0.middles s0.middle s0.before (s0.since ++ p ∷ []))) t in
      let found : slice_index s.words (suc j) ≡ code p = desk_word b s.words r.words j c.0 c.1 in
      let entry : entry_of (slice_index s.words (suc j)) ≡ p = ap entry_of found ∙ code_number p (r.core.own j c.0 c.1).small in (
        a' ∷ [],
        keeps,
        tt,
        after n l s r id a a' (suc j) (slice_index s.words (suc j)) me at' refl (omega arith) (r.limit d a (here n l s r id a at')) (reads_again n b r.core d d rs t s0 c.0 (here n l s r id a at') c.1)
            (marking.reads_again n b r.core r.scans d d rs t s0 c.0 (here n l s r id a at') c.1)
            (set_self s.words (suc j) ∙ r.words ∙ words_quiet b d a a' (here n l s r id a at') refl refl)
            (drawing.rests b r.ticks d a (here n l s r id a at') a' refl refl),
        (
          (λ i. (first_step (read (sym entry i)) (sym is i), me.1)),
          λ k x at_k is_x. learns n b r.core a (here n l s r id a at') j c.0 c.1 k x (suc_same j k at_k) (first_same a x (sym is ∙ is_x)) (entry_of (slice_index s.words (suc j))) entry,
        ),
      )

  pub reads_again_at : (s0 : Scan) (w : ℕ) → me.0 ≡ acct d rs (Scanning s0) t ∷ [] → length s0.since < n → w ≡ suc (length s0.since) → Allows (Boarded n l) slots id me w (λ z. z) (Reads (step slots w 0 0 none) me)
  reads_again_at s0 w is more at_w = subst (λ (z : ℕ). Allows (Boarded n l) slots id me z (λ y. y) (Reads (step slots z 0 0 none) me)) (sym at_w) (reads_again_as s0 is more)

  -- a load of any collect
  pub loads_at : (o : Doing) (xs : List (ℕ × ℕ)) (w : ℕ) → me.0 ≡ acct d rs o t ∷ [] → HasRead o xs → length xs < n → w ≡ suc (length xs) → Allows (Boarded n l) slots id me w (λ z. z) (Reads (step slots w 0 0 none) me)
  loads_at Idle xs w is has more at_w = absurd has
  loads_at (Begun b) xs w is has more at_w = absurd has
  loads_at (Written b m v) xs w is has more at_w = absurd has
  loads_at (Viewing b ys) xs w is has more at_w = let l = ap length has in reads_at b ys w is (omega arith) (omega arith)
  loads_at (Scanning s0) xs w is has more at_w = let l = ap length has in reads_again_at s0 w is (omega arith) (omega arith)

  -- kind 9
  pub middles_first_as : (b0 : ℕ) (xs : List (ℕ × ℕ)) → me.0 ≡ acct d rs (Viewing b0 xs) t ∷ [] → length xs ≡ n → t + 1 ≤ l → Allows (Boarded n l) slots id me 0 (λ z. (z + 1) % 2 ^ 64) (Middles (step slots 0 1 0 none) me)
  middles_first_as b0 xs is all room s r _ at _ =
      let a = acct d rs (Viewing b0 xs) t in
      let b = r.accounts in
      let at' : get_elem? s.views id ≡ some (a ∷ []) = at ∙ ap some is in
      let a' = acct d rs (Scanning (scan b0 xs (clock b ∷ []) (clock b) xs [])) (t + 1) in
      let found = clock_word b s.words r.words in
      let small = clock_small n l s r few low in
      let next : (slice_index s.words 0 + 1) % 2 ^ 64 ≡ clock b + 1 = omega arith in (
        a' ∷ [],
        keeps,
        tt,
        after n l s r id a a' 0 ((slice_index s.words 0 + 1) % 2 ^ 64) me at' refl (omega arith) room (middles_first n b r.core d d rs t b0 xs (here n l s r id a at'))
            (marking.middles_first n b r.core r.scans d d rs t b0 xs (here n l s r id a at') all)
            (ap (λ z. set s.words 0 z) next ∙ words_ticked b d a a' (here n l s r id a at') refl refl s.words r.words)
            (drawing.ticks b r.ticks d a (here n l s r id a at') a' (drawing.within d rs (Viewing b0 xs) (Scanning (scan b0 xs (clock b ∷ []) (clock b) xs [])) t (t + 1) (clock b) refl) refl),
        ((λ i. (first_step (middled (sym found i)) (sym is i), me.1)), above n l s r id a at' me is),
      )

  pub middles_as : (s0 : Scan) → me.0 ≡ acct d rs (Scanning s0) t ∷ [] → length s0.since ≡ n → s0.before ≢ s0.since → t + 1 ≤ l → Allows (Boarded n l) slots id me 0 (λ z. (z + 1) % 2 ^ 64) (Middles (step slots 0 1 0 none) me)
  middles_as s0 is all ne room s r _ at _ =
      let a = acct d rs (Scanning s0) t in
      let b = r.accounts in
      let at' : get_elem? s.views id ≡ some (a ∷ []) = at ∙ ap some is in
      let a' = acct d rs (Scanning (scan s0.begun s0.first (s0.middles ++ clock b ∷ []) (clock b) s0.since [])) (t + 1) in
      let found = clock_word b s.words r.words in
      let small = clock_small n l s r few low in
      let next : (slice_index s.words 0 + 1) % 2 ^ 64 ≡ clock b + 1 = omega arith in (
        a' ∷ [],
        keeps,
        tt,
        after n l s r id a a' 0 ((slice_index s.words 0 + 1) % 2 ^ 64) me at' refl (omega arith) room (middles n b r.core d d rs t s0 (here n l s r id a at'))
            (marking.middles n b r.core r.scans d d rs t s0 (here n l s r id a at') all ne)
            (ap (λ z. set s.words 0 z) next ∙ words_ticked b d a a' (here n l s r id a at') refl refl s.words r.words)
            (drawing.ticks b r.ticks d a (here n l s r id a at') a' (drawing.within d rs (Scanning s0) (Scanning (scan s0.begun s0.first (s0.middles ++ clock b ∷ []) (clock b) s0.since [])) t (t + 1) (clock b) refl) refl),
        ((λ i. (first_step (middled (sym found i)) (sym is i), me.1)), above n l s r id a at' me is),
      )

  -- kind 6 of a scan
  pub ends_scan_as : (s0 : Scan) → me.0 ≡ acct d rs (Scanning s0) t ∷ [] → length s0.since ≡ n → s0.before ≡ s0.since → t + 1 ≤ l → Allows (Boarded n l) slots id me 0 (λ z. (z + 1) % 2 ^ 64) (Ends (step slots 0 1 0 none) me)
  ends_scan_as s0 is all same room s r _ at _ =
      let a = acct d rs (Scanning s0) t in
      let b = r.accounts in
      let at' : get_elem? s.views id ≡ some (a ∷ []) = at ∙ ap some is in
      let last = rec_scan s0 (clock b) (Scanned s0.middle s0.since) in
      let a' = acct d (rs ++ last ∷ []) Idle (t + 1) in
      let found = clock_word b s.words r.words in
      let small = clock_small n l s r few low in
      let next : (slice_index s.words 0 + 1) % 2 ^ 64 ≡ clock b + 1 = omega arith in (
        a' ∷ [],
        keeps,
        tt,
        after n l s r id a a' 0 ((slice_index s.words 0 + 1) % 2 ^ 64) me at' refl (omega arith) room (ends_scan n b r.core d d rs t s0 (here n l s r id a at') all)
            (marking.ends_scan n b r.core r.scans d d rs t s0 (here n l s r id a at') same)
            (ap (λ z. set s.words 0 z) next ∙ words_ticked b d a a' (here n l s r id a at') (latest-push (0, 0) rs last) refl s.words r.words)
            (drawing.ticks b r.ticks d a (here n l s r id a at') a' (drawing.at_end d rs last (Scanning s0) t (t + 1) (clock b) refl) refl),
        ((λ i. (first_step (ended (sym found i)) (sym is i), me.1)), above n l s r id a at' me is, all_read n b r.core a (here n l s r id a at') (λ ys e. ap length (sym e) ∙ all) me is),
      )

  -- kind 11
  pub gives_up_as : (s0 : Scan) → me.0 ≡ acct d rs (Scanning s0) t ∷ [] → length s0.first ≡ n → length s0.since ≡ n → s0.before ≢ s0.since → t + 1 ≤ l → Allows (Boarded n l) slots id me 0 (λ z. (z + 1) % 2 ^ 64) (GivesUp (step slots 0 1 0 none) me)
  gives_up_as s0 is first all ne room s r _ at _ =
      let a = acct d rs (Scanning s0) t in
      let b = r.accounts in
      let at' : get_elem? s.views id ≡ some (a ∷ []) = at ∙ ap some is in
      let last = rec_scan s0 (clock b) (Interfered (length s0.middles) s0.first s0.since) in
      let a' = acct d (rs ++ last ∷ []) Idle (t + 1) in
      let found = clock_word b s.words r.words in
      let small = clock_small n l s r few low in
      let next : (slice_index s.words 0 + 1) % 2 ^ 64 ≡ clock b + 1 = omega arith in (
        a' ∷ [],
        keeps,
        tt,
        after n l s r id a a' 0 ((slice_index s.words 0 + 1) % 2 ^ 64) me at' refl (omega arith) room (gives_up n b r.core d d rs t s0 (here n l s r id a at') first all)
            (marking.gives_up n b r.core r.scans d d rs t s0 (here n l s r id a at') all ne)
            (ap (λ z. set s.words 0 z) next ∙ words_ticked b d a a' (here n l s r id a at') (latest-push (0, 0) rs last) refl s.words r.words)
            (drawing.ticks b r.ticks d a (here n l s r id a at') a' (drawing.at_end d rs last (Scanning s0) t (t + 1) (clock b) refl) refl),
        ((λ i. (first_step (gave_up (sym found i)) (sym is i), me.1)), above n l s r id a at' me is),
      )
