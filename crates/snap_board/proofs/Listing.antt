-- What a view lists, and what the records of a desk say.
use Rattle.std.proofs.Common.{◌≡◌, ℕ, zero, suc, ◌+◌, ◌<◌, ◌≤◌, ◌||◌, not, if◌then◌else◌, Bool, true, false, cond, nat_lt, List, [], ◌∷◌, ◌++◌, length, get_or, Option, Some, None, sym, refl, ap, ◌∙◌, subst, inl, inr, ⊎_elim, arith, append_assoc, append-nil, length-append, lt-ltb, le-ltb, ne_eqb, eq-eqb}
use mathlib.Core.Option.{some}
use native.Mathlib.Decide.{dec_le}
use lib.ListN.{get_elem?}
use Rattle.std.specs.List.{Contains}
use Rattle.std.proofs.lemmas.Bool.{ltb-true, ltb-false, and_from}
use Rattle.snap_core.specs.declared.entry.Entry.{Entry}
use Rattle.snap_core.specs.Entries.{rises, has_zero, view_refusal, entry_of, number_in}
use Rattle.snap_core.specs.declared.view.ViewRefusal.TheVariants.{NotRising, ZeroNumber}
use Rattle.snap_account.specs.declared.account.Answered.{Answered}
use Rattle.snap_account.specs.declared.account.Answer.{Answer}
use Rattle.snap_account.specs.declared.account.Answer.TheVariants.{Stored, Viewed, Scanned, Interfered}
use Rattle.snap_board.specs.declared.record.Record.{Record}
use Rattle.snap_account.specs.Calls.{Mem, ViewRecord, write, view_record, op_view_records, writes_in, view_records_in, stamps_in, AllNumbered, op_entry, latest}
use Rattle.snap_account.specs.Seats.{IsUpToDate}
use Rattle.snap_board.specs.Desks.{listed, shown_entry, op_records, records_at, IsLater, last_stored, number_shown, op_lost, lost_in, op_collects, collects_in}
use Rattle.snap_core.proofs.Sums.{total-append}
use Rattle.snap_account.proofs.Lists.{mem_split, mem_left, mem_right, mem_one}

-- what was read of component k, the initial state where nothing was
abbrev pub shown_at : List (ℕ × ℕ) → ℕ → ℕ × ℕ
shown_at [] k = (0, 0)
shown_at (x ∷ xs) zero = x
shown_at (x ∷ xs) (suc k) = shown_at xs k

pub shown_some : (xs : List (ℕ × ℕ)) (k : ℕ) → k < length xs → get_elem? xs k ≡ some (shown_at xs k)
shown_some [] k lt = absurd (omega arith)
shown_some (x ∷ xs) zero lt = refl
shown_some (x ∷ xs) (suc k) lt = shown_some xs k (omega arith)

pub shown_low : (xs : List (ℕ × ℕ)) (k : ℕ) → 0 < (shown_at xs k).0 → k < length xs
shown_low [] k pos = absurd (omega arith)
shown_low (x ∷ xs) zero pos = omega arith
shown_low (x ∷ xs) (suc k) pos = let r = shown_low xs k pos in omega arith

pub shown_high : (xs : List (ℕ × ℕ)) (k : ℕ) → length xs ≤ k → shown_at xs k ≡ (0, 0)
shown_high [] k le = refl
shown_high (x ∷ xs) zero le = absurd (omega arith)
shown_high (x ∷ xs) (suc k) le = shown_high xs k (omega arith)

-- the entry of a component, nothing for number 0
abbrev pub entry_at : ℕ → ℕ × ℕ → Option Entry
entry_at k p = cond (nat_lt 0 p.0) (Some (record { component = k; number = p.0; value = p.1 })) None

pub entry_at_positive : (k n v : ℕ) → 0 < n → entry_at k (n, v) ≡ Some (record { component = k; number = n; value = v })
entry_at_positive k n v pos = ap (λ b. cond b (Some (record { component = k; number = n; value = v })) None) (lt-ltb 0 n pos)

pub number_at : (k : ℕ) (p : ℕ × ℕ) → number_in (entry_at k p) ≡ p.0
number_at k p = go (nat_lt 0 p.0) refl
  where
    go : (b : Bool) → nat_lt 0 p.0 ≡ b → number_in (cond b (Some (record { component = k; number = p.0; value = p.1 })) None) ≡ p.0
    go true e = refl
    go false e = let l = ltb-false 0 p.0 e in omega arith

entry_of_none : (j k : ℕ) (xs : List (ℕ × ℕ)) → k < j → entry_of k (listed j xs) ≡ None
entry_of_none j k [] lt = refl
entry_of_none j k (p ∷ xs) lt = go (entry_of_none (suc j) k xs (omega arith)) (nat_lt 0 p.0)
  where
    go : entry_of k (listed (suc j) xs) ≡ None → (b : Bool) → entry_of k (cond b (record { component = j; number = p.0; value = p.1 } ∷ []) [] ++ listed (suc j) xs) ≡ None
    go rest true = ap (λ b. cond b (Some (record { component = j; number = p.0; value = p.1 })) (entry_of k (listed (suc j) xs))) (ne_eqb j k (λ e. omega arith)) ∙ rest
    go rest false = rest

-- the entry that a view lists of a component
pub listed_at : (j k : ℕ) (xs : List (ℕ × ℕ)) → entry_of (j + k) (listed j xs) ≡ entry_at (j + k) (shown_at xs k)
listed_at j k [] = refl
listed_at j zero (p ∷ xs) = go (nat_lt 0 p.0)
  where
    same : j ≡ j + 0
    same = omega arith

    go : (b : Bool) → entry_of (j + 0) (cond b (record { component = j; number = p.0; value = p.1 } ∷ []) [] ++ listed (suc j) xs) ≡ cond b (Some (record { component = j + 0; number = p.0; value = p.1 })) None
    go true = ap (λ b. cond b (Some (record { component = j; number = p.0; value = p.1 })) (entry_of (j + 0) (listed (suc j) xs))) (eq-eqb j (j + 0) same) ∙ ap (λ z. Some (record { component = z; number = p.0; value = p.1 })) same
    go false = entry_of_none (suc j) (j + 0) xs (omega arith)
listed_at j (suc k) (p ∷ xs) =
    let same : suc j + k ≡ j + suc k = omega arith in
    go (subst (λ (z : ℕ). entry_of z (listed (suc j) xs) ≡ entry_at z (shown_at xs k)) same (listed_at (suc j) k xs)) (nat_lt 0 p.0)
  where
    go : entry_of (j + suc k) (listed (suc j) xs) ≡ entry_at (j + suc k) (shown_at xs k) → (b : Bool) → entry_of (j + suc k) (cond b (record { component = j; number = p.0; value = p.1 } ∷ []) [] ++ listed (suc j) xs) ≡ entry_at (j + suc k) (shown_at xs k)
    go rest true = ap (λ b. cond b (Some (record { component = j; number = p.0; value = p.1 })) (entry_of (j + suc k) (listed (suc j) xs))) (ne_eqb j (j + suc k) (λ e. omega arith)) ∙ rest
    go rest false = rest

-- of component k
pub listed_entry : (k : ℕ) (xs : List (ℕ × ℕ)) → entry_of k (listed 0 xs) ≡ entry_at k (shown_at xs k)
listed_entry k xs = let e : 0 + k ≡ k = omega arith in subst (λ (z : ℕ). entry_of z (listed 0 xs) ≡ entry_at z (shown_at xs k)) e (listed_at 0 k xs)

-- one component more
pub listed-push : (k : ℕ) (xs : List (ℕ × ℕ)) (p : ℕ × ℕ) → listed k (xs ++ p ∷ []) ≡ listed k xs ++ shown_entry (k + length xs) p
listed-push k [] p = append-nil (shown_entry k p) ∙ (let e : k ≡ k + 0 = omega arith in ap (λ z. shown_entry z p) e)
listed-push k (q ∷ xs) p =
    ap (λ es. shown_entry k q ++ es) (listed-push (suc k) xs p)
    ∙ (let e : suc k + length xs ≡ k + suc (length xs) = omega arith in ap (λ z. shown_entry k q ++ (listed (suc k) xs ++ shown_entry z p)) e)
    ∙ sym (append_assoc (shown_entry k q) (listed (suc k) xs) (shown_entry (k + suc (length xs)) p))

pub listed_short : (k : ℕ) (xs : List (ℕ × ℕ)) → length (listed k xs) ≤ length xs
listed_short k [] = omega arith
listed_short k (p ∷ xs) = let r = listed_short (suc k) xs in let l = length-append (shown_entry k p) (listed (suc k) xs) in let o = one (nat_lt 0 p.0) k p in omega arith
  where
    one : (b : Bool) (j : ℕ) (q : ℕ × ℕ) → length {A = Entry} (cond b (record { component = j; number = q.0; value = q.1 } ∷ []) []) ≤ 1
    one true j q = omega arith
    one false j q = omega arith

pub list_more : (es : List Entry) (xs : List (ℕ × ℕ)) (k : ℕ) (p : ℕ × ℕ) → es ≡ listed 0 xs → length xs ≡ k → 0 < p.0 → es ++ record { component = k; number = p.0; value = p.1 } ∷ [] ≡ listed 0 (xs ++ p ∷ [])
list_more es xs k p is len more =
    let e : k ≡ 0 + length xs = omega arith in
    let t : cond (nat_lt 0 p.0) (record { component = k; number = p.0; value = p.1 } ∷ []) [] ≡ record { component = k; number = p.0; value = p.1 } ∷ [] = ap (λ (b : Bool). cond b (record { component = k; number = p.0; value = p.1 } ∷ []) []) (lt-ltb 0 p.0 more) in
    (λ i. is i ++ sym t i) ∙ ap (λ z. listed 0 xs ++ shown_entry z p) e ∙ sym (listed-push 0 xs p)

pub list_same : (es : List Entry) (xs : List (ℕ × ℕ)) (k : ℕ) (p : ℕ × ℕ) → es ≡ listed 0 xs → p.0 ≤ 0 → es ≡ listed 0 (xs ++ p ∷ [])
list_same es xs k p is nil =
    let t : shown_entry (0 + length xs) p ≡ [] = ap (λ (b : Bool). cond b (record { component = 0 + length xs; number = p.0; value = p.1 } ∷ []) []) (le-ltb 0 p.0 nil) in
    is ∙ sym (append-nil (listed 0 xs)) ∙ ap (λ l. listed 0 xs ++ l) (sym t) ∙ sym (listed-push 0 xs p)

-- what is listed is a view
rises_behind : (e : Entry) (k : ℕ) (xs : List (ℕ × ℕ)) → e.component < k → rises (e ∷ listed k xs) ≡ true
rises_behind e k [] lt = refl
rises_behind e k (p ∷ xs) lt = go (λ d l. rises_behind d (suc k) xs l) (nat_lt 0 p.0)
  where
    go : ((d : Entry) → d.component < suc k → rises (d ∷ listed (suc k) xs) ≡ true) → (b : Bool) → rises (e ∷ (cond b (record { component = k; number = p.0; value = p.1 } ∷ []) [] ++ listed (suc k) xs)) ≡ true
    go rest true = and_from _ _ (lt-ltb e.component k lt) (rest (record { component = k; number = p.0; value = p.1 }) (omega arith))
    go rest false = rest e (omega arith)

listed_rises : (k : ℕ) (xs : List (ℕ × ℕ)) → rises (listed k xs) ≡ true
listed_rises k [] = refl
listed_rises k (p ∷ xs) = go (listed_rises (suc k) xs) (nat_lt 0 p.0)
  where
    go : rises (listed (suc k) xs) ≡ true → (b : Bool) → rises (cond b (record { component = k; number = p.0; value = p.1 } ∷ []) [] ++ listed (suc k) xs) ≡ true
    go rest true = rises_behind (record { component = k; number = p.0; value = p.1 }) (suc k) xs (omega arith)
    go rest false = rest

listed_positive : (k : ℕ) (xs : List (ℕ × ℕ)) → has_zero (listed k xs) ≡ false
listed_positive k [] = refl
listed_positive k (p ∷ xs) = go (listed_positive (suc k) xs) (nat_lt 0 p.0) refl
  where
    go : has_zero (listed (suc k) xs) ≡ false → (b : Bool) → nat_lt 0 p.0 ≡ b → has_zero (cond b (record { component = k; number = p.0; value = p.1 } ∷ []) [] ++ listed (suc k) xs) ≡ false
    go rest true e = ap (λ b. b || has_zero (listed (suc k) xs)) (ne_eqb p.0 0 (λ z. let l = ltb-true 0 p.0 e in omega arith)) ∙ rest
    go rest false e = rest

pub listed_view : (k : ℕ) (xs : List (ℕ × ℕ)) → view_refusal (listed k xs) ≡ None
listed_view k xs =
    ap (λ b. if not b then Some NotRising else if has_zero (listed k xs) then Some ZeroNumber else None) (listed_rises k xs)
    ∙ ap (λ b. if b then Some ZeroNumber else None) (listed_positive k xs)

-- the number of the last store
pub last_number : (d : ℕ) (last : Option Entry) (p : ℕ × ℕ) (rs : List Answered) → number_in last ≡ p.0 → number_in (last_stored last (records_at d rs)) ≡ (latest p rs).0
last_number d last p [] e = e
last_number d last p (r ∷ rs) e = go (λ l q x. last_number d l q rs x) r.op
  where
    go : ((l : Option Entry) (q : ℕ × ℕ) → number_in l ≡ q.0 → number_in (last_stored l (records_at d rs)) ≡ (latest q rs).0) → (o : Answer) → number_in (last_stored last (records_at d (record { begun = r.begun; middles = r.middles; ended = r.ended; op = o } ∷ rs))) ≡ (latest (op_entry p o) rs).0
    go rest (Stored n v) = rest (Some (record { component = d; number = n; value = v })) (n, v) refl
    go rest (Viewed xs) = rest last p e
    go rest (Scanned t xs) = rest last p e
    go rest (Interfered n xs ys) = rest last p e

-- the entry of the last store
pub last_entry : (d : ℕ) (p : ℕ × ℕ) (rs : List Answered) → AllNumbered (writes_in rs) → entry_at d (latest p rs) ≡ last_stored (entry_at d p) (records_at d rs)
last_entry d p [] pos = refl
last_entry d p (r ∷ rs) pos = go (λ q x. last_entry d q rs x) r.op pos
  where
    go : ((q : ℕ × ℕ) → AllNumbered (writes_in rs) → entry_at d (latest q rs) ≡ last_stored (entry_at d q) (records_at d rs)) → (o : Answer) → AllNumbered (writes_in (record { begun = r.begun; middles = r.middles; ended = r.ended; op = o } ∷ rs))
        → entry_at d (latest (op_entry p o) rs) ≡ last_stored (entry_at d p) (records_at d (record { begun = r.begun; middles = r.middles; ended = r.ended; op = o } ∷ rs))
    go rest (Stored n v) q = rest (n, v) (λ w m. q w (inr m)) ∙ ap (λ z. last_stored z (records_at d rs)) (entry_at_positive d n v (q (write n v r.begun r.ended true) (inl refl)))
    go rest (Viewed xs) q = rest p q
    go rest (Scanned t xs) q = rest p q
    go rest (Interfered n xs ys) q = rest p q

-- a view shows of its desk's component the last store
pub own_entry : (d : ℕ) (rs : List Answered) (xs : List (ℕ × ℕ)) → IsUpToDate d rs xs → d < length xs → entry_of d (listed 0 xs) ≡ last_stored None (records_at d rs)
own_entry d rs xs told lt =
    let t = (told d (shown_at xs d) (shown_some xs d lt)).0 refl in
    listed_entry d xs ∙ ap (entry_at d) t.0 ∙ last_entry d (0, 0) rs t.1

-- the stamps of a record
pub record_stamps : (d : ℕ) (rs : List Answered) (q : Record) → Mem q (records_at d rs) → Mem q.begun (stamps_in rs) × Mem q.ended (stamps_in rs)
record_stamps d [] q m = absurd m
record_stamps d (r ∷ rs) q m = ⊎_elim (λ x. one r.op x) (λ x. let s = record_stamps d rs q x in (inr (inr s.0), inr (inr s.1))) (mem_split (op_records d r.begun r.ended r.op) (records_at d rs) q m)
  where
    is_first : (x : Record) → x ≡ q → x.begun ≡ r.begun → x.ended ≡ r.ended → Mem q.begun (stamps_in (r ∷ rs)) × Mem q.ended (stamps_in (r ∷ rs))
    is_first x e b f = (inl (sym b ∙ ap (λ (z : Record). z.begun) e), inr (inl (sym f ∙ ap (λ (z : Record). z.ended) e)))

    one : (o : Answer) → Mem q (op_records d r.begun r.ended o) → Mem q.begun (stamps_in (r ∷ rs)) × Mem q.ended (stamps_in (r ∷ rs))
    one (Stored n v) x = is_first _ (mem_one q _ x) refl refl
    one (Viewed xs) x = is_first _ (mem_one q _ x) refl refl
    one (Scanned t xs) x = is_first _ (mem_one q _ x) refl refl
    one (Interfered n xs ys) x = absurd x

pub mem_contains : {X : Type 0} (xs : List X) (x : X) → Contains xs x → Mem x xs
mem_contains {X} xs x h = go xs h.0 h.1 h.2
  where
    go : (ys : List X) (k : ℕ) → k < length ys → get_or ys k x ≡ x → Mem x ys
    go [] k l e = absurd (omega arith)
    go (y ∷ ys) zero l e = inl e
    go (y ∷ ys) (suc k) l e = inr (go ys k (omega arith) e)

pub later : (d b : ℕ) (rs : List Answered) (r : Record) → r.begun ≡ b → ((x : ℕ) → Mem x (stamps_in rs) → x < b) → IsLater (records_at d rs) r
later d b rs r is above q m = let s = record_stamps d rs q (mem_contains _ q m) in let x = above q.begun s.0 in let y = above q.ended s.1 in (omega arith, omega arith)

-- no component is older than in an earlier view
pub no_older : (d : ℕ) (rs : List Answered) (xs : List (ℕ × ℕ)) → IsUpToDate d rs xs → ((v : ViewRecord) → Mem v (view_records_in rs) → length v.shown ≡ length xs)
    → (q : Record) → Contains (records_at d rs) q → (k : ℕ) → number_shown q k ≤ number_in (entry_of k (listed 0 xs))
no_older d rs xs told whole q m k = go rs q (mem_contains _ q m) (λ v mv. mv)
  where
    viewed : (b e : ℕ) (ys : List (ℕ × ℕ)) → Mem (view_record b e true ys) (view_records_in rs) → number_in (entry_of k (listed 0 ys)) ≤ number_in (entry_of k (listed 0 xs))
    viewed b e ys there =
        let size = whole (view_record b e true ys) there in
        let mine = ap number_in (listed_entry k ys) ∙ number_at k (shown_at ys k) in
        let new = ap number_in (listed_entry k xs) ∙ number_at k (shown_at xs k) in
        at (dec_le (suc k) (length xs)) size mine new
      where
        at : Dec (suc k ≤ length xs) → length ys ≡ length xs → number_in (entry_of k (listed 0 ys)) ≡ (shown_at ys k).0 → number_in (entry_of k (listed 0 xs)) ≡ (shown_at xs k).0 → number_in (entry_of k (listed 0 ys)) ≤ number_in (entry_of k (listed 0 xs))
        at (yes le) size mine new = let t = (told k (shown_at xs k) (shown_some xs k (omega arith))).1 (view_record b e true ys) there (shown_at ys k) (shown_some ys k (omega arith)) in omega arith
        at (no nle) size mine new = let z = ap (λ (p : ℕ × ℕ). p.0) (shown_high ys k (omega arith)) in omega arith

    here : (b e : ℕ) (o : Answer) → ((v : ViewRecord) → Mem v (op_view_records b e o) → Mem v (view_records_in rs)) → (z : Record) → Mem z (op_records d b e o) → number_shown z k ≤ number_in (entry_of k (listed 0 xs))
    here b e (Stored n v) sub z mz = subst (λ (y : Record). number_shown y k ≤ number_in (entry_of k (listed 0 xs))) (mem_one z _ mz) (omega arith)
    here b e (Viewed ys) sub z mz = subst (λ (y : Record). number_shown y k ≤ number_in (entry_of k (listed 0 xs))) (mem_one z _ mz) (viewed b e ys (sub (view_record b e true ys) (inl refl)))
    here b e (Scanned t ys) sub z mz = subst (λ (y : Record). number_shown y k ≤ number_in (entry_of k (listed 0 xs))) (mem_one z _ mz) (viewed b e ys (sub (view_record b e true ys) (inl refl)))
    here b e (Interfered n ys zs) sub z mz = absurd mz

    go : (qs : List Answered) (z : Record) → Mem z (records_at d qs) → ((v : ViewRecord) → Mem v (view_records_in qs) → Mem v (view_records_in rs)) → number_shown z k ≤ number_in (entry_of k (listed 0 xs))
    go [] z mz sub = absurd mz
    go (r ∷ qs) z mz sub = ⊎_elim
        (λ x. here r.begun r.ended r.op (λ v mv. sub v (mem_left (op_view_records r.begun r.ended r.op) (view_records_in qs) v mv)) z x)
        (λ x. go qs z x (λ v mv. sub v (mem_right (op_view_records r.begun r.ended r.op) (view_records_in qs) v mv)))
        (mem_split (op_records d r.begun r.ended r.op) (records_at d qs) z mz)

-- one more record
pub records-push : (d : ℕ) (rs : List Answered) (r : Answered) → records_at d (rs ++ r ∷ []) ≡ records_at d rs ++ op_records d r.begun r.ended r.op
records-push d [] r = append-nil (op_records d r.begun r.ended r.op)
records-push d (q ∷ rs) r = ap (λ l. op_records d q.begun q.ended q.op ++ l) (records-push d rs r) ∙ sym (append_assoc (op_records d q.begun q.ended q.op) (records_at d rs) (op_records d r.begun r.ended r.op))

pub lost-push : (rs : List Answered) (r : Answered) → lost_in (rs ++ r ∷ []) ≡ lost_in rs ++ op_lost r.op
lost-push [] r = append-nil (op_lost r.op)
lost-push (q ∷ rs) r = ap (λ l. op_lost q.op ++ l) (lost-push rs r) ∙ sym (append_assoc (op_lost q.op) (lost_in rs) (op_lost r.op))

pub collects-push : (rs : List Answered) (r : Answered) → collects_in (rs ++ r ∷ []) ≡ collects_in rs + op_collects r.op
collects-push rs r = let t = total-append (λ (q : Answered). op_collects q.op) rs (r ∷ []) in omega arith
