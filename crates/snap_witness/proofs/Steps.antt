-- What the code keeps, step by step.
use Rattle.std.proofs.Common.{◌≡◌, ℕ, zero, suc, ◌+◌, ◌<◌, ◌≤◌, Bool, true, false, cond, List, [], ◌∷◌, ◌++◌, length, take, drop, get_or, Some, None, refl, sym, ap, ◌∙◌, subst, inl, inr, arith}
use Rattle.std.specs.Prelude.{◌==◌, not}
use Rattle.std.proofs.lemmas.List.{take_more, length-take, take-append-drop}
use Rattle.std.proofs.lemmas.Bool.{lt-ltb, and_from}
use Rattle.snap_core.specs.declared.entry.Entry.{Entry}
use Rattle.snap_core.specs.declared.event.Event.{Event}
use Rattle.snap_core.specs.declared.view.ViewRefusal.TheVariants.{NotRising, ZeroNumber}
use Rattle.snap_core.specs.Entries.{AreEntries, rises, has_zero, view_refusal}
use Rattle.snap_core.proofs.Lists.{In}
use Rattle.snap_core.specs.Events.{IsHistory, event_cap}
use Rattle.snap_core.specs.UsualLimits.{greatest_limit}
use Rattle.snap_core.specs.Refusals.{refusal_of}
use Rattle.snap_core.proofs.Pushes.{history_back}
use Rattle.snap_core.proofs.Picks.{picked, is_short}
use Rattle.snap_core.specs.declared.writers.Writers.TheVariants.{One}
use Rattle.snap_theory.proofs.Sides.{history_front}
use Rattle.snap_theory.proofs.Kept.{from_kept, from_left}
use Rattle.snap_theory.proofs.Entries.{AreSorted, sorted, sorted_tail, above}
use Rattle.snap_theory.specs.Kept.{alone, kept_entries, kept_event, kept_from}
use Rattle.snap_theory.specs.Witness.{numbers_of}

pub numbers_step : (ps : List (ℕ × ℕ)) (i k : ℕ) (d : ℕ × ℕ) → i < length ps → numbers_of (drop i ps) k ≡ cond ((get_or ps i d).0 == k) (get_or ps i d).1 (numbers_of (drop (suc i) ps) k)
numbers_step [] i k d l = absurd (omega arith)
numbers_step (p ∷ ps) zero k d l = refl
numbers_step (p ∷ ps) (suc i) k d l = numbers_step ps i k d (omega arith)

pub numbers_end : (ps : List (ℕ × ℕ)) (i k : ℕ) → length ps ≤ i → numbers_of (drop i ps) k ≡ 0
numbers_end [] zero k l = refl
numbers_end [] (suc i) k l = refl
numbers_end (p ∷ ps) zero k l = absurd (omega arith)
numbers_end (p ∷ ps) (suc i) k l = numbers_end ps i k (omega arith)

kept_append : (numbers : ℕ → ℕ) (xs ys : List Entry) → kept_entries numbers (xs ++ ys) ≡ kept_entries numbers xs ++ kept_entries numbers ys
kept_append numbers [] ys = refl
kept_append numbers (x ∷ xs) ys = go (x.number == numbers x.component) refl (kept_append numbers xs ys)
  where
    head : (b : Bool) → (x.number == numbers x.component) ≡ b → (zs : List Entry) → kept_entries numbers (x ∷ zs) ≡ cond b (alone x ∷ kept_entries numbers zs) (kept_entries numbers zs)
    head b t zs = ap (λ q. cond q (alone x ∷ kept_entries numbers zs) (kept_entries numbers zs)) t

    go : (b : Bool) → (x.number == numbers x.component) ≡ b → kept_entries numbers (xs ++ ys) ≡ kept_entries numbers xs ++ kept_entries numbers ys → kept_entries numbers (x ∷ (xs ++ ys)) ≡ kept_entries numbers (x ∷ xs) ++ kept_entries numbers ys
    go true t r = head true t (xs ++ ys) ∙ ap (λ z. alone x ∷ z) r ∙ sym (ap (λ z. z ++ kept_entries numbers ys) (head true t xs))
    go false t r = head false t (xs ++ ys) ∙ r ∙ sym (ap (λ z. z ++ kept_entries numbers ys) (head false t xs))

pub kept_more : (numbers : ℕ → ℕ) (es : List Entry) (i : ℕ) (d : Entry) (b : Bool) → i < length es → ((get_or es i d).number == numbers (get_or es i d).component) ≡ b → kept_entries numbers (take (i + 1) es) ≡ kept_entries numbers (take i es) ++ cond b (alone (get_or es i d) ∷ []) []
kept_more numbers es i d b l t = ap (kept_entries numbers) (take_more es i d l) ∙ kept_append numbers (take i es) (get_or es i d ∷ []) ∙ ap (λ q. kept_entries numbers (take i es) ++ cond q (alone (get_or es i d) ∷ []) []) t

record Left (d : Entry) (es : List Entry) : Type 0 where
  entry : Entry
  there : In entry es
  same : d.component ≡ entry.component

left : (numbers : ℕ → ℕ) (es : List Entry) (d : Entry) → In d (kept_entries numbers es) → Left d es
left numbers [] d i = absurd i
left numbers (e ∷ es) d i = go (e.number == numbers e.component) i (left numbers es d)
  where
    go : (b : Bool) → In d (cond b (alone e ∷ kept_entries numbers es) (kept_entries numbers es)) → (In d (kept_entries numbers es) → Left d es) → Left d (e ∷ es)
    go true (inl s) more = record { entry = e; there = inl refl; same = ap (λ (z : Entry). z.component) (sym s) }
    go true (inr j) more = let r = more j in record { entry = r.entry; there = inr r.there; same = r.same }
    go false j more = let r = more j in record { entry = r.entry; there = inr r.there; same = r.same }

kept_rises : (numbers : ℕ → ℕ) (es : List Entry) → AreSorted es → rises (kept_entries numbers es) ≡ true
kept_rises numbers [] s = refl
kept_rises numbers (e ∷ es) s = go (e.number == numbers e.component) (kept_rises numbers es (sorted_tail e es s))
  where
    front : (ks : List Entry) → kept_entries numbers es ≡ ks → rises ks ≡ true → rises (alone e ∷ ks) ≡ true
    front [] t r = refl
    front (d ∷ ks) t r =
        let x = left numbers es d (subst (In d) (sym t) (inl refl)) in
        let l = above e es s x.entry x.there in
        and_from _ _ (lt-ltb e.component d.component (omega (arith, l, x.same))) r

    go : (b : Bool) → rises (kept_entries numbers es) ≡ true → rises (cond b (alone e ∷ kept_entries numbers es) (kept_entries numbers es)) ≡ true
    go true r = front (kept_entries numbers es) refl r
    go false r = r

kept_positive : (numbers : ℕ → ℕ) (es : List Entry) → has_zero (kept_entries numbers es) ≡ false
kept_positive numbers [] = refl
kept_positive numbers (e ∷ es) = go (e.number == numbers e.component) (kept_positive numbers es)
  where
    go : (b : Bool) → has_zero (kept_entries numbers es) ≡ false → has_zero (cond b (alone e ∷ kept_entries numbers es) (kept_entries numbers es)) ≡ false
    go true r = r
    go false r = r

-- what is left of a view is a view
pub kept_is_view : (numbers : ℕ → ℕ) (es : List Entry) → AreEntries es → view_refusal (kept_entries numbers es) ≡ None
kept_is_view numbers es h =
    ap (λ b. cond (not b) (Some NotRising) (cond (has_zero (kept_entries numbers es)) (Some ZeroNumber) None)) (kept_rises numbers es (sorted es h))
    ∙ ap (λ b. cond b (Some ZeroNumber) None) (kept_positive numbers es)

kept_from_append : (keeps : ℕ → Bool) (numbers : ℕ → ℕ) (place q : ℕ) (xs ys : List Event) → q ≡ place + length xs → kept_from keeps numbers place (xs ++ ys) ≡ kept_from keeps numbers place xs ++ kept_from keeps numbers q ys
kept_from_append keeps numbers place q [] ys e = let g : q ≡ place = omega (arith, e) in ap (λ z. kept_from keeps numbers z ys) (sym g)
kept_from_append keeps numbers place q (x ∷ xs) ys e = go (keeps place) refl (kept_from_append keeps numbers (suc place) q xs ys (omega (arith, e)))
  where
    go : (b : Bool) → keeps place ≡ b → kept_from keeps numbers (suc place) (xs ++ ys) ≡ kept_from keeps numbers (suc place) xs ++ kept_from keeps numbers q ys → kept_from keeps numbers place (x ∷ (xs ++ ys)) ≡ kept_from keeps numbers place (x ∷ xs) ++ kept_from keeps numbers q ys
    go true t r = from_kept keeps numbers place x (xs ++ ys) t ∙ ap (λ z. kept_event numbers x ∷ z) r ∙ sym (ap (λ z. z ++ kept_from keeps numbers q ys) (from_kept keeps numbers place x xs t))
    go false t r = from_left keeps numbers place x (xs ++ ys) t ∙ r ∙ sym (ap (λ z. z ++ kept_from keeps numbers q ys) (from_left keeps numbers place x xs t))

pub kept_next : (keeps : ℕ → Bool) (numbers : ℕ → ℕ) (es : List Event) (i : ℕ) (d : Event) (b : Bool) → i < length es → keeps i ≡ b →
    kept_from keeps numbers 0 (take (i + 1) es) ≡ kept_from keeps numbers 0 (take i es) ++ cond b (kept_event numbers (get_or es i d) ∷ []) []
kept_next keeps numbers es i d b l t =
    let n = length-take i es in
    ap (kept_from keeps numbers 0) (take_more es i d l) ∙ kept_from_append keeps numbers 0 i (take i es) (get_or es i d ∷ []) (omega (arith, n, l)) ∙ ap (λ q. kept_from keeps numbers 0 (take i es) ++ cond q (kept_event numbers (get_or es i d) ∷ []) []) t

kept_short : (keeps : ℕ → Bool) (numbers : ℕ → ℕ) (place : ℕ) (es : List Event) → length (kept_from keeps numbers place es) ≤ length es
kept_short keeps numbers place [] = omega arith
kept_short keeps numbers place (x ∷ xs) = go (keeps place) (kept_short keeps numbers (suc place) xs)
  where
    go : (b : Bool) → length (kept_from keeps numbers (suc place) xs) ≤ length xs → length (cond b (kept_event numbers x ∷ kept_from keeps numbers (suc place) xs) (kept_from keeps numbers (suc place) xs)) ≤ suc (length xs)
    go true r = omega (arith, r)
    go false r = omega (arith, r)

-- no event that is kept is refused
pub none_refused : (keeps : ℕ → Bool) (numbers : ℕ → ℕ) (es : List Event) (i : ℕ) (d : Event) → IsHistory (kept_from keeps numbers 0 es) → length es ≤ event_cap → i < length es → keeps i ≡ true →
    refusal_of greatest_limit (kept_from keeps numbers 0 (take i es)) (kept_event numbers (get_or es i d)) ≡ None
none_refused keeps numbers es i d h s l t =
    let K = kept_from keeps numbers 0 (take i es) in
    let n = length-take (i + 1) es in
    let m = length-take i es in
    let all : kept_from keeps numbers 0 es ≡ (K ++ kept_event numbers (get_or es i d) ∷ []) ++ kept_from keeps numbers (i + 1) (drop (i + 1) es) =
    ap (kept_from keeps numbers 0) (sym (take-append-drop (i + 1) es)) ∙ kept_from_append keeps numbers 0 (i + 1) (take (i + 1) es) (drop (i + 1) es) (omega (arith, n, l)) ∙ ap (λ z. z ++ kept_from keeps numbers (i + 1) (drop (i + 1) es)) (kept_next keeps numbers es i d true l t) in
    let a = (history_back K (kept_event numbers (get_or es i d)) (history_front One (K ++ kept_event numbers (get_or es i d) ∷ []) (kept_from keeps numbers (i + 1) (drop (i + 1) es)) (subst IsHistory all h))).1 in
    let short = kept_short keeps numbers 0 (take i es) in
    picked greatest_limit K (kept_event numbers (get_or es i d)) false false false false false false false (is_short greatest_limit K (omega (arith, short, m, l, s))) a.not_busy a.not_idle a.not_other a.writer a.number a.order
