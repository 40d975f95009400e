-- What holds of all accounts together is kept where one account changes.
use Rattle.std.proofs.Common.{◌≡◌, ℕ, ◌+◌, ◌<◌, ◌≤◌, ◌≢◌, ◌⊎◌, ◌==◌, List, [], ◌∷◌, ◌++◌, set, sym, ap, ◌∙◌, subst, inl, inr, ⊎_elim, arith, length-set}
use mathlib.Core.Option.{some}
use lib.ListN.{get_elem?}
use Rattle.atomic_table.proofs.Lists.{at_set}
use Rattle.snap_account.specs.declared.account.Account.{Account}
use Rattle.snap_core.specs.Sums.{one_if, times, total}
use Rattle.snap_core.proofs.Sums.{total-set}
use Rattle.snap_account.specs.Calls.{Mem, Write, ViewRecord, writes_of, view_records_of, all_stamps, in_word}
use Rattle.snap_account.specs.Rule.{Own, Sees, After, Core, clock}
use Rattle.snap_account.proofs.Lists.{mem_split, mem_one, total-none, one_same, one_least, times_none, times-push}
use Rattle.snap_account.proofs.Accounts.{look_in_all}

-- the view sees what it saw, where the stores and the word are the same
pub sees_same : (v : ViewRecord) (p : ℕ × ℕ) (a c : Account) → writes_of a ≡ writes_of c → in_word a ≡ in_word c → Sees v p a → Sees v p c
sees_same v p a c same word s = record {
  old = let e = ap (λ (q : ℕ × ℕ). q.0) word in let o = s.old in omega arith;
  fresh = λ w m lt over. s.fresh w (subst (λ (ws : List Write). Mem w ws) (sym same) m) lt over;
  blank = s.blank;
  real = λ some. let r = s.real some in (r.0, subst (λ (ws : List Write). Mem r.0 ws) same r.1, r.2, r.3, r.4);
}

module _ (n : ℕ) (b : List Account) (h : Core n b) (k : ℕ) (a : Account) (at : get_elem? b k ≡ some a) (a' : Account) where
  abbrev b' : List Account
  b' = set b k a'

  -- the clock and the stamps: a tick is new, and above all
  abbrev pub Ticked : Type 0
  Ticked = ((x : ℕ) → Mem x (all_stamps a') → Mem x (all_stamps a) ⊎ (clock b ≡ x)) × ((x : ℕ) → times x (all_stamps a') ≤ times x (all_stamps a) + one_if (clock b == x)) × (a'.ticks ≡ a.ticks + 1)

  abbrev pub Quiet : Type 0
  Quiet = (all_stamps a' ≡ all_stamps a) × (a'.ticks ≡ a.ticks)

  -- a tick at the end of the stamps
  pub ticked : all_stamps a' ≡ all_stamps a ++ clock b ∷ [] → a'.ticks ≡ a.ticks + 1 → Ticked
  ticked e more = (
    (λ x m. ⊎_elim (λ q. inl q) (λ q. inr (mem_one x (clock b) q)) (mem_split (all_stamps a) (clock b ∷ []) x (subst (λ (xs : List ℕ). Mem x xs) e m))),
    (λ x. let t : times x (all_stamps a') ≡ times x (all_stamps a) + one_if (clock b == x) = ap (times x) e ∙ times-push x (clock b) (all_stamps a) in omega arith),
    more,
  )

  pub clock_ticked : Ticked → clock b' ≡ clock b + 1
  clock_ticked t = let s = total-set (λ (x : Account). x.ticks) b k a a' at in let e = t.2 in omega arith

  pub clock_quiet : Quiet → clock b' ≡ clock b
  clock_quiet t = let s = total-set (λ (x : Account). x.ticks) b k a a' at in let e = t.1 in omega arith

  pub below_ticked : Ticked → (i : ℕ) (c : Account) → get_elem? b' i ≡ some c → (x : ℕ) → Mem x (all_stamps c) → x < clock b'
  below_ticked t i c e x m = let up = clock_ticked t in ⊎_elim
      (λ (q : (i ≡ k) × (a' ≡ c)). ⊎_elim
      (λ old. let l = h.below k a at x old in omega arith)
      (λ (is : clock b ≡ x). omega arith)
      (t.0 x (subst (λ (z : Account). Mem x (all_stamps z)) (sym q.1) m)))
      (λ (q : (i ≢ k) × (get_elem? b i ≡ some c)). let l = h.below i c q.1 x m in omega arith)
      (at_set b k i a' c e)

  pub below_quiet : Quiet → (i : ℕ) (c : Account) → get_elem? b' i ≡ some c → (x : ℕ) → Mem x (all_stamps c) → x < clock b'
  below_quiet t i c e x m = let up = clock_quiet t in ⊎_elim
      (λ (q : (i ≡ k) × (a' ≡ c)). let l = h.below k a at x (subst (λ (xs : List ℕ). Mem x xs) (ap all_stamps (sym q.1) ∙ t.0) m) in omega arith)
      (λ (q : (i ≢ k) × (get_elem? b i ≡ some c)). let l = h.below i c q.1 x m in omega arith)
      (at_set b k i a' c e)

  pub apart_ticked : Ticked → (x : ℕ) → total (λ c. times x (all_stamps c)) b' ≤ 1
  apart_ticked t x =
      let s = total-set (λ (c : Account). times x (all_stamps c)) b k a a' at in
      let m = t.1 x in
      let old = h.apart x in let one = one_least (clock b) x in
      ⊎_elim (λ z. omega arith)
      (λ (is : clock b ≡ x). let none = total-none (λ (c : Account). times x (all_stamps c)) b (λ i c e. times_none x (all_stamps c) (λ y my. let l = h.below i c e y my in omega arith)) in omega arith)
      (one_same (clock b) x)

  pub apart_quiet : Quiet → (x : ℕ) → total (λ c. times x (all_stamps c)) b' ≤ 1
  apart_quiet t x =
      let s = total-set (λ (c : Account). times x (all_stamps c)) b k a a' at in
      let m : times x (all_stamps a') ≡ times x (all_stamps a) = ap (times x) t.0 in
      let old = h.apart x in omega arith

  -- as a viewer, against all accounts as they were
  abbrev pub Views : Type 0
  Views = (v : ViewRecord) → Mem v (view_records_of a') → (j : ℕ) (c : Account) → get_elem? b j ≡ some c → (p : ℕ × ℕ) → get_elem? v.shown j ≡ some p → Sees v p c

  -- as a storer, against a view that has begun
  abbrev pub Stores : Type 0
  Stores = (v : ViewRecord) (p : ℕ × ℕ) → v.begun < clock b' → Sees v p a → Sees v p a'

  -- its views, against all views as they were, and against each other
  abbrev pub Follows : Type 0
  Follows = (v : ViewRecord) → Mem v (view_records_of a') → (j : ℕ) (c : Account) → get_elem? b j ≡ some c → (r : ViewRecord) → Mem r (view_records_of c) → After r v × After v r

  abbrev pub Inner : Type 0
  Inner = (r s : ViewRecord) → Mem r (view_records_of a') → Mem s (view_records_of a') → After r s

  pub changes : Own n k a' → ((i : ℕ) (c : Account) → get_elem? b' i ≡ some c → (x : ℕ) → Mem x (all_stamps c) → x < clock b') → ((x : ℕ) → total (λ c. times x (all_stamps c)) b' ≤ 1)
      → Views → Stores → Follows → Inner → Core n b'
  changes own below apart views stores follows inner = record {
    size = length-set b k a' ∙ h.size;
    own = λ i c e. ⊎_elim (λ (q : (i ≡ k) × (a' ≡ c)). subst (λ (z : ℕ × Account). Own n z.0 z.1) (λ t. (sym q.0 t, q.1 t)) own) (λ (q : (i ≢ k) × (get_elem? b i ≡ some c)). h.own i c q.1) (at_set b k i a' c e);
    below = below;
    apart = apart;
    sees = λ i x e v m j c e' p at_p. storer j c e' v p (below i x e v.begun (look_in_all x v m)) (λ d ed. viewer i x e v m j d ed p at_p);
    after = λ i x e r mr j c e' s ms. order i x e r mr j c e' s ms;
  }
    where
      viewer : (i : ℕ) (x : Account) → get_elem? b' i ≡ some x → (v : ViewRecord) → Mem v (view_records_of x) → (j : ℕ) (c : Account) → get_elem? b j ≡ some c → (p : ℕ × ℕ) → get_elem? v.shown j ≡ some p → Sees v p c
      viewer i x e v m j c e' p at_p = ⊎_elim
          (λ (q : (i ≡ k) × (a' ≡ x)). views v (subst (λ (z : Account). Mem v (view_records_of z)) (sym q.1) m) j c e' p at_p)
          (λ (q : (i ≢ k) × (get_elem? b i ≡ some x)). h.sees i x q.1 v m j c e' p at_p)
          (at_set b k i a' x e)

      storer : (j : ℕ) (c : Account) → get_elem? b' j ≡ some c → (v : ViewRecord) (p : ℕ × ℕ) → v.begun < clock b' → ((d : Account) → get_elem? b j ≡ some d → Sees v p d) → Sees v p c
      storer j c e v p lt before = ⊎_elim
          (λ (q : (j ≡ k) × (a' ≡ c)). subst (λ (z : Account). Sees v p z) q.1 (stores v p lt (before a (ap (λ i. get_elem? b i) q.0 ∙ at))))
          (λ (q : (j ≢ k) × (get_elem? b j ≡ some c)). before c q.1)
          (at_set b k j a' c e)

      order : (i : ℕ) (x : Account) → get_elem? b' i ≡ some x → (r : ViewRecord) → Mem r (view_records_of x) → (j : ℕ) (c : Account) → get_elem? b' j ≡ some c → (s : ViewRecord) → Mem s (view_records_of c) → After r s
      order i x e r mr j c e' s ms = ⊎_elim
          (λ (q : (i ≡ k) × (a' ≡ x)). let mr' = subst (λ (z : Account). Mem r (view_records_of z)) (sym q.1) mr in ⊎_elim
          (λ (q' : (j ≡ k) × (a' ≡ c)). inner r s mr' (subst (λ (z : Account). Mem s (view_records_of z)) (sym q'.1) ms))
          (λ (q' : (j ≢ k) × (get_elem? b j ≡ some c)). (follows r mr' j c q'.1 s ms).1)
          (at_set b k j a' c e'))
          (λ (q : (i ≢ k) × (get_elem? b i ≡ some x)). ⊎_elim
          (λ (q' : (j ≡ k) × (a' ≡ c)). (follows s (subst (λ (z : Account). Mem s (view_records_of z)) (sym q'.1) ms) i x q.1 r mr).0)
          (λ (q' : (j ≢ k) × (get_elem? b j ≡ some c)). h.after i x q.1 r mr j c q'.1 s ms)
          (at_set b k j a' c e'))
          (at_set b k i a' x e)

  -- a step of a store leaves the views
  pub same_views : view_records_of a' ≡ view_records_of a → Views × Follows × Inner
  same_views same =
      let old : (v : ViewRecord) → Mem v (view_records_of a') → Mem v (view_records_of a) = λ v m. subst (λ (vs : List ViewRecord). Mem v vs) same m in (
        (λ v m j c e p at_p. h.sees k a at v (old v m) j c e p at_p),
        (λ v m j c e r mr. (h.after j c e r mr k a at v (old v m), h.after k a at v (old v m) j c e r mr)),
        (λ r s mr ms. h.after k a at r (old r mr) k a at s (old s ms)),
      )

  -- a step of a view leaves the stores
  pub same_stores : writes_of a ≡ writes_of a' → in_word a ≡ in_word a' → Stores
  same_stores same word v p lt s = sees_same v p a a' same word s
