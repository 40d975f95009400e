-- How many calls and events some calls of a history are.
use Rattle.std.proofs.Common.{◌≡◌, ◌⊎◌, ℕ, zero, suc, ◌+◌, ◌*◌, ◌<◌, ◌≤◌, Bool, true, false, cond, ◌||◌, List, [], ◌∷◌, length, slice_get, Option, Some, None, refl, sym, ap, ◌∙◌, subst, inl, inr, arith}
use Rattle.std.specs.Prelude.{◌==◌}
use Rattle.std.specs.List.{list_any}
use Rattle.std.proofs.lemmas.Bool.{eq-eqb, ne_eqb, false≢true, or_cases, cases_eq}
use Rattle.snap_core.specs.declared.event.Event.{Event}
use Rattle.snap_core.specs.Events.{IsBegin}
use Rattle.snap_core.specs.Calls.{Call, calls_from, calls_of}
use Rattle.snap_core.proofs.Lists.{Contains-from_In, any_from, any_to}
use Rattle.snap_theory.specs.Kept.{ends_at, is_place_of, kept_event, kept_events, kept_from}
use Rattle.snap_theory.specs.Choices.{AreChosen}
use Rattle.snap_theory.specs.Witness.{numbers_of, witness_calls, witness_of, AreWitnesses}
use Rattle.snap_theory.proofs.Chosen.{ends_true}
use Rattle.snap_theory.proofs.Kept.{from_kept, from_left, kind, begin_kept, end_kept, calls_begin, calls_end}
use Rattle.snap_theory.proofs.Witnesses.{are_chosen}
use Rattle.snap_core.specs.Ordered.{IsOrdered}
use Rattle.snap_core.proofs.Ends.{end_event, there_ends}

-- how many of n places from one on pass
abbrev count_from : (ℕ → Bool) → ℕ → ℕ → ℕ
count_from keeps place zero = 0
count_from keeps place (suc n) = cond (keeps place) 1 0 + count_from keeps (suc place) n

split_one : (a b c : Bool) → (a ≡ true → (b ≡ true) ⊎ (c ≡ true)) → cond a 1 0 ≤ cond b 1 0 + cond c 1 0
split_one false b c h = omega arith
split_one true true c h = omega arith
split_one true false true h = omega arith
split_one true false false h = elim (h refl) [ inl e ↦ absurd (false≢true e) | inr e ↦ absurd (false≢true e) ]

-- what passes one of two tests
count_split : (f g h : ℕ → Bool) (place n : ℕ) → ((x : ℕ) → f x ≡ true → (g x ≡ true) ⊎ (h x ≡ true)) → count_from f place n ≤ count_from g place n + count_from h place n
count_split f g h place zero s = omega arith
count_split f g h place (suc n) s = omega (arith, split_one (f place) (g place) (h place) (s place), count_split f g h (suc place) n s)

count_past : (p place n : ℕ) → p < place → count_from (λ x. p == x) place n ≡ 0
count_past p place zero l = refl
count_past p place (suc n) l =
    let t : cond (p == place) 1 0 ≡ 0 = ap {B = ℕ} (λ b. cond b 1 0) (ne_eqb p place (λ e. omega (arith, e, l))) in
    omega (arith, t, count_past p (suc place) n (omega (arith, l)))

count_one : (p place n : ℕ) → count_from (λ x. p == x) place n ≤ 1
count_one p place zero = omega arith
count_one p place (suc n) = elim (cases_eq p place) [
  | inl e ↦
      let t : cond (p == place) 1 0 ≡ 1 = ap {B = ℕ} (λ b. cond b 1 0) (eq-eqb p place e) in
      omega (arith, t, count_past p (suc place) n (omega (arith, e)))
  | inr d ↦
      let t : cond (p == place) 1 0 ≡ 0 = ap {B = ℕ} (λ b. cond b 1 0) (ne_eqb p place d) in
      omega (arith, t, count_one p (suc place) n)
]

count_none : (place n : ℕ) → count_from (λ x. false) place n ≡ 0
count_none place zero = refl
count_none place (suc n) = omega (arith, count_none (suc place) n)

count_end : (o : Option ℕ) (place n : ℕ) → count_from (ends_at o) place n ≤ 1
count_end None place n = omega (arith, count_split (ends_at None) (λ x. false) (λ x. false) place n (λ x e. inl e), count_none place n)
count_end (Some end) place n = omega (arith, count_split (ends_at (Some end)) (λ x. end == x) (λ x. false) place n (λ x e. inl e), count_one end place n, count_none place n)

-- two places a call
count_places : (chosen : List Call) (place n : ℕ) → count_from (is_place_of chosen) place n ≤ 2 * length chosen
count_places [] place n = omega (arith, count_split (is_place_of []) (λ x. false) (λ x. false) place n (λ x e. inl e), count_none place n)
count_places (c ∷ cs) place n =
    omega (
      arith,
      count_split (is_place_of (c ∷ cs)) (λ x. (c.begun == x) || ends_at c.ended x) (is_place_of cs) place n (λ x e. or_cases ((c.begun == x) || ends_at c.ended x) (is_place_of cs x) e),
      count_split (λ x. (c.begun == x) || ends_at c.ended x) (λ x. c.begun == x) (ends_at c.ended) place n (λ x e. or_cases (c.begun == x) (ends_at c.ended x) e),
      count_one c.begun place n,
      count_end c.ended place n,
      count_places cs place n,
    )

abbrev begins_one : List Call → ℕ → Bool
begins_one chosen place = list_any (λ c. c.begun == place) chosen

-- one begin a call
count_begins : (chosen : List Call) (place n : ℕ) → count_from (begins_one chosen) place n ≤ length chosen
count_begins [] place n = omega (arith, count_split (begins_one []) (λ x. false) (λ x. false) place n (λ x e. inl e), count_none place n)
count_begins (c ∷ cs) place n =
    omega (
      arith,
      count_split (begins_one (c ∷ cs)) (λ x. c.begun == x) (begins_one cs) place n (λ x e. or_cases (c.begun == x) (begins_one cs x) e),
      count_one c.begun place n,
      count_begins cs place n,
    )

kept_length : (keeps : ℕ → Bool) (numbers : ℕ → ℕ) (place : ℕ) (es : List Event) → length (kept_from keeps numbers place es) ≡ count_from keeps place (length es)
kept_length keeps numbers place [] = refl
kept_length keeps numbers place (e ∷ es) = go (keeps place) refl (kept_length keeps numbers (suc place) es)
  where
    go : (b : Bool) → keeps place ≡ b → length (kept_from keeps numbers (suc place) es) ≡ count_from keeps (suc place) (length es) → length (kept_from keeps numbers place (e ∷ es)) ≡ cond (keeps place) 1 0 + count_from keeps (suc place) (length es)
    go true t r = let c : cond (keeps place) 1 0 ≡ 1 = ap {B = ℕ} (λ b. cond b 1 0) t in let k = ap length (from_kept keeps numbers place e es t) in omega (arith, c, r, k)
    go false t r = let c : cond (keeps place) 1 0 ≡ 0 = ap {B = ℕ} (λ b. cond b 1 0) t in let k = ap length (from_left keeps numbers place e es t) in omega (arith, c, r, k)

-- a begin that is kept is at a place that starts
abbrev Starting : (keeps starts : ℕ → Bool) (place : ℕ) (es : List Event) → Type 0
Starting keeps starts place es = (i j : ℕ) (x : Event) → j ≡ place + i → slice_get es i ≡ Some x → IsBegin x → keeps j ≡ true → starts j ≡ true

calls_length : (keeps starts : ℕ → Bool) (numbers : ℕ → ℕ) (n r place : ℕ) (es : List Event) → Starting keeps starts place es → length (calls_from n r (kept_from keeps numbers place es)) ≤ count_from starts place (length es)
calls_length keeps starts numbers n r place [] s = omega arith
calls_length keeps starts numbers n r place (x ∷ es) s = go (λ n r. calls_length keeps starts numbers n r (suc place) es (λ i j y e g b k. s (suc i) j y (omega (arith, e)) g b k)) (kind x) (keeps place) refl
  where
    K : List Event
    K = kept_from keeps numbers (suc place) es

    y : Event
    y = kept_event numbers x

    go : ((n r : ℕ) → length (calls_from n r K) ≤ count_from starts (suc place) (length es)) → IsBegin x ⊎ (IsBegin x → ⊥) → (b : Bool) → keeps place ≡ b → length (calls_from n r (kept_from keeps numbers place (x ∷ es))) ≤ cond (starts place) 1 0 + count_from starts (suc place) (length es)
    go more (inl b) true t =
        let e = ap length (ap (calls_from n r) (from_kept keeps numbers place x es t) ∙ calls_begin n r y K (begin_kept numbers x b)) in
        let c : cond (starts place) 1 0 ≡ 1 = ap {B = ℕ} (λ b. cond b 1 0) (s 0 place x (omega arith) refl b t) in
        omega (arith, e, c, more (suc n) (suc r))
    go more (inr b) true t =
        let e = ap length (ap (calls_from n r) (from_kept keeps numbers place x es t) ∙ calls_end n r y K (end_kept numbers x b)) in
        omega (arith, e, more n (suc r))
    go more k false t =
        let e = ap length (ap (calls_from n r) (from_left keeps numbers place x es t)) in
        omega (arith, e, more n r)

starting : (es : List Event) → IsOrdered es → (chosen : List Call) (numbers : ℕ → ℕ) → AreChosen chosen numbers (calls_of es) → Starting (is_place_of chosen) (begins_one chosen) 0 es
starting es h chosen numbers o i j x e g b k =
    let p = any_to (λ d. (d.begun == j) || ends_at d.ended j) chosen k in
    elim (or_cases (p.it.begun == j) (ends_at p.it.ended j) p.passes) [
      | inl t ↦ any_from (λ d. d.begun == j) chosen p.it p.there t
      | inr t ↦
          let c = end_event es h.well_formed p.it j (o.there p.it (Contains-from_In chosen p.it p.there)) (ends_true p.it.ended j t) in
          let same : Some c.event ≡ Some x = sym (there_ends es j c) ∙ ap (slice_get es) (omega (arith, e)) ∙ g in
          let is : c.event ≡ x = cc in
          absurd (c.no_begin (subst IsBegin (sym is) b))
    ]

pub few_events : (es : List Event) (rs : List Call) (ps : List (ℕ × ℕ)) → length (witness_of es rs ps) ≤ 2 * length (witness_calls (calls_of es) rs ps)
unfolding witness_of kept_events
few_events es rs ps = let chosen = witness_calls (calls_of es) rs ps in omega (arith, kept_length (is_place_of chosen) (numbers_of ps) 0 es, count_places chosen 0 (length es))

pub few_kept : (es : List Event) (rs : List Call) (ps : List (ℕ × ℕ)) → IsOrdered es → AreWitnesses es rs ps → length (calls_of (witness_of es rs ps)) ≤ length (witness_calls (calls_of es) rs ps)
unfolding witness_of kept_events calls_of
few_kept es rs ps h w =
    let chosen = witness_calls (calls_of es) rs ps in
    omega (arith, calls_length (is_place_of chosen) (begins_one chosen) (numbers_of ps) 0 0 0 es (starting es h chosen (numbers_of ps) (are_chosen es rs ps h w)), count_begins chosen 0 (length es))
