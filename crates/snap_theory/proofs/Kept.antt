-- The calls of what is kept of a list of events.
use Rattle.std.proofs.Common.{◌≡◌, ◌⊎◌, ℕ, zero, suc, ◌+◌, ◌-◌, ◌<◌, ◌≤◌, Bool, true, false, cond, List, [], ◌∷◌, Option, Some, None, refl, sym, ap, ◌∙◌, subst, inl, inr, arith}
use Rattle.std.specs.Prelude.{◌==◌, nat_lt}
use Rattle.std.specs.Option.{option_map}
use Rattle.std.proofs.lemmas.Bool.{false≢true, ltb-true, ltb-false, lt-ltb, le-ltb}
use Rattle.snap_core.specs.declared.event.Event.{Event}
use Rattle.snap_core.specs.declared.event.Event.TheVariants.{BeginUpdate, BeginView, EndUpdate, EndView}
use Rattle.snap_core.specs.Events.{process_of, IsBegin}
use Rattle.snap_core.specs.Calls.{Call, Updates, Views, next_place, next_answer, answer_at, calls_from, precedes, is_before}
use Rattle.snap_core.proofs.Lists.{In}
use Rattle.snap_core.proofs.Begun.{call_at}
use Rattle.snap_theory.specs.Kept.{alone, kept_entries, kept_event, kept_from, rank, kept_call}

-- ranks

pub rank_kept : (keeps : ℕ → Bool) (n : ℕ) → keeps n ≡ true → rank keeps (suc n) ≡ suc (rank keeps n)
rank_kept keeps n k = let e : cond (keeps n) 1 0 ≡ 1 = ap {B = ℕ} (λ b. cond b 1 0) k in omega (arith, e)

pub rank_left : (keeps : ℕ → Bool) (n : ℕ) → keeps n ≡ false → rank keeps (suc n) ≡ rank keeps n
rank_left keeps n k = let e : cond (keeps n) 1 0 ≡ 0 = ap {B = ℕ} (λ b. cond b 1 0) k in omega (arith, e)

rank_le : (keeps : ℕ → Bool) (d m n : ℕ) → n ≡ m + d → rank keeps m ≤ rank keeps n
rank_le keeps zero m n e = let g : n ≡ m = omega arith in rw g (omega arith)
rank_le keeps (suc d) m n e = let g : n ≡ suc (m + d) = omega arith in let r = rank_le keeps d m (m + d) refl in rw g (omega (arith, r))

rank_lt : (keeps : ℕ → Bool) (d m n : ℕ) → n ≡ suc m + d → keeps m ≡ true → rank keeps m < rank keeps n
rank_lt keeps d m n e k = omega (arith, rank_kept keeps m k, rank_le keeps d (suc m) n e)

-- the order of places, the first of which is kept, is that of their ranks
pub rank_order : (keeps : ℕ → Bool) (m n : ℕ) → keeps m ≡ true → nat_lt (rank keeps m) (rank keeps n) ≡ nat_lt m n
rank_order keeps m n k = go (nat_lt m n) refl
  where
    go : (b : Bool) → nat_lt m n ≡ b → nat_lt (rank keeps m) (rank keeps n) ≡ b
    go true h = let l : m < n = ltb-true m n h in lt-ltb _ _ (rank_lt keeps (n - suc m) m n (omega arith) k)
    go false h = let l : n ≤ m = ltb-false m n h in le-ltb _ _ (rank_le keeps (m - n) n m (omega arith))

-- events and what is kept of them

pub process_kept : (numbers : ℕ → ℕ) (e : Event) → process_of (kept_event numbers e) ≡ process_of e
process_kept numbers (BeginUpdate p e) = refl
process_kept numbers (BeginView p) = refl
process_kept numbers (EndUpdate p) = refl
process_kept numbers (EndView p s) = refl

answer_kept : (numbers : ℕ → ℕ) (e : Event) → option_map (kept_entries numbers) (answer_at e) ≡ answer_at (kept_event numbers e)
answer_kept numbers (BeginUpdate p e) = refl
answer_kept numbers (BeginView p) = refl
answer_kept numbers (EndUpdate p) = refl
answer_kept numbers (EndView p s) = refl

pub from_kept : (keeps : ℕ → Bool) (numbers : ℕ → ℕ) (place : ℕ) (e : Event) (es : List Event) → keeps place ≡ true → kept_from keeps numbers place (e ∷ es) ≡ kept_event numbers e ∷ kept_from keeps numbers (suc place) es
from_kept keeps numbers place e es k = ap (λ b. cond b (kept_event numbers e ∷ kept_from keeps numbers (suc place) es) (kept_from keeps numbers (suc place) es)) k

pub from_left : (keeps : ℕ → Bool) (numbers : ℕ → ℕ) (place : ℕ) (e : Event) (es : List Event) → keeps place ≡ false → kept_from keeps numbers place (e ∷ es) ≡ kept_from keeps numbers (suc place) es
from_left keeps numbers place e es k = ap (λ b. cond b (kept_event numbers e ∷ kept_from keeps numbers (suc place) es) (kept_from keeps numbers (suc place) es)) k

pub record NextKept (keeps : ℕ → Bool) (numbers : ℕ → ℕ) (p place r : ℕ) (es ks : List Event) : Type 0 where
  pub at : option_map (rank keeps) (next_place p place es) ≡ next_place p r ks
  pub answer : option_map (kept_entries numbers) (next_answer p es) ≡ next_answer p ks

next_kept : (keeps : ℕ → Bool) (numbers : ℕ → ℕ) (p place r : ℕ) (es : List Event) → r ≡ rank keeps place → ((j : ℕ) → next_place p place es ≡ Some j → keeps j ≡ true) → NextKept keeps numbers p place r es (kept_from keeps numbers place es)
next_kept keeps numbers p place r [] s h = record { at = refl; answer = refl }
next_kept keeps numbers p place r (e ∷ es) s h = go (λ r. next_kept keeps numbers p (suc place) r es) (process_of e == p) refl (keeps place) refl
  where
    More : Type 0
    More = (q : ℕ) → q ≡ rank keeps (suc place) → ((j : ℕ) → next_place p (suc place) es ≡ Some j → keeps j ≡ true) → NextKept keeps numbers p (suc place) q es (kept_from keeps numbers (suc place) es)

    K : List Event
    K = kept_from keeps numbers (suc place) es

    x : Event
    x = kept_event numbers e

    at : (b : Bool) → (process_of e == p) ≡ b → next_place p place (e ∷ es) ≡ cond b (Some place) (next_place p (suc place) es)
    at b t = ap (λ z. cond z (Some place) (next_place p (suc place) es)) t

    answers : (b : Bool) → (process_of e == p) ≡ b → next_answer p (e ∷ es) ≡ cond b (answer_at e) (next_answer p es)
    answers b t = ap (λ z. cond z (answer_at e) (next_answer p es)) t

    same : (b : Bool) → (process_of e == p) ≡ b → (process_of x == p) ≡ b
    same b t = ap (λ z. z == p) (process_kept numbers e) ∙ t

    at_x : (b : Bool) → (process_of e == p) ≡ b → next_place p r (x ∷ K) ≡ cond b (Some r) (next_place p (suc r) K)
    at_x b t = ap (λ z. cond z (Some r) (next_place p (suc r) K)) (same b t)

    answers_x : (b : Bool) → (process_of e == p) ≡ b → next_answer p (x ∷ K) ≡ cond b (answer_at x) (next_answer p K)
    answers_x b t = ap (λ z. cond z (answer_at x) (next_answer p K)) (same b t)

    go : More → (b : Bool) → (process_of e == p) ≡ b → (k : Bool) → keeps place ≡ k → NextKept keeps numbers p place r (e ∷ es) (kept_from keeps numbers place (e ∷ es))
    go more true t false k = absurd (false≢true (sym k ∙ h place (at true t)))
    go more true t true k = record {
      at = ap (option_map (rank keeps)) (at true t) ∙ ap Some (sym s) ∙ sym (at_x true t) ∙ sym (ap (next_place p r) (from_kept keeps numbers place e es k));
      answer = ap (option_map (kept_entries numbers)) (answers true t) ∙ answer_kept numbers e ∙ sym (answers_x true t) ∙ sym (ap (next_answer p) (from_kept keeps numbers place e es k));
    }
    go more false t true k =
        let rest = more (suc r) (ap suc s ∙ sym (rank_kept keeps place k)) (λ j g. h j (at false t ∙ g)) in
        record {
          at = ap (option_map (rank keeps)) (at false t) ∙ rest.at ∙ sym (at_x false t) ∙ sym (ap (next_place p r) (from_kept keeps numbers place e es k));
          answer = ap (option_map (kept_entries numbers)) (answers false t) ∙ rest.answer ∙ sym (answers_x false t) ∙ sym (ap (next_answer p) (from_kept keeps numbers place e es k));
        }
    go more false t false k =
        let rest = more r (s ∙ sym (rank_left keeps place k)) (λ j g. h j (at false t ∙ g)) in
        record {
          at = ap (option_map (rank keeps)) (at false t) ∙ rest.at ∙ sym (ap (next_place p r) (from_left keeps numbers place e es k));
          answer = ap (option_map (kept_entries numbers)) (answers false t) ∙ rest.answer ∙ sym (ap (next_answer p) (from_left keeps numbers place e es k));
        }

-- calls are kept with their ends
abbrev pub Whole : (ℕ → Bool) → List Call → Type 0
Whole keeps calls = (c : Call) (j : ℕ) → In c calls → c.ended ≡ Some j → keeps j ≡ keeps c.begun

pub kind : (x : Event) → IsBegin x ⊎ (IsBegin x → ⊥)
kind (BeginUpdate p e) = inl tt
kind (BeginView p) = inl tt
kind (EndUpdate p) = inr (λ b. b)
kind (EndView p s) = inr (λ b. b)

pub begin_kept : (numbers : ℕ → ℕ) (x : Event) → IsBegin x → IsBegin (kept_event numbers x)
begin_kept numbers (BeginUpdate p e) b = tt
begin_kept numbers (BeginView p) b = tt
begin_kept numbers (EndUpdate p) b = absurd b
begin_kept numbers (EndView p s) b = absurd b

pub end_kept : (numbers : ℕ → ℕ) (x : Event) → (IsBegin x → ⊥) → IsBegin (kept_event numbers x) → ⊥
end_kept numbers (BeginUpdate p e) h b = h tt
end_kept numbers (BeginView p) h b = h tt
end_kept numbers (EndUpdate p) h b = b
end_kept numbers (EndView p s) h b = b

pub calls_begin : (n place : ℕ) (x : Event) (es : List Event) → IsBegin x → calls_from n place (x ∷ es) ≡ call_at n place x es ∷ calls_from (suc n) (suc place) es
calls_begin n place (BeginUpdate p e) es b = refl
calls_begin n place (BeginView p) es b = refl
calls_begin n place (EndUpdate p) es b = absurd b
calls_begin n place (EndView p s) es b = absurd b

pub calls_end : (n place : ℕ) (x : Event) (es : List Event) → (IsBegin x → ⊥) → calls_from n place (x ∷ es) ≡ calls_from n (suc place) es
calls_end n place (BeginUpdate p e) es b = absurd (b tt)
calls_end n place (BeginView p) es b = absurd (b tt)
calls_end n place (EndUpdate p) es b = refl
calls_end n place (EndView p s) es b = refl

-- the call that begins with the first event
head_kept : (keeps : ℕ → Bool) (numbers : ℕ → ℕ) (q n place r : ℕ) (x : Event) (es : List Event) → IsBegin x → keeps place ≡ true → r ≡ rank keeps place →
    ((j : ℕ) → next_place (process_of x) (suc place) es ≡ Some j → keeps j ≡ true) →
    kept_call keeps numbers q (call_at n place x es) ≡ call_at q r (kept_event numbers x) (kept_from keeps numbers (suc place) es)
head_kept keeps numbers q n place r (BeginUpdate p e) es b k s h =
    let t = next_kept keeps numbers p (suc place) (suc r) es (ap suc s ∙ sym (rank_kept keeps place k)) h in
    ap (λ z. record { number = q; process = p; operation = Updates (alone e); begun = z; ended = option_map (rank keeps) (next_place p (suc place) es) }) (sym s)
    ∙ ap (λ z. record { number = q; process = p; operation = Updates (alone e); begun = r; ended = z }) t.at
head_kept keeps numbers q n place r (BeginView p) es b k s h =
    let t = next_kept keeps numbers p (suc place) (suc r) es (ap suc s ∙ sym (rank_kept keeps place k)) h in
    ap (λ z. record { number = q; process = p; operation = Views (option_map (kept_entries numbers) (next_answer p es)); begun = z; ended = option_map (rank keeps) (next_place p (suc place) es) }) (sym s)
    ∙ ap (λ z. record { number = q; process = p; operation = Views z; begun = r; ended = option_map (rank keeps) (next_place p (suc place) es) }) t.answer
    ∙ ap (λ z. record { number = q; process = p; operation = Views (next_answer p (kept_from keeps numbers (suc place) es)); begun = r; ended = z }) t.at
head_kept keeps numbers q n place r (EndUpdate p) es b k s h = absurd b
head_kept keeps numbers q n place r (EndView p v) es b k s h = absurd b

pub record Kept (keeps : ℕ → Bool) (numbers : ℕ → ℕ) (c : Call) (calls : List Call) : Type 0 where
  pub number : ℕ
  pub there : In (kept_call keeps numbers number c) calls

pub record Source (keeps : ℕ → Bool) (numbers : ℕ → ℕ) (d : Call) (calls : List Call) : Type 0 where
  pub call : Call
  pub there : In call calls
  pub kept : keeps call.begun ≡ true
  pub is : d ≡ kept_call keeps numbers d.number call

pub whole_begin : (keeps : ℕ → Bool) (n place : ℕ) (x : Event) (es : List Event) → IsBegin x → Whole keeps (calls_from n place (x ∷ es)) → Whole keeps (calls_from (suc n) (suc place) es)
whole_begin keeps n place x es b w c j i e = w c j (subst (In c) (sym (calls_begin n place x es b)) (inr i)) e

pub whole_end : (keeps : ℕ → Bool) (n place : ℕ) (x : Event) (es : List Event) → (IsBegin x → ⊥) → Whole keeps (calls_from n place (x ∷ es)) → Whole keeps (calls_from n (suc place) es)
whole_end keeps n place x es b w c j i e = w c j (subst (In c) (sym (calls_end n place x es b)) i) e

pub whole_head : (keeps : ℕ → Bool) (n place : ℕ) (x : Event) (es : List Event) → IsBegin x → Whole keeps (calls_from n place (x ∷ es)) → (j : ℕ) → next_place (process_of x) (suc place) es ≡ Some j → keeps j ≡ keeps place
whole_head keeps n place x es b w j e = w (call_at n place x es) j (subst (In (call_at n place x es)) (sym (calls_begin n place x es b)) (inl refl)) e

pub kept_to : (keeps : ℕ → Bool) (numbers : ℕ → ℕ) (place n m r : ℕ) (es : List Event) → r ≡ rank keeps place → Whole keeps (calls_from n place es) →
    (c : Call) → In c (calls_from n place es) → keeps c.begun ≡ true → Kept keeps numbers c (calls_from m r (kept_from keeps numbers place es))
kept_to keeps numbers place n m r [] s w c i k = absurd i
kept_to keeps numbers place n m r (x ∷ es) s w c i k = go (λ n m r. kept_to keeps numbers (suc place) n m r es) (kind x) (keeps place) refl
  where
    K : List Event
    K = kept_from keeps numbers (suc place) es

    y : Event
    y = kept_event numbers x

    More : Type 0
    More = (n m r : ℕ) → r ≡ rank keeps (suc place) → Whole keeps (calls_from n (suc place) es) → (c : Call) → In c (calls_from n (suc place) es) → keeps c.begun ≡ true → Kept keeps numbers c (calls_from m r K)

    Goal : Type 0
    Goal = Kept keeps numbers c (calls_from m r (kept_from keeps numbers place (x ∷ es)))

    begins_kept : More → IsBegin x → keeps place ≡ true → (call_at n place x es ≡ c) ⊎ In c (calls_from (suc n) (suc place) es) → Goal
    begins_kept more b p (inl e) =
        let t : calls_from m r (kept_from keeps numbers place (x ∷ es)) ≡ call_at m r y K ∷ calls_from (suc m) (suc r) K = ap (calls_from m r) (from_kept keeps numbers place x es p) ∙ calls_begin m r y K (begin_kept numbers x b) in
        record { number = m; there = subst (In (kept_call keeps numbers m c)) (sym t) (inl (sym (head_kept keeps numbers m n place r x es b p s (λ j g. whole_head keeps n place x es b w j g ∙ p)) ∙ ap (kept_call keeps numbers m) e)) }
    begins_kept more b p (inr j) =
        let t : calls_from m r (kept_from keeps numbers place (x ∷ es)) ≡ call_at m r y K ∷ calls_from (suc m) (suc r) K = ap (calls_from m r) (from_kept keeps numbers place x es p) ∙ calls_begin m r y K (begin_kept numbers x b) in
        let q = more (suc n) (suc m) (suc r) (ap suc s ∙ sym (rank_kept keeps place p)) (whole_begin keeps n place x es b w) c j k in
        record { number = q.number; there = subst (In (kept_call keeps numbers q.number c)) (sym t) (inr q.there) }

    begins_left : More → IsBegin x → keeps place ≡ false → (call_at n place x es ≡ c) ⊎ In c (calls_from (suc n) (suc place) es) → Goal
    begins_left more b p (inl e) = absurd (false≢true (sym p ∙ ap keeps (ap (λ (z : Call). z.begun) e) ∙ k))
    begins_left more b p (inr j) =
        let q = more (suc n) m r (s ∙ sym (rank_left keeps place p)) (whole_begin keeps n place x es b w) c j k in
        record { number = q.number; there = subst (In (kept_call keeps numbers q.number c)) (sym (ap (calls_from m r) (from_left keeps numbers place x es p))) q.there }

    go : More → IsBegin x ⊎ (IsBegin x → ⊥) → (p : Bool) → keeps place ≡ p → Goal
    go more (inl b) true p = begins_kept more b p (subst (In c) (calls_begin n place x es b) i)
    go more (inl b) false p = begins_left more b p (subst (In c) (calls_begin n place x es b) i)
    go more (inr b) true p =
        let t : calls_from m r (kept_from keeps numbers place (x ∷ es)) ≡ calls_from m (suc r) K = ap (calls_from m r) (from_kept keeps numbers place x es p) ∙ calls_end m r y K (end_kept numbers x b) in
        let q = more n m (suc r) (ap suc s ∙ sym (rank_kept keeps place p)) (whole_end keeps n place x es b w) c (subst (In c) (calls_end n place x es b) i) k in
        record { number = q.number; there = subst (In (kept_call keeps numbers q.number c)) (sym t) q.there }
    go more (inr b) false p =
        let q = more n m r (s ∙ sym (rank_left keeps place p)) (whole_end keeps n place x es b w) c (subst (In c) (calls_end n place x es b) i) k in
        record { number = q.number; there = subst (In (kept_call keeps numbers q.number c)) (sym (ap (calls_from m r) (from_left keeps numbers place x es p))) q.there }

pub kept_back : (keeps : ℕ → Bool) (numbers : ℕ → ℕ) (place n m r : ℕ) (es : List Event) → r ≡ rank keeps place → Whole keeps (calls_from n place es) →
    (d : Call) → In d (calls_from m r (kept_from keeps numbers place es)) → Source keeps numbers d (calls_from n place es)
kept_back keeps numbers place n m r [] s w d i = absurd i
kept_back keeps numbers place n m r (x ∷ es) s w d i = go (λ n m r. kept_back keeps numbers (suc place) n m r es) (kind x) (keeps place) refl
  where
    K : List Event
    K = kept_from keeps numbers (suc place) es

    y : Event
    y = kept_event numbers x

    More : Type 0
    More = (n m r : ℕ) → r ≡ rank keeps (suc place) → Whole keeps (calls_from n (suc place) es) → (d : Call) → In d (calls_from m r K) → Source keeps numbers d (calls_from n (suc place) es)

    Goal : Type 0
    Goal = Source keeps numbers d (calls_from n place (x ∷ es))

    later : IsBegin x → Source keeps numbers d (calls_from (suc n) (suc place) es) → Goal
    later b q = record { call = q.call; there = subst (In q.call) (sym (calls_begin n place x es b)) (inr q.there); kept = q.kept; is = q.is }

    begins_kept : More → IsBegin x → keeps place ≡ true → (call_at m r y K ≡ d) ⊎ In d (calls_from (suc m) (suc r) K) → Goal
    begins_kept more b p (inl e) =
        let f : m ≡ d.number = ap (λ (z : Call). z.number) e in
        let h = head_kept keeps numbers m n place r x es b p s (λ j g. whole_head keeps n place x es b w j g ∙ p) in
        record {
          call = call_at n place x es;
          there = subst (In (call_at n place x es)) (sym (calls_begin n place x es b)) (inl refl);
          kept = p;
          is = sym e ∙ sym h ∙ ap (λ q. kept_call keeps numbers q (call_at n place x es)) f;
        }
    begins_kept more b p (inr j) = later b (more (suc n) (suc m) (suc r) (ap suc s ∙ sym (rank_kept keeps place p)) (whole_begin keeps n place x es b w) d j)

    go : More → IsBegin x ⊎ (IsBegin x → ⊥) → (p : Bool) → keeps place ≡ p → Goal
    go more (inl b) true p = begins_kept more b p (subst (In d) (ap (calls_from m r) (from_kept keeps numbers place x es p) ∙ calls_begin m r y K (begin_kept numbers x b)) i)
    go more (inl b) false p = later b (more (suc n) m r (s ∙ sym (rank_left keeps place p)) (whole_begin keeps n place x es b w) d (subst (In d) (ap (calls_from m r) (from_left keeps numbers place x es p)) i))
    go more (inr b) true p =
        let q = more n m (suc r) (ap suc s ∙ sym (rank_kept keeps place p)) (whole_end keeps n place x es b w) d (subst (In d) (ap (calls_from m r) (from_kept keeps numbers place x es p) ∙ calls_end m r y K (end_kept numbers x b)) i) in
        record { call = q.call; there = subst (In q.call) (sym (calls_end n place x es b)) q.there; kept = q.kept; is = q.is }
    go more (inr b) false p =
        let q = more n m r (s ∙ sym (rank_left keeps place p)) (whole_end keeps n place x es b w) d (subst (In d) (ap (calls_from m r) (from_left keeps numbers place x es p)) i) in
        record { call = q.call; there = subst (In q.call) (sym (calls_end n place x es b)) q.there; kept = q.kept; is = q.is }

-- precedence

pub precedes_kept : (keeps : ℕ → Bool) (numbers : ℕ → ℕ) (m n : ℕ) (a b : Call) → ((j : ℕ) → a.ended ≡ Some j → keeps j ≡ true) → precedes (kept_call keeps numbers m a) (kept_call keeps numbers n b) ≡ precedes a b
unfolding precedes
precedes_kept keeps numbers m n a b h = go a.ended refl
  where
    go : (o : Option ℕ) → a.ended ≡ o → is_before (option_map (rank keeps) a.ended) (rank keeps b.begun) ≡ is_before a.ended b.begun
    go None e = ap (λ z. is_before (option_map (rank keeps) z) (rank keeps b.begun)) e ∙ sym (ap (λ z. is_before z b.begun) e)
    go (Some j) e = ap (λ z. is_before (option_map (rank keeps) z) (rank keeps b.begun)) e ∙ rank_order keeps j b.begun (h j e) ∙ sym (ap (λ z. is_before z b.begun) e)
