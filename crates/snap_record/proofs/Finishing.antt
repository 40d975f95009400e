-- How the taker comes to know what all senders sent, and that it took all of it.
use Rattle.std.proofs.Common.{◌≡◌, ℕ, zero, suc, ◌==◌, Bool, true, false, cond, List, [], ◌∷◌, ◌++◌, Option, Some, None, All, IfSome, get_or, length, sym, refl, ap, ◌∙◌, subst, arith, length-append}
use Rattle.std.specs.Prelude.{find, IsSome}
use Rattle.std.proofs.lemmas.Bool.{eqb-true}
use Rattle.std.proofs.lemmas.List.{append-nil, nil_from_length}
use Rattle.std.proofs.lemmas.List.Elements.{All-head, All-pop, All-push, All-tail}
use Rattle.snap_board.specs.declared.record.Record.{Record}
use Rattle.snap_record.specs.declared.delivery.Ended.{Ended}
use Rattle.snap_record.specs.declared.delivery.Role.{Role}
use Rattle.snap_record.specs.declared.delivery.Role.TheVariants.{Sends, Takes}
use Rattle.snap_core.specs.Sums.{total}
use Rattle.snap_board.specs.Settled.{falling}
use Rattle.snap_record.specs.Delivery.{of_worker}
use Rattle.snap_record.specs.inside.Delivery.{taken_in, DidSend, AddsUp}
use Rattle.snap_record.specs.Relays.{SenderView, sender_at, count_in, count_sent, HasPlaces, TookAll}
use Rattle.snap_record.specs.inside.Ends.{TookIn, made_of}
use Rattle.snap_record.specs.Ends.{taken_of}
use Rattle.snap_record.proofs.ByWorker.{counted}

-- one more sender is taken in
pub one_more : (old : Role) (all rest before : List SenderView) (s : SenderView) (role theirs new : Role) → TookIn old all before role → before ≡ rest ++ s ∷ []
    → theirs ≡ Sends s.place s.sent → new ≡ taken_in role theirs → TookIn old all rest new
one_more old all rest before s role theirs new h is sends e =
    let ended : Ended = record { place = s.place; sent = s.sent } in
    record {
      ended = h.ended ++ ended ∷ [];
      role = e ∙ ap (λ (v : Role). taken_in v theirs) h.role ∙ ap (λ (u : Role). taken_in (Takes (taken_of old) (made_of old) h.ended) u) sends;
      known = λ sent did r.
          let d = All-pop (DidSend sent) (h.ended ++ ended ∷ []) h.ended (Some ended) refl did in
          h.known sent d.0 (subst (All (λ (t : SenderView). sent t.place ≡ t.sent)) (sym is) (All-push (λ (t : SenderView). sent t.place ≡ t.sent) rest s r d.1));
    }

pub none_left : (old : Role) (all rest : List SenderView) (new : Role) → length rest ≡ 0 → TookIn old all rest new → TookIn old all [] new
none_left old all rest new none h = subst (λ (l : List SenderView). TookIn old all l new) (nil_from_length rest none) h

-- what `find` gives has what all have
found : (P : SenderView → Type 0) (p : SenderView → Bool) (xs : List SenderView) → All P xs → IfSome (find p xs) (λ s. P s × (p s ≡ true))
found P p [] h = tt
found P p (x ∷ xs) h =
    elim (p x) as (λ b. p x ≡ b → IfSome (cond b (Some x) (find p xs)) (λ s. P s × (p s ≡ true))) [
      | true ↦ λ e. (All-head P x xs h, e)
      | false ↦ λ e. found P p xs (All-tail P x xs h)
    ] refl

count_is : (sent : ℕ → List Record) (w : ℕ) (r : Option SenderView) → IfSome r (λ s. (sent s.place ≡ s.sent) × ((s.place == w) ≡ true)) → IsSome r → length (sent w) ≡ count_in r
count_is sent w None h some = cc
count_is sent w (Some s) h some = ap (λ q. length (sent q)) (sym (eqb-true s.place w h.1)) ∙ ap length h.0

counts : (n : ℕ) (xs : List Record) (senders : List SenderView) (sent : ℕ → List Record) → ((p : ℕ) → of_worker p xs ≡ sent p)
    → All (λ s. sent s.place ≡ s.sent) senders → HasPlaces senders n → count_sent senders n ≡ total (λ p. length (of_worker p xs)) (falling n)
counts zero xs senders sent order all places = refl
counts (suc n) xs senders sent order all places =
    let before = counts n xs senders sent order all (λ p lt. places p (omega arith)) in
    let last = count_is sent n (sender_at senders n) (found (λ s. sent s.place ≡ s.sent) (λ s. s.place == n) senders all) (places n (omega arith)) in
    omega (arith, before, last, ap length (order n))

-- as many records were taken as sent, so the queue holds none, and each worker's are those that it sent
pub settled : (n : ℕ) (taken items : List Record) (senders : List SenderView) (role : Role) (ended : List Ended) → role ≡ Takes taken n ended
    → ((sent : ℕ → List Record) → All (DidSend sent) ended → All (λ s. sent s.place ≡ s.sent) senders) → AddsUp role items
    → HasPlaces senders n → count_sent senders n ≡ length taken → TookAll n taken senders
settled n taken items senders role ended e known told places done =
    let a = subst (λ (v : Role). AddsUp v items) e told in
    let all = known a.0 a.3 in
    let whole = counted n (taken ++ items) (λ p le. a.1 p ∙ a.2 p le) in
    let sum = counts n (taken ++ items) senders a.0 a.1 all places in
    let none : items ≡ [] = nil_from_length items (omega (arith, whole, sum, done, length-append taken items)) in
    let same : (p : ℕ) → of_worker p taken ≡ a.0 p = λ p. ap (of_worker p) (sym (ap (λ l. taken ++ l) none ∙ append-nil taken)) ∙ a.1 p in
    record {
      each = λ k d lt. same (get_or senders k d).place ∙ all k d lt;
      no_other = λ p le. same p ∙ a.2 p le;
    }
