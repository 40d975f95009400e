-- Each step on the queue of records keeps its rule.
use Rattle.std.proofs.Common.{◌≡◌, ◌≢◌, ℕ, ◌+◌, ◌<◌, ◌≤◌, ◌==◌, true, false, cond, List, [], ◌∷◌, ◌++◌, Option, Some, None, length, set, sym, refl, ap, ◌∙◌, subst, ⊎_elim, append_assoc, arith, eq-eqb}
use Rattle.std.proofs.lemmas.Bool.{cond-true, cond-false, cases_lt}
use Rattle.std.proofs.lemmas.Bool.Decides.{eqb_tells}
use Rattle.std.proofs.lemmas.List.{append-nil}
use Rattle.std.proofs.lemmas.List.Elements.{All-nil, All-push, All-weaker, filter-append}
use mathlib.Core.Option.{some, some-ne-none}
use lib.ListN.{get_elem?}
use Rattle.crossbeam_queue.specs.Fifo.{Pushes, Pops, Forks, Merges, Learns}
use Rattle.crossbeam_queue.proofs.Lists.{at_set}
use Rattle.snap_board.specs.declared.record.Record.{Record}
use Rattle.snap_record.specs.declared.delivery.Ended.{Ended}
use Rattle.snap_record.specs.declared.delivery.Role.{Role}
use Rattle.snap_record.specs.declared.delivery.Role.TheVariants.{Sends, Takes, Spent}
use Rattle.snap_record.specs.Delivery.{of_worker}
use Rattle.snap_record.specs.inside.Delivery.{new_taker, one_made, next_sender, taken_in, after_push, after_pop, DidSend, HasEnded, Fits, Delivers, AddsUp}
use Rattle.snap_account.proofs.Lists.{at_push}
use Rattle.snap_record.proofs.ByWorker.{of_worker-same, of_worker-other}

-- a function with another value at one number
abbrev put_at : {A : Type 0} → ℕ → A → (ℕ → A) → ℕ → A
put_at p a f q = cond (q == p) a (f q)

put_at-same : {A : Type 0} (p : ℕ) (a : A) (f : ℕ → A) → put_at p a f p ≡ a
put_at-same p a f = cond-true (p == p) a (f p) (eq-eqb p p refl)

put_at-other : {A : Type 0} (p : ℕ) (a : A) (f : ℕ → A) (q : ℕ) → q ≢ p → put_at p a f q ≡ f q
put_at-other p a f q other = ⊎_elim (λ (x : ((q == p) ≡ true) × (q ≡ p)). absurd (other x.1)) (λ (x : ((q == p) ≡ false) × (q ≢ p)). cond-false (q == p) a (f q) x.0) (eqb_tells q p)

-- two places are apart where one is free and the other is not
apart : (seat : ℕ → Option ℕ) (p q k : ℕ) → seat q ≡ Some k → seat p ≡ None → p ≢ q
apart seat p q k out free is = let same : seat p ≡ seat q = ap seat is in cc

-- or where two passes have them
apart_passes : (seat : ℕ → Option ℕ) (p q i j : ℕ) → seat q ≡ Some i → seat p ≡ Some j → j ≢ i → p ≢ q
apart_passes seat p q i j a b other is = let same : seat p ≡ seat q = ap seat is in let e : j ≡ i = cc in other e

-- what is left to show of all roles after one of them changed
all_set : (F : ℕ → Role → Type 0) (roles : List Role) (k : ℕ) (w : Role) → F k w → ((j : ℕ) (u : Role) → j ≢ k → get_elem? roles j ≡ some u → F j u)
    → (j : ℕ) (u : Role) → get_elem? (set roles k w) j ≡ some u → F j u
all_set F roles k w mine others j u e = ⊎_elim (λ (x : (j ≡ k) × (w ≡ u)). subst (λ (y : ℕ × Role). F y.0 y.1) (λ i. (sym x.0 i, x.1 i)) mine)
    (λ (x : (j ≢ k) × (get_elem? roles j ≡ some u)). others j u x.0 x.1) (at_set roles k j w u e)

pub begins : Delivers [] (new_taker ∷ [])
begins = record {
  taker = 0;
  seat = λ p. None;
  sent = λ p. [];
  taken = [];
  order = λ p. refl;
  fits = λ j u e. ⊎_elim
      (λ x. absurd (some-ne-none u (sym x)))
      (λ (x : (j ≡ 0) × (new_taker ≡ u)). subst (Fits 0 (λ p. None) (λ p. []) [] j) x.1 (x.0, refl, (λ p le. (refl, refl)), All-nil (HasEnded (λ p. None) (λ p. []) 0)))
      (at_push [] new_taker u j e);
}

-- a push
order_pushed : (place p : ℕ) (x : Record) (taken items : List Record) (sent : ℕ → List Record) → x.process ≡ place
    → of_worker p (taken ++ items) ≡ sent p → of_worker p (taken ++ (items ++ x ∷ [])) ≡ put_at place (sent place ++ x ∷ []) sent p
order_pushed place p x taken items sent is h =
    ap (of_worker p) (sym (append_assoc taken items (x ∷ []))) ∙ filter-append (λ (r : Record). r.process == p) (taken ++ items) (x ∷ []) ∙ ap (λ l. l ++ of_worker p (x ∷ [])) h
    ∙ ⊎_elim
    (λ (y : ((p == place) ≡ true) × (p ≡ place)). ap (λ l. sent p ++ l) (of_worker-same p x [] (is ∙ sym y.1)) ∙ ap (λ q. sent q ++ x ∷ []) y.1 ∙ sym (cond-true (p == place) (sent place ++ x ∷ []) (sent p) y.0))
    (λ (y : ((p == place) ≡ false) × (p ≢ place)). ap (λ l. sent p ++ l) (of_worker-other p x [] (λ e. y.1 (sym e ∙ is))) ∙ append-nil (sent p) ∙ sym (cond-false (p == place) (sent place ++ x ∷ []) (sent p) y.0))
    (eqb_tells p place)

keep_push : (taker : ℕ) (seat : ℕ → Option ℕ) (sent : ℕ → List Record) (taken : List Record) (place k j : ℕ) (l : List Record) (u : Role)
    → j ≢ k → seat place ≡ Some k → Fits taker seat sent taken j u → Fits taker seat (put_at place l sent) taken j u
keep_push taker seat sent taken place k j l (Sends q list) other out f = (f.0, put_at-other place l sent q (apart_passes seat q place k j out f.0 other) ∙ f.1)
keep_push taker seat sent taken place k j l (Takes list made ended) other out f = (
  f.0,
  f.1,
  (λ p le. ((f.2 p le).0, put_at-other place l sent p (apart seat p place k out (f.2 p le).0) ∙ (f.2 p le).1)),
  All-weaker (HasEnded seat sent made) (HasEnded seat (put_at place l sent) made) (λ e h. (h.0, put_at-other place l sent e.place (apart seat e.place place k out h.0) ∙ h.1, h.2)) ended f.3,
)
keep_push taker seat sent taken place k j l Spent other out f = tt

pub pushes : (n k place : ℕ) (list : List Record) (x : Record) → x.process ≡ place → Pushes Delivers n k (Sends place list) x (λ w. w ≡ after_push (Sends place list) x)
pushes n k place list x is items roles room h at =
    let mine = h.fits k (Sends place list) at in
    let w : Role = Sends place (list ++ x ∷ []) in
    let now : List Record = h.sent place ++ x ∷ [] in (
      w,
      record {
        taker = h.taker;
        seat = h.seat;
        sent = put_at place now h.sent;
        taken = h.taken;
        order = λ p. order_pushed place p x h.taken items h.sent is (h.order p);
        fits = all_set (Fits h.taker h.seat (put_at place now h.sent) h.taken) roles k w (mine.0, put_at-same place now h.sent ∙ ap (λ l. l ++ x ∷ []) mine.1)
            (λ j u other e. keep_push h.taker h.seat h.sent h.taken place k j now u other mine.0 (h.fits j u e));
      },
      refl,
    )

-- a pop
keep_pop : (taker : ℕ) (seat : ℕ → Option ℕ) (sent : ℕ → List Record) (taken more : List Record) (k j : ℕ) (u : Role)
    → j ≢ k → k ≡ taker → Fits taker seat sent taken j u → Fits taker seat sent more j u
keep_pop taker seat sent taken more k j (Sends q list) other is f = f
keep_pop taker seat sent taken more k j (Takes list made ended) other is f = absurd (other (f.0 ∙ sym is))
keep_pop taker seat sent taken more k j Spent other is f = tt

pub pops : (k made : ℕ) (taken : List Record) (ended : List Ended) → Pops Delivers k (Takes taken made ended) (λ x w. w ≡ after_pop (Takes taken made ended) x)
pops k made taken ended x items roles h at =
    let mine = h.fits k (Takes taken made ended) at in
    let w : Role = Takes (taken ++ x ∷ []) made ended in
    let more : List Record = h.taken ++ x ∷ [] in (
      w,
      record {
        taker = h.taker;
        seat = h.seat;
        sent = h.sent;
        taken = more;
        order = λ p. ap (of_worker p) (append_assoc h.taken (x ∷ []) items) ∙ h.order p;
        fits = all_set (Fits h.taker h.seat h.sent more) roles k w (mine.0, ap (λ l. l ++ x ∷ []) mine.1, mine.2, mine.3)
            (λ j u other e. keep_pop h.taker h.seat h.sent h.taken more k j u other mine.0 (h.fits j u e));
      },
      refl,
    )

-- a new sender
keep_fork : (taker : ℕ) (seat : ℕ → Option ℕ) (sent : ℕ → List Record) (taken : List Record) (made new k j : ℕ) (u : Role)
    → j ≢ k → k ≡ taker → seat made ≡ None → Fits taker seat sent taken j u → Fits taker (put_at made (Some new) seat) sent taken j u
keep_fork taker seat sent taken made new k j (Sends q list) other is free f =
    (put_at-other made (Some new) seat q (λ e. apart seat made q j f.0 free (sym e)) ∙ f.0, f.1)
keep_fork taker seat sent taken made new k j (Takes list more ended) other is free f = absurd (other (f.0 ∙ sym is))
keep_fork taker seat sent taken made new k j Spent other is free f = tt

ended_fork : (seat : ℕ → Option ℕ) (sent : ℕ → List Record) (made new : ℕ) (e : Ended) → HasEnded seat sent made e → HasEnded (put_at made (Some new) seat) sent (made + 1) e
ended_fork seat sent made new e h = let ne : e.place ≢ made = omega (arith, h.2) in (put_at-other made (Some new) seat e.place ne ∙ h.0, h.1, omega (arith, h.2))

pub forks : (k made : ℕ) (taken : List Record) (ended : List Ended) → Forks Delivers k (Takes taken made ended) (Takes taken (made + 1) ended) (Sends made [])
forks k made taken ended items roles h at =
    let mine = h.fits k (Takes taken made ended) at in
    let left : Role = Takes taken (made + 1) ended in
    let right : Role = Sends made [] in
    let new : ℕ = length (set roles k left) in
    let seat : ℕ → Option ℕ = put_at made (Some new) h.seat in
    let free = mine.2 made (omega arith) in
    let Now : ℕ → Role → Type 0 = Fits h.taker seat h.sent h.taken in
    let above : (p : ℕ) → made + 1 ≤ p → (seat p ≡ None) × (h.sent p ≡ []) = λ p le. let ne : p ≢ made = omega arith in let q = mine.2 p (omega arith) in (put_at-other made (Some new) h.seat p ne ∙ q.0, q.1) in
    let old : (j : ℕ) (u : Role) → get_elem? (set roles k left) j ≡ some u → Now j u = all_set Now roles k left
    (mine.0, mine.1, above, All-weaker (HasEnded h.seat h.sent made) (HasEnded seat h.sent (made + 1)) (ended_fork h.seat h.sent made new) ended mine.3)
    (λ j u other e. keep_fork h.taker h.seat h.sent h.taken made new k j u other mine.0 free.0 (h.fits j u e)) in
    record {
      taker = h.taker;
      seat = seat;
      sent = h.sent;
      taken = h.taken;
      order = h.order;
      fits = λ j u e. ⊎_elim
          (λ (x : get_elem? (set roles k left) j ≡ some u). old j u x)
          (λ (x : (j ≡ new) × (right ≡ u)). subst (Now j) x.1 (put_at-same made (Some new) h.seat ∙ ap Some (sym x.0), free.1))
          (at_push (set roles k left) right u j e);
    }

-- a sender that is taken in
keep_merge : (taker : ℕ) (seat : ℕ → Option ℕ) (sent : ℕ → List Record) (taken : List Record) (place k other j : ℕ) (u : Role)
    → j ≢ k → j ≢ other → k ≡ taker → seat place ≡ Some other → Fits taker seat sent taken j u → Fits taker (put_at place None seat) sent taken j u
keep_merge taker seat sent taken place k other j (Sends q list) far two is out f = (put_at-other place None seat q (apart_passes seat q place other j out f.0 two) ∙ f.0, f.1)
keep_merge taker seat sent taken place k other j (Takes list made ended) far two is out f = absurd (far (f.0 ∙ sym is))
keep_merge taker seat sent taken place k other j Spent far two is out f = tt

ended_merge : (seat : ℕ → Option ℕ) (sent : ℕ → List Record) (made place : ℕ) (e : Ended) → HasEnded seat sent made e → HasEnded (put_at place None seat) sent made e
ended_merge seat sent made place e h = (
  ⊎_elim (λ (y : ((e.place == place) ≡ true) × (e.place ≡ place)). cond-true (e.place == place) None (seat e.place) y.0)
      (λ (y : ((e.place == place) ≡ false) × (e.place ≢ place)). cond-false (e.place == place) None (seat e.place) y.0 ∙ h.0) (eqb_tells e.place place),
  h.1,
  h.2,
)

pub merges : (k made : ℕ) (taken : List Record) (ended : List Ended) (other place : ℕ) (list : List Record)
    → Merges Delivers k (Takes taken made ended) other (Sends place list) (taken_in (Takes taken made ended) (Sends place list)) Spent
merges k made taken ended other place list items roles h at two at' =
    let mine = h.fits k (Takes taken made ended) at in
    let e : Ended = record { place = place; sent = list } in
    let both : Role = Takes taken made (ended ++ e ∷ []) in
    let theirs : Role = Sends place list in
    let was : get_elem? roles other ≡ some theirs = ⊎_elim (λ (x : (other ≡ k) × (both ≡ theirs)). absurd (two x.0)) (λ (x : (other ≢ k) × (get_elem? roles other ≡ some theirs)). x.1) (at_set roles k other both theirs at') in
    let their = h.fits other theirs was in
    let seat : ℕ → Option ℕ = put_at place None h.seat in
    let low : place < made = ⊎_elim (λ (l : place < made). l) (λ (l : made ≤ place). absurd (apart h.seat place place other their.0 (mine.2 place l).0 refl)) (cases_lt place made) in
    let above : (p : ℕ) → made ≤ p → (seat p ≡ None) × (h.sent p ≡ []) = λ p le. let ne : p ≢ place = omega arith in (put_at-other place None h.seat p ne ∙ (mine.2 p le).0, (mine.2 p le).1) in
    let Now : ℕ → Role → Type 0 = Fits h.taker seat h.sent h.taken in
    let rest : (j : ℕ) (u : Role) → get_elem? (set roles k both) j ≡ some u → j ≢ other → Now j u = all_set (λ j u. j ≢ other → Now j u) roles k both
    (λ _. (
      mine.0,
      mine.1,
      above,
      All-push (HasEnded seat h.sent made) ended e (All-weaker (HasEnded h.seat h.sent made) (HasEnded seat h.sent made) (ended_merge h.seat h.sent made place) ended mine.3) (put_at-same place None h.seat, their.1, low),
    ))
    (λ j u far at_j far'. keep_merge h.taker h.seat h.sent h.taken place k other j u far far' mine.0 their.0 (h.fits j u at_j)) in
    record {
      taker = h.taker;
      seat = seat;
      sent = h.sent;
      taken = h.taken;
      order = h.order;
      fits = all_set Now (set roles k both) other Spent tt (λ j u far at_j. rest j u at_j far);
    }

-- what the taker learns
pub learns : (k made : ℕ) (taken : List Record) (ended : List Ended) → Learns Delivers k (Takes taken made ended) (AddsUp (Takes taken made ended))
learns k made taken ended items roles h at =
    let mine = h.fits k (Takes taken made ended) at in
    (h.sent, (λ p. ap (λ l. of_worker p (l ++ items)) mine.1 ∙ h.order p), (λ p le. (mine.2 p le).1), All-weaker (HasEnded h.seat h.sent made) (DidSend h.sent) (λ e f. f.1) ended mine.3)

-- the same, where an equation tells the pass's role
pub pushes_as : (n k place : ℕ) (role : Role) (list : List Record) (x : Record) → role ≡ Sends place list → x.process ≡ place → Pushes Delivers n k role x (λ w. w ≡ after_push role x)
pushes_as n k place role list x e is = subst (λ (v : Role). Pushes Delivers n k v x (λ w. w ≡ after_push v x)) (sym e) (pushes n k place list x is)

pub pops_as : (k made : ℕ) (role : Role) (taken : List Record) (ended : List Ended) → role ≡ Takes taken made ended → Pops Delivers k role (λ x w. w ≡ after_pop role x)
pops_as k made role taken ended e = subst (λ (v : Role). Pops Delivers k v (λ x w. w ≡ after_pop v x)) (sym e) (pops k made taken ended)

pub forks_as : (k made : ℕ) (role : Role) (taken : List Record) (ended : List Ended) → role ≡ Takes taken made ended → Forks Delivers k role (one_made role) (next_sender role)
forks_as k made role taken ended e = subst (λ (v : Role). Forks Delivers k v (one_made v) (next_sender v)) (sym e) (forks k made taken ended)

pub merges_as : (k made : ℕ) (role theirs : Role) (taken : List Record) (ended : List Ended) (other place : ℕ) (list : List Record) → role ≡ Takes taken made ended → theirs ≡ Sends place list
    → Merges Delivers k role other theirs (taken_in role theirs) Spent
merges_as k made role theirs taken ended other place list e f =
    subst (λ (v : Role). Merges Delivers k v other theirs (taken_in v theirs) Spent) (sym e)
    (subst (λ (u : Role). Merges Delivers k (Takes taken made ended) other u (taken_in (Takes taken made ended) u) Spent) (sym f) (merges k made taken ended other place list))

pub learns_as : (k made : ℕ) (role : Role) (taken : List Record) (ended : List Ended) → role ≡ Takes taken made ended → Learns Delivers k role (AddsUp role)
learns_as k made role taken ended e = subst (λ (v : Role). Learns Delivers k v (AddsUp v)) (sym e) (learns k made taken ended)
