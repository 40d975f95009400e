-- One more step of a script.
use Rattle.std.proofs.Common.{◌≡◌, ℕ, ◌+◌, ◌-◌, ◌<◌, ◌≤◌, Bool, true, false, cond, nat_le, ◌&&◌, List, [], ◌∷◌, ◌++◌, take, drop, length, get_or, sym, refl, ap, ◌∙◌, subst, arith, append-nil, append_assoc, length-append}
use Rattle.std.proofs.lemmas.List.{take_more, drop_more}
use Rattle.std.proofs.lemmas.Bool.{false≢true, and_from, le-leb, leb-true}
use Rattle.snap_core.proofs.Sums.{total-append}
use Rattle.snap_record.specs.declared.plan.Step.{Step}
use Rattle.snap_board.specs.declared.record.Record.{Record}
use Rattle.snap_record.specs.Choices.{chosen, left_out, LeavesScans, IsScan, tries_of, one_view, views_in}
use Rattle.snap_record.specs.Plans.{has_tries, step_ticks, draws_within}
use Rattle.snap_record.specs.inside.Scripts.{IsStepOf, DidScript, DidSome}
use Rattle.snap_record.specs.Scripts.{IsCallOf, AreCallsOf}
use Rattle.snap_account.specs.declared.account.Answered.{Answered}
use Rattle.snap_board.specs.Boards.{DeskView}
use Rattle.snap_board.specs.LastCall.{HasCalled}

did_more : (d : ℕ) (steps : List Step) (rs : List Record) (s : Step) (r : Record) → DidScript d steps rs → IsStepOf d s r → DidScript d (steps ++ s ∷ []) (rs ++ r ∷ [])
did_more d [] [] s r old new = (new, tt)
did_more d [] (y ∷ rs) s r old new = absurd old
did_more d (t ∷ steps) [] s r old new = absurd old
did_more d (t ∷ steps) (y ∷ rs) s r old new = (old.0, did_more d steps rs s r old.1 new)

chosen-push : (bs : List Bool) (ss : List Step) (b : Bool) (s : Step) → length bs ≡ length ss → chosen (bs ++ b ∷ []) (ss ++ s ∷ []) ≡ chosen bs ss ++ cond b (s ∷ []) []
chosen-push [] [] b s e = refl
chosen-push [] (y ∷ ss) b s e = absurd (omega arith)
chosen-push (x ∷ bs) [] b s e = absurd (omega arith)
chosen-push (true ∷ bs) (y ∷ ss) b s e = ap (λ l. y ∷ l) (chosen-push bs ss b s (omega arith))
chosen-push (false ∷ bs) (y ∷ ss) b s e = chosen-push bs ss b s (omega arith)

left-push : (bs : List Bool) (ss : List Step) (b : Bool) (s : Step) → length bs ≡ length ss → left_out (bs ++ b ∷ []) (ss ++ s ∷ []) ≡ left_out bs ss ++ cond b [] (tries_of s ++ [])
left-push [] [] b s e = refl
left-push [] (y ∷ ss) b s e = absurd (omega arith)
left-push (x ∷ bs) [] b s e = absurd (omega arith)
left-push (true ∷ bs) (y ∷ ss) b s e = left-push bs ss b s (omega arith)
left-push (false ∷ bs) (y ∷ ss) b s e = ap (λ l. tries_of y ++ l) (left-push bs ss b s (omega arith)) ∙ sym (append_assoc (tries_of y) (left_out bs ss) (cond b [] (tries_of s ++ [])))

leaves-push : (bs : List Bool) (ss : List Step) (b : Bool) (s : Step) → length bs ≡ length ss → LeavesScans bs ss → (b ≡ false → IsScan s) → LeavesScans (bs ++ b ∷ []) (ss ++ s ∷ [])
leaves-push [] [] b s e old new = (new, tt)
leaves-push [] (y ∷ ss) b s e old new = absurd (omega arith)
leaves-push (x ∷ bs) [] b s e old new = absurd (omega arith)
leaves-push (x ∷ bs) (y ∷ ss) b s e old new = (old.0, leaves-push bs ss b s (omega arith) old.1 new)

some_more : (d : ℕ) (ss : List Step) (rs : List Record) (lost : List ℕ) (s : Step) (r : Record) → DidSome d ss rs lost → IsStepOf d s r → DidSome d (ss ++ s ∷ []) (rs ++ r ∷ []) lost
some_more d ss rs lost s r old new = record {
  choice = old.choice ++ true ∷ [];
  size = length-append old.choice (true ∷ []) ∙ ap (λ z. z + 1) old.size ∙ sym (length-append ss (s ∷ []));
  scans = leaves-push old.choice ss true s old.size old.scans (λ e. absurd (false≢true (sym e)));
  did = subst (λ (l : List Step). DidScript d l (rs ++ r ∷ [])) (sym (chosen-push old.choice ss true s old.size)) (did_more d (chosen old.choice ss) rs s r old.did new);
  left = left-push old.choice ss true s old.size ∙ append-nil (left_out old.choice ss) ∙ old.left;
}

some_left : (d : ℕ) (ss : List Step) (rs : List Record) (lost : List ℕ) (s : Step) → DidSome d ss rs lost → IsScan s → DidSome d (ss ++ s ∷ []) rs (lost ++ tries_of s)
some_left d ss rs lost s old new = record {
  choice = old.choice ++ false ∷ [];
  size = length-append old.choice (false ∷ []) ∙ ap (λ z. z + 1) old.size ∙ sym (length-append ss (s ∷ []));
  scans = leaves-push old.choice ss false s old.size old.scans (λ e. new);
  did = subst (λ (l : List Step). DidScript d l rs) (sym (chosen-push old.choice ss false s old.size ∙ append-nil (chosen old.choice ss))) old.did;
  left = left-push old.choice ss false s old.size ∙ (λ i. old.left i ++ append-nil (tries_of s) i);
}

-- one more record, for one more step
pub did_push : (d : ℕ) (script : List Step) (k : ℕ) (other : Step) (rs items : List Record) (r : Record) (lost lost' : List ℕ) → k < length script → items ≡ rs ++ r ∷ [] → lost' ≡ lost → DidSome d (take k script) rs lost → IsStepOf d (get_or script k other) r → DidSome d (take (k + 1) script) items lost'
did_push d script k other rs items r lost lost' lt is same old new =
    subst (λ (z : List Step × (List Record × List ℕ)). DidSome d z.0 z.1.0 z.1.1) (λ i. (sym (take_more script k other lt) i, (sym is i, sym same i))) (some_more d (take k script) rs lost (get_or script k other) r old new)

-- one scan without a record
pub did_leave : (d : ℕ) (script : List Step) (k : ℕ) (other : Step) (rs : List Record) (lost lost' : List ℕ) → k < length script → lost' ≡ lost ++ tries_of (get_or script k other) → DidSome d (take k script) rs lost → IsScan (get_or script k other) → DidSome d (take (k + 1) script) rs lost'
did_leave d script k other rs lost lost' lt same old new =
    subst (λ (z : List Step × List ℕ). DidSome d z.0 rs z.1) (λ i. (sym (take_more script k other lt) i, sym same i)) (some_left d (take k script) rs lost (get_or script k other) old new)

calls_more : (steps : List Step) (rs : List Answered) (s : Step) (r : Answered) → AreCallsOf steps rs → IsCallOf s r → AreCallsOf (steps ++ s ∷ []) (rs ++ r ∷ [])
calls_more [] [] s r old new = (new, tt)
calls_more [] (y ∷ rs) s r old new = absurd old
calls_more (t ∷ steps) [] s r old new = absurd old
calls_more (t ∷ steps) (y ∷ rs) s r old new = (old.0, calls_more steps rs s r old.1 new)

-- one more call, for one more step
pub calls_push : (script : List Step) (k : ℕ) (other : Step) (d d' : DeskView) → k < length script → AreCallsOf (take k script) d.calls → HasCalled (IsCallOf (get_or script k other)) d d' → AreCallsOf (take (k + 1) script) d'.calls
calls_push script k other d d' lt old new =
    subst (λ (z : List Step × List Answered). AreCallsOf z.0 z.1) (λ i. (sym (take_more script k other lt) i, sym new.1 i)) (calls_more (take k script) d.calls (get_or script k other) new.0 old new.2)

pub views-more : (script : List Step) (k : ℕ) (other : Step) → k < length script → views_in (take (k + 1) script) ≡ views_in (take k script) + one_view (get_or script k other)
views-more script k other lt = let t = total-append one_view (take k script) (get_or script k other ∷ []) in let e = ap views_in (take_more script k other lt) in omega arith

pub both : (x y : Bool) → (x && y) ≡ true → (x ≡ true) × (y ≡ true)
both true y e = (refl, e)
both false y e = absurd (false≢true e)

-- what is drawn within less room is drawn within more
pub draws_more : (a b : ℕ) (ss : List Step) → a ≤ b → draws_within a ss ≡ true → draws_within b ss ≡ true
draws_more a b [] le e = refl
draws_more a b (s ∷ ss) le e =
    let p = both (has_tries s && nat_le (step_ticks s) a) (draws_within (a - step_ticks s) ss) e in
    let q = both (has_tries s) (nat_le (step_ticks s) a) p.0 in
    and_from _ _ (and_from _ _ q.0 (le-leb (step_ticks s) b (let l = leb-true (step_ticks s) a q.1 in omega arith))) (draws_more (a - step_ticks s) (b - step_ticks s) ss (omega arith) p.1)

-- the step at k has room, and so have those after it
pub record HasRoom (room : ℕ) (s : Step) (rest : List Step) : Type 0 where
  pub tries : has_tries s ≡ true
  pub ticks : step_ticks s ≤ room
  pub later : draws_within (room - step_ticks s) rest ≡ true

pub has_room : (room : ℕ) (script : List Step) (k : ℕ) (other : Step) → k < length script → draws_within room (drop k script) ≡ true → HasRoom room (get_or script k other) (drop (k + 1) script)
has_room room script k other lt e =
    let f : draws_within room (get_or script k other ∷ drop (k + 1) script) ≡ true = ap (draws_within room) (sym (drop_more script k other lt)) ∙ e in
    let s = get_or script k other in
    let p = both (has_tries s && nat_le (step_ticks s) room) (draws_within (room - step_ticks s) (drop (k + 1) script)) f in
    let q = both (has_tries s) (nat_le (step_ticks s) room) p.0 in
    record { tries = q.0; ticks = leb-true (step_ticks s) room q.1; later = p.1 }
