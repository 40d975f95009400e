-- What a run says of texts that do not come.
use Rattle.std.proofs.Common.{◌≡◌, ◌≢◌, ◌∙◌, ℕ, Bool, false, List, [], Option, Some, None, Result, Ok, Err, ap, subst, sym, refl}
use Rattle.std.specs.Prelude.{IfErr, IfOk, IfSome, is_some}
use Rattle.std.proofs.lemmas.Bool.{false≢true}
use Rattle.snap_core.specs.declared.limit.Limit.{Limit}
use Rattle.snap_follow.specs.Texts.{AreNone, OnLost}
use Rattle.snap_follow.specs.declared.course.Course.{Course}
use Rattle.snap_follow.specs.declared.pieces.AtHand.{AtHand}
use Rattle.snap_follow.specs.declared.pieces.Stop.{Stop}
use Rattle.snap_follow.specs.declared.pieces.Stop.TheVariants.{Refused, Lost, Fault}
use Rattle.snap_follow.specs.declared.run.Followed.{Followed}
use Rattle.snap_follow.specs.declared.run.FollowFault.{FollowFault}
use Rattle.snap_follow.specs.declared.run.FollowFault.TheVariants.{Memory, NoText, Read, Write}
use Rattle.snap_follow.specs.declared.texts.Lost.{Lost as LostName}
use Rattle.snap_follow.specs.declared.texts.TextsFault.{TextsFault}
use Rattle.snap_follow.specs.declared.texts.TextsFault.TheVariants as ends
use Rattle.snap_follow.specs.inside.Runs.{HasCome, IsUnderWay, ReadsText, SeesNone}
use Rattle.snap_follow.specs.inside.Stops.{FaultTells, StopTells, StopsBy, TellsNothing}

fault_tells : (none some : Type 0) (fault : FollowFault) → (none → some) → FaultTells none fault → FaultTells some fault
fault_tells none some NoText f h = f h
fault_tells none some Read f h = tt
fault_tells none some Write f h = tt
fault_tells none some Memory f h = tt

-- what a stop says of the texts, it says of them in other words
pub tells_as : (loses more : LostName → Type 0) (none some : Type 0) (stop : Stop) → ((lost : LostName) → loses lost → more lost) → (none → some) → StopTells loses none stop → StopTells more some stop
tells_as loses more none some Refused l f h = tt
tells_as loses more none some (Lost lost) l f h = l lost h
tells_as loses more none some (Fault fault) l f h = fault_tells none some fault f h

pub tells_any : (loses : LostName → Type 0) (none : Type 0) (stop : Stop) → TellsNothing stop → StopTells loses none stop
tells_any loses none stop h = tells_as (λ _. ⊥) loses ⊥ none stop (λ lost no. absurd no) (λ no. absurd no) h

pub tells_lost : (loses : LostName → Type 0) (none : Type 0) (stop : Stop) → StopTells loses ⊥ stop → StopTells loses none stop
tells_lost loses none stop h = tells_as loses loses ⊥ none stop (λ lost is. is) (λ no. absurd no) h

-- no text comes, for a reason
pub stopped_by : (loses : LostName → Type 0) (none : Type 0) (fault : TextsFault) (stop : Stop) → StopsBy fault stop → OnLost loses fault → StopTells loses none stop
stopped_by loses none (ends.Lost lost) stop is h = subst (StopTells loses none) (sym is) h
stopped_by loses none ends.Memory stop is h = subst (StopTells loses none) (sym is) tt

-- a run answers that there is no text only if that has stopped it
pub answers_none : {A : Type 0} (result : Result A FollowFault) (loses : LostName → Type 0) (none : Type 0) (stop : Stop) → IfErr result (λ fault. fault ≡ NoText → stop ≡ Fault NoText) → StopTells loses none stop → IfErr result (λ fault. fault ≡ NoText → none)
answers_none (Ok answer) loses none stop only h = tt
answers_none (Err fault) loses none stop only h = λ is. subst (StopTells loses none) (only is) h

pub answers_other : {A : Type 0} (result : Result A FollowFault) (P : Type 0) → IfErr result (λ fault. fault ≢ NoText) → IfErr result (λ fault. fault ≡ NoText → P)
answers_other (Ok answer) P other = tt
answers_other (Err fault) P other = λ is. absurd (other is)

lost_as : (loses : LostName → Type 0) (none : Type 0) (stop : Stop) (lost : Option LostName) → IfSome lost (λ l. stop ≡ Lost l) → StopTells loses none stop → IfSome lost loses
lost_as loses none stop None is h = tt
lost_as loses none stop (Some lost) is h = subst (StopTells loses none) is h

-- and a name only if it was lost there
pub answers_name : {E : Type 0} (result : Result Followed E) (loses : LostName → Type 0) (none : Type 0) (stop : Stop) → IfOk result (λ followed. IfSome followed.lost (λ lost. stop ≡ Lost lost)) → StopTells loses none stop → IfOk result (λ followed. IfSome followed.lost loses)
answers_name (Ok followed) loses none stop only h = lost_as loses none stop followed.lost only h
answers_name (Err e) loses none stop only h = tt

-- a read leaves no text at hand only if there was none
none_before : {R : Type 0} (remaining : R → Option (List ℕ)) (old new : Option R) (n : ℕ) (piece : List ℕ) → ReadsText remaining old new n piece → new ≡ None → old ≡ None
none_before remaining None new n piece reads is = refl
none_before remaining (Some t) None n piece reads is = absurd reads
none_before remaining (Some t) (Some u) n piece reads is = absurd (false≢true (sym (ap is_some is)))

pub sees_read : {R T : Type 0} (remaining : R → Option (List ℕ)) (count : T → ℕ) (looked : T → Type 0) (first now : T) (old new : Option R) (is_due : Bool) (n : ℕ) (piece : List ℕ) → ReadsText remaining old new n piece →
    SeesNone count looked first now old is_due → SeesNone count looked first now new is_due
sees_read remaining count looked first now old new is_due n piece reads h = λ is. h (none_before remaining old new n piece reads is)

-- what was not lost is lost at no name
pub not_lost : {E : Type 0} (result : Result Followed E) (loses : LostName → Type 0) → IfOk result (λ followed. followed.lost ≡ None) → IfOk result (λ followed. IfSome followed.lost loses)
not_lost (Ok followed) loses none = subst (λ z. IfSome z loses) (sym none) tt
not_lost (Err e) loses none = tt

-- no text has come, and none is left
pub none_known : {R : Type 0} (remaining : R → Option (List ℕ)) (c : Course) (hand new : AtHand R) (left : Option (List (List ℕ))) → new ≡ hand → new.text ≡ None → IfSome left (λ later. later ≡ []) →
    (gone : List ℕ) (least : ℕ) (most : Limit) (all : List (List ℕ)) → IsUnderWay remaining c hand left gone least most all → all ≡ []
none_known remaining c hand new left same is none gone least most all h =
    let come : HasCome remaining c None h.later gone least most all = subst (λ z. HasCome remaining c z h.later gone least most all) (subst (λ z. z.text ≡ None) same is) h.come in
    sym come.0 ∙ subst (λ z. IfSome z (λ later. later ≡ [])) h.left_is none

pub are_none : {R T : Type 0} (count : T → ℕ) (waits looked : T → Type 0) (first now : T) (text : Option R) (is_due : Bool) → SeesNone count looked first now text is_due → text ≡ None → (¬ waits now) × (is_due ≡ false) → AreNone count waits looked first now
are_none count waits looked first now text is_due sees is over = record { none_opened = (sees is).0; none_found = over.0; looked_for = (sees is).1 over.1 }
