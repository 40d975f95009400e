-- What the writer of a recording has, step by step.
use Rattle.std.proofs.Common.{◌≡◌, ◌++◌, ◌∙◌, ℕ, List, [], ◌∷◌, Option, Some, None, Result, Ok, Err, take, drop, append_assoc, append-nil, ap, subst, sym, refl, inl, inr}
use Rattle.std.specs.Prelude.{if◌then◌else◌, is_ok}
use Rattle.std.proofs.lemmas.List.{take-append-drop}
use Rattle.std.specs.Result.{IsErrAnd}
use Rattle.std.specs.Io.KnownBytes.{Appends}
use Rattle.snap_core.specs.Counting.{Rose, failures_in, inner_of}
use Rattle.snap_core.specs.Sending.{SendsFront}
use Rattle.snap_core.specs.declared.counted.Counted.{Counted}
use Rattle.std.proofs.KnownBytes.{Appends-trans}
use Rattle.snap_follow.specs.Bytes.{AreWholeLines}
use Rattle.snap_follow.specs.Written.{FaultLeaves, HasFailed, HasSent, Leaves}
use Rattle.snap_follow.specs.declared.pieces.Stop.{Stop}
use Rattle.snap_follow.specs.declared.pieces.Stop.TheVariants.{Refused, Lost, Fault}
use Rattle.snap_follow.specs.declared.run.FollowFault.{FollowFault}
use Rattle.snap_follow.specs.declared.run.FollowFault.TheVariants.{Memory, NoText, Read, Write}
use Rattle.snap_follow.specs.inside.Stops.{IsNoWrite, StopLeaves}

-- lines and more lines
pub both_whole : (xs ys : List ℕ) → AreWholeLines xs → AreWholeLines ys → AreWholeLines (xs ++ ys)
both_whole xs ys x (inl none) = subst AreWholeLines (sym (ap (λ z. xs ++ z) none ∙ append-nil xs)) x
both_whole xs ys x (inr (front, is)) = inr (xs ++ front, ap (λ z. xs ++ z) is ∙ sym (append_assoc xs front (10 ∷ [])))

-- more lines were added, unless memory ran out
pub added_whole : {T E : Type 0} (added : Result T E) (xs ys : List ℕ) → AreWholeLines xs → AreWholeLines ys → AreWholeLines (if is_ok added then xs ++ ys else xs)
added_whole (Ok u) xs ys x y = both_whole xs ys x y
added_whole (Err e) xs ys x y = x

pub nothing_sent : (known : Option (List ℕ)) → Appends known known []
nothing_sent None = tt
nothing_sent (Some xs) = sym (append-nil xs)

-- nothing went out
pub sent_nothing : {W : Type 0} (contents : W → Option (List ℕ)) (w : Counted W) → HasSent contents w w
sent_nothing contents w = record { out = []; whole = inl refl; sent = nothing_sent (contents (inner_of w)); counts = refl }

-- some lines went out, and then others
pub sent_both : {W : Type 0} (contents : W → Option (List ℕ)) (a b c : Counted W) → HasSent contents a b → HasSent contents b c → HasSent contents a c
sent_both contents a b c one two = record {
  out = one.out ++ two.out;
  whole = both_whole one.out two.out one.whole two.whole;
  sent = Appends-trans (contents (inner_of a)) (contents (inner_of b)) (contents (inner_of c)) one.out two.out one.sent two.sent;
  counts = two.counts ∙ one.counts;
}

-- or a front of others
sent_front : {W : Type 0} (contents : W → Option (List ℕ)) (a b c : Counted W) → HasSent contents a b → HasFailed contents b c → HasFailed contents a c
sent_front contents a b c one two = record {
  out = one.out ++ two.out;
  rest = two.rest;
  whole = subst AreWholeLines (sym (append_assoc one.out two.out two.rest)) (both_whole one.out (two.out ++ two.rest) one.whole two.whole);
  sent = Appends-trans (contents (inner_of a)) (contents (inner_of b)) (contents (inner_of c)) one.out two.out one.sent two.sent;
  counts = subst (λ z. Rose z (failures_in c)) one.counts two.counts;
}

pub fault_after : {W : Type 0} (contents : W → Option (List ℕ)) (a b c : Counted W) (fault : FollowFault) → HasSent contents a b → FaultLeaves contents b c fault → FaultLeaves contents a c fault
fault_after contents a b c NoText one two = sent_both contents a b c one two
fault_after contents a b c Read one two = sent_both contents a b c one two
fault_after contents a b c Write one two = sent_front contents a b c one two
fault_after contents a b c Memory one two = sent_both contents a b c one two

-- a run has ended, and some lines went out before
pub leaves_after : {A W : Type 0} (contents : W → Option (List ℕ)) (a b c : Counted W) (result : Result A FollowFault) → HasSent contents a b → Leaves contents b c result → Leaves contents a c result
leaves_after contents a b c (Ok answer) one two = sent_both contents a b c one two
leaves_after contents a b c (Err fault) one two = fault_after contents a b c fault one two

pub stop_after : {W : Type 0} (contents : W → Option (List ℕ)) (a b c : Counted W) (stop : Stop) → HasSent contents a b → StopLeaves contents b c stop → StopLeaves contents a c stop
stop_after contents a b c Refused one two = sent_both contents a b c one two
stop_after contents a b c (Lost lost) one two = sent_both contents a b c one two
stop_after contents a b c (Fault fault) one two = fault_after contents a b c fault one two

no_write_fault : {W : Type 0} (contents : W → Option (List ℕ)) (a b : Counted W) (fault : FollowFault) → IsNoWrite (Fault fault) → HasSent contents a b → FaultLeaves contents a b fault
no_write_fault contents a b NoText other sent = sent
no_write_fault contents a b Read other sent = sent
no_write_fault contents a b Write other sent = absurd (other refl)
no_write_fault contents a b Memory other sent = sent

-- what has stopped the reading is no write
pub no_write : {W : Type 0} (contents : W → Option (List ℕ)) (a b : Counted W) (stop : Stop) → IsNoWrite stop → HasSent contents a b → StopLeaves contents a b stop
no_write contents a b Refused other sent = sent
no_write contents a b (Lost lost) other sent = sent
no_write contents a b (Fault fault) other sent = no_write_fault contents a b fault other sent

-- a fault was passed on
pub fault_leaves : {A W : Type 0} (contents : W → Option (List ℕ)) (a b : Counted W) (result : Result A FollowFault) (fault : FollowFault) → IsErrAnd result (λ e. e ≡ fault) → FaultLeaves contents a b fault → Leaves contents a b result
fault_leaves contents a b (Ok answer) fault is leaves = absurd is
fault_leaves contents a b (Err e) fault is leaves = subst (FaultLeaves contents a b) (sym is) leaves

-- of lines a front was sent
pub sent_part : {W : Type 0} (contents : W → Option (List ℕ)) (a b : Counted W) (lines : List ℕ) → AreWholeLines lines → SendsFront (contents (inner_of a)) (contents (inner_of b)) lines → Rose (failures_in a) (failures_in b) → HasFailed contents a b
sent_part contents a b lines whole front counts = record {
  out = take front.0 lines;
  rest = drop front.0 lines;
  whole = subst AreWholeLines (sym (take-append-drop front.0 lines)) whole;
  sent = front.2;
  counts = counts;
}
