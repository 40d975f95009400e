-- Which calls of a history are left.
use Rattle.std.proofs.Common.{◌≡◌, ◌<◌, ◌+◌, ℕ, suc, List, [], ◌∷◌, length, map, get_or, Some, refl, sym, ap, ◌∙◌, subst, inl, inr, arith, All}
use Rattle.std.specs.Option.{option_map}
use Rattle.std.specs.List.{range_with_len}
use Rattle.std.proofs.lemmas.List.{length-map}
use Rattle.std.proofs.lemmas.List.FromFn.{get_or-range_with_len, length-range_with_len}
use Rattle.snap_core.specs.declared.event.Event.{Event}
use Rattle.snap_core.specs.Calls.{Call, call_numbered, calls_of, nobody}
use Rattle.snap_core.specs.Bounded.{IsBoundedOrdered}
use Rattle.snap_core.specs.declared.writers.Writers.{Writers}
use Rattle.snap_theory.specs.Versions.{IsAtomicBy}
use Rattle.snap_index.proofs.IndexedCalls.{mapped_some}
use Rattle.snap_theory.specs.FaultWitnesses.{fault_witness}
use Rattle.snap_theory.specs.First.{first_fault}
use Rattle.snap_theory.proofs.First.{first_is}
use Rattle.snap_witness.specs.Keeping.{calls_kept, numbers_kept}
use Rattle.snap_witness.proofs.KeptCalls.{calls_are_kept, length-as_kept}
use Rattle.snap_witness.proofs.Numbers.{kept_numbered, kept_within}
use Rattle.snap_runs.specs.Cutting.{AreOfWitness}
use Rattle.snap_runs.specs.Mapping.{AreOfFault, AreSources}

-- the numbers that are kept of a history, and what is left of it, are those of its first fault
pub witness_numbers : (es : List Event) (left : List Event) (numbers : List ℕ) → IsBoundedOrdered es → Some numbers ≡ option_map (numbers_kept es) (first_fault (calls_of es)) →
    Some left ≡ option_map (fault_witness es) (first_fault (calls_of es)) → AreOfWitness es left numbers
witness_numbers es left numbers h kept first =
    let m = mapped_some (numbers_kept es) (first_fault (calls_of es)) numbers (sym kept) in
    let left_is : left ≡ fault_witness es m.from = let same : Some left ≡ Some (fault_witness es m.from) = first ∙ ap (option_map (fault_witness es)) m.is in cc in
    record {
      sources = calls_kept es m.from;
      of_fault = record {
        fault = m.from;
        first = m.is;
        kept = refl;
        same = ap calls_of left_is ∙ calls_are_kept es h m.from (first_is (calls_of es) m.from m.is).fault;
      };
      are = sym m.to;
    }

-- the numbers of a witness are those of the calls that the fault keeps
numbers_are : (es left : List Event) (numbers : List ℕ) → (w : AreOfWitness es left numbers) → numbers ≡ numbers_kept es w.of_fault.fault
numbers_are es left numbers w = w.are ∙ ap (map (λ (c : Call). c.number)) w.of_fault.kept

pub witness_sources : (writers : Writers) (es left : List Event) (numbers : List ℕ) → AreOfWitness es left numbers → AreSources writers es left (map (call_numbered (calls_of es)) numbers)
witness_sources writers es left numbers w =
    let same : w.sources ≡ map (call_numbered (calls_of es)) numbers =
    w.of_fault.kept ∙ sym (kept_numbered es w.of_fault.fault) ∙ sym (ap (map (call_numbered (calls_of es))) (numbers_are es left numbers w)) in
    inr (subst (AreOfFault es left) same w.of_fault)

pub witness_count : (es left : List Event) (numbers : List ℕ) → AreOfWitness es left numbers → length numbers ≡ length (calls_of left)
witness_count es left numbers w =
    ap length w.are ∙ length-map w.sources (λ c. c.number) ∙ sym (length-as_kept _ _ 0 w.sources) ∙ sym (ap length w.of_fault.same)

pub witness_below : (es left : List Event) (numbers : List ℕ) → AreOfWitness es left numbers → All (λ n. n < length (calls_of es)) numbers
witness_below es left numbers w = subst (All (λ n. n < length (calls_of es))) (sym (numbers_are es left numbers w)) (kept_within es w.of_fault.fault)

-- all calls, by their numbers

all_from : (xs : List Call) (f : ℕ → Call) (a : ℕ) → ((i : ℕ) → i < length xs → f (a + i) ≡ get_or xs i nobody) → map f (range_with_len a (length xs)) ≡ xs
all_from [] f a h = refl
all_from (x ∷ xs) f a h =
    let here : a ≡ a + 0 = omega arith in
    let head : f a ≡ x = ap f here ∙ h 0 (omega arith) in
    let rest = all_from xs f (a + 1) (λ i l. let next : (a + 1) + i ≡ a + suc i = omega arith in ap f next ∙ h (suc i) (omega (arith, l))) in
    ap (λ z. z ∷ map f (range_with_len (a + 1) (length xs))) head ∙ ap (λ z. x ∷ z) rest

pub whole_sources : (writers : Writers) (es left : List Event) (numbers : List ℕ) → IsAtomicBy writers (calls_of es) → left ≡ es → numbers ≡ range_with_len 0 (length (calls_of es)) → AreSources writers es left (map (call_numbered (calls_of es)) numbers)
whole_sources writers es left numbers atomic same are =
    inl (record {
      atomic = atomic;
      whole = same;
      all = ap (map (call_numbered (calls_of es))) are ∙ all_from (calls_of es) (call_numbered (calls_of es)) 0 (λ i l. let here : 0 + i ≡ i = omega arith in ap (call_numbered (calls_of es)) here);
    })

pub whole_below : (calls : List Call) (numbers : List ℕ) → numbers ≡ range_with_len 0 (length calls) → All (λ n. n < length calls) numbers
whole_below calls numbers are = subst (All (λ n. n < length calls)) (sym are) (λ i d l. omega (arith, get_or-range_with_len 0 (length calls) i d (omega (arith, l, length-range_with_len 0 (length calls))), l, length-range_with_len 0 (length calls)))
