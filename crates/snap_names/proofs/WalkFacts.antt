-- A walk, folder by folder.
use Rattle.std.proofs.Common.{◌≡◌, ◌<◌, ◌≤◌, ◌+◌, ◌++◌, ◌∙◌, ℕ, All, List, [], ◌∷◌, Option, ap, append-nil, arith, get_or, length, map, subst, sym, take}
use Rattle.std.specs.Prelude.{IsPermutation, IsSorted, flat_map}
use Rattle.std.specs.Cmp.Lexicographic.{slice_cmp}
use Rattle.std.specs.Global.{Vec}
use Rattle.std.specs.Ordering.{nat_cmp}
use Rattle.std.proofs.lemmas.List.{length-map, map-append, take-append-le, take_all, take_more}
use Rattle.std.proofs.lemmas.List.Concat.{flat_map-append}
use Rattle.std.proofs.lemmas.List.Elements.{All-push}
use Rattle.std.proofs.lemmas.List.Sorted.{IsPermutation-map}
use Rattle.snap_names.specs.Lists.{byte_lists}
use Rattle.snap_names.specs.declared.folders.Entry.{Entry}
use Rattle.snap_names.specs.declared.walk.TheConstants.{FOLDER_LIMIT}
use Rattle.snap_names.specs.Walks.{FindsMore, IsWalk, Visit, found_listed, found_of, inner_listed, inner_of}

-- the first folders of those that wait were listed, and nothing else waits or is found
pub record Walked (lists : List ℕ → Option (List Entry) → Type 0) (start : List ℕ) (at : ℕ) (waiting names : List (List ℕ)) : Type 0 where
  pub visits : List Visit
  pub listed : All (λ visit. lists visit.folder visit.entries) visits
  pub visited : map (λ visit. visit.folder) visits ≡ take at waiting
  pub whole : waiting ≡ start ∷ flat_map inner_of visits
  pub found : names ≡ flat_map found_of visits

one_more : {A : Type 0} (f : Visit → List A) (visits : List Visit) (visit : Visit) → flat_map f (visits ++ visit ∷ []) ≡ flat_map f visits ++ f visit
one_more f visits visit = flat_map-append f visits (visit ∷ []) ∙ ap (λ t. flat_map f visits ++ t) (append-nil (f visit))

-- one folder more is listed
pub walk_more : (lists : List ℕ → Option (List Entry) → Type 0) (start : List ℕ) (at : ℕ) (waiting : List (Vec ℕ)) (names : List (List ℕ)) (folder : List ℕ) (entries : Option (List Entry))
    → at < length waiting → folder ≡ get_or (byte_lists waiting) at [] → lists folder entries → Walked lists start at (byte_lists waiting) names
    → Walked lists start (at + 1) (byte_lists waiting ++ inner_listed folder entries) (names ++ found_listed folder entries)
walk_more lists start at waiting names folder entries here is listed walked =
    let all = byte_lists waiting in
    let below : at < length all = omega (arith, length-map waiting (λ (name : Vec ℕ). name.items)) in
    let visit : Visit = record { folder = folder; entries = entries } in
    let before = walked.visits in
    let inner = inner_listed folder entries in
    record {
      visits = before ++ visit ∷ [];
      listed = All-push (λ v. lists v.folder v.entries) before visit walked.listed listed;
      visited =
          map-append (λ v. v.folder) before (visit ∷ []) ∙ ap (λ t. t ++ folder ∷ []) walked.visited
          ∙ ap (λ f. take at all ++ f ∷ []) is ∙ sym (take_more all at [] below) ∙ sym (take-append-le (at + 1) all inner (omega arith));
      whole = ap (λ t. t ++ inner) walked.whole ∙ sym (ap (λ t. start ∷ t) (one_more inner_of before visit));
      found = ap (λ t. t ++ found_listed folder entries) walked.found ∙ sym (one_more found_of before visit);
    }

-- no folder waits any more
pub walk_ends : (lists : List ℕ → Option (List Entry) → Type 0) (start : List ℕ) (at : ℕ) (waiting names ordered : List (Vec ℕ)) → length waiting ≤ at
    → Walked lists start at (byte_lists waiting) (byte_lists names) → IsPermutation names ordered → IsSorted (λ a b. slice_cmp nat_cmp a.items b.items) ordered → IsWalk lists start ordered
walk_ends lists start at waiting names ordered all walked moved sorted = record {
  visits = walked.visits;
  listed = walked.listed;
  whole = walked.visited ∙ take_all at (byte_lists waiting) (omega (arith, length-map waiting (λ (name : Vec ℕ). name.items))) ∙ walked.whole;
  found = subst (λ xs. IsPermutation xs (byte_lists ordered)) walked.found (IsPermutation-map (λ name. name.items) names ordered moved);
  ordered = sorted;
}

-- as many folders as may be were listed, and one more waits
pub walk_stops : (lists : List ℕ → Option (List Entry) → Type 0) (start : List ℕ) (at : ℕ) (waiting : List (Vec ℕ)) (names : List (List ℕ)) → at < length waiting → at ≡ FOLDER_LIMIT
    → Walked lists start at (byte_lists waiting) names → FindsMore lists start
walk_stops lists start at waiting names more full walked = record {
  visits = walked.visits;
  listed = walked.listed;
  first = walked.visited ∙ ap (λ z. take z (byte_lists waiting)) full ∙ ap (take FOLDER_LIMIT) walked.whole;
  more = omega (arith, more, full, length-map waiting (λ (name : Vec ℕ). name.items), ap length walked.whole);
}
