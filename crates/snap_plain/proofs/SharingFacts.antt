-- What workers send, and what is taken out of rings.
use Rattle.std.proofs.Common.{◌≡◌, ◌+◌, ◌++◌, ◌∙◌, ℕ, List, [], ◌∷◌, All, Some, append_assoc, append-nil, ap, arith, get_or, length, sym}
use Rattle.snap_core.specs.declared.limit.Limit.{Limit}
use Rattle.std.proofs.lemmas.List.FromFn.{get_or-map-range_with_len, length-map-range_with_len}
use Rattle.std.specs.Prelude.{slice_get}
use Rattle.std.specs.List.{AllZip}
use Rattle.snap_plain.specs.declared.ahead.Ahead.{Ahead}
use Rattle.snap_plain.specs.declared.pieces.Piece.{Piece}
use Rattle.snap_plain.specs.Sharing.{AddsPart, AreRead, IsNewClaim, IsReadOf, TakesOut}
use Rattle.snap_threads.specs.Claiming.{ClaimView, CounterView, new_claim, new_claims}

zip_more : {A B : Type 0} (R : A → B → Type 0) (xs : List A) (ys : List B) (x : A) (y : B) → AllZip R xs ys → R x y → AllZip R (xs ++ x ∷ []) (ys ++ y ∷ [])
zip_more R [] [] x y h r = (r, tt)
zip_more R [] (b ∷ ys) x y h r = absurd h
zip_more R (a ∷ xs) [] x y h r = absurd h
zip_more R (a ∷ xs) (b ∷ ys) x y h r = (h.0, zip_more R xs ys x y h.1 r)

-- one piece more was drawn, and what was read of it was sent
pub one_read : (lines : List ℕ) (limit : Limit) (pieces : List Piece) (before after : List ℕ) (old new : List Ahead) (number : ℕ) (piece : Piece) → AreRead lines limit pieces before old → after ≡ before ++ number ∷ []
    → AddsPart lines limit piece old new → slice_get pieces number ≡ Some piece → AreRead lines limit pieces after new
one_read lines limit pieces before after old new number piece read drawn (part, is, went) there =
    rw (drawn, went) (zip_more (λ n p. (one : Piece) × (slice_get pieces n ≡ Some one) × IsReadOf lines limit one p) before old number part read (piece, there, is))

-- nothing was taken out of a ring, or a part more
pub none_out : (taken out old : List Ahead) → out ≡ taken → TakesOut taken out old old
none_out taken out old same = ([], same ∙ sym (append-nil taken), sym (append-nil old))

pub one_out : (taken out longer old new all : List Ahead) (part : Ahead) → TakesOut taken out old new → longer ≡ out ++ part ∷ [] → all ≡ new ++ part ∷ [] → TakesOut taken longer old all
one_out taken out longer old new all part (parts, came, went) e f =
    (parts ++ part ∷ [], e ∙ ap (λ l. l ++ part ∷ []) came ∙ append_assoc taken parts (part ∷ []), f ∙ ap (λ l. l ++ part ∷ []) went ∙ append_assoc old parts (part ∷ []))

-- the claims of a start are new
pub all_new : (counter : CounterView) (claims : List ClaimView) → claims ≡ new_claims counter → All (IsNewClaim counter) claims
all_new counter claims is k d low =
    let long = ap length is ∙ length-map-range_with_len (new_claim counter) 0 counter.workers in
    let from_zero : 0 + k ≡ k = omega arith in
    let one : get_or claims k d ≡ new_claim counter k = ap (λ (l : List ClaimView). get_or l k d) is ∙ get_or-map-range_with_len (new_claim counter) 0 counter.workers k k d (omega (arith, low, long)) from_zero in
    ((ap (λ (v : ClaimView). v.table) one, ap (λ (v : ClaimView). v.pieces) one), ap (λ (v : ClaimView). v.drawn) one)
