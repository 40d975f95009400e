-- The entries of a view, one after the other.
use Rattle.std.proofs.Common.{◌≡◌, ◌==◌, ◌++◌, ℕ, Bool, true, false, List, [], ◌∷◌, map, append-nil, Some, None, refl, sym, ap, ◌∙◌, subst, arith}
use Rattle.std.proofs.lemmas.Bool.Decides.{nat_tests}
use Rattle.snap_core.specs.declared.entry.Entry.{Entry}
use Rattle.snap_text.specs.Fields.{all_of, entry_at, parts}
use Rattle.snap_text.specs.inside.Fronts.{EndsEntry, EntryThen}
use Rattle.snap_text.specs.Spelling.{entry_text}
use Rattle.snap_text.proofs.BackFacts.{entry_back, one_part, parts_at}
use Rattle.snap_text.proofs.ByteFacts.{entry_lacks_space}
use Rattle.snap_text.proofs.FrontFacts.{entry_missing}
use Rattle.snap_text.proofs.PartFacts.{AreRead, join}

-- a text up to its first space
record FirstPart (text : List ℕ) : Type 0 where
  part : List ℕ
  others : List (List ℕ)
  rest : List ℕ
  cut : parts 32 text ≡ part ∷ others
  whole : text ≡ part ++ rest
  ends : EndsEntry rest

first_part : (text : List ℕ) → FirstPart text
first_part [] = record { part = []; others = []; rest = []; cut = refl; whole = refl; ends = tt }
first_part (b ∷ bs) = go (b == 32) refl (first_part bs)
  where
    go : (space : Bool) → (b == 32) ≡ space → FirstPart bs → FirstPart (b ∷ bs)
    go true e f = record { part = []; others = parts 32 bs; rest = b ∷ bs; cut = rw e refl; whole = refl; ends = grind (arith, nat_tests) }
    go false e f = record { part = b ∷ f.part; others = f.others; rest = f.rest; cut = rw (e, f.cut) refl; whole = ap (λ (t : List ℕ). b ∷ t) f.whole; ends = f.ends }

pub no_entry_left : (entries : List Entry) (left text : List ℕ) → AreRead entries left text → ((e : Entry) (rest : List ℕ) → EntryThen e rest left → ⊥)
    → all_of (map entry_at (parts 32 text)) ≡ None
no_entry_left entries left text h none =
    let f = first_part left in
    let missing = entry_missing f.part f.rest f.ends (λ e more then. none e more (subst (λ (t : List ℕ). EntryThen e more t) (sym f.whole) then)) in
    sym h ∙ rw (f.cut, missing) refl

pub last_read : (entries : List Entry) (left text : List ℕ) (e : Entry) → AreRead entries left text → EntryThen e [] left
    → Some (entries ++ e ∷ []) ≡ all_of (map entry_at (parts 32 text))
last_read entries left text e h then =
    let one : parts 32 (entry_text e) ≡ entry_text e ∷ [] = one_part 32 (entry_text e) (entry_lacks_space e then.fits) in
    let cut : parts 32 left ≡ entry_text e ∷ [] = rw (then.whole, append-nil) one in
    rw (cut, entry_back e then.fits) at h

pub one_read : (entries : List Entry) (left text : List ℕ) (e : Entry) (b : ℕ) (next : List ℕ) → AreRead entries left text → EntryThen e (b ∷ next) left → AreRead (entries ++ e ∷ []) next text
one_read entries left text e b next h then =
    let whole : left ≡ entry_text e ++ 32 ∷ next = then.whole ∙ ap (λ (z : ℕ). entry_text e ++ z ∷ next) then.ends in
    let cut : parts 32 left ≡ entry_text e ∷ parts 32 next = rw whole (parts_at 32 (entry_text e) next (entry_lacks_space e then.fits)) in
    sym (join entries e (all_of (map entry_at (parts 32 next)))) ∙ (rw (cut, entry_back e then.fits) at h)
