-- Looking up a record, and its fields.
use Rattle.std.proofs.Common.{Bor, ◌≡◌, ◌<◌, ◌≤◌, ◌+◌, ◌++◌, inl, inr, ℕ, zero, suc, List, [], ◌∷◌, length, map, take, drop, Some, None, refl, arith, ◌∙◌, sym, ap, add-one}
use Rattle.std.specs.Prelude.{slice_get}
use Rattle.std.specs.Global.{Vec}
use Rattle.std.proofs.lemmas.Bool.{cases_lt}
use Rattle.std.proofs.lemmas.List.{length-drop, map-append, take_all}
use Rattle.std.proofs.lemmas.Option.{get_or_from_slice_get, slice_get-get_or, slice_get_past, slice_get_within}
use Rattle.std.proofs.Math.Seq.{take-suc}
use Rattle.csv.specs.Records.{field_at}
use Rattle.csv.specs.declared.reader.Reader.{Reader}
use Rattle.snap_text.specs.Fields.{Fields}
use Rattle.snap_csv.specs.inside.Rows.{Stands}
use Rattle.snap_format.specs.Records.{record_at}
use Rattle.snap_format.proofs.ReadFacts.{at_drop}

-- ---- records

pub past_end : (rows : List Fields) (i before place : ℕ) → place ≡ before + 1 → i ≤ before → drop i rows ≡ [] → None ≡ record_at rows place
past_end rows i before place e le none =
    let short : length rows ≤ before = omega (arith, length-drop i rows, ap length none) in
    let next : place ≡ suc before = omega (arith, e) in
    rw next (sym (slice_get_past rows before short))

pub found : (rows : List Fields) (i before place : ℕ) (fields : Fields) (rest : List Fields) → place ≡ before + 1 → before ≡ i → drop i rows ≡ fields ∷ rest → Some fields ≡ record_at rows place
found rows i before place fields rest e same d =
    let (lt, is, next) = at_drop rows i fields rest d in
    let number : place ≡ suc i = omega (arith, e, same) in
    rw number (sym (slice_get-get_or rows i [] lt ∙ ap Some is))

pub next_stands : (r : Reader (Bor (List ℕ))) (rows : List Fields) (i : ℕ) (fields : Fields) → (rest : List Fields) × (drop i rows ≡ fields ∷ rest) × Stands r rest → Stands r (drop (i + 1) rows)
next_stands r rows i fields (rest, d, s) = let (lt, is, next) = at_drop rows i fields rest d in rw next s

-- ---- fields

field_is : (fs : Fields) (i : ℕ) → field_at fs i ≡ slice_get fs i
unfolding field_at
field_is [] i = refl
field_is (f ∷ fs) zero = refl
field_is (f ∷ fs) (suc i) = field_is fs i

pub field_more : (fs : Fields) (i j : ℕ) (f : List ℕ) (old new : List (Vec ℕ)) (v : Vec ℕ) → Some f ≡ field_at fs i → j ≡ i + 1 → map (λ w. w.items) old ≡ take i fs → new ≡ old ++ v ∷ [] → v.items ≡ f
    → map (λ w. w.items) new ≡ take j fs
field_more fs i j f old new v at next before longer is =
    let here : slice_get fs i ≡ Some f = sym (field_is fs i) ∙ sym at in
    let lt : i < length fs = slice_get_within fs i f here in
    let taken : take j fs ≡ take i fs ++ f ∷ [] = rw (next, add-one, take-suc fs i [] lt, get_or_from_slice_get fs i f [] here) refl in
    ap (λ (vs : List (Vec ℕ)). map (λ w. w.items) vs) longer ∙ map-append (λ (w : Vec ℕ). w.items) old (v ∷ []) ∙ rw (before, is) (sym taken)

pub fields_all : (fs : Fields) (i : ℕ) → None ≡ field_at fs i → take i fs ≡ fs
fields_all fs i none = elim (cases_lt i (length fs)) [
  | inl lt ↦ let some = slice_get-get_or fs i [] lt in let same = field_is fs i in absurd (cc)
  | inr le ↦ take_all i fs le
]
