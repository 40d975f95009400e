-- One window more is counted.
use Rattle.std.proofs.Common.{◌≡◌, ◌+◌, ◌-◌, ◌^◌, ◌++◌, ◌∷◌, [], ◌∙◌, min, ℕ, true, false, cond, List, Option, Some, None, length, flat_map, refl, sym, ap, append_assoc, append-nil, arith}
use Rattle.std.specs.Prelude.{count_by, find, sum_by}
use Rattle.std.specs.Option.{option_or}
use Rattle.std.proofs.lemmas.List.Folds.{find-append}
use Rattle.std.proofs.lemmas.List.Sums.{sum_by_push}
use Rattle.std.proofs.lemmas.List.Concat.{flat_map-append}
use Rattle.snap_follow.specs.Spans.{ends_view}
use Rattle.snap_follow.specs.Windows.{Told, has_code, line_of}
use Rattle.snap_follow.specs.inside.Sums.{IsFirst}

-- one that has the status of a kind

pub count_same : (kind : ℕ) (told : List Told) (t : Told) → has_code kind t ≡ true → count_by (has_code kind) (told ++ t ∷ []) ≡ count_by (has_code kind) told + 1
count_same kind told t same = sum_by_push (λ x. cond (has_code kind x) 1 0) told t ∙ ap (λ b. count_by (has_code kind) told + cond b 1 0) same

first_kept : (kind : ℕ) (told : List Told) (t : Told) (number : ℕ) → IsFirst kind told (Some number) → IsFirst kind (told ++ t ∷ []) (Some number)
first_kept kind told t number is = (is.0, find-append (has_code kind) told (t ∷ []) ∙ ap (λ o. option_or o (find (has_code kind) (t ∷ []))) is.1, is.2)

first_now : (kind : ℕ) (told : List Told) (t : Told) → has_code kind t ≡ true → IsFirst kind told None → IsFirst kind (told ++ t ∷ []) (Some t.number)
first_now kind told t same none = (t, find-append (has_code kind) told (t ∷ []) ∙ ap (λ o. option_or o (find (has_code kind) (t ∷ []))) none ∙ ap (λ b. cond b (Some t) None) same, refl)

pub first_more : (kind : ℕ) (told : List Told) (t : Told) (first : Option ℕ) → has_code kind t ≡ true → IsFirst kind told first → IsFirst kind (told ++ t ∷ []) (option_or first (Some t.number))
first_more kind told t None same none = first_now kind told t same none
first_more kind told t (Some number) same is = first_kept kind told t number is

-- one that has another

pub count_other : (kind : ℕ) (told : List Told) (t : Told) → has_code kind t ≡ false → count_by (has_code kind) (told ++ t ∷ []) ≡ count_by (has_code kind) told
count_other kind told t other = sum_by_push (λ x. cond (has_code kind x) 1 0) told t ∙ ap (λ b. count_by (has_code kind) told + cond b 1 0) other ∙ omega arith

pub first_other : (kind : ℕ) (told : List Told) (t : Told) (first : Option ℕ) → has_code kind t ≡ false → IsFirst kind told first → IsFirst kind (told ++ t ∷ []) first
first_other kind told t None other none = find-append (has_code kind) told (t ∷ []) ∙ ap (λ o. option_or o (find (has_code kind) (t ∷ []))) none ∙ ap (λ b. cond b (Some t) None) other
first_other kind told t (Some number) other is = first_kept kind told t number is

-- sums that stop at a greatest number

pub stopped_more : (a b n m k l : ℕ) → b ≡ min (a + k) (2 ^ 64 - 1) → a ≡ min n (2 ^ 64 - 1) → k ≡ min l (2 ^ 64 - 1) → m ≡ n + l → b ≡ min m (2 ^ 64 - 1)
stopped_more a b n m k l next was part more = omega (arith, next, was, part, more)

pub events_more : (told : List Told) (t : Told) → sum_by (λ x. length x.events) (told ++ t ∷ []) ≡ sum_by (λ x. length x.events) told + length t.events
events_more told t = sum_by_push (λ x. length x.events) told t

pub views_more : (told : List Told) (t : Told) → sum_by (λ x. count_by ends_view x.events) (told ++ t ∷ []) ≡ sum_by (λ x. count_by ends_view x.events) told + count_by ends_view t.events
views_more told t = sum_by_push (λ x. count_by ends_view x.events) told t

-- the lines of windows, and one line more
pub lines_more : (gone lines more line : List ℕ) (told : List Told) (t : Told) → more ≡ lines ++ line → line ≡ line_of t → gone ++ lines ≡ flat_map line_of told → gone ++ more ≡ flat_map line_of (told ++ t ∷ [])
lines_more gone lines more line told t next is written =
    ap (λ z. gone ++ z) next ∙ sym (append_assoc gone lines line) ∙ ap (λ z. z ++ line) written ∙ ap (λ z. flat_map line_of told ++ z) (is ∙ sym (append-nil (line_of t))) ∙ sym (flat_map-append line_of told (t ∷ []))

-- what is written part by part is written whole

pub window_spelled : (o a n b e s k f p t q m l o1 o2 o3 o4 o5 o6 o7 o8 : List ℕ) → o1 ≡ o ++ a ++ n → o2 ≡ o1 ++ b ++ e → o3 ≡ o2 ++ s → o4 ≡ o3 ++ k → o5 ≡ o4 ++ f ++ p → o6 ≡ o5 ++ t ++ q → o7 ≡ o6 ++ m → o8 ≡ o7 ++ l →
    o8 ≡ o ++ (a ++ n ++ b ++ e ++ s ++ k ++ f ++ p ++ t ++ q ++ m ++ l)
window_spelled o a n b e s k f p t q m l o1 o2 o3 o4 o5 o6 o7 o8 e1 e2 e3 e4 e5 e6 e7 e8 = rw (e8, e7, e6, e5, e4, e3, e2, e1) (simp append_assoc)

pub sums_spelled : (o a n b e d v l k0 k1 k2 k3 k4 o1 o2 o3 o4 o5 o6 o7 o8 o9 : List ℕ) → o1 ≡ o ++ a ++ n → o2 ≡ o1 ++ b ++ e → o3 ≡ o2 ++ d ++ v → o4 ≡ o3 ++ l → o5 ≡ o4 ++ k0 → o6 ≡ o5 ++ k1 → o7 ≡ o6 ++ k2 → o8 ≡ o7 ++ k3 → o9 ≡ o8 ++ k4 →
    o9 ≡ o ++ (a ++ n ++ b ++ e ++ d ++ v ++ l ++ k0 ++ k1 ++ k2 ++ k3 ++ k4)
sums_spelled o a n b e d v l k0 k1 k2 k3 k4 o1 o2 o3 o4 o5 o6 o7 o8 o9 e1 e2 e3 e4 e5 e6 e7 e8 e9 = rw (e9, e8, e7, e6, e5, e4, e3, e2, e1) (simp append_assoc)
