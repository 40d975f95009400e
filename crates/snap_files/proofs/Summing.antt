-- One file more is counted, and one round more.
use Rattle.std.proofs.Common.{◌≡◌, ◌==◌, ◌≤◌, ◌<◌, ◌+◌, ◌++◌, ◌∷◌, [], ◌∙◌, ℕ, Bool, true, false, List, Option, Some, None, max, length, take, drop, map, vec_items, refl, sym, ap, ap₂, append_assoc, cond, get_or, inl, subst, arith, zero, suc}
use Rattle.std.specs.Prelude.{count_by, find, slice_get}
use Rattle.std.specs.Global.{Vec}
use Rattle.std.specs.Option.{option_or}
use Rattle.std.proofs.KnownBytes.{Appends-nil}
use Rattle.std.proofs.lemmas.List.{length-map, length-take-le, map-append, take_all}
use Rattle.std.proofs.lemmas.List.Sums.{sum_by-append}
use Rattle.std.proofs.lemmas.List.Concat.{flat_map-append}
use Rattle.snap_files.specs.declared.format.FileOptions.{FileOptions}
use Rattle.snap_files.specs.declared.sums.Sums.{Sums}
use Rattle.snap_files.specs.Files.{Answer, ArePages, Opens, Page, Told, answer_code, greatest_code, said, told_text}
use Rattle.snap_files.specs.inside.Files.{AreAnswered, paged}
use Rattle.snap_files.specs.inside.Sums.{AreSums, IsFirst, Summed, greatest_of}
use Rattle.snap_files.specs.Sums.{Judged, counting, has_code, judged_of, with_code}
use Rattle.snap_files.proofs.Pages.{are_pages, flat_push, page_of, paged_next, round_joined, told_more, zip_append}
use Rattle.snap_check.specs.declared.options.CheckOptions.{CheckOptions}

-- what is found in a list is found in a longer one

kept_if : (b : Bool) (y x : Judged) (here more : Option Judged) → (here ≡ Some x → more ≡ Some x) → cond b (Some y) here ≡ Some x → cond b (Some y) more ≡ Some x
kept_if true y x here more rest e = e
kept_if false y x here more rest e = rest e

find_kept : (p : Judged → Bool) (xs ys : List Judged) (x : Judged) → find p xs ≡ Some x → find p (xs ++ ys) ≡ Some x
find_kept p [] ys x e = absurd cc
find_kept p (y ∷ xs) ys x e = kept_if (p y) y x (find p xs) (find p (xs ++ ys)) (find_kept p xs ys x) e

past_if : (b : Bool) (y : Judged) (here more want : Option Judged) → (here ≡ None → more ≡ want) → cond b (Some y) here ≡ None → cond b (Some y) more ≡ want
past_if true y here more want rest e = absurd cc
past_if false y here more want rest e = rest e

find_past : (p : Judged → Bool) (xs ys : List Judged) → find p xs ≡ None → find p (xs ++ ys) ≡ find p ys
find_past p [] ys e = refl
find_past p (y ∷ xs) ys e = past_if (p y) y (find p xs) (find p (xs ++ ys)) (find p ys) (find_past p xs ys) e

get_kept : (xs ys : List Judged) (i : ℕ) (x : Judged) → slice_get xs i ≡ Some x → slice_get (xs ++ ys) i ≡ Some x
get_kept [] ys i x e = absurd cc
get_kept (y ∷ xs) ys zero x e = e
get_kept (y ∷ xs) ys (suc i) x e = get_kept xs ys i x e

get_end : (xs : List Judged) (y : Judged) → slice_get (xs ++ y ∷ []) (length xs) ≡ Some y
get_end [] y = refl
get_end (x ∷ xs) y = get_end xs y

-- one file more that has the status of a kind

pub count_same : (kind : ℕ) (files : List Judged) (name : List ℕ) (code : ℕ) → (code == kind) ≡ true → count_by (has_code kind) (files ++ with_code name code ∷ []) ≡ count_by (has_code kind) files + 1
count_same kind files name code same =
    sum_by-append (λ x. cond (has_code kind x) 1 0) files (with_code name code ∷ []) ∙ ap (λ b. count_by (has_code kind) files + (0 + cond b 1 0)) same

pub first_known : (kind : ℕ) (files : List Judged) (file : Judged) (place : ℕ) → IsFirst kind files (Some place) → IsFirst kind (files ++ file ∷ []) (Some place)
first_known kind files file place is = (is.0, find_kept (has_code kind) files (file ∷ []) is.0 is.1, get_kept files (file ∷ []) place is.0 is.2)

pub first_now : (kind : ℕ) (files : List Judged) (name : List ℕ) (code : ℕ) → (code == kind) ≡ true → IsFirst kind files None → IsFirst kind (files ++ with_code name code ∷ []) (Some (length files))
first_now kind files name code same none =
    let this = with_code name code in
    (this, find_past (has_code kind) files (this ∷ []) none ∙ ap (λ b. cond b (Some this) None) same, get_end files this)

-- one that has another

pub count_other : (kind : ℕ) (files : List Judged) (name : List ℕ) (code : ℕ) → (code == kind) ≡ false → count_by (has_code kind) (files ++ with_code name code ∷ []) ≡ count_by (has_code kind) files
count_other kind files name code other =
    sum_by-append (λ x. cond (has_code kind x) 1 0) files (with_code name code ∷ []) ∙ ap (λ b. count_by (has_code kind) files + (0 + cond b 1 0)) other ∙ omega arith

pub first_other : (kind : ℕ) (files : List Judged) (name : List ℕ) (code : ℕ) (first : Option ℕ) → (code == kind) ≡ false → IsFirst kind files first → IsFirst kind (files ++ with_code name code ∷ []) first
first_other kind files name code None other none = find_past (has_code kind) files (with_code name code ∷ []) none ∙ ap (λ b. cond b (Some (with_code name code)) None) other
first_other kind files name code (Some place) other is = first_known kind files (with_code name code) place is

-- the place of the first of a kind, where one more stands after

pub first_more : (kind : ℕ) (files : List Judged) (name : List ℕ) (code : ℕ) (first : Option ℕ) → (code == kind) ≡ true → IsFirst kind files first → IsFirst kind (files ++ with_code name code ∷ []) (option_or first (Some (length files)))
first_more kind files name code None same none = first_now kind files name code same none
first_more kind files name code (Some place) same is = first_known kind files (with_code name code) place is

pub greatest_more : (files : List Judged) (name : List ℕ) (code : ℕ) → greatest_of (files ++ with_code name code ∷ []) ≡ max code (greatest_of files)
greatest_more [] name code = refl
greatest_more (f ∷ fs) name code = let rest = greatest_more fs name code in omega (arith, rest)

-- the first file by the names

pub name_at : (files : List Judged) (names : List (Vec ℕ)) (place : ℕ) (first : Judged) (name : Vec ℕ) → map (λ file. file.name) files ≡ map vec_items names → slice_get files place ≡ Some first → name ≡ get_or names place name → first.name ≡ name.items
name_at [] names place first name are a b = absurd cc
name_at (f ∷ fs) [] place first name are a b = absurd cc
name_at (f ∷ fs) (n ∷ ns) zero first name are a b = cc
name_at (f ∷ fs) (n ∷ ns) (suc place) first name are a b = let rest : map (λ file. file.name) fs ≡ map vec_items ns = cc in name_at fs ns place first name rest a b

-- the pages of some names

length_paged : (names : List (Vec ℕ)) (pages : List (Answer × Vec ℕ)) → length names ≡ length pages → length (paged names pages) ≡ length names
length_paged [] pages same = refl
length_paged (n ∷ ns) [] same = let no : ⊥ = omega arith in absurd no
length_paged (n ∷ ns) (p ∷ ps) same = let rest = length_paged ns ps (omega (arith, same)) in omega (arith, rest)

pub names_are : (opens : Opens) (options : FileOptions) (names : List (Vec ℕ)) (pages : List Page) → ArePages opens options names pages → map (λ file. file.name) (judged_of pages) ≡ map vec_items names
names_are opens options [] [] all = refl
names_are opens options [] (p ∷ ps) all = absurd all
names_are opens options (n ∷ ns) [] all = absurd all
names_are opens options (n ∷ ns) (p ∷ ps) all = ap₂ (λ (x : List ℕ) (xs : List (List ℕ)). x ∷ xs) all.0.0 (names_are opens options ns ps all.1)

pub judged_fits : (opens : Opens) (options : FileOptions) (names : List (Vec ℕ)) (pages : List Page) → ArePages opens options names pages → length (judged_of pages) ≡ length names
judged_fits opens options [] [] all = refl
judged_fits opens options [] (p ∷ ps) all = absurd all
judged_fits opens options (n ∷ ns) [] all = absurd all
judged_fits opens options (n ∷ ns) (p ∷ ps) all = let rest = judged_fits opens options ns ps all.1 in omega (arith, rest)

pub greatest_is : (pages : List Page) → greatest_of (judged_of pages) ≡ greatest_code pages
greatest_is [] = refl
greatest_is (p ∷ ps) = ap (λ n. max (answer_code p.answer) n) (greatest_is ps)

pub round_summed : (opens : Opens) (check : CheckOptions) (names : List (Vec ℕ)) (from : ℕ) (round : List (Vec ℕ)) (answers : List (Answer × Vec ℕ)) (told_old told_mid told_new : Option (List ℕ)) (f g h : ℕ) (sums_old sums_new : Sums) →
    round ≡ take (length round) (drop from names) → (so_far : Summed opens check (take from names) told_old told_mid f g sums_old) → AreAnswered opens (counting check) round answers →
    AreSums (judged_of so_far.pages ++ judged_of (paged round answers)) sums_new → Told told_mid told_new g h (said (counting check) (paged round answers)) →
    Summed opens check (take (from + length round) names) told_old told_new f h sums_new
round_summed opens check names from round answers told_old told_mid told_new f g h sums_old sums_new is so_far all sums told =
    let more = paged round answers in
    record {
      pages = so_far.pages ++ more;
      each = subst (λ (ns : List (Vec ℕ)). ArePages opens (counting check) ns (so_far.pages ++ more)) (round_joined names from round is) (zip_append _ (take from names) round so_far.pages more so_far.each (are_pages opens (counting check) round answers all));
      told = subst (λ (l : List ℕ). Told told_old told_new f h l) (sym (flat_map-append (λ (p : Page). told_text (counting check) p.name p.answer) so_far.pages more)) (told_more told_old told_mid told_new f g h _ _ so_far.told told);
      sums_are = subst (λ (l : List Judged). AreSums l sums_new) (sym (map-append (λ (p : Page). with_code p.name (answer_code p.answer)) so_far.pages more)) sums;
    }

-- one name more of a round, where the lists are read at the same place

pub file_more : (before : List Judged) (names : List (Vec ℕ)) (pages : List (Answer × Vec ℕ)) (place : ℕ) (name : Vec ℕ) (page : Answer × Vec ℕ) (sums : Sums) → length pages ≡ length names →
    place < length names → name ≡ get_or names place name → page ≡ get_or pages place page →
    AreSums ((before ++ judged_of (paged (take place names) (take place pages))) ++ with_code (name.items) (answer_code page.0) ∷ []) sums →
    AreSums (before ++ judged_of (paged (take (place + 1) names) (take (place + 1) pages))) sums
file_more before names pages place name page sums same low is was are =
    let so_far = paged (take place names) (take place pages) in
    let this = page_of name page.0 page.1.items in
    let next : judged_of (paged (take (place + 1) names) (take (place + 1) pages)) ≡ judged_of so_far ++ with_code (name.items) (answer_code page.0) ∷ [] =
    ap judged_of (paged_next names pages place name page same low is was) ∙ map-append (λ (p : Page). with_code p.name (answer_code p.answer)) so_far (this ∷ []) in
    subst (λ (l : List Judged). AreSums l sums) (append_assoc before (judged_of so_far) (with_code (name.items) (answer_code page.0) ∷ []) ∙ sym (ap (λ (l : List Judged). before ++ l) next)) are

pub said_next : (options : FileOptions) (names : List (Vec ℕ)) (pages : List (Answer × Vec ℕ)) (place : ℕ) (name : Vec ℕ) (page : Answer × Vec ℕ) → length pages ≡ length names →
    place < length names → name ≡ get_or names place name → page ≡ get_or pages place page →
    said options (paged (take (place + 1) names) (take (place + 1) pages)) ≡ said options (paged (take place names) (take place pages)) ++ told_text options (name.items) page.0
said_next options names pages place name page same low is was =
    let so_far = paged (take place names) (take place pages) in
    ap (said options) (paged_next names pages place name page same low is was) ∙ flat_push (λ (p : Page). told_text options p.name p.answer) so_far (page_of name page.0 page.1.items)

pub paged_fits : (names : List (Vec ℕ)) (pages : List (Answer × Vec ℕ)) (place : ℕ) → length pages ≡ length names → place < length names → length (judged_of (paged (take place names) (take place pages))) ≡ place
paged_fits names pages place same low =
    length-map (paged (take place names) (take place pages)) (λ (p : Page). with_code p.name (answer_code p.answer)) ∙ length_paged (take place names) (take place pages) (length-take-le place names (omega arith) ∙ sym (length-take-le place pages (omega arith))) ∙ length-take-le place names (omega arith)

pub none_summed : (opens : Opens) (check : CheckOptions) (told : Option (List ℕ)) (failures : ℕ) (sums : Sums) → AreSums [] sums → Summed opens check [] told told failures failures sums
none_summed opens check told failures sums are = record { pages = []; each = tt; told = inl (Appends-nil told, refl); sums_are = are }

pub all_summed : (opens : Opens) (check : CheckOptions) (names : List (Vec ℕ)) (from : ℕ) (told_old told_new : Option (List ℕ)) (f g : ℕ) (sums : Sums) → length names ≤ from →
    Summed opens check (take from names) told_old told_new f g sums → Summed opens check names told_old told_new f g sums
all_summed opens check names from told_old told_new f g sums whole so_far = subst (λ (ns : List (Vec ℕ)). Summed opens check ns told_old told_new f g sums) (take_all from names whole) so_far
