-- A document is sent piece by piece, after all names are judged.
use Rattle.std.proofs.Common.{◌≡◌, ◌≤◌, ◌+◌, ◌++◌, ◌∷◌, [], ◌∙◌, inr, ℕ, Bool, IfErr, IfOk, List, Option, Result, Ok, Err, length, take, drop, refl, sym, ap, subst, arith, cond}
use Rattle.std.specs.Prelude.{codes, count_by}
use Rattle.std.specs.List.{fold}
use Rattle.std.specs.Global.{Vec}
use Rattle.std.specs.Io.KnownBytes.{Appends}
use Rattle.std.proofs.KnownBytes.{Appends-trans}
use Rattle.std.proofs.lemmas.List.{take_all}
use Rattle.snap_check.specs.declared.options.CheckOptions.{CheckOptions}
use Rattle.snap_core.specs.Sending.{SendsFront}
use Rattle.snap_files.specs.declared.format.FileOptions.{FileOptions}
use Rattle.snap_files.specs.Files.{Answer, Opens, Page, written}
use Rattle.snap_files.specs.Suites.{SomeOfSuite, WritesSuite, is_error, is_failure, suite_front, suite_text, with_cases}
use Rattle.snap_files.specs.inside.Files.{AreAnswered, WritesAll, paged}
use Rattle.snap_files.specs.inside.Suites.{SendsAround, around}
use Rattle.snap_files.proofs.Pages.{are_pages, front_longer, front_more, round_joined, zip_append}

-- the names with their pages are as many, and as many of them have a test

abbrev Pair : Type 0
Pair = Answer × Vec ℕ

paged_long : (names : List (Vec ℕ)) (pages : List Pair) → length pages ≡ length names → length (paged names pages) ≡ length pages
paged_long [] [] same = refl
paged_long [] (p ∷ ps) same = absurd (omega (arith, same))
paged_long (n ∷ ns) [] same = refl
paged_long (n ∷ ns) (p ∷ ps) same = let rest = paged_long ns ps (omega (arith, same)) in omega (arith, rest)

paged_fold : (test : Answer → Bool) (start : ℕ) (names : List (Vec ℕ)) (pages : List Pair) → length pages ≡ length names →
    fold (λ count (page : Page). count + cond (test page.answer) 1 0) start (paged names pages) ≡ fold (λ count (page : Pair). count + cond (test page.0) 1 0) start pages
paged_fold test start [] [] same = refl
paged_fold test start [] (p ∷ ps) same = absurd (omega (arith, same))
paged_fold test start (n ∷ ns) [] same = absurd (omega (arith, same))
paged_fold test start (n ∷ ns) (p ∷ ps) same = paged_fold test (start + cond (test p.0) 1 0) ns ps (omega (arith, same))

paged_count : (test : Answer → Bool) (names : List (Vec ℕ)) (pages : List Pair) → length pages ≡ length names →
    count_by (λ page. test page.answer) (paged names pages) ≡ count_by (λ (page : Pair). test page.0) pages
paged_count test names pages same = paged_fold test 0 names pages same

-- the document of some pages has their counts in its begin
pub suite_around : (names : List (Vec ℕ)) (pages : List Pair) (front : List ℕ) → length pages ≡ length names →
    front ≡ suite_front (length pages) (count_by (λ (page : Pair). is_failure page.0) pages) (count_by (λ (page : Pair). is_error page.0) pages) →
    around front (paged names pages) ≡ suite_text (paged names pages)
suite_around names pages front same is =
    let all = paged names pages in
    let counted : front ≡ suite_front (length all) (count_by (λ page. is_failure page.answer) all) (count_by (λ page. is_error page.answer) all) =
    is ∙ rw (paged_long names pages same, paged_count is_failure names pages same, paged_count is_error names pages same) refl in
    ap (λ (l : List ℕ). l ++ written all ++ codes "</testsuite>\n") counted

-- what went out if a send ends early

pub cut_before : (old new : Option (List ℕ)) (front : List ℕ) (pages : List Page) → SendsFront old new front → SendsFront old new (around front pages)
cut_before old new front pages sent =
    front_longer old new (front ++ written pages) (codes "</testsuite>\n") (front_longer old new front (written pages) sent)

pub cut_within : (old mid new : Option (List ℕ)) (front : List ℕ) (pages : List Page) → Appends old mid front → SendsFront mid new (written pages) → SendsFront old new (around front pages)
cut_within old mid new front pages began sent =
    front_longer old new (front ++ written pages) (codes "</testsuite>\n") (front_more old mid new front (written pages) began sent)

pub cut_behind : (old mid most new : Option (List ℕ)) (front : List ℕ) (pages : List Page) → Appends old mid front → Appends mid most (written pages) → SendsFront most new (codes "</testsuite>\n") → SendsFront old new (around front pages)
cut_behind old mid most new front pages began wrote sent =
    front_more old most new (front ++ written pages) (codes "</testsuite>\n") (Appends-trans old mid most front (written pages) began wrote) sent

pub sent_around : (options : FileOptions) (front : List ℕ) (pages : List Page) (old mid most new told_old told_new : Option (List ℕ)) (f g code : ℕ) →
    Appends old mid front → WritesAll options pages mid most told_old told_new f g code → Appends most new (codes "</testsuite>\n") →
    SendsAround options front pages old new told_old told_new f g code
sent_around options front pages old mid most new told_old told_new f g code began all ended =
    record {
      greatest = all.greatest;
      wrote = Appends-trans old most new (front ++ written pages) (codes "</testsuite>\n") (Appends-trans old mid most front (written pages) began all.wrote) ended;
      told = all.told;
    }

-- the whole document of some names

wrote_whole : (opens : Opens) (check : CheckOptions) (names : List (Vec ℕ)) (pages : List Pair) (front : List ℕ) (old new told_old told_new : Option (List ℕ)) (f g code : ℕ) →
    AreAnswered opens (with_cases check) names pages → around front (paged names pages) ≡ suite_text (paged names pages) →
    SendsAround (with_cases check) front (paged names pages) old new told_old told_new f g code → WritesSuite opens check names old new told_old told_new f g code
wrote_whole opens check names pages front old new told_old told_new f g code all is sent =
    record {
      pages = paged names pages;
      each = are_pages opens (with_cases check) names pages all;
      greatest = sent.greatest;
      wrote = subst (λ (l : List ℕ). Appends old new l) is sent.wrote;
      told = sent.told;
    }

pub wrote_suite : {E : Type 0} (opens : Opens) (check : CheckOptions) (options : FileOptions) (names : List (Vec ℕ)) (pages : List Pair) (front : List ℕ) (old new told_old told_new : Option (List ℕ)) (f g : ℕ) (result : Result ℕ E) →
    options ≡ with_cases check → AreAnswered opens options names pages → around front (paged names pages) ≡ suite_text (paged names pages) →
    IfOk result (SendsAround options front (paged names pages) old new told_old told_new f g) → IfOk result (WritesSuite opens check names old new told_old told_new f g)
wrote_suite opens check options names pages front old new told_old told_new f g (Ok code) same all is sent =
    wrote_whole opens check names pages front old new told_old told_new f g code (subst (λ (o : FileOptions). AreAnswered opens o names pages) same all) is
    (subst (λ (o : FileOptions). SendsAround o front (paged names pages) old new told_old told_new f g code) same sent)
wrote_suite opens check options names pages front old new told_old told_new f g (Err e) same all is sent = tt

pub cut_suite : {T E : Type 0} (opens : Opens) (check : CheckOptions) (options : FileOptions) (names : List (Vec ℕ)) (pages : List Pair) (front : List ℕ) (old new : Option (List ℕ)) (result : Result T E) →
    options ≡ with_cases check → AreAnswered opens options names pages → around front (paged names pages) ≡ suite_text (paged names pages) →
    IfErr result (λ _. SendsFront old new (around front (paged names pages))) → IfErr result (λ _. SomeOfSuite opens check names old new)
cut_suite opens check options names pages front old new (Ok t) same all is sent = tt
cut_suite opens check options names pages front old new (Err e) same all is sent =
    inr (record {
      pages = paged names pages;
      each = are_pages opens (with_cases check) names pages (subst (λ (o : FileOptions). AreAnswered opens o names pages) same all);
      wrote = subst (λ (l : List ℕ). SendsFront old new l) is sent;
    })

-- one round more is judged

pub round_answered : (opens : Opens) (options : FileOptions) (names : List (Vec ℕ)) (from : ℕ) (round : List (Vec ℕ)) (so_far more all : List Pair) →
    round ≡ take (length round) (drop from names) → AreAnswered opens options (take from names) so_far → AreAnswered opens options round more → all ≡ so_far ++ more →
    AreAnswered opens options (take (from + length round) names) all
round_answered opens options names from round so_far more all is before here joined =
    subst (λ (ps : List Pair). AreAnswered opens options (take (from + length round) names) ps) (sym joined)
    (subst (λ (ns : List (Vec ℕ)). AreAnswered opens options ns (so_far ++ more)) (round_joined names from round is) (zip_append _ (take from names) round so_far more before here))

pub all_answered : (opens : Opens) (options : FileOptions) (names : List (Vec ℕ)) (from : ℕ) (pages : List Pair) → length names ≤ from → AreAnswered opens options (take from names) pages → AreAnswered opens options names pages
all_answered opens options names from pages whole = subst (λ (ns : List (Vec ℕ)). AreAnswered opens options ns pages) (take_all from names whole)
