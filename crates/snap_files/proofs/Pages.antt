-- One name more is checked, and one round more.
use Rattle.std.proofs.Common.{◌≡◌, ◌≤◌, ◌<◌, ◌+◌, ◌*◌, ◌/◌, ◌%◌, ◌++◌, ◌∷◌, [], ◌∙◌, inl, inr, ℕ, IfErr, IfOk, List, Option, Result, Ok, Err, is_err, max, min, get_or, length, take, drop, false, true, refl, sym, ap, ap₂, subst, arith, length-append, zero, suc}
use Rattle.std.specs.declared.alloc.AllocError.{AllocError}
use Rattle.std.proofs.Math.Nat.{add-mul, mod-lt}
use Rattle.std.proofs.lemmas.Nat.{div-add-mod'}
use Rattle.std.specs.Global.{Vec}
use Rattle.std.specs.Fork.{slice_chunk}
use Rattle.std.specs.List.{AllZip, flat_map}
use Rattle.std.specs.Io.KnownBytes.{Appends}
use Rattle.std.proofs.KnownBytes.{Appends-trans}
use Rattle.std.proofs.lemmas.List.{append-nil, drop-drop, get_or_append_left, length-take-le, take-append-drop, take-append-le, take_all, take_more}
use Rattle.std.proofs.Math.Seq.{get_or-append_seam, take-add, take-append-add}
use Rattle.std.proofs.lemmas.List.Concat.{flat_map-append}
use Rattle.std.proofs.lemmas.Slice.Zip.{all_zipped_more}
use Rattle.snap_core.specs.Counting.{Rose}
use Rattle.snap_core.specs.Sending.{CountsSend, Sends, SendsFront}
use Rattle.snap_files.specs.declared.format.FileOptions.{FileOptions}
use Rattle.snap_files.specs.Files.{Answer, ArePages, ChecksAll, ChecksSome, IsPage, Opens, Page, Told, answer_code, greatest_code, told_text, written}
use Rattle.snap_files.specs.inside.Files.{AreAnswered, WritesAll, paged}

greatest_push : (pages : List Page) (page : Page) → greatest_code (pages ++ page ∷ []) ≡ max (answer_code page.answer) (greatest_code pages)
greatest_push [] page = refl
greatest_push (p ∷ ps) page = let rest = greatest_push ps page in omega (arith, rest)

pub flat_push : (f : Page → List ℕ) (pages : List Page) (page : Page) → flat_map f (pages ++ page ∷ []) ≡ flat_map f pages ++ f page
flat_push f pages page = flat_map-append f pages (page ∷ []) ∙ ap (λ (l : List ℕ). flat_map f pages ++ l) (append-nil (f page))

-- what a send says of the error output
pub told_by : {T E : Type 0} (old new : Option (List ℕ)) (failures_old failures_new : ℕ) (text : List ℕ) (result : Result T E) → Sends old new text result → CountsSend failures_old failures_new result → Told old new failures_old failures_new text
told_by old new f g text (Ok u) sent counts = inl (sent, counts)
told_by old new f g text (Err e) sent (inl less) = inr (inl less)
told_by old new f g text (Err e) sent (inr last) = inr (inr (omega (arith, last)))

pub told_more : (a b c : Option (List ℕ)) (f g h : ℕ) (xs ys : List ℕ) → Told a b f g xs → Told b c g h ys → Told a c f h (xs ++ ys)
told_more a b c f g h xs ys (inl p) (inl q) = inl (Appends-trans a b c xs ys p.0 q.0, q.1 ∙ p.1)
told_more a b c f g h xs ys (inl p) (inr (inl q)) = let e = p.1 in inr (inl (omega (arith, e, q)))
told_more a b c f g h xs ys (inl p) (inr (inr q)) = inr (inr q)
told_more a b c f g h xs ys (inr (inl p)) (inl q) = let e = q.1 in inr (inl (omega (arith, e, p)))
told_more a b c f g h xs ys (inr (inl p)) (inr (inl q)) = inr (inl (omega (arith, p, q)))
told_more a b c f g h xs ys (inr (inl p)) (inr (inr q)) = inr (inr q)
told_more a b c f g h xs ys (inr (inr p)) (inl q) = let e = q.1 in inr (inr (omega (arith, e, p)))
told_more a b c f g h xs ys (inr (inr p)) (inr (inl q)) = inr (inr (omega (arith, p, q)))
told_more a b c f g h xs ys (inr (inr p)) (inr (inr q)) = inr (inr q)

pub front_more : (a b c : Option (List ℕ)) (xs ys : List ℕ) → Appends a b xs → SendsFront b c ys → SendsFront a c (xs ++ ys)
front_more a b c xs ys p q = (length xs + q.0, omega (arith, length-append xs ys, q.1), rw (take-append-add xs ys q.0) (Appends-trans a b c xs (take q.0 ys) p q.2))

-- all that was sent is a front of itself
pub whole_front : (a b : Option (List ℕ)) (xs : List ℕ) → Appends a b xs → SendsFront a b xs
whole_front a b xs p = (length xs, omega arith, rw (take_all (length xs) xs (omega arith)) p)

abbrev pub page_of : Vec ℕ → Answer → List ℕ → Page
page_of name answer out = record { name = name.items; answer = answer; out = out }

-- the pages of some names

pub are_pages : (opens : Opens) (options : FileOptions) (names : List (Vec ℕ)) (pages : List (Answer × Vec ℕ)) → AreAnswered opens options names pages → ArePages opens options names (paged names pages)
are_pages opens options [] [] all = tt
are_pages opens options [] (p ∷ ps) all = absurd all
are_pages opens options (n ∷ ns) [] all = absurd all
are_pages opens options (n ∷ ns) (p ∷ ps) all = ((refl, all.0), are_pages opens options ns ps all.1)

paged_append : (xs ys : List (Vec ℕ)) (us vs : List (Answer × Vec ℕ)) → length xs ≡ length us → paged (xs ++ ys) (us ++ vs) ≡ paged xs us ++ paged ys vs
paged_append [] ys [] vs same = refl
paged_append [] ys (u ∷ us) vs same = let no : ⊥ = omega arith in absurd no
paged_append (x ∷ xs) ys [] vs same = let no : ⊥ = omega arith in absurd no
paged_append (x ∷ xs) ys (u ∷ us) vs same = ap (λ (l : List Page). page_of x u.0 u.1.items ∷ l) (paged_append xs ys us vs (omega (arith, same)))

fronts_fit : (names : List (Vec ℕ)) (pages : List (Answer × Vec ℕ)) (place : ℕ) → length pages ≡ length names → place ≤ length names → length (take place names) ≡ length (take place pages)
fronts_fit names pages place same low = length-take-le place names low ∙ sym (length-take-le place pages (omega (arith, same, low)))

-- one name more, where the lists are read at the same place
pub paged_next : (names : List (Vec ℕ)) (pages : List (Answer × Vec ℕ)) (place : ℕ) (name : Vec ℕ) (page : Answer × Vec ℕ) → length pages ≡ length names → place < length names →
    name ≡ get_or names place name → page ≡ get_or pages place page →
    paged (take (place + 1) names) (take (place + 1) pages) ≡ paged (take place names) (take place pages) ++ page_of name page.0 page.1.items ∷ []
paged_next names pages place name page same low is was =
    let low' : place < length pages = omega (arith, same, low) in
    let name_more : take (place + 1) names ≡ take place names ++ name ∷ [] = take_more names place name low ∙ ap (λ (n : Vec ℕ). take place names ++ n ∷ []) (sym is) in
    let page_more : take (place + 1) pages ≡ take place pages ++ page ∷ [] = take_more pages place page low' ∙ ap (λ (p : Answer × Vec ℕ). take place pages ++ p ∷ []) (sym was) in
    ap₂ paged name_more page_more ∙ paged_append (take place names) (name ∷ []) (take place pages) (page ∷ []) (fronts_fit names pages place same (omega (arith, low)))

-- what is written of the names before a place, and of those from it on
written_apart : (names : List (Vec ℕ)) (pages : List (Answer × Vec ℕ)) (place : ℕ) → length pages ≡ length names → place ≤ length names →
    written (paged (take place names) (take place pages)) ++ written (paged (drop place names) (drop place pages)) ≡ written (paged names pages)
written_apart names pages place same low =
    let whole : paged (take place names) (take place pages) ++ paged (drop place names) (drop place pages) ≡ paged names pages =
    sym (paged_append (take place names) (drop place names) (take place pages) (drop place pages) (fronts_fit names pages place same low)) ∙ ap₂ paged (take-append-drop place names) (take-append-drop place pages) in
    sym (flat_map-append (λ (p : Page). p.out) (paged (take place names) (take place pages)) (paged (drop place names) (drop place pages))) ∙ ap written whole

pub front_longer : (a b : Option (List ℕ)) (xs ys : List ℕ) → SendsFront a b xs → SendsFront a b (xs ++ ys)
front_longer a b xs ys p = (p.0, omega (arith, length-append xs ys, p.1), subst (λ (l : List ℕ). Appends a b l) (sym (take-append-le p.0 xs ys p.1)) p.2)

front_of_all : (names : List (Vec ℕ)) (pages : List (Answer × Vec ℕ)) (place : ℕ) (old new : Option (List ℕ)) → length pages ≡ length names → place ≤ length names →
    SendsFront old new (written (paged (take place names) (take place pages))) → SendsFront old new (written (paged names pages))
front_of_all names pages place old new same low sent =
    subst (λ (l : List ℕ). SendsFront old new l) (written_apart names pages place same low) (front_longer old new _ (written (paged (drop place names) (drop place pages))) sent)

-- some pages are written, and one more

write_more : (options : FileOptions) (pages : List Page) (page : Page) (old mid new told_old told_mid told_new : Option (List ℕ)) (f g h code : ℕ) →
    WritesAll options pages old mid told_old told_mid f g code → Appends mid new page.out → Told told_mid told_new g h (told_text options page.name page.answer) →
    WritesAll options (pages ++ page ∷ []) old new told_old told_new f h (max (answer_code page.answer) code)
write_more options pages page old mid new told_old told_mid told_new f g h code so_far sent told =
    record {
      greatest = ap (λ n. max (answer_code page.answer) n) so_far.greatest ∙ sym (greatest_push pages page);
      wrote = subst (λ (l : List ℕ). Appends old new l) (sym (flat_push (λ p. p.out) pages page)) (Appends-trans old mid new _ page.out so_far.wrote sent);
      told = subst (λ (l : List ℕ). Told told_old told_new f h l) (sym (flat_push (λ p. told_text options p.name p.answer) pages page)) (told_more told_old told_mid told_new f g h _ _ so_far.told told);
    }

pub next_written : (options : FileOptions) (names : List (Vec ℕ)) (pages : List (Answer × Vec ℕ)) (place : ℕ) (name : Vec ℕ) (page : Answer × Vec ℕ) (old mid new told_old told_mid told_new : Option (List ℕ)) (f g h code : ℕ) →
    length pages ≡ length names → place < length names → name ≡ get_or names place name → page ≡ get_or pages place page →
    WritesAll options (paged (take place names) (take place pages)) old mid told_old told_mid f g code → Appends mid new page.1.items →
    Told told_mid told_new g h (told_text options (name.items) page.0) →
    WritesAll options (paged (take (place + 1) names) (take (place + 1) pages)) old new told_old told_new f h (max (answer_code page.0) code)
next_written options names pages place name page old mid new told_old told_mid told_new f g h code same low is was so_far sent told =
    subst (λ (ps : List Page). WritesAll options ps old new told_old told_new f h (max (answer_code page.0) code)) (sym (paged_next names pages place name page same low is was))
    (write_more options (paged (take place names) (take place pages)) (page_of name page.0 page.1.items) old mid new told_old told_mid told_new f g h code so_far sent told)

pub all_written : (options : FileOptions) (names : List (Vec ℕ)) (pages : List (Answer × Vec ℕ)) (place : ℕ) (old new told_old told_new : Option (List ℕ)) (f g code : ℕ) → length pages ≡ length names → length names ≤ place →
    WritesAll options (paged (take place names) (take place pages)) old new told_old told_new f g code → WritesAll options (paged names pages) old new told_old told_new f g code
all_written options names pages place old new told_old told_new f g code same whole =
    subst (λ (ps : List Page). WritesAll options ps old new told_old told_new f g code) (ap₂ paged (take_all place names whole) (take_all place pages (omega (arith, same, whole))))

-- a round that ends before all of it is written: what went out so far, and of the page at a place

pub ends_before : (options : FileOptions) (names : List (Vec ℕ)) (pages : List (Answer × Vec ℕ)) (place : ℕ) (old new told_old told_new : Option (List ℕ)) (f g code : ℕ) → length pages ≡ length names → place < length names →
    WritesAll options (paged (take place names) (take place pages)) old new told_old told_new f g code → SendsFront old new (written (paged names pages))
ends_before options names pages place old new told_old told_new f g code same low so_far =
    front_of_all names pages place old new same (omega (arith, low)) (whole_front old new _ so_far.wrote)

pub ends_within : (options : FileOptions) (names : List (Vec ℕ)) (pages : List (Answer × Vec ℕ)) (place : ℕ) (name : Vec ℕ) (page : Answer × Vec ℕ) (old mid new told_old told_mid : Option (List ℕ)) (f g code : ℕ) →
    length pages ≡ length names → place < length names → name ≡ get_or names place name → page ≡ get_or pages place page →
    WritesAll options (paged (take place names) (take place pages)) old mid told_old told_mid f g code → SendsFront mid new page.1.items → SendsFront old new (written (paged names pages))
ends_within options names pages place name page old mid new told_old told_mid f g code same low is was so_far sent =
    let more : written (paged (take (place + 1) names) (take (place + 1) pages)) ≡ written (paged (take place names) (take place pages)) ++ page.1.items =
    ap written (paged_next names pages place name page same low is was) ∙ flat_push (λ (p : Page). p.out) (paged (take place names) (take place pages)) (page_of name page.0 page.1.items) in
    front_of_all names pages (place + 1) old new same (omega (arith, low)) (subst (λ (l : List ℕ). SendsFront old new l) (sym more) (front_more old mid new _ page.1.items so_far.wrote sent))

-- what a send says of the writer

pub sent_whole : {T E : Type 0} (old new : Option (List ℕ)) (text : List ℕ) (result : Result T E) → Sends old new text result → is_err result ≡ false → Appends old new text
sent_whole old new text (Ok u) sent whole = sent
sent_whole old new text (Err e) sent whole = absurd cc

pub sent_front : {T E : Type 0} (old new : Option (List ℕ)) (text : List ℕ) (result : Result T E) → Sends old new text result → SendsFront old new text
sent_front old new text (Ok u) sent = whole_front old new text sent
sent_front old new text (Err e) sent = sent

pub send_rose : {T E : Type 0} (old new : ℕ) (result : Result T E) → CountsSend old new result → is_err result ≡ true → Rose old new
send_rose old new (Ok u) counts failed = absurd cc
send_rose old new (Err e) counts failed = counts

pub some_checked : (opens : Opens) (options : FileOptions) (names : List (Vec ℕ)) (count : ℕ) (old new told_old told_new : Option (List ℕ)) (f g code : ℕ) →
    count ≤ length names → ChecksAll opens options (take count names) old new told_old told_new f g code → ChecksSome opens options names old new
some_checked opens options names count old new told_old told_new f g code within so_far =
    record { count = count; within = within; pages = so_far.pages; each = so_far.each; wrote = whole_front old new (written so_far.pages) so_far.wrote }

-- two lists of pairs, one after the other

pub zip_append : {A B : Type 0} (R : A → B → Type 0) (xs ys : List A) (us vs : List B) → AllZip R xs us → AllZip R ys vs → AllZip R (xs ++ ys) (us ++ vs)
zip_append R [] ys [] vs a b = b
zip_append R [] ys (u ∷ us) vs a b = absurd a
zip_append R (x ∷ xs) ys [] vs a b = absurd a
zip_append R (x ∷ xs) ys (u ∷ us) vs a b = (a.0, zip_append R xs ys us vs a.1 b)

-- one name more of those that a worker judges

pub next_answered : (opens : Opens) (options : FileOptions) (names : List (Vec ℕ)) (count : ℕ) (pages : List (Answer × Vec ℕ)) (name : Vec ℕ) (page : Answer × Vec ℕ) →
    count < length names → name ≡ get_or names count name → AreAnswered opens options (take count names) pages → IsPage opens options (name.items) page.0 page.1.items →
    AreAnswered opens options (take (count + 1) names) (pages ++ page ∷ [])
next_answered opens options names count pages name page in_bounds is so_far this =
    let more : take (count + 1) names ≡ take count names ++ name ∷ [] = take_more names count name in_bounds ∙ ap (λ (n : Vec ℕ). take count names ++ n ∷ []) (sym is) in
    subst (λ (ns : List (Vec ℕ)). AreAnswered opens options ns (pages ++ page ∷ [])) (sym more) (all_zipped_more _ (take count names) pages name page so_far this)

-- the shares of a round: chunks of its names, and what came of them

rest_fits : (rest size : ℕ) → rest < size → rest ≤ min 1 rest * size
rest_fits zero size low = omega arith
rest_fits (suc r) size low =
    let one : min 1 (suc r) ≡ 1 = omega arith in
    let is : min 1 (suc r) * size ≡ 1 * size = ap (λ k. k * size) one in
    omega (arith, low, is)

pub shares_cover : (count len size : ℕ) → 0 < size → count ≡ len / size + min 1 (len % size) → len ≤ count * size
shares_cover count len size some is =
    let whole : len / size * size + len % size ≡ len = div-add-mod' len size in
    let spread : (len / size + min 1 (len % size)) * size ≡ len / size * size + min 1 (len % size) * size = add-mul (len / size) (min 1 (len % size)) size in
    let rest : len % size ≤ min 1 (len % size) * size = rest_fits (len % size) size (mod-lt len some) in
    let counted : count * size ≡ (len / size + min 1 (len % size)) * size = ap (λ k. k * size) is in
    omega (arith, whole, spread, rest, counted)

abbrev pub Pages : Type 0
Pages = Vec (Answer × Vec ℕ)

abbrev pub Answered : Opens → FileOptions → List (Vec ℕ) → Result Pages AllocError → Type 0
Answered opens options names share = IfOk share (λ pages. AreAnswered opens options names pages.items)

abbrev pub AreShares : Opens → FileOptions → List (Vec ℕ) → ℕ → List (Result Pages AllocError) → Type 0
AreShares opens options names size shares = (n : ℕ) (none : Result Pages AllocError) → n < length shares → Answered opens options (slice_chunk names size n) (get_or shares n none)

pub last_share : (opens : Opens) (options : FileOptions) (names : List (Vec ℕ)) (size : ℕ) (shares : List (Result Pages AllocError)) (share : Result Pages AllocError) → AreShares opens options names size (shares ++ share ∷ []) →
    Answered opens options (slice_chunk names size (length shares)) share
last_share opens options names size shares share all =
    subst (Answered opens options (slice_chunk names size (length shares))) (get_or-append_seam shares share [] share) (all (length shares) share (omega (arith, length-append shares (share ∷ []))))

pub shares_before : (opens : Opens) (options : FileOptions) (names : List (Vec ℕ)) (size : ℕ) (shares : List (Result Pages AllocError)) (share : Result Pages AllocError) → AreShares opens options names size (shares ++ share ∷ []) →
    AreShares opens options names size shares
shares_before opens options names size shares share all = λ n none low.
    subst (Answered opens options (slice_chunk names size n)) (get_or_append_left shares (share ∷ []) none n low) (all n none (omega (arith, low, length-append shares (share ∷ []))))

pub share_joined : (opens : Opens) (options : FileOptions) (names : List (Vec ℕ)) (size n m : ℕ) (us vs : List (Answer × Vec ℕ)) → m ≡ n + 1 →
    AreAnswered opens options (slice_chunk names size n) us → AreAnswered opens options (drop (m * size) names) vs → AreAnswered opens options (drop (n * size) names) (us ++ vs)
share_joined opens options names size n m us vs next a b =
    let left = drop (n * size) names in
    let ends : n * size + size ≡ m * size = omega (arith, ap (λ k. k * size) next, add-mul n 1 size) in
    let behind : drop size left ≡ drop (m * size) names = drop-drop size (n * size) names ∙ ap (λ k. drop k names) ends in
    subst (λ (ns : List (Vec ℕ)). AreAnswered opens options ns (us ++ vs)) (ap (λ (l : List (Vec ℕ)). take size left ++ l) (sym behind) ∙ take-append-drop size left) (zip_append _ (take size left) (drop (m * size) names) us vs a b)

-- a check of some names after others

greatest_both : (us vs : List Page) → greatest_code (us ++ vs) ≡ max (greatest_code vs) (greatest_code us)
greatest_both [] vs = omega arith
greatest_both (u ∷ us) vs = let rest = greatest_both us vs in omega (arith, rest)

pub round_joined : (names : List (Vec ℕ)) (from : ℕ) (round : List (Vec ℕ)) → round ≡ take (length round) (drop from names) → take from names ++ round ≡ take (from + length round) names
round_joined names from round is = ap (λ (l : List (Vec ℕ)). take from names ++ l) is ∙ sym (take-add from (length round) names)

checked_both : (opens : Opens) (options : FileOptions) (xs ys : List (Vec ℕ)) (old mid new told_old told_mid told_new : Option (List ℕ)) (f g h code more : ℕ) →
    ChecksAll opens options xs old mid told_old told_mid f g code → ChecksAll opens options ys mid new told_mid told_new g h more →
    ChecksAll opens options (xs ++ ys) old new told_old told_new f h (max more code)
checked_both opens options xs ys old mid new told_old told_mid told_new f g h code more a b =
    record {
      pages = a.pages ++ b.pages;
      each = zip_append _ xs ys a.pages b.pages a.each b.each;
      greatest = ap (λ n. max n code) b.greatest ∙ ap (λ n. max (greatest_code b.pages) n) a.greatest ∙ sym (greatest_both a.pages b.pages);
      wrote = subst (λ (l : List ℕ). Appends old new l) (sym (flat_map-append (λ (p : Page). p.out) a.pages b.pages)) (Appends-trans old mid new _ _ a.wrote b.wrote);
      told = subst (λ (l : List ℕ). Told told_old told_new f h l) (sym (flat_map-append (λ (p : Page). told_text options p.name p.answer) a.pages b.pages)) (told_more told_old told_mid told_new f g h _ _ a.told b.told);
    }

pub round_checked : (opens : Opens) (options : FileOptions) (names : List (Vec ℕ)) (from : ℕ) (round : List (Vec ℕ)) (old mid new told_old told_mid told_new : Option (List ℕ)) (f g h code more : ℕ) →
    round ≡ take (length round) (drop from names) → ChecksAll opens options (take from names) old mid told_old told_mid f g code → ChecksAll opens options round mid new told_mid told_new g h more →
    ChecksAll opens options (take (from + length round) names) old new told_old told_new f h (max more code)
round_checked opens options names from round old mid new told_old told_mid told_new f g h code more is a b =
    subst (λ (ns : List (Vec ℕ)). ChecksAll opens options ns old new told_old told_new f h (max more code)) (round_joined names from round is)
    (checked_both opens options (take from names) round old mid new told_old told_mid told_new f g h code more a b)

-- a round whose pages are written
pub round_written : (opens : Opens) (options : FileOptions) (round : List (Vec ℕ)) (pages : List (Answer × Vec ℕ)) (old new told_old told_new : Option (List ℕ)) (f g code : ℕ) →
    AreAnswered opens options round pages → WritesAll options (paged round pages) old new told_old told_new f g code → ChecksAll opens options round old new told_old told_new f g code
round_written opens options round pages old new told_old told_new f g code all written =
    record { pages = paged round pages; each = are_pages opens options round pages all; greatest = written.greatest; wrote = written.wrote; told = written.told }

pub round_cut : (opens : Opens) (options : FileOptions) (names : List (Vec ℕ)) (from : ℕ) (round : List (Vec ℕ)) (pages : List (Answer × Vec ℕ)) (old mid new told_old told_mid : Option (List ℕ)) (f g code : ℕ) →
    from + length round ≤ length names → round ≡ take (length round) (drop from names) → ChecksAll opens options (take from names) old mid told_old told_mid f g code → AreAnswered opens options round pages →
    SendsFront mid new (written (paged round pages)) → ChecksSome opens options names old new
round_cut opens options names from round pages old mid new told_old told_mid f g code within is a all sent =
    let more = paged round pages in
    record {
      count = from + length round;
      within = within;
      pages = a.pages ++ more;
      each = subst (λ (ns : List (Vec ℕ)). ArePages opens options ns (a.pages ++ more)) (round_joined names from round is) (zip_append _ (take from names) round a.pages more a.each (are_pages opens options round pages all));
      wrote = subst (λ (l : List ℕ). SendsFront old new l) (sym (flat_map-append (λ (p : Page). p.out) a.pages more)) (front_more old mid new _ _ a.wrote sent);
    }

pub all_checked : (opens : Opens) (options : FileOptions) (names : List (Vec ℕ)) (count : ℕ) (old new told_old told_new : Option (List ℕ)) (f g code : ℕ) →
    length names ≤ count → ChecksAll opens options (take count names) old new told_old told_new f g code → ChecksAll opens options names old new told_old told_new f g code
all_checked opens options names count old new told_old told_new f g code whole a =
    subst (λ (ns : List (Vec ℕ)). ChecksAll opens options ns old new told_old told_new f g code) (take_all count names whole) a

pub whatever_error : {T E : Type 0} (P : Type 0) (result : Result T E) → P → IfErr result (λ e. P)
whatever_error P (Ok v) p = tt
whatever_error P (Err e) p = p
