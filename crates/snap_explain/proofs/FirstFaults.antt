-- The first faults of the views of a range, range by range.
use Rattle.std.proofs.Common.{◌≡◌, ◌∙◌, ◌+◌, ◌-◌, ◌<◌, ◌≤◌, ◌++◌, ◌||◌, ℕ, zero, suc, true, false, List, [], ◌∷◌, length, take, map, Option, Some, None, refl, sym, ap, ap₂, subst, is_some, arith, append_assoc, append-nil, Fits, w32}
use Rattle.std.specs.Prelude.{if◌then◌else◌}
use Rattle.std.specs.List.{cons_option, filter, filter_map, flat_map}
use Rattle.std.specs.Option.{option_map, option_map_or}
use Rattle.std.proofs.lemmas.Bool.{false≢true}
use Rattle.std.proofs.lemmas.Grind.{flat_map-append}
use Rattle.std.proofs.Math.Seq.{take-nil}
use Rattle.std.proofs.lemmas.List.{length-append, take_all}
use Rattle.std.proofs.lemmas.List.Elements.{filter_map-append}
use Rattle.snap_core.specs.declared.event.Event.{Event}
use Rattle.snap_core.specs.Calls.{Call, calls_of, views_of}
use Rattle.snap_core.specs.Bounded.{IsBoundedOrdered}
use Rattle.snap_views.specs.Seen.{view_in, views_between}
use Rattle.snap_views.proofs.Pieces.{range_joined}
use Rattle.snap_views.proofs.Sizes.{few_views}
use Rattle.snap_conditions.proofs.Ranges.{one_between}
use Rattle.snap_conditions.specs.Kinds.{first_in, kinds}
use Rattle.snap_conditions.specs.PartValue.{PartValue}
use Rattle.snap_conditions.specs.declared.fault.Fault.{Fault}
use Rattle.snap_conditions.specs.declared.fault.Fault.TheVariants as told
use Rattle.snap_conditions.specs.declared.fault.Kind.{Kind}
use Rattle.snap_conditions.specs.declared.fault.Kind.TheVariants.{Integrity, Proximity, Read, Write}
use Rattle.snap_conditions.specs.Parts.{part_of}
use Rattle.snap_conditions.specs.declared.fault.ReadFault.{ReadFault}
use Rattle.snap_conditions.specs.declared.tally.Tally.{Tally}
use Rattle.snap_conditions.specs.Tally.{reported_integrity, reported_proximity, reported_read, reported_write, tally_of}
use Rattle.snap_theory.specs.Faults.{components, early_fault, first_of, integrity_fault, integrity_faults, listed as listed_components, missed_at, old_fault, proximity_faults, read_fault, read_faults, write_faults}
use Rattle.snap_report.specs.Reports.{has_no_fault}
use Rattle.snap_explain.specs.declared.view.Entries.{Entries}
use Rattle.snap_explain.specs.Explanations.{explanation, long_explanation, order_text, verdict_text}
use Rattle.snap_explain.specs.Faults.{fault_text, faults_text, kind_text}
use Rattle.snap_explain.specs.FirstFaults.{first_faults_text, firsts_among, firsts_text}

-- the first so many of two lists, one after the other
split_take : {X : Type 0} (m l : ℕ) (xs ys : List X) → l + length (take m xs) ≡ m → take m (xs ++ ys) ≡ take m xs ++ take l ys
split_take zero l xs ys e = let none : l ≡ 0 = omega (arith, e) in ap (λ n. take n ys) (sym none)
split_take (suc m) l [] ys e = let same : suc m ≡ l = omega (arith, e) in ap (λ n. take n ys) same
split_take (suc m) l (x ∷ xs) ys e = ap (λ z. x ∷ z) (split_take m l xs ys (omega (arith, e)))

-- the number after the place of a view is one of 32 bits
pub place_fits : (es : List Event) → IsBoundedOrdered es → (place : ℕ) → place < length (views_of (calls_of es)) → Fits w32 (place + 1)
place_fits es k place l = omega (arith, few_views es k, l)

-- some faults were told of one part of the views, and some of the next part: the text and the number that may follow
pub record IsTold {F : Type 0} (text : F → List ℕ) (most : ℕ) (xs : List F) (before after : List ℕ) (left : ℕ) : Type 0 where
  pub said : after ≡ before ++ flat_map text (take most xs)
  pub more : left + length (take most xs) ≡ most

-- nothing was told yet
pub told_none : {F : Type 0} (text : F → List ℕ) (most : ℕ) (out : List ℕ) → IsTold text most [] out out most
told_none text most out =
    let none = take-nil most in
    record { said = sym (append-nil out) ∙ ap (λ z. out ++ flat_map text z) (sym none); more = let short = ap length none in omega (arith, short) }

pub untold : {F : Type 0} (text : F → List ℕ) (most : ℕ) (xs : List F) (out : List ℕ) → xs ≡ [] → IsTold text most xs out out most
untold text most xs out e = subst (λ z. IsTold text most z out out most) (sym e) (told_none text most out)

pub told_next : (text : Fault → List ℕ) (kind : Kind) (calls rs ss : List Call) (most left more : ℕ) (before out after : List ℕ) →
    IsTold text most (firsts_among kind calls rs) before out left → after ≡ out ++ flat_map text (take left (firsts_among kind calls ss)) → more + length (take left (firsts_among kind calls ss)) ≡ left →
    IsTold text most (firsts_among kind calls (rs ++ ss)) before after more
told_next text kind calls rs ss most left more before out after told e m =
    let xs = firsts_among kind calls rs in
    let ys = firsts_among kind calls ss in
    let both : take most (firsts_among kind calls (rs ++ ss)) ≡ take most xs ++ take left ys =
    ap (take most) (filter_map-append (λ r. first_in kind (tally_of calls (r ∷ []))) rs ss) ∙ split_take most left xs ys told.more in
    record {
      said = e ∙ ap (λ z. z ++ flat_map text (take left ys)) told.said ∙ append_assoc before (flat_map text (take most xs)) (flat_map text (take left ys))
          ∙ ap (λ z. before ++ z) (sym (flat_map-append text (take most xs) (take left ys))) ∙ ap (λ z. before ++ flat_map text z) (sym both);
      more = let long = ap length both ∙ length-append (take most xs) (take left ys) in omega (arith, long, m, told.more);
    }

-- a range that grows by one view, or by a range, and the range of all views

pub one_more : (calls : List Call) (from place : ℕ) → from ≤ place → place < length (views_of calls) → views_between calls from (place + 1) ≡ views_between calls from place ++ view_in calls place ∷ []
one_more calls from place l m = range_joined (views_of calls) from place (place + 1) l (omega arith) ∙ ap (λ z. views_between calls from place ++ z) (one_between calls place m)

pub all_views : (calls : List Call) (count : ℕ) → count ≡ length (views_of calls) → views_between calls 0 count ≡ views_of calls
all_views calls count e = take_all (count - 0) (views_of calls) (omega (arith, e))

-- no view of a part has a first fault, where the part has none
no_firsts : {X F G : Type 0} (faults : Call → List X) (reported : X → F) (wrap : F → G) (rs : List Call) → option_map reported (first_of (flat_map faults rs)) ≡ None →
    filter_map (λ r. option_map wrap (option_map reported (first_of (flat_map faults (r ∷ []))))) rs ≡ []
no_firsts faults reported wrap [] e = refl
no_firsts {X} {F} {G} faults reported wrap (r ∷ rs) e = go (no_firsts faults reported wrap rs) (faults r) e
  where
    Rest : List G
    Rest = filter_map (λ r. option_map wrap (option_map reported (first_of (flat_map faults (r ∷ []))))) rs

    go : (option_map reported (first_of (flat_map faults rs)) ≡ None → Rest ≡ []) → (xs : List X) → option_map reported (first_of (xs ++ flat_map faults rs)) ≡ None →
        cons_option (option_map wrap (option_map reported (first_of (xs ++ [])))) Rest ≡ []
    go more [] e = more e
    go more (x ∷ xs) e = absurd (cc e)

pub no_read : (calls rs : List Call) (part : PartValue ReadFault) → part ≡ part_of reported_read (read_faults calls rs) → part.first ≡ None → firsts_among Read calls rs ≡ []
unfolding tally_of read_faults
no_read calls rs part e none = no_firsts (λ r. map (λ s. (r, s)) (filter (read_fault r) (views_of calls))) reported_read told.Read rs (sym (ap (λ (p : PartValue ReadFault). p.first) e) ∙ none)

pub read_part_of : (calls rs : List Call) (t : Tally) → t ≡ tally_of calls rs → t.read ≡ part_of reported_read (read_faults calls rs)
unfolding tally_of
read_part_of calls rs t e = ap (λ (t : Tally). t.read) e

pub is_nothing : {X : Type 0} (o : Option X) → is_some o ≡ false → o ≡ None
is_nothing None e = refl
is_nothing (Some x) e = absurd (false≢true (sym e))

-- the first fault of a part is that of the first view of it that has one
first_alone : {X F G : Type 0} (text : G → List ℕ) (faults : Call → List X) (reported : X → F) (wrap : F → G) (rs : List Call) →
    option_map_or text (option_map wrap (option_map reported (first_of (flat_map faults rs)))) [] ≡ flat_map text (take 1 (filter_map (λ r. option_map wrap (option_map reported (first_of (flat_map faults (r ∷ []))))) rs))
first_alone text faults reported wrap [] = refl
first_alone {X} {F} {G} text faults reported wrap (r ∷ rs) = go (first_alone text faults reported wrap rs) (faults r)
  where
    Rest : List G
    Rest = filter_map (λ r. option_map wrap (option_map reported (first_of (flat_map faults (r ∷ []))))) rs

    go : option_map_or text (option_map wrap (option_map reported (first_of (flat_map faults rs)))) [] ≡ flat_map text (take 1 Rest) → (xs : List X) →
        option_map_or text (option_map wrap (option_map reported (first_of (xs ++ flat_map faults rs)))) [] ≡ flat_map text (take 1 (cons_option (option_map wrap (option_map reported (first_of (xs ++ [])))) Rest))
    go more [] = more
    go more (x ∷ xs) = sym (append-nil (text (wrap (reported x))))

-- what is said of a kind by one fault
one_of_kind : (listed : Entries) (records : List ℕ) (calls : List Call) (kind : Kind) → kind_text listed records calls (tally_of calls (views_of calls)) kind ≡ firsts_text 1 listed records calls kind
unfolding tally_of integrity_faults proximity_faults read_faults write_faults
one_of_kind listed records calls Integrity =
    first_alone (fault_text listed records calls) (λ r. map (λ k. (r, k)) (filter (integrity_fault calls r) (listed_components r))) reported_integrity told.Integrity (views_of calls)
one_of_kind listed records calls Proximity =
    first_alone (fault_text listed records calls) (λ r. map (λ k. (r, k)) (filter (λ k. old_fault calls r k || early_fault calls r k) components)) (reported_proximity calls) told.Proximity (views_of calls)
one_of_kind listed records calls Read = first_alone (fault_text listed records calls) (λ r. map (λ s. (r, s)) (filter (read_fault r) (views_of calls))) reported_read told.Read (views_of calls)
one_of_kind listed records calls Write = first_alone (fault_text listed records calls) (λ r. flat_map (missed_at calls r) components) reported_write told.Write (views_of calls)

-- what is said of some kinds, each by one fault
one_of_each : (listed : Entries) (records : List ℕ) (calls : List Call) (ks : List Kind) → flat_map (kind_text listed records calls (tally_of calls (views_of calls))) ks ≡ flat_map (firsts_text 1 listed records calls) ks
one_of_each listed records calls [] = refl
one_of_each listed records calls (k ∷ ks) = ap₂ (λ a b. a ++ b) (one_of_kind listed records calls k) (one_of_each listed records calls ks)

pub long_with_one : (listed : Entries) (records : List ℕ) (calls : List Call) (t : Tally) → t ≡ tally_of calls (views_of calls) → explanation listed records calls t ≡ long_explanation 1 listed records calls t
unfolding explanation long_explanation
long_with_one listed records calls t whole =
    let same : faults_text listed records calls t ≡ first_faults_text 1 listed records calls = ap (faults_text listed records calls) whole ∙ one_of_each listed records calls kinds in
    ap (λ z. verdict_text t ++ (if has_no_fault t then order_text records calls else z)) same

pub long_of_atomic : (most : ℕ) (listed : Entries) (records : List ℕ) (calls : List Call) (t : Tally) → has_no_fault t ≡ true → explanation listed records calls t ≡ long_explanation most listed records calls t
unfolding explanation long_explanation
long_of_atomic most listed records calls t atomic =
    ap (λ b. verdict_text t ++ (if b then order_text records calls else faults_text listed records calls t)) atomic
    ∙ sym (ap (λ b. verdict_text t ++ (if b then order_text records calls else first_faults_text most listed records calls)) atomic)

pub long_of_faulty : (most : ℕ) (listed : Entries) (records : List ℕ) (calls : List Call) (t : Tally) → has_no_fault t ≡ false →
    verdict_text t ++ first_faults_text most listed records calls ≡ long_explanation most listed records calls t
unfolding long_explanation
long_of_faulty most listed records calls t faulty =
    sym (ap (λ b. verdict_text t ++ (if b then order_text records calls else first_faults_text most listed records calls)) faulty)
