-- What the absence of read faults tells of a range of views.
use Rattle.std.proofs.Common.{◌≡◌, ℕ, ◌-◌, List, [], ◌∷◌, ◌++◌, length, take, drop, refl, sym, ap, subst, ◌∙◌, arith}
use Rattle.std.proofs.lemmas.List.{take-append-drop, take_all}
use Rattle.snap_core.specs.declared.event.Event.{Event}
use Rattle.snap_core.specs.Calls.{Call, calls_of, views_of}
use Rattle.snap_conditions.specs.declared.tally.Tally.{Tally}
use Rattle.snap_theory.specs.Faults.{read_faults, stale_count}
use Rattle.snap_conditions.specs.Parts.{part_of}
use Rattle.snap_conditions.specs.Tally.{tally_of, without_read, reported_read}
use Rattle.snap_views.specs.Seen.{views_between}
use Rattle.snap_conditions.proofs.Ranges.{tally_is}
use Rattle.snap_theory.proofs.Components.{faults_join}
use Rattle.snap_theory.proofs.StaleViews.{none_stale_alone, stale_joined}

nil_left : {X : Type 0} (xs ys : List X) → xs ++ ys ≡ [] → xs ≡ []
nil_left [] ys e = refl
nil_left (x ∷ xs) ys e = absurd (let no : x ∷ (xs ++ ys) ≡ [] = e in cc)

nil_right : {X : Type 0} (xs ys : List X) → xs ++ ys ≡ [] → ys ≡ []
nil_right [] ys e = e
nil_right (x ∷ xs) ys e = absurd (let no : x ∷ (xs ++ ys) ≡ [] = e in cc)

-- where no two views are a read fault, a piece of them has none
none_between : (calls : List Call) (from to : ℕ) → read_faults calls (views_of calls) ≡ [] → read_faults calls (views_between calls from to) ≡ []
none_between calls from to e =
    let views = views_of calls in
    let behind = drop from views in
    let whole = sym ((faults_join calls (take from views) behind).read) ∙ ap (read_faults calls) (take-append-drop from views) ∙ e in
    let rest = nil_right (read_faults calls (take from views)) (read_faults calls behind) whole in
    nil_left (read_faults calls (take (to - from) behind)) (read_faults calls (drop (to - from) behind))
    (sym ((faults_join calls (take (to - from) behind) (drop (to - from) behind)).read) ∙ ap (read_faults calls) (take-append-drop (to - from) behind) ∙ rest)

-- views without a read fault have no stale view
none_stale : (calls rs : List Call) → read_faults calls rs ≡ [] → stale_count calls rs ≡ 0
unfolding stale_count
none_stale calls [] e = refl
none_stale calls (r ∷ rs) e =
    let parts = sym ((faults_join calls (r ∷ []) rs).read) ∙ e in
    let first : stale_count calls (r ∷ []) ≡ 0 = none_stale_alone calls r (ap length (nil_left (read_faults calls (r ∷ [])) (read_faults calls rs) parts)) in
    let others : stale_count calls rs ≡ 0 = none_stale calls rs (nil_right (read_faults calls (r ∷ [])) (read_faults calls rs) parts) in
    omega (arith, stale_joined calls (r ∷ []) rs, first, others)

-- and its tally is the one without read faults
pub faultless_tally : (calls : List Call) (from to : ℕ) → read_faults calls (views_of calls) ≡ [] → without_read (tally_of calls (views_between calls from to)) ≡ tally_of calls (views_between calls from to)
unfolding tally_of
faultless_tally calls from to e =
    let rs = views_between calls from to in
    let none = none_between calls from to e in
    tally_is (without_read (tally_of calls rs)) (tally_of calls rs) refl refl (sym (ap (part_of reported_read) none)) refl (sym (none_stale calls rs none))

-- the tally of the views from the first to the last is that of all
pub of_all_views : (es grid : List Event) (count : ℕ) (t : Tally) → grid ≡ es → count ≡ length (views_of (calls_of es)) → t ≡ tally_of (calls_of grid) (views_between (calls_of grid) 0 count) →
    t ≡ tally_of (calls_of es) (views_of (calls_of es))
of_all_views es grid count t same counted e =
    subst (λ (g : List Event). t ≡ tally_of (calls_of g) (views_between (calls_of g) 0 count)) same e
    ∙ ap (tally_of (calls_of es)) (take_all (count - 0) (views_of (calls_of es)) (omega (arith, counted)))
