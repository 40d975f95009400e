-- One try of a scan.
use Rattle.std.proofs.Common.{◌≡◌, ◌≢◌, ℕ, ◌+◌, ◌*◌, ◌/◌, ◌%◌, ◌^◌, ◌<◌, ◌≤◌, suc, List, [], ◌∷◌, length, sym, refl, ap, ◌∙◌, subst, arith, length-append}
use mathlib.Core.Option.{none, some-injective}
use lib.ListN.{get_elem?}
use Rattle.atomic_table.specs.Table.{step, Allows}
use Rattle.snap_account.specs.declared.account.Answered.{Answered}
use Rattle.snap_account.specs.declared.account.Doing.{Doing}
use Rattle.snap_account.specs.declared.account.Doing.TheVariants.{Idle, Begun, Written, Viewing, Scanning}
use Rattle.snap_account.specs.Calls.{middle_open, middled}
use Rattle.snap_account.specs.Rule.{Boarded, first_step}
use Rattle.snap_account.specs.Limits.{tick_cap}
use Rattle.snap_account.specs.Plays.{Seated, entry_of, HasRead, Middles}
use Rattle.snap_account.specs.Seats.{showing, has_read, one_desk, pairs, doing_of, desk_of, answered_of, ticks_of, begun_of, begun_in}
use Rattle.snap_account.specs.Tries.{IsRead, IsTrying, HasAgreed, made_in, made_of}
use Rattle.snap_account.proofs.Accounts.{acct}
use Rattle.snap_account.proofs.Moves.{middles_first_as, middles_as}
use Rattle.snap_account.proofs.Calling.{at_desk, middled_after, grew}

-- different words stand for different entries
pub pairs_same : (ws vs : List ℕ) → pairs ws ≡ pairs vs → ws ≡ vs
pairs_same [] [] e = refl
pairs_same [] (v ∷ vs) e = absurd (cc)
pairs_same (w ∷ ws) [] e = absurd (cc)
pairs_same (w ∷ ws) (v ∷ vs) e =
    let first : entry_of w ≡ entry_of v = some-injective _ _ (ap (λ (l : List (ℕ × ℕ)). get_elem? l 0) e) in
    let rest : pairs ws ≡ pairs vs = ap (λ (l : List (ℕ × ℕ)). Rattle.std.proofs.Common.drop 1 l) e in
    let a = ap (λ (p : ℕ × ℕ). p.0) first in let b = ap (λ (p : ℕ × ℕ). p.1) first in
    let same : w ≡ v = omega arith in let more = pairs_same ws vs rest in λ i. same i ∷ more i

pub ticks_trying : (n l slots id : ℕ) (me : Seated) (d : ℕ) (rs : List Answered) (t : ℕ) → n ≤ 8 → l ≤ tick_cap → (o : Doing) (xs : List (ℕ × ℕ)) → me.0 ≡ acct d rs o t ∷ [] → IsTrying n d rs xs o → length xs ≡ n → t + 1 ≤ l
    → Allows (Boarded n l) slots id me 0 (λ z. (z + 1) % 2 ^ 64) (Middles (step slots 0 1 0 none) me)
ticks_trying n l slots id me d rs t few low Idle xs is try all room = absurd try
ticks_trying n l slots id me d rs t few low (Begun b) xs is try all room = absurd try
ticks_trying n l slots id me d rs t few low (Written b m v) xs is try all room = absurd try
ticks_trying n l slots id me d rs t few low (Viewing b ys) xs is try all room = middles_first_as n l slots id me d rs t few low b ys is (ap length try ∙ all) room
ticks_trying n l slots id me d rs t few low (Scanning s) xs is try all room = middles_as n l slots id me d rs t few low s is (ap length try.0 ∙ all) (λ same. try.1 (same ∙ try.0)) room

pub reads_next : (n d : ℕ) (rs : List Answered) (xs : List (ℕ × ℕ)) (t : ℕ) (o : Doing) → IsTrying n d rs xs o → HasRead (middle_open t o) []
reads_next n d rs xs t Idle try = absurd try
reads_next n d rs xs t (Begun b) try = absurd try
reads_next n d rs xs t (Written b m v) try = absurd try
reads_next n d rs xs t (Viewing b ys) try = refl
reads_next n d rs xs t (Scanning s) try = refl

pub tries_on : (n d : ℕ) (rs : List Answered) (xs ys : List (ℕ × ℕ)) (t : ℕ) (o : Doing) → IsTrying n d rs xs o → IsRead n d rs xs → xs ≢ ys → IsTrying n d rs ys (showing ys (middle_open t o))
tries_on n d rs xs ys t Idle try read ne = absurd try
tries_on n d rs xs ys t (Begun b) try read ne = absurd try
tries_on n d rs xs ys t (Written b m v) try read ne = absurd try
tries_on n d rs xs ys t (Viewing b zs) try read ne = (refl, (λ e. ne (sym try ∙ e)), ap length try ∙ read.0, subst (IsRead n d rs) (sym try) read)
tries_on n d rs xs ys t (Scanning s) try read ne = (refl, (λ e. ne (sym try.0 ∙ e)), try.2, subst (IsRead n d rs) (sym try.0) read)

pub agrees_on : (n d : ℕ) (rs : List Answered) (xs ys : List (ℕ × ℕ)) (t : ℕ) (o : Doing) → IsTrying n d rs xs o → xs ≡ ys → HasAgreed ys (showing ys (middle_open t o))
agrees_on n d rs xs ys t Idle try e = absurd try
agrees_on n d rs xs ys t (Begun b) try e = absurd try
agrees_on n d rs xs ys t (Written b m v) try e = absurd try
agrees_on n d rs xs ys t (Viewing b zs) try e = (try ∙ e, refl)
agrees_on n d rs xs ys t (Scanning s) try e = (try.0 ∙ e, refl)

one_more : (n d : ℕ) (rs : List Answered) (xs ys : List (ℕ × ℕ)) (t : ℕ) (o : Doing) → IsTrying n d rs xs o → (made_in (showing ys (middle_open t o)) ≡ made_in o + 1) × (begun_in (showing ys (middle_open t o)) ≡ begun_in o)
one_more n d rs xs ys t Idle try = absurd try
one_more n d rs xs ys t (Begun b) try = absurd try
one_more n d rs xs ys t (Written b m v) try = absurd try
one_more n d rs xs ys t (Viewing b zs) try = (refl, refl)
one_more n d rs xs ys t (Scanning s) try = (length-append s.middles (t ∷ []), refl)

-- what one try leaves in the desk's seat
pub record Tried (n : ℕ) (me0 me2 : Seated) (t : ℕ) (xs ys : List (ℕ × ℕ)) : Type 0 where
  pub me : me2 ≡ at_desk (acct (desk_of me0.0) (answered_of me0.0) (showing ys (middle_open t (doing_of me0.0))) (ticks_of me0.0 + 1))
  pub made : made_of me2.0 ≡ made_of me0.0 + 1
  pub begun : begun_of me2.0 ≡ begun_of me0.0

pub tried : (n : ℕ) (me0 me1 me2 : Seated) (t : ℕ) (xs ys : List (ℕ × ℕ)) → me0 ≡ one_desk me0 → IsTrying n (desk_of me0.0) (answered_of me0.0) xs (doing_of me0.0) → me1 ≡ (first_step (middled t) me0.0, me0.1) → me2 ≡ has_read me1 ys → Tried n me0 me2 t xs ys
tried n me0 me1 me2 t xs ys is try first second =
    let d = desk_of me0.0 in let rs = answered_of me0.0 in let o = doing_of me0.0 in let k = ticks_of me0.0 in
    let at1 = middled_after me0 me1 d rs o k t is first in
    let at2 = grew me1 me2 d rs (middle_open t o) (k + 1) ys at1 second in
    let m = one_more n d rs xs ys t o try in
    record {
      me = at2;
      made = ap (λ (x : Seated). made_of x.0) at2 ∙ m.0 ∙ ap (λ (x : Seated). made_of x.0 + 1) (sym is);
      begun = ap (λ (x : Seated). begun_of x.0) at2 ∙ m.1 ∙ ap (λ (x : Seated). begun_of x.0) (sym is);
    }
