-- Numbers that no update has.
use Rattle.std.proofs.Common.{◌≡◌, ℕ, ◌≤◌, Bool, false, cond, List, [], ◌∷◌, Some, None, refl, sym, ap, ◌∙◌, subst, inl, inr, arith}
use Rattle.std.specs.Prelude.{find, count_by}
use Rattle.std.specs.List.{All}
use Rattle.std.proofs.lemmas.Bool.{false_from_ne_true, cases_eq}
use Rattle.std.proofs.lemmas.List.Elements.{All-contains}
use Rattle.snap_core.specs.declared.entry.Entry.{Entry}
use Rattle.snap_core.specs.declared.event.Event.{Event}
use Rattle.snap_core.specs.declared.event.Event.TheVariants.{BeginUpdate, BeginView, EndUpdate, EndView}
use Rattle.snap_core.specs.Entries.{EntryFits}
use Rattle.snap_core.specs.Events.{EventFits}
use Rattle.snap_core.specs.Bounded.{IsBoundedOrdered}
use Rattle.snap_core.specs.Calls.{Call, Updates, calls_of, is_update_numbered}
use Rattle.snap_core.specs.Regular.{IsUpdateOf}
use Rattle.snap_core.proofs.Lists.{In}
use Rattle.snap_core.proofs.Begun.{Begun, operation_at}
use Rattle.snap_core.proofs.Ends.{begun_of}
use Rattle.snap_core.proofs.Histories.{in_history}
use Rattle.snap_theory.specs.Updates.{update_of}
use Rattle.snap_index.specs.Updates.{is_update_of}
use Rattle.snap_index.proofs.Known.{no_update_0, update_beyond}
use Rattle.snap_theory.proofs.Local.{numbered_to}

-- the entry of an update fits the types of its fields
update_fits : (es : List Event) → All EventFits es → (c : Call) (e : Entry) → IsUpdateOf (calls_of es) c e → EntryFits e
update_fits es f c e u = at x.event refl (sym (ap (λ (z : Call). z.operation) x.is) ∙ u.writes)
  where
    x : Begun 0 0 es c
    x = begun_of es c u.there

    fits : EventFits x.event
    fits = All-contains EventFits es x.event f (in_history es x.event x.before x.after x.split)

    at : (y : Event) → x.event ≡ y → operation_at x.event x.after ≡ Updates e → EntryFits e
    at (BeginUpdate p d) h o =
        let same : d ≡ e = (let g : Updates d ≡ Updates e = ap (λ z. operation_at z x.after) (sym h) ∙ o in cc) in
        subst EntryFits same (subst EventFits h fits).1
    at (BeginView p) h o = absurd (let g = ap (λ z. operation_at z x.after) (sym h) ∙ o in cc)
    at (EndUpdate p) h o = absurd (let g = ap (λ z. operation_at z x.after) (sym h) ∙ o in cc)
    at (EndView p s) h o = absurd (let g = ap (λ z. operation_at z x.after) (sym h) ∙ o in cc)

pub find_none : {X : Type 0} (p : X → Bool) (xs : List X) → ((x : X) → In x xs → p x ≡ false) → find p xs ≡ None
find_none p [] h = refl
find_none p (x ∷ xs) h = ap (λ b. cond b (Some x) (find p xs)) (h x (inl refl)) ∙ find_none p xs (λ y i. h y (inr i))

-- no update has a number past the largest of its type
pub no_update_past : (es : List Event) → IsBoundedOrdered es → (k n : ℕ) → 4294967296 ≤ n → update_of (calls_of es) k n ≡ None
no_update_past es kept k n l = find_none (is_update_numbered k n) (calls_of es) (λ c i. false_from_ne_true _ (λ t.
    let x = numbered_to (calls_of es) k n c i t in
    let f = update_fits es kept.fit c x.entry x.update in
    omega (arith, f.1, x.number, l)))

-- a component without an update
pub none_of_none : (es : List Event) → IsBoundedOrdered es → (k n : ℕ) → count_by (is_update_of k) (calls_of es) ≡ 0 → update_of (calls_of es) k n ≡ None
none_of_none es kept k n z = elim (cases_eq n 0) [
  | inl same ↦ ap (update_of (calls_of es) k) same ∙ no_update_0 es kept.history k
  | inr other ↦ update_beyond es kept.history k n (omega (arith, z, other))
]
