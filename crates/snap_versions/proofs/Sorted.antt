-- Updates that are sorted by version.
use Rattle.std.proofs.Common.{◌≡◌, ℕ, ◌<◌, ◌≤◌, List, length, get_or, refl, ap, ◌∙◌, inl, inr, arith}
use Rattle.std.proofs.lemmas.Bool.{cases_order}
use Rattle.std.proofs.lemmas.List.{get_or_default}
use Rattle.snap_core.specs.declared.entry.Entry.{Entry}
use Rattle.snap_core.specs.Calls.{Call, Updates}
use Rattle.snap_core.proofs.Lists.{In, In-get_or, Contains-from_In}
use Rattle.snap_core.proofs.Members.{In-map, In-from_map}
use Rattle.snap_versions.specs.declared.update.Update.{Update}
use Rattle.snap_versions.specs.inside.Updates.{update_call, update_calls, AreSorted}

-- a call is that of the update at a place
pub record At (us : List Update) (d : Update) (c : Call) : Type 0 where
  pub place : ℕ
  pub within : place < length us
  pub is : update_call (get_or us place d) ≡ c

pub at : (us : List Update) (d : Update) (c : Call) → In c (update_calls us) → At us d c
at us d c i =
    let o = In-from_map update_call us c i in
    let p = Contains-from_In us o.it o.there in
    record { place = p.0; within = p.1; is = ap update_call (get_or_default us p.0 d o.it p.1 ∙ p.2) ∙ o.is }

pub there : (us : List Update) (d : Update) (i : ℕ) → i < length us → In (update_call (get_or us i d)) (update_calls us)
there us d i l = In-map update_call us (get_or us i d) (In-get_or us i d l)

-- components rise
pub component_rises : (us : List Update) → AreSorted us → (d : Update) (i j : ℕ) → i ≤ j → j < length us → (get_or us i d).entry.component ≤ (get_or us j d).entry.component
component_rises us s d i j l m = elim (cases_order i j) [
  | inl same ↦ let e = ap (λ k. (get_or us k d).entry.component) same in omega (arith, e)
  | inr (inl less) ↦ elim (s.sorted i j d less m) [ inl h ↦ omega (arith, h) | inr h ↦ let e = h.0 in omega (arith, e) ]
  | inr (inr more) ↦ absurd (omega (arith, more, l))
]

-- and so do the numbers of a component
pub number_rises : (us : List Update) → AreSorted us → (d : Update) (i j : ℕ) → i ≤ j → j < length us → (get_or us i d).entry.component ≡ (get_or us j d).entry.component →
    (get_or us i d).entry.number ≤ (get_or us j d).entry.number
number_rises us s d i j l m one = elim (cases_order i j) [
  | inl same ↦ let e = ap (λ k. (get_or us k d).entry.number) same in omega (arith, e)
  | inr (inl less) ↦ elim (s.sorted i j d less m) [ inl h ↦ absurd (omega (arith, h, one)) | inr h ↦ h.1 ]
  | inr (inr more) ↦ absurd (omega (arith, more, l))
]

-- two updates with one version are one
pub one_version : (us : List Update) → AreSorted us → (d : Update) (i j : ℕ) → i < length us → j < length us → (get_or us i d).entry.component ≡ (get_or us j d).entry.component →
    (get_or us i d).entry.number ≡ (get_or us j d).entry.number → update_call (get_or us i d) ≡ update_call (get_or us j d)
one_version us s d i j l m component number =
    s.versioned (update_call (get_or us i d)) (update_call (get_or us j d)) (get_or us i d).entry (get_or us j d).entry
    (record { there = Contains-from_In _ _ (there us d i l); writes = refl }) (record { there = Contains-from_In _ _ (there us d j m); writes = refl }) component number

-- the entry of an update's call
pub entry_at : (us : List Update) (d : Update) (c : Call) (a : At us d c) (e : Entry) → c.operation ≡ Updates e → (get_or us a.place d).entry ≡ e
entry_at us d c a e w = let o : Updates (get_or us a.place d).entry ≡ Updates e = ap (λ (x : Call). x.operation) a.is ∙ w in cc
