-- A cut call begins where some call with the same updates' component begins, and ends where such a call ends.
use Rattle.std.proofs.Common.{◌≡◌, ◌≢◌, ◌⊎◌, ℕ, List, Some, refl, sym, ap, ◌∙◌, inl, inr}
use Rattle.snap_core.specs.declared.entry.Entry.{Entry}
use Rattle.snap_core.specs.Calls.{Call, Updates}
use Rattle.snap_core.proofs.Lists.{In, Contains-from_In, Pairs-from_AllPairs}
use Rattle.snap_theory.specs.Intervals.{cut}
use Rattle.snap_theory.specs.Telling.{number_of}
use Rattle.snap_theory.specs.Versioned.{AreVersioned}
use Rattle.snap_theory.proofs.CutCalls.{kind, cut_update, own_up}
use Rattle.snap_theory.proofs.Intervals.{latest, earliest}
use Rattle.snap_versions.specs.Placed.{ArePlaced}
use Rattle.snap_versions.proofs.Gathered.{known_by}

-- two updates of one component
pub record AreUpdates (a b : Call) : Type 0 where
  pub first : Entry
  pub second : Entry
  pub first_writes : a.operation ≡ Updates first
  pub second_writes : b.operation ≡ Updates second
  pub component : first.component ≡ second.component

-- two updates of one component, or one call
abbrev pub Kin : Call → Call → Type 0
Kin a b = AreUpdates a b ⊎ (a ≡ b)

-- the call where a cut call begins, and the one where it ends
pub record BeginsWith (calls : List Call) (c : Call) : Type 0 where
  pub call : Call
  pub there : In call calls
  pub begun : call.begun ≡ (cut calls c).begun
  pub kin : Kin c call

pub record EndsWith (calls : List Call) (c : Call) (place : ℕ) : Type 0 where
  pub call : Call
  pub there : In call calls
  pub ended : call.ended ≡ Some place
  pub kin : Kin c call

pub begins_with : (calls : List Call) (c : Call) → In c calls → BeginsWith calls c
begins_with calls c i = elim (kind calls c) [
  | inl u ↦
      let b = latest calls u.0 c i (own_up c u.0 u.1) in
      record {
        call = b.call;
        there = b.there;
        begun = b.begun ∙ sym (ap (λ (x : Call). x.begun) (cut_update calls c u.0 u.1));
        kin = inl (record { first = u.0; second = b.is.entry; first_writes = u.1; second_writes = b.is.writes; component = sym b.is.component });
      }
  | inr same ↦ record { call = c; there = i; begun = sym (ap (λ (x : Call). x.begun) same); kin = inr refl }
]

pub ends_with : (calls : List Call) (c : Call) (place : ℕ) → In c calls → (cut calls c).ended ≡ Some place → EndsWith calls c place
ends_with calls c place i ends = elim (kind calls c) [
  | inl u ↦
      let e = earliest calls u.0 place (sym (ap (λ (x : Call). x.ended) (cut_update calls c u.0 u.1)) ∙ ends) in
      record {
        call = e.call;
        there = e.there;
        ended = e.ended;
        kin = inl (record { first = u.0; second = e.is.entry; first_writes = u.1; second_writes = e.is.writes; component = sym e.is.component });
      }
  | inr same ↦ record { call = c; there = i; ended = sym (ap (λ (x : Call). x.ended) same) ∙ ends; kin = inr refl }
]

-- two calls that are kin to one, with one number, are one
pub same_call : (calls : List Call) → AreVersioned calls → (a b x : Call) → In a calls → In b calls → Kin a x → Kin b x → number_of a.operation ≡ number_of b.operation → a ≡ b
same_call calls v a b x i j (inl k) (inl m) number =
    let o : Updates k.second ≡ Updates m.second = sym k.second_writes ∙ m.second_writes in
    let e : k.second ≡ m.second = cc in
    v a b k.first m.first (record { there = Contains-from_In calls a i; writes = k.first_writes }) (record { there = Contains-from_In calls b j; writes = m.first_writes })
    (k.component ∙ ap (λ (z : Entry). z.component) e ∙ sym m.component) (sym (ap number_of k.first_writes) ∙ number ∙ ap number_of m.first_writes)
same_call calls v a b x i j (inl k) (inr m) number =
    let w = ap (λ (z : Call). z.operation) m ∙ k.second_writes in
    v a b k.first k.second (record { there = Contains-from_In calls a i; writes = k.first_writes }) (record { there = Contains-from_In calls b j; writes = w })
    k.component (sym (ap number_of k.first_writes) ∙ number ∙ ap number_of w)
same_call calls v a b x i j (inr k) (inl m) number =
    let w = ap (λ (z : Call). z.operation) k ∙ m.second_writes in
    v a b m.second m.first (record { there = Contains-from_In calls a i; writes = w }) (record { there = Contains-from_In calls b j; writes = m.first_writes })
    (sym m.component) (sym (ap number_of w) ∙ number ∙ ap number_of m.first_writes)
same_call calls v a b x i j (inr k) (inr m) number = k ∙ sym m

-- calls that begin at one place are one
pub one_begin : (calls : List Call) → ArePlaced calls → (a b : Call) → In a calls → In b calls → a.begun ≡ b.begun → a ≡ b
one_begin calls p a b = known_by (λ (c : Call). c.begun) calls (Pairs-from_AllPairs (λ (a b : Call). a.begun ≢ b.begun) calls p.begins) a b
