-- A view that misses what was left, and none.
use Rattle.std.proofs.Common.{◌≡◌, ◌↔◌, ℕ, Bool, true, false, ◌&&◌, Option, Some, None, refl, sym, ◌∙◌, not}
use Rattle.std.specs.Prelude.{IsTrue, MatchOption, is_none, is_some}
use Rattle.std.proofs.lemmas.Bool.{false≢true, and_parts, and_from}
use Rattle.snap_core.specs.declared.entry.Entry.{Entry}
use Rattle.snap_core.specs.declared.event.Event.{Event}
use Rattle.snap_core.specs.declared.event.Event.TheVariants.{BeginUpdate, BeginView, EndUpdate, EndView}
use Rattle.snap_windows.specs.Missed.{EventMisses, EventShowsNoLess}

misses_then : (left : ℕ → Option Entry) (x : Event) (e : Entry) → EventMisses left x e → EventShowsNoLess left x → ⊥
misses_then left (BeginUpdate p d) e m s = m
misses_then left (BeginView p) e m s = m
misses_then left (EndUpdate p) e m s = m
misses_then left (EndView p es) e m s = m.less (s m.component)

shows_then : (left : ℕ → Option Entry) (x : Event) (found : Option Entry) → MatchOption found (EventShowsNoLess left x) (EventMisses left x) → IsTrue (is_none found) ↔ EventShowsNoLess left x
shows_then left x None m = (λ t. m, λ s. refl)
shows_then left x (Some e) m = (λ t. absurd (false≢true t), λ s. absurd (misses_then left x e m s))

none_is : (b : Bool) (found : Option Entry) → not b ≡ is_some found → b ≡ is_none found
none_is true None h = refl
none_is true (Some e) h = absurd (false≢true h)
none_is false None h = absurd (false≢true (sym h))
none_is false (Some e) h = refl

pub shows_on : (left : ℕ → Option Entry) (x : Event) (found : Option Entry) (before none : Bool) → not none ≡ is_some found → MatchOption found (EventShowsNoLess left x) (EventMisses left x) → IsTrue (before && none) ↔ (IsTrue before × EventShowsNoLess left x)
shows_on left x found before none n m =
    let law = shows_then left x found m in
    let is = none_is none found n in (
      λ t. let p = and_parts before none t in (p.0, law.0 (sym is ∙ p.1)),
      λ p. and_from before none p.0 (is ∙ law.1 p.1),
    )
