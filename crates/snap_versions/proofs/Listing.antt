-- Lists of listed calls, one call longer.
use Rattle.std.proofs.Common.{◌≡◌, ◌<◌, ◌+◌, ◌++◌, ◌∷◌, ℕ, List, [], length, take, get_or, ap, sym, ◌∙◌}
use Rattle.std.proofs.lemmas.List.{map-append, take_more}
use Rattle.snap_versions.specs.declared.listed.Listed.{Listed}
use Rattle.snap_versions.specs.inside.Listed.{call_listed, calls_listed}

pub listed_push : (calls : List Listed) (c : Listed) → calls_listed (calls ++ c ∷ []) ≡ calls_listed calls ++ call_listed c ∷ []
listed_push calls c = map-append call_listed calls (c ∷ [])

pub listed_more : (calls : List Listed) (i : ℕ) (c : Listed) → i < length calls → c ≡ get_or calls i c → calls_listed (take (i + 1) calls) ≡ calls_listed (take i calls) ++ call_listed c ∷ []
listed_more calls i c l is = ap calls_listed (take_more calls i c l) ∙ ap (λ z. calls_listed (take i calls ++ z ∷ [])) (sym is) ∙ listed_push (take i calls) c
