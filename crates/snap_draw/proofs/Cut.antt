-- The calls that are drawn of a long history.
use Rattle.std.proofs.Common.{◌≡◌, ◌<◌, ◌∙◌, ℕ, List, ap, sym, length}
use Rattle.std.specs.Prelude.{if◌then◌else◌}
use Rattle.std.proofs.lemmas.Bool.{lt-leb}
use Rattle.snap_draw.specs.declared.drawn.Drawn.{Drawn}
use Rattle.snap_draw.specs.declared.marks.Mark.{Mark}
use Rattle.snap_draw.specs.Window.{marked_or_among, near_calls, window_of}

pub long_cut : (limit : ℕ) (marks : List Mark) (calls passed near given again : List Drawn) → limit < length calls → passed ≡ calls → near ≡ near_calls limit marks passed → given ≡ near → again ≡ calls →
    marked_or_among marks given again ≡ window_of limit marks calls
unfolding window_of
long_cut limit marks calls passed near given again l p n g q =
    ap (λ z. marked_or_among marks z again) (g ∙ n ∙ ap (λ z. near_calls limit marks z) p)
    ∙ ap (λ z. marked_or_among marks (near_calls limit marks calls) z) q
    ∙ sym (ap (λ b. if b then calls else marked_or_among marks (near_calls limit marks calls) calls) (lt-leb (length calls) limit l))
