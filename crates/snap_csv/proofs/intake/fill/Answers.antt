use Rattle.std.proofs.Common.{◌≡◌, ◌<◌, ◌+◌, ◌-◌, ◌++◌, ◌∙◌, ◌^◌, inl, inr, true, ℕ, List, None, Option, Some, ap, arith, drop, length, length-append, length-drop, refl, rules, take}
use Rattle.std.specs.Prelude.{IfSome}
use Rattle.std.specs.Io.KnownBytes.{Consumes}
use Rattle.std.proofs.KnownBytes.{Consumes-trans}
use Rattle.std.proofs.Math.Seq.{take-add}
use Rattle.std.proofs.lemmas.List.{length-take-le}
use Rattle.std.proofs.lemmas.Bool.{cases_lt}
use Rattle.std.proofs.lemmas.Bool.Decides.{nat_tests}
use Rattle.snap_core.specs.Counting.{Rose, counted, inner_of}
use Rattle.snap_plain.proofs.PlainFacts.{plain_with}
use Rattle.snap_csv.proofs.intake.fill.Goals as goal

-- bytes that were taken and are too many
too_long : (old new : Option (List ℕ)) (taken : List ℕ) (most : ℕ) → Consumes old new taken → most < length taken → IfSome old (λ text. most < length text)
too_long None new taken most is lt = tt
too_long (Some text) None taken most is lt = absurd is
too_long (Some text) (Some left) taken most is lt = omega (arith, lt, ap length is, length-append taken left)

-- one more failure, where the count is not at its last value
rose : (old new : ℕ) → new ≡ counted true old → Rose old new
rose old new is = elim (cases_lt old (2 ^ 64 - 1)) [
  | inl lt ↦ inl (omega (arith, is))
  | inr le ↦ inr (omega (arith, is))
]

pub returns-in-Err-clause-counts : goal.returns-in-Err-clause-counts
returns-in-Err-clause-counts g c = rose _ _ (c.in-Err.ensures.counts ∙ ap (counted true) c.loop-ended.invariant.count)

pub returns-then-n-most-clause-text : goal.returns-then-n-most-clause-text
returns-then-n-most-clause-text g c =
    let filled = c.loop-ended.filled in
    let had = c.loop-ended.text.items in
    let before = take filled had in
    let piece = take c.in-Ok.n (drop filled c.read_behind.new.text.items) in
    let first = g.R.Read.remaining (inner_of c.args.reader.now) in
    let left = g.R.Read.remaining (inner_of c.read_behind.new.reader) in
    let taken = Consumes-trans first (g.R.Read.remaining (inner_of c.loop-ended.reader)) left before piece c.loop-ended.invariant.taken c.in-Ok.ensures.bytes.0 in (
      refl,
      refl,
      too_long first left (before ++ piece) _ taken
          (omega (arith, length-append before piece, length-take-le filled had c.loop-ended.invariant.has, c.in-Ok.ensures.bound, c.bytes_within-most.ensures, c.if-n-most.true, c.loop-ended.invariant.within)),
    )

pub loop-ended-preserved : goal.loop-ended-preserved
loop-ended-preserved g c =
    let filled = c.loop-ended.filled in
    let n = c.in-Ok.n in
    let now = c.read_behind.new.text.items in
    let before = take filled c.loop-ended.text.items in
    let piece = take n (drop filled now) in
    let longer : take (filled + n) now ≡ before ++ piece = take-add filled n now ∙ ap (λ front. front ++ piece) (c.in-Ok.ensures.kept ∙ c.in_ok-make_room.ensures.kept) in
    let searched : take (filled + n - filled) (drop filled c.deref.result.now) ≡ piece =
    let count : filled + n - filled ≡ n = omega arith in
    ap (λ m. take m (drop filled c.deref.result.now)) count ∙ ap (λ text. take n (drop filled text)) c.deref.ensures.value in
    let room : 0 < length (drop filled now) = omega (arith, length-drop filled now, c.in-Ok.ensures.len, c.in_ok-make_room.ensures.room) in
    record {
      has = omega (arith, length-drop filled now, c.in-Ok.ensures.len, c.in_ok-make_room.ensures.room, c.in-Ok.ensures.bound);
      within = search rules;
      taken = rw longer (Consumes-trans (g.R.Read.remaining (inner_of c.args.reader.now)) (g.R.Read.remaining (inner_of c.loop-ended.reader)) (g.R.Read.remaining (inner_of c.read_behind.new.reader)) before piece c.loop-ended.invariant.taken c.in-Ok.ensures.bytes.0);
      at_end = λ e. c.in-Ok.ensures.bytes.1 (grind (arith, nat_tests, e)) room;
      plain = rw longer (plain_with c.loop-ended.plain c.is_plain-plain.result before piece c.loop-ended.invariant.plain (rw searched at c.is_plain-plain.ensures));
      count = search rules;
    }
