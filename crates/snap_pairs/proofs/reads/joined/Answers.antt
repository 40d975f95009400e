use Rattle.std.proofs.Common.{rules, arith, ◌≡◌, ◌<◌, ◌≤◌, ◌+◌, ◌++◌, ◌∷◌, [], ◌∙◌, length, vec_items, sym, ap, subst, length-append}
use Rattle.snap_core.specs.Calls.{calls_of}
use Rattle.snap_tally.specs.Grids.{AreColumnsOf}
use Rattle.snap_pairs.specs.inside.Reads.{AreParts, part_start}
use Rattle.snap_pairs.proofs.Columns.{AreMade, last_part, parts_before, part_joined}
use Rattle.snap_views.proofs.Pieces.{ends_whole, starts_at_zero}
use Rattle.snap_pairs.proofs.reads.joined.Goals as goal

pub loop-part-preserved : goal.loop-part-preserved
loop-part-preserved g c =
    let calls = calls_of c.args.index.now in
    let workers = c.args.cutting.workers in
    let rest = vec_items c.pop.new.self in
    let n = length rest in
    let is : vec_items c.loop-part.parts ≡ rest ++ c.in-Some.part ∷ [] = search rules in
    let all : AreParts calls workers (rest ++ c.in-Some.part ∷ []) = subst (AreParts calls workers) is c.loop-part.invariant.parts in
    let columns : AreColumnsOf calls (part_start workers n) (part_start workers (n + 1)) c.in_ok-columns.columns.items =
    subst (AreMade calls (part_start workers n) (part_start workers (n + 1))) c.in_ok-columns.was (last_part calls workers rest c.in-Some.part all) in
    let joined : vec_items c.append.new.self ≡ c.in_ok-columns.columns.items ++ vec_items c.loop-part.all = c.in_ok-append.ensures.items in
    let long : length (vec_items c.loop-part.parts) ≡ n + 1 = ap length is ∙ length-append rest (c.in-Some.part ∷ []) in
    let some : 0 < workers = c.args.cutting.workers_fit.0 in
    let within : length (vec_items c.loop-part.parts) ≤ workers = c.loop-part.invariant.few in
    record {
      few = omega (arith, long, within);
      parts = parts_before calls workers rest c.in-Some.part all;
      columns = subst (AreColumnsOf calls (part_start workers n) 256) (sym joined) (part_joined calls workers n (length (vec_items c.loop-part.parts)) c.in_ok-columns.columns.items (vec_items c.loop-part.all) some long within columns c.loop-part.invariant.columns);
    }

pub loop-part-init : goal.loop-part-init
loop-part-init g c =
    let workers = c.args.cutting.workers in
    let whole : part_start workers (length (vec_items c.args.parts)) ≡ 256 = ap (part_start workers) c.requires.count ∙ ends_whole 256 workers c.args.cutting.workers_fit.0 in
    let none : AreColumnsOf (calls_of c.args.index.now) 256 256 [] = record { each = λ j l. absurd (omega arith); all = λ place k p low high t. absurd (omega arith) } in
    record {
      few = omega (arith, c.requires.count);
      parts = c.requires.parts;
      columns = subst (λ z. AreColumnsOf (calls_of c.args.index.now) z 256 (vec_items c.new-all.result)) (sym whole) (subst (AreColumnsOf (calls_of c.args.index.now) 256 256) (sym c.new-all.ensures.items) none);
    }

pub returns : goal.returns
returns g c =
    let workers = c.args.cutting.workers in
    let none : vec_items c.loop-part.parts ≡ [] = search rules in
    subst (λ z. AreColumnsOf (calls_of c.args.index.now) z 256 c.loop-part.all.items) (ap (λ l. part_start workers (length l)) none ∙ starts_at_zero 256 workers) c.loop-part.invariant.columns
