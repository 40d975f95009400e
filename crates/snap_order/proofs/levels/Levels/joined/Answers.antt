use Rattle.std.proofs.Common.{rules, arith, ◌≡◌, ◌<◌, ◌≤◌, ◌+◌, ◌++◌, ◌∷◌, [], ◌∙◌, length, vec_items, sym, ap, subst, length-append}
use Rattle.snap_core.specs.Calls.{calls_of}
use Rattle.snap_order.specs.inside.Blocks.{AreBlocks, IsBlock, block_start, keys_between}
use Rattle.snap_views.proofs.Pieces.{ends_whole, starts_at_zero}
use Rattle.snap_order.proofs.Blocks.{all_between, block_joined, blocks_before, last_block, none_between}
use Rattle.snap_order.proofs.levels.Levels.joined.Goals as goal

pub loop-part-preserved : goal.loop-part-preserved
loop-part-preserved g c =
    let calls = calls_of c.args.self.now in
    let all = length calls in
    let blocks = c.args.blocks in
    let rest = vec_items c.pop.new.self in
    let n = length rest in
    let is : vec_items c.loop-part.parts ≡ rest ++ c.in-Some.part ∷ [] = search rules in
    let parts : AreBlocks calls blocks (rest ++ c.in-Some.part ∷ []) = subst (AreBlocks calls blocks) is c.loop-part.invariant.parts in
    let keys : c.in_ok-keys.keys.items ≡ keys_between calls (block_start blocks n all) (block_start blocks (n + 1) all) =
    subst (IsBlock calls blocks n) c.in_ok-keys.was (last_block calls blocks rest c.in-Some.part parts) in
    let joined : vec_items c.append.new.self ≡ c.in_ok-keys.keys.items ++ vec_items c.loop-part.all = c.in_ok-append.ensures.items in
    let long : length (vec_items c.loop-part.parts) ≡ n + 1 = ap length is ∙ length-append rest (c.in-Some.part ∷ []) in
    let within : length (vec_items c.loop-part.parts) ≤ blocks = c.loop-part.invariant.few in
    record {
      few = omega (arith, long, within);
      parts = blocks_before calls blocks rest c.in-Some.part parts;
      keys = joined ∙ block_joined calls blocks n (length (vec_items c.loop-part.parts)) c.in_ok-keys.keys.items (vec_items c.loop-part.all) c.requires.some long within keys c.loop-part.invariant.keys;
    }

pub loop-part-init : goal.loop-part-init
loop-part-init g c =
    let calls = calls_of c.args.self.now in
    let all = length calls in
    let whole : block_start c.args.blocks (length (vec_items c.args.parts)) all ≡ all = ap (λ n. block_start c.args.blocks n all) c.requires.count ∙ ends_whole all c.args.blocks c.requires.some in
    record {
      few = omega (arith, c.requires.count);
      parts = c.requires.parts;
      keys = c.new-all.ensures.items ∙ sym (ap (λ n. keys_between calls n all) whole ∙ none_between calls all);
    }

pub returns : goal.returns
returns g c =
    let calls = calls_of c.args.self.now in
    let all = length calls in
    let none : vec_items c.loop-part.parts ≡ [] = search rules in
    c.loop-part.invariant.keys ∙ ap (λ n. keys_between calls n all) (ap (λ l. block_start c.args.blocks (length l) all) none ∙ starts_at_zero all c.args.blocks) ∙ all_between calls
