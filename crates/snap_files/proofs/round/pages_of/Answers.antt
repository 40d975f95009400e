use Rattle.std.proofs.Common.{◌≡◌, ◌<◌, ◌+◌, ◌*◌, ◌++◌, ◌∷◌, [], ◌∙◌, rules, arith, ap, drop, get_or, length, length-append, List, ℕ, subst, sym, vec_items}
use Rattle.std.specs.Global.{Vec}
use Rattle.std.specs.Fork.{slice_chunk}
use Rattle.std.proofs.Math.Nat.{zero-mul}
use Rattle.std.proofs.lemmas.List.{drop_all}
use Rattle.snap_files.specs.inside.Files.{AreAnswered}
use Rattle.snap_files.proofs.Pages.{AreShares, Answered, last_share, share_joined, shares_before, shares_cover}
use Rattle.snap_files.proofs.round.pages_of.Goals as goal

pub loop-share-init : goal.loop-share-init
loop-share-init g c =
    let opens = g.O.Opener.opens c.args.opener.now in
    let options = c.args.options in
    let names = c.args.names.now in
    let size = c.max-size.result in
    let shares = vec_items c.in_ok-shares.shares in
    let some : 0 < size = let is = c.max-size.ensures in omega (arith, is) in
    let len = c.in_ok-shares.ensures.len in
    let ok = c.in_ok-shares.shares.ok in
    let past : drop (length shares * size) names ≡ [] = drop_all (length shares * size) names (shares_cover (length shares) (length names) size some (omega (arith, len, ok))) in
    record {
      shares = λ n none low.
          let given = (c.in_ok-shares.ensures.each n none low).1 in
          subst (λ (ns : List (Vec ℕ)). Answered opens options ns (get_or shares n none)) given.argument_is.value given.call;
      behind = subst (AreAnswered opens options (drop (length shares * size) names)) (sym c.new-behind.ensures.items) (subst (λ (ns : List (Vec ℕ)). AreAnswered opens options ns []) (sym past) tt);
    }

pub loop-share-preserved : goal.loop-share-preserved
loop-share-preserved g c =
    let opens = g.O.Opener.opens c.args.opener.now in
    let options = c.args.options in
    let names = c.args.names.now in
    let size = c.max-size.result in
    let rest = vec_items c.pop.new.self in
    let n = length rest in
    let is : vec_items c.loop-share.shares ≡ rest ++ c.in-Some.share ∷ [] = search rules in
    let all : AreShares opens options names size (rest ++ c.in-Some.share ∷ []) = subst (AreShares opens options names size) is c.loop-share.invariant.shares in
    let here : AreAnswered opens options (slice_chunk names size n) c.in_ok-pages.pages.items = subst (Answered opens options (slice_chunk names size n)) c.in_ok-pages.was (last_share opens options names size rest c.in-Some.share all) in
    let long : length (vec_items c.loop-share.shares) ≡ n + 1 = ap length is ∙ length-append rest (c.in-Some.share ∷ []) in
    let joined : vec_items c.append.new.self ≡ c.in_ok-pages.pages.items ++ vec_items c.loop-share.behind = c.in_ok-append.ensures.items in
    record {
      shares = shares_before opens options names size rest c.in-Some.share all;
      behind = subst (AreAnswered opens options (drop (n * size) names)) (sym joined)
          (share_joined opens options names size n (length (vec_items c.loop-share.shares)) c.in_ok-pages.pages.items (vec_items c.loop-share.behind) long here c.loop-share.invariant.behind);
    }

pub returns : goal.returns
returns g c =
    let names = c.args.names.now in
    let size = c.max-size.result in
    let none : vec_items c.loop-share.shares ≡ [] = search rules in
    let whole : drop (length (vec_items c.loop-share.shares) * size) names ≡ names = ap (λ l. drop (length l * size) names) none ∙ ap (λ k. drop k names) (zero-mul size) in
    subst (λ (ns : List (Vec ℕ)). AreAnswered (g.O.Opener.opens c.args.opener.now) c.args.options ns (vec_items c.loop-share.behind)) whole c.loop-share.invariant.behind
