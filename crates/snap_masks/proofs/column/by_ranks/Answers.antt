use Rattle.std.proofs.Common.{rules, arith, ◌≡◌, ◌<◌, ◌+◌, ◌-◌, ◌++◌, ◌∷◌, [], ◌∙◌, ℕ, List, length, get_or, refl, sym, ap, subst, inl, inr, length-append}
use Rattle.std.proofs.lemmas.Bool.{cases_lt}
use Rattle.std.proofs.lemmas.List.{get_or_append_left}
use Rattle.std.proofs.Math.Seq.{get_or-append_seam}
use Rattle.snap_masks.specs.Numbers.{IsOrderedAs}
use Rattle.snap_masks.proofs.column.by_ranks.Goals as goal

-- one more key, after those that are there
more_keys : (all keys : List (List ℕ)) (m : ℕ) (key : List ℕ) → length keys + (m + 1) ≡ length all → IsOrderedAs (get_or all m []) key →
    ((j t : ℕ) → t < length keys → j + t + 1 ≡ length all → IsOrderedAs (get_or all j []) (get_or keys t [])) →
    (j t : ℕ) → t < length (keys ++ key ∷ []) → j + t + 1 ≡ length all → IsOrderedAs (get_or all j []) (get_or (keys ++ key ∷ []) t [])
more_keys all keys m key count new old j t l e = elim (cases_lt t (length keys)) [
  | inl before ↦ subst (IsOrderedAs (get_or all j [])) (sym (get_or_append_left keys (key ∷ []) [] t before)) (old j t before e)
  | inr behind ↦
      let last : t ≡ length keys = omega (arith, l, behind, length-append keys (key ∷ [])) in
      let here : j ≡ m = omega (arith, last, e, count) in
      let at : get_or (keys ++ key ∷ []) t [] ≡ key = ap (λ z. get_or (keys ++ key ∷ []) z []) last ∙ get_or-append_seam keys key [] [] in
      subst (IsOrderedAs (get_or all j [])) (sym at) (subst (λ z. IsOrderedAs (get_or all z []) key) (sym here) new)
]

pub loop-column-init : goal.loop-column-init
loop-column-init c = record {
  count = omega (arith, ap length c.in_ok-keys.ensures.items);
  left = λ j l. refl;
  taken = λ j t l. absurd (omega (arith, l, ap length c.in_ok-keys.ensures.items));
}

pub loop-column-preserved : goal.loop-column-preserved
loop-column-preserved c =
    let all = c.args.columns.items in
    let rest = c.pop.new.self.items in
    let m = length rest in
    let keys = c.loop-column.keys.items in
    let is : c.loop-column.columns.items ≡ rest ++ c.in-Some.column ∷ [] = search rules in
    let long : length c.loop-column.columns.items ≡ m + 1 = ap length is ∙ length-append rest (c.in-Some.column ∷ []) in
    let here : get_or all m [] ≡ c.in-Some.column = sym (c.loop-column.invariant.left m (omega (arith, long))) ∙ ap (λ z. get_or z m []) is ∙ get_or-append_seam rest c.in-Some.column [] [] in
    let pushed = c.in_ok-push.ensures.items in
    record {
      count = omega (arith, ap length pushed, length-append keys (c.in_ok-by_rank.field-0 ∷ []), long, c.loop-column.invariant.count);
      left = λ j l. sym (get_or_append_left rest (c.in-Some.column ∷ []) [] j l) ∙ ap (λ z. get_or z j []) (sym is) ∙ c.loop-column.invariant.left j (omega (arith, l, long));
      taken = rw pushed (more_keys all keys m c.in_ok-by_rank.field-0 (omega (arith, c.loop-column.invariant.count, long)) (subst (λ z. IsOrderedAs z c.in_ok-by_rank.field-0) (sym here) c.in_ok-by_rank.ensures) c.loop-column.invariant.taken);
    }

pub returns : goal.returns
returns c =
    let none : c.loop-column.columns.items ≡ [] = search rules in
    let count : length c.loop-column.keys.items ≡ length c.args.columns.items = omega (arith, ap length none, c.loop-column.invariant.count) in
    let taken = c.loop-column.invariant.taken in
    record {
      each = λ t l. (length c.args.columns.items - 1 - t, omega (arith, l, count), taken (length c.args.columns.items - 1 - t) t l (omega (arith, l, count)));
      all = λ j l. (length c.args.columns.items - 1 - j, omega (arith, l, count), taken j (length c.args.columns.items - 1 - j) (omega (arith, l, count)) (omega (arith, l)));
    }
