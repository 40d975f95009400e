-- The fields of a record that is looked up, as a borrow has them.
use Rattle.std.proofs.Common.{◌≡◌, ℕ, List, Option, Some, None, Bor, Vec, Global, ap, map, refl}
use Rattle.std.specs.Prelude.{option_map}

pub same_fields : (found : Option (Bor (List (Vec ℕ Global)))) (looked : Option (Vec (Vec ℕ Global) Global)) → option_map (λ s. s.now) found ≡ option_map (λ v. v.items) looked
    → option_map (λ fields. map (λ f. f.items) fields.now) found ≡ option_map (λ fields. map (λ f. f.items) fields.items) looked
same_fields None None e = refl
same_fields (Some s) None e = absurd cc
same_fields None (Some v) e = absurd cc
same_fields (Some s) (Some v) e =
    let same : s.now ≡ v.items = cc in
    ap (λ (t : List (Vec ℕ Global)). Some (map (λ f. f.items) t)) same
