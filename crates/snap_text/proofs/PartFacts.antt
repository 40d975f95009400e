-- The entries of a view, part by part.
use Rattle.std.proofs.Common.{◌≡◌, ◌++◌, ℕ, false, List, [], ◌∷◌, length, map, append_assoc, Option, Some, None, refl, sym, ap}
use Rattle.std.specs.Prelude.{◌==◌, option_map}
use Rattle.snap_core.specs.declared.entry.Entry.{Entry}
use Rattle.snap_text.specs.Fields.{all_of, entries_at, entry_at, parts}

abbrev pub behind : List Entry → Option (List Entry) → Option (List Entry)
behind front o = option_map (λ es. front ++ es) o

-- the entries before what is left of a text are read
abbrev pub AreRead : List Entry → List ℕ → List ℕ → Type 0
AreRead entries left text = behind entries (all_of (map entry_at (parts 32 left))) ≡ all_of (map entry_at (parts 32 text))

pub join : (front : List Entry) (e : Entry) (o : Option (List Entry)) → behind front (option_map (λ es. e ∷ es) o) ≡ behind (front ++ e ∷ []) o
join front e None = refl
join front e (Some es) = ap (λ (t : List Entry). Some t) (sym (append_assoc front (e ∷ []) es))

pub some_text : (text : List ℕ) → (length text == 0) ≡ false → entries_at text ≡ all_of (map entry_at (parts 32 text))
unfolding entries_at
some_text text h = rw h refl
