-- What a writer adds to a text, record by record.
use Rattle.std.proofs.Common.{zip, ◌≡◌, ◌<◌, ◌^◌, ◌++◌, ℕ, List, [], ◌∷◌, map, get_or, length, take, append-nil, append_assoc, refl, arith, ◌∙◌, sym, ap, add-one}
use Rattle.std.specs.Prelude.{decimal, ◌+◌}
use Rattle.std.specs.Global.{Vec}
use Rattle.std.specs.List.{flat_map}
use Rattle.std.proofs.lemmas.List.{length-map, map-append}
use Rattle.std.proofs.lemmas.List.Concat.{flat_map-append}
use Rattle.std.proofs.lemmas.Slice.Zip.{get_or-zip, length-zip}
use Rattle.std.proofs.Math.Seq.{take-suc}
use Rattle.csv.specs.Writing.{default_writer, row_text}
use Rattle.snap_core.specs.declared.event.Event.{Event}
use Rattle.snap_core.specs.declared.event.Event.TheVariants.{BeginUpdate, BeginView, EndUpdate, EndView}
use Rattle.snap_core.specs.Events.{EventFits}
use Rattle.snap_format.specs.Layout.{header, history_text, record_text, stamped_fields, stamped_header, stamped_lines}
use Rattle.snap_text.specs.Spelling.{spelled}
use Rattle.snap_format.proofs.LineFacts.{stamped_line_of}

pub history_more : (xs : List Event) (i : ℕ) (d : Event) → i < length xs → history_text (take (i + 1) xs) ≡ history_text (take i xs) ++ record_text (spelled (get_or xs i d))
unfolding history_text
history_more xs i d lt =
    rw (add-one, take-suc xs i d lt, map-append spelled (take i xs) (get_or xs i d ∷ []), flat_map-append record_text (map spelled (take i xs)) (spelled (get_or xs i d) ∷ []), append-nil (record_text (spelled (get_or xs i d))))
    (sym (append_assoc (record_text header) (flat_map record_text (map spelled (take i xs))) (record_text (spelled (get_or xs i d)))))

-- ---- four fields out of an array

four_long : (x : Event) → length (spelled x) ≡ 4
four_long (BeginUpdate p e) = refl
four_long (BeginView p) = refl
four_long (EndUpdate p) = refl
four_long (EndView p es) = refl

four_in : (fs : List (Vec ℕ)) (v w y z : List ℕ) (a b c d : Vec ℕ) → length fs ≡ 4 → v ≡ (get_or fs 0 a).items → w ≡ (get_or fs 1 b).items → y ≡ (get_or fs 2 c).items → z ≡ (get_or fs 3 d).items
    → v ∷ w ∷ y ∷ z ∷ [] ≡ map (λ f. f.items) fs
four_in [] v w y z a b c d len ev ew ey ez = absurd (omega arith)
four_in (f ∷ []) v w y z a b c d len ev ew ey ez = absurd (omega arith)
four_in (f ∷ g ∷ []) v w y z a b c d len ev ew ey ez = absurd (omega arith)
four_in (f ∷ g ∷ h ∷ []) v w y z a b c d len ev ew ey ez = absurd (omega arith)
four_in (f ∷ g ∷ h ∷ i ∷ []) v w y z a b c d len ev ew ey ez = rw (ev, ew, ey, ez) refl
four_in (f ∷ g ∷ h ∷ i ∷ j ∷ more) v w y z a b c d len ev ew ey ez = absurd (omega arith)

pub four_items : (fs : List (Vec ℕ)) (x : Event) (v w y z : List ℕ) (a b c d : Vec ℕ) → map (λ f. f.items) fs ≡ spelled x
    → v ≡ (get_or fs 0 a).items → w ≡ (get_or fs 1 b).items → y ≡ (get_or fs 2 c).items → z ≡ (get_or fs 3 d).items → v ∷ w ∷ y ∷ z ∷ [] ≡ spelled x
four_items fs x v w y z a b c d is ev ew ey ez =
    let len : length fs ≡ 4 = sym (length-map fs (λ f. f.items)) ∙ ap length is ∙ four_long x in
    four_in fs v w y z a b c d len ev ew ey ez ∙ is

-- ---- records with stamps

pub stamped_more : (xs : List (ℕ × Event)) (i : ℕ) (d : ℕ × Event) → i < length xs → stamped_lines (take (i + 1) xs) ≡ stamped_lines (take i xs) ++ record_text (stamped_fields (get_or xs i d))
unfolding stamped_lines
stamped_more xs i d lt =
    rw (add-one, take-suc xs i d lt, map-append stamped_fields (take i xs) (get_or xs i d ∷ []), flat_map-append record_text (map stamped_fields (take i xs)) (stamped_fields (get_or xs i d) ∷ []), append-nil (record_text (stamped_fields (get_or xs i d))))
    (sym (append_assoc (record_text stamped_header) (flat_map record_text (map stamped_fields (take i xs))) (record_text (stamped_fields (get_or xs i d)))))

-- the record of the event at a place, with its stamp
pub stamped_next : (at : List ℕ) (xs : List Event) (i : ℕ) (n : ℕ) (x : Event) → i < length at → i < length xs → get_or at i n < 2 ^ 64 → EventFits (get_or xs i x)
    → stamped_lines (take i (zip at xs)) ++ row_text default_writer (decimal (get_or at i n) ∷ spelled (get_or xs i x)) ≡ stamped_lines (take (i + 1) (zip at xs))
stamped_next at xs i n x la lx small fits =
    let len : i < length (zip at xs) = omega (arith, length-zip at xs, la, lx) in
    let here : get_or (zip at xs) i (n, x) ≡ (get_or at i n, get_or xs i x) = get_or-zip at xs i (n, x) la lx in
    ap (λ (t : List ℕ). stamped_lines (take i (zip at xs)) ++ t) (stamped_line_of (get_or at i n) (get_or xs i x) small fits ∙ ap (λ (p : ℕ × Event). record_text (stamped_fields p)) (sym here))
    ∙ sym (stamped_more (zip at xs) i (n, x) len)
