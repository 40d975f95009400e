-- A text is one of one history, or it has one first fault.
use Rattle.std.proofs.Common.{◌≡◌, inl, inr, ℕ, true, List, [], ◌∷◌, length, subst, arith, ◌+◌, ◌∙◌, sym, ap}
use Rattle.snap_core.specs.declared.limit.Limit.{Limit}
use Rattle.std.specs.Prelude.{slice_index_or}
use Rattle.snap_core.specs.declared.event.Event.{Event}
use Rattle.snap_text.specs.declared.fault.TextFault.{TextFault}
use Rattle.snap_text.specs.Fields.{Fields}
use Rattle.snap_format.specs.Rows.{rows_of}
use Rattle.snap_format.specs.Layout.{is_header_row, is_stamped_header_row}
use Rattle.snap_format.specs.Faults.{FirstFault, NoFault, fault_at}
use Rattle.snap_format.specs.Stamps.{FirstOf, NoneOf, OrderFault, ShapeFault, StampedFault, StampedRead, events_of, nothing, order_at, shape_at}
use Rattle.snap_format.specs.Texts.{HasFault, IsText, RowsFault, RowsRead}
use Rattle.snap_format.proofs.StampOnce.{none_and_first, one_first, one_place, one_sort}

-- no record is both headers
pub one_header : (r : Fields) → is_header_row r ≡ true → is_stamped_header_row r ≡ true → ⊥
one_header [] a b = cc
one_header (t ∷ []) a b = cc
one_header (t ∷ u ∷ []) a b = cc
one_header (t ∷ u ∷ v ∷ []) a b = cc
one_header (t ∷ u ∷ v ∷ w ∷ []) a b = cc
one_header (t ∷ u ∷ v ∷ w ∷ x ∷ more) a b = cc

not_both : (limit : Limit) (rows : List Fields) (i : ℕ) (f : TextFault) → NoFault limit rows → FirstFault limit rows i f → ⊥
not_both limit rows i f none first = let a = none i first.place in let b = first.fault in cc

stamps_apart : (limit : Limit) (rows : List Fields) (events : List Event) (place : ℕ) (f : TextFault) → StampedRead limit rows events → StampedFault limit rows place f → ⊥
stamps_apart limit rows events place f read (inl fault) = none_and_first _ _ fault.i f read.shapes fault.first
stamps_apart limit rows events place f read (inr fault) =
    let same = one_sort rows read.sorted fault.sorted read.order fault.order in
    none_and_first _ _ fault.i f (subst (λ xs. NoneOf (order_at limit xs) (length xs)) same read.fine) fault.first

rows_apart : (limit : Limit) (rows : List Fields) (events : List Event) (place : ℕ) (f : TextFault) → RowsRead limit rows events → RowsFault limit rows place f → ⊥
rows_apart limit [] events place f read fault = read
rows_apart limit (head ∷ rows) events place f (inl read) (inl fault) = let a = read.0 in let b = fault.0 in cc
rows_apart limit (head ∷ rows) events place f (inl read) (inr (inl fault)) = not_both limit rows fault.1 f read.1 fault.3
rows_apart limit (head ∷ rows) events place f (inl read) (inr (inr fault)) = one_header head read.0 fault.0
rows_apart limit (head ∷ rows) events place f (inr read) (inl fault) = let a = read.0 in let b = fault.1 in cc
rows_apart limit (head ∷ rows) events place f (inr read) (inr (inl fault)) = one_header head fault.0 read.0
rows_apart limit (head ∷ rows) events place f (inr read) (inr (inr fault)) = stamps_apart limit rows events place f read.1 fault.1

pub apart : (limit : Limit) (text : List ℕ) (events : List Event) (place : ℕ) (f : TextFault) → IsText limit text events → HasFault limit text place f → ⊥
apart limit text events place f read (inl fault) = let long = fault.0 in let short = read.0 in omega arith
apart limit text events place f read (inr fault) = rows_apart limit (rows_of text) events place f read.1 fault.1

-- ---- a text is one history's, and has one first fault

one_fault : (limit : Limit) (rows : List Fields) (i j : ℕ) (f g : TextFault) → FirstFault limit rows i f → FirstFault limit rows j g → (i ≡ j) × (f ≡ g)
one_fault limit rows i j f g a b =
    let e = one_place (fault_at limit rows) (length rows) i j f g (moved i f a) (moved j g b) in
    (e, one_first (fault_at limit rows) (length rows) i j f g (moved i f a) (moved j g b))
  where
    moved : (i : ℕ) (f : TextFault) → FirstFault limit rows i f → FirstOf (fault_at limit rows) (length rows) i f
    moved i f a = record { below = a.place; here = a.fault; first = a.first }

shapes_once : (limit : Limit) (rows : List Fields) (p q : ℕ) (f g : TextFault) → ShapeFault limit rows p f → ShapeFault limit rows q g → (p ≡ q) × (f ≡ g)
shapes_once limit rows p q f g a b =
    let e = one_place (shape_at limit rows) (length rows) a.i b.i f g a.first b.first in
    (a.record_is ∙ ap (λ n. n + 2) e ∙ sym b.record_is, one_first (shape_at limit rows) (length rows) a.i b.i f g a.first b.first)

orders_once : (limit : Limit) (rows : List Fields) (p q : ℕ) (f g : TextFault) → OrderFault limit rows p f → OrderFault limit rows q g → (p ≡ q) × (f ≡ g)
orders_once limit rows p q f g a b =
    let same = one_sort rows b.sorted a.sorted b.order a.order in
    let moved = subst (λ xs. FirstOf (order_at limit xs) (length xs) b.i g) same b.first in
    let e = one_place (order_at limit a.sorted) (length a.sorted) a.i b.i f g a.first moved in
    let place : q ≡ (slice_index_or a.sorted b.i nothing).place = b.record_is ∙ ap (λ xs. (slice_index_or xs b.i nothing).place) same in
    (a.record_is ∙ ap (λ n. (slice_index_or a.sorted n nothing).place) e ∙ sym place, one_first (order_at limit a.sorted) (length a.sorted) a.i b.i f g a.first moved)

stamps_once : (limit : Limit) (rows : List Fields) (p q : ℕ) (f g : TextFault) → StampedFault limit rows p f → StampedFault limit rows q g → (p ≡ q) × (f ≡ g)
stamps_once limit rows p q f g (inl a) (inl b) = shapes_once limit rows p q f g a b
stamps_once limit rows p q f g (inl a) (inr b) = absurd (none_and_first _ _ a.i f b.shapes a.first)
stamps_once limit rows p q f g (inr a) (inl b) = absurd (none_and_first _ _ b.i g a.shapes b.first)
stamps_once limit rows p q f g (inr a) (inr b) = orders_once limit rows p q f g a b

rows_once : (limit : Limit) (rows : List Fields) (p q : ℕ) (f g : TextFault) → RowsFault limit rows p f → RowsFault limit rows q g → (p ≡ q) × (f ≡ g)
rows_once limit [] p q f g a b = (a.0 ∙ sym b.0, a.1 ∙ sym b.1)
rows_once limit (head ∷ rows) p q f g (inl a) (inl b) = (a.2 ∙ sym b.2, a.3 ∙ sym b.3)
rows_once limit (head ∷ rows) p q f g (inl a) (inr (inl b)) = let x = a.0 in let y = b.0 in absurd (cc)
rows_once limit (head ∷ rows) p q f g (inl a) (inr (inr b)) = let x = a.1 in let y = b.0 in absurd (cc)
rows_once limit (head ∷ rows) p q f g (inr (inl a)) (inl b) = let x = a.0 in let y = b.0 in absurd (cc)
rows_once limit (head ∷ rows) p q f g (inr (inl a)) (inr (inl b)) =
    let (e, same) = one_fault limit rows a.1 b.1 f g a.3 b.3 in
    (a.2 ∙ ap (λ n. n + 2) e ∙ sym b.2, same)
rows_once limit (head ∷ rows) p q f g (inr (inl a)) (inr (inr b)) = absurd (one_header head a.0 b.0)
rows_once limit (head ∷ rows) p q f g (inr (inr a)) (inl b) = let x = a.0 in let y = b.1 in absurd (cc)
rows_once limit (head ∷ rows) p q f g (inr (inr a)) (inr (inl b)) = absurd (one_header head b.0 a.0)
rows_once limit (head ∷ rows) p q f g (inr (inr a)) (inr (inr b)) = stamps_once limit rows p q f g a.1 b.1

pub fault_once : (limit : Limit) (text : List ℕ) (p q : ℕ) (f g : TextFault) → HasFault limit text p f → HasFault limit text q g → (p ≡ q) × (f ≡ g)
fault_once limit text p q f g (inl a) (inl b) = (a.1 ∙ sym b.1, a.2 ∙ sym b.2)
fault_once limit text p q f g (inl a) (inr b) = let x = a.0 in let y = b.0 in absurd (omega arith)
fault_once limit text p q f g (inr a) (inl b) = let x = a.0 in let y = b.0 in absurd (omega arith)
fault_once limit text p q f g (inr a) (inr b) = rows_once limit (rows_of text) p q f g a.1 b.1

pub read_once : (limit : Limit) (rows : List Fields) (xs ys : List Event) → RowsRead limit rows xs → RowsRead limit rows ys → xs ≡ ys
read_once limit [] xs ys a b = absurd a
read_once limit (head ∷ rows) xs ys (inl a) (inl b) = a.2 ∙ sym b.2
read_once limit (head ∷ rows) xs ys (inl a) (inr b) = absurd (one_header head a.0 b.0)
read_once limit (head ∷ rows) xs ys (inr a) (inl b) = absurd (one_header head b.0 a.0)
read_once limit (head ∷ rows) xs ys (inr a) (inr b) = a.1.history ∙ ap events_of (one_sort rows a.1.sorted b.1.sorted a.1.order b.1.order) ∙ sym b.1.history

pub text_once : (limit : Limit) (text : List ℕ) (xs ys : List Event) → IsText limit text xs → IsText limit text ys → xs ≡ ys
text_once limit text xs ys a b = read_once limit (rows_of text) xs ys a.1 b.1
