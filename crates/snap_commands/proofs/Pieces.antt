-- Painted texts one after the other, and what goes out of them.
use Rattle.std.proofs.Common.{◌≡◌, ◌≤◌, ◌+◌, ◌-◌, ◌++◌, ◌∷◌, [], ◌∙◌, List, None, Option, Result, Some, Ok, Err, OnErr, OnOk, ap, ap₂, arith, drop, length, length-append, subst, sym, take, ℕ}
use Rattle.std.specs.Io.KnownBytes.{Appends}
use Rattle.std.proofs.KnownBytes.{Appends-nil, Appends-trans}
use Rattle.std.proofs.lemmas.List.{append-nil, drop-drop, take-append-drop, take-append-le}
use Rattle.std.proofs.lemmas.List.Concat.{flat_map-append}
use Rattle.std.proofs.Math.Seq.{take-add, take-append-add}
use Rattle.snap_core.specs.Sending.{Sends, SendsFront}
use Rattle.snap_commands.specs.Painting.{CutsPainted, IsColor, IsPainted, Piece, SendsPainted, plain, shown}

-- a part in a colour, and a part as it is

one_piece : (piece : Piece) → IsPainted piece.part (shown piece)
one_piece piece = record { pieces = piece ∷ []; parts = sym (append-nil piece.part); all = sym (append-nil (shown piece)) }

as_it_is : (part : List ℕ) → IsPainted part part
as_it_is part = one_piece (record { color = None; part = part; is_color = tt })

painted_both : (xs ys us vs : List ℕ) → IsPainted xs us → IsPainted ys vs → IsPainted (xs ++ ys) (us ++ vs)
painted_both xs ys us vs a b =
    record {
      pieces = a.pieces ++ b.pieces;
      parts = ap₂ (λ (l m : List ℕ). l ++ m) a.parts b.parts ∙ sym (flat_map-append (λ (p : Piece). p.part) a.pieces b.pieces);
      all = ap₂ (λ (l m : List ℕ). l ++ m) a.all b.all ∙ sym (flat_map-append shown a.pieces b.pieces);
    }

-- the front of a line in a colour, and the rest of the line after that
pub colored : (color front rest : List ℕ) → IsColor color → IsPainted (front ++ rest) (((color ++ front) ++ plain) ++ rest)
colored color front rest is = painted_both front rest ((color ++ front) ++ plain) rest (one_piece (record { color = Some color; part = front; is_color = is })) (as_it_is rest)

-- what goes out after what has gone out

pub front_more : (a b c : Option (List ℕ)) (xs ys : List ℕ) → Appends a b xs → SendsFront b c ys → SendsFront a c (xs ++ ys)
front_more a b c xs ys p q = (length xs + q.0, omega (arith, length-append xs ys, q.1), rw (take-append-add xs ys q.0) (Appends-trans a b c xs (take q.0 ys) p q.2))

pub front_longer : (a b : Option (List ℕ)) (xs ys : List ℕ) → SendsFront a b xs → SendsFront a b (xs ++ ys)
front_longer a b xs ys p = (p.0, omega (arith, length-append xs ys, p.1), subst (λ (l : List ℕ). Appends a b l) (sym (take-append-le p.0 xs ys p.1)) p.2)

pub sends_more : {T E : Type 0} (a b c : Option (List ℕ)) (xs ys : List ℕ) (result : Result T E) → Appends a b xs → Sends b c ys result → Sends a c (xs ++ ys) result
sends_more a b c xs ys (Ok u) p q = Appends-trans a b c xs ys p q
sends_more a b c xs ys (Err e) p q = front_more a b c xs ys p q

-- by the end of a send, all of it went out or a front

pub whole_sent : {T E : Type 0} (a b : Option (List ℕ)) (text out : List ℕ) (result : Result T E) → IsPainted text out → Sends a b out result → OnOk result (SendsPainted a b text)
whole_sent a b text out (Ok u) is sent = record { out = out; painted = is; sent = sent }
whole_sent a b text out (Err e) is sent = tt

pub front_sent : {T E : Type 0} (a b : Option (List ℕ)) (text out : List ℕ) (result : Result T E) → IsPainted text out → Sends a b out result → OnErr result (CutsPainted a b text)
front_sent a b text out (Ok u) is sent = tt
front_sent a b text out (Err e) is sent = record { out = out; painted = is; sent = sent }

pub whatever_error : {T E : Type 0} (P : Type 0) (result : Result T E) → P → OnErr result P
whatever_error P (Ok v) p = tt
whatever_error P (Err e) p = p

-- one text after another

pub none_sent : (a : Option (List ℕ)) → SendsPainted a a []
none_sent a = record { out = []; painted = as_it_is []; sent = Appends-nil a }

pub part_sent : (a b : Option (List ℕ)) (part : List ℕ) → Appends a b part → SendsPainted a b part
part_sent a b part sent = record { out = part; painted = as_it_is part; sent = sent }

pub part_cut : (a b : Option (List ℕ)) (part rest : List ℕ) → SendsFront a b part → CutsPainted a b (part ++ rest)
part_cut a b part rest sent = record { out = part ++ rest; painted = as_it_is (part ++ rest); sent = front_longer a b part rest sent }

pub sent_both : (a b c : Option (List ℕ)) (xs ys : List ℕ) → SendsPainted a b xs → SendsPainted b c ys → SendsPainted a c (xs ++ ys)
sent_both a b c xs ys p q = record { out = p.out ++ q.out; painted = painted_both xs ys p.out q.out p.painted q.painted; sent = Appends-trans a b c p.out q.out p.sent q.sent }

pub cut_behind : (a b c : Option (List ℕ)) (xs ys : List ℕ) → SendsPainted a b xs → CutsPainted b c ys → CutsPainted a c (xs ++ ys)
cut_behind a b c xs ys p q = record { out = p.out ++ q.out; painted = painted_both xs ys p.out q.out p.painted q.painted; sent = front_more a b c p.out q.out p.sent q.sent }

pub cut_before : (a b : Option (List ℕ)) (xs rest : List ℕ) → CutsPainted a b xs → CutsPainted a b (xs ++ rest)
cut_before a b xs rest p = record { out = p.out ++ rest; painted = painted_both xs rest p.out rest p.painted (as_it_is rest); sent = front_longer a b p.out rest p.sent }

-- two parts of a text, one after the other
pub parts_joined : (text : List ℕ) (i j k : ℕ) → i ≤ j → j ≤ k → take (j - i) (drop i text) ++ take (k - j) (drop j text) ≡ take (k - i) (drop i text)
parts_joined text i j k first second =
    let here : drop (j - i) (drop i text) ≡ drop j text = drop-drop (j - i) i text ∙ ap (λ n. drop n text) (omega (arith, first)) in
    let long : (j - i) + (k - j) ≡ k - i = omega (arith, first, second) in
    ap (λ (l : List ℕ). take (j - i) (drop i text) ++ take (k - j) l) (sym here) ∙ sym (take-add (j - i) (k - j) (drop i text)) ∙ ap (λ n. take n (drop i text)) long

pub front_joined : (text : List ℕ) (i k : ℕ) → i ≤ k → take i text ++ take (k - i) (drop i text) ≡ take k text
front_joined text i k low = sym (take-add i (k - i) text) ∙ ap (λ n. take n text) (omega (arith, low))

-- the rest of a text after a front that is painted
pub rest_painted : (a b : Option (List ℕ)) (text : List ℕ) (i : ℕ) → (front : SendsPainted a b (take i text)) → IsPainted text (front.out ++ drop i text)
rest_painted a b text i front = subst (λ (l : List ℕ). IsPainted l (front.out ++ drop i text)) (take-append-drop i text) (painted_both (take i text) (drop i text) front.out (drop i text) front.painted (as_it_is (drop i text)))
