-- What `csv` reads of a plain text, field by field.
use Rattle.std.proofs.Common.{cond, drop, take, ◌≡◌, ◌<◌, ◌≤◌, ◌==◌, ◌+◌, ◌++◌, ◌⊎◌, inl, inr, ℕ, zero, suc, Bool, true, false, List, [], ◌∷◌, length, get_or, All, Option, Some, None, refl, sym, ap, ◌∙◌, subst, arith, append-nil, append_assoc}
use Rattle.std.specs.Prelude.{◌≢◌, ◌↔◌, ◌&&◌, IsTrue, is_none, slice_index}
use Rattle.memchr.specs.Find.{IsFirstByte, is_byte2}
use Rattle.std.proofs.lemmas.Bool.Decides.{nat_tests}
use Rattle.std.proofs.lemmas.List.{length-append}
use Rattle.std.proofs.lemmas.List.Elements.{All-append, All-cons, All-from_get_or, All-get_or, All-head, All-nil, All-tail}
use Rattle.csv.specs.Machine.{Read, ends_at_end, field_after, fields_after, in_field, is_end, next_record, step}
use Rattle.csv.specs.Reading.{default_config, records_from}
use Rattle.csv.specs.declared.parser.State.{State}
use Rattle.csv.specs.declared.parser.State.TheVariants as st
use Rattle.csv.specs.declared.parser.Action.TheVariants as act
use Rattle.snap_plain.specs.Lines.{EndsWith, EndsWithOthers, FieldGoesOn, FieldIsLast, HasRows, IsInner, IsPlain, IsRest}
use Rattle.snap_text.specs.Fields.{Fields}
use Rattle.snap_format.proofs.RecordSteps.{records_step, some_fuel}

-- ---- one byte

-- a state in which a plain byte is taken as in the middle of a field
InLine : State → Type 0
InLine s = (c : ℕ) → IsPlain c → step default_config s c ≡ in_field default_config c

in_field_line : InLine st.InField
unfolding InLine
in_field_line c plain = refl

start_line : InLine st.StartField
unfolding InLine
start_line c plain =
    let quote : (c == 34) ≡ false = grind (arith, nat_tests, plain.0) in
    rw quote refl

copied : (c : ℕ) → IsPlain c → IsInner c → in_field default_config c ≡ (st.InField, act.Copy)
copied c plain inner =
    let comma : (c == 44) ≡ false = grind (arith, nat_tests, inner.0) in
    let return : (c == 13) ≡ false = grind (arith, nat_tests, plain.1) in
    let feed : (c == 10) ≡ false = grind (arith, nat_tests, inner.1) in
    rw (comma, return, feed) refl

-- the first byte of a record is that of its first field
pub begun : (c : ℕ) (text : List ℕ) → IsPlain c → c ≢ 10 → next_record default_config st.StartRecord [] [] (c ∷ text) ≡ next_record default_config st.StartField [] [] (c ∷ text)
unfolding next_record
begun c text plain line =
    let return : (c == 13) ≡ false = grind (arith, nat_tests, plain.1) in
    let feed : (c == 10) ≡ false = grind (arith, nat_tests, line) in
    rw (return, feed) refl

-- ---- one field

comma_plain : IsPlain 44
comma_plain = (λ e. absurd (omega (arith, e)), λ e. absurd (omega (arith, e)))

newline_plain : IsPlain 10
newline_plain = (λ e. absurd (omega (arith, e)), λ e. absurd (omega (arith, e)))

comma_now : (s : State) (fs : Fields) (p rest : List ℕ) → step default_config s 44 ≡ (st.StartField, act.EndField)
    → next_record default_config s fs p (44 ∷ rest) ≡ next_record default_config st.StartField (fs ++ p ∷ []) [] rest
unfolding next_record
comma_now s fs p rest e = rw e refl

after_comma : (s : State) (fs : Fields) (p f rest : List ℕ) → InLine s → All IsPlain f → All IsInner f
    → next_record default_config s fs p (f ++ 44 ∷ rest) ≡ next_record default_config st.StartField (fs ++ (p ++ f) ∷ []) [] rest
unfolding next_record InLine
after_comma s fs p [] rest line plain inner = comma_now s fs p rest (line 44 comma_plain) ∙ ap (λ (q : List ℕ). next_record default_config st.StartField (fs ++ q ∷ []) [] rest) (sym (append-nil p))
after_comma s fs p (c ∷ f) rest line plain inner =
    rw (line c (All-head IsPlain c f plain) ∙ copied c (All-head IsPlain c f plain) (All-head IsInner c f inner)) (after_comma st.InField fs (p ++ c ∷ []) f rest in_field_line (All-tail IsPlain c f plain) (All-tail IsInner c f inner)
    ∙ ap (λ (q : List ℕ). next_record default_config st.StartField (fs ++ q ∷ []) [] rest) (append_assoc p (c ∷ []) f))

after_newline : (s : State) (fs : Fields) (p f rest : List ℕ) → InLine s → All IsPlain f → All IsInner f
    → next_record default_config s fs p (f ++ 10 ∷ rest) ≡ Some (fs ++ (p ++ f) ∷ [], st.StartRecord, rest)
unfolding next_record InLine
after_newline s fs p [] rest line plain inner = rw (line 10 newline_plain, append-nil p) refl
after_newline s fs p (c ∷ f) rest line plain inner =
    rw (line c (All-head IsPlain c f plain) ∙ copied c (All-head IsPlain c f plain) (All-head IsInner c f inner)) (after_newline st.InField fs (p ++ c ∷ []) f rest in_field_line (All-tail IsPlain c f plain) (All-tail IsInner c f inner)
    ∙ ap (λ (q : List ℕ). Some (fs ++ q ∷ [], st.StartRecord, rest)) (append_assoc p (c ∷ []) f))

at_end : (s : State) (fs : Fields) (p f : List ℕ) → InLine s → ends_at_end s ≡ true → All IsPlain f → All IsInner f
    → next_record default_config s fs p f ≡ Some (fs ++ (p ++ f) ∷ [], st.StartRecord, [])
unfolding next_record InLine
at_end s fs p [] line end plain inner = rw (end, append-nil p) refl
at_end s fs p (c ∷ f) line end plain inner =
    rw (line c (All-head IsPlain c f plain) ∙ copied c (All-head IsPlain c f plain) (All-head IsInner c f inner)) (at_end st.InField fs (p ++ c ∷ []) f in_field_line refl (All-tail IsPlain c f plain) (All-tail IsInner c f inner)
    ∙ ap (λ (q : List ℕ). Some (fs ++ q ∷ [], st.StartRecord, [])) (append_assoc p (c ∷ []) f))

-- a text is plain just where no quote and no carriage return is found in it

passes_not : (text : List ℕ) (i : ℕ) → ((is_byte2 34 13 (slice_index text i) ≡ true) → ⊥) → IsPlain (get_or text i 0)
passes_not text i h = (λ quote. h (rw quote refl), λ return. h (rw return refl))

marked_not : (b : ℕ) → IsPlain b → is_byte2 34 13 b ≡ true → ⊥
marked_not b plain mark =
    let quote : (b == 34) ≡ false = grind (arith, nat_tests, plain.0) in
    let return : (b == 13) ≡ false = grind (arith, nat_tests, plain.1) in
    let none : false ≡ true = rw (quote, return) at mark in
    absurd cc

pub plain_by_search : (text : List ℕ) (o : Option ℕ) → IsFirstByte (is_byte2 34 13) text o → IsTrue (is_none o) ↔ All IsPlain text
plain_by_search text None found = (λ none. All-from_get_or IsPlain text 0 (λ i lt. passes_not text i (found i (omega arith) lt)), λ plain. refl)
plain_by_search text (Some k) found = (λ none. absurd cc, λ plain. absurd (marked_not (slice_index text k) (All-get_or IsPlain text k 0 found.0.high plain) found.1))

-- the bytes of two parts are inner where those of each are

pub both_parts : (n m : ℕ) (xs : List ℕ) → All IsInner (take n xs) → All IsInner (take m (drop n xs)) → All IsInner (take (n + m) xs)
both_parts zero m xs a b = let e : m ≡ zero + m = omega arith in subst (λ z. All IsInner (take z xs)) e b
both_parts (suc n) m [] a b = let e : suc (n + m) ≡ suc n + m = omega arith in subst (λ z. All IsInner (take z [])) e (All-nil IsInner)
both_parts (suc n) m (x ∷ xs) a b =
    let e : suc (n + m) ≡ suc n + m = omega arith in
    subst (λ z. All IsInner (take z (x ∷ xs))) e (All-cons IsInner x (take (n + m) xs) (All-head IsInner x (take n xs) a) (both_parts n m xs (All-tail IsInner x (take n xs) a) b))

pub inner_first : (m : ℕ) (xs : List ℕ) → ((i : ℕ) → i < m → IsInner (get_or xs i 0)) → All IsInner (take m xs)
inner_first zero xs h = All-nil IsInner
inner_first (suc m) [] h = All-nil IsInner
inner_first (suc m) (x ∷ xs) h = All-cons IsInner x (take m xs) (h zero (omega arith)) (inner_first m xs (λ i l. h (suc i) (omega (arith, l))))

-- the two parts of a plain text are plain
plain_front : (f rest : List ℕ) → All IsPlain (f ++ rest) → All IsPlain f
plain_front [] rest h = All-nil IsPlain
plain_front (c ∷ f) rest h = All-cons IsPlain c f (All-head IsPlain c (f ++ rest) h) (plain_front f rest (All-tail IsPlain c (f ++ rest) h))

plain_rest : (f rest : List ℕ) → All IsPlain (f ++ rest) → All IsPlain rest
plain_rest [] rest h = h
plain_rest (c ∷ f) rest h = plain_rest f rest (All-tail IsPlain c (f ++ rest) h)

-- a text and a piece after it are plain where both are
pub plain_with : (a b : Bool) (text piece : List ℕ) → (IsTrue a ↔ All IsPlain text) → (IsTrue b ↔ All IsPlain piece) → IsTrue (a && b) ↔ All IsPlain (text ++ piece)
plain_with true b text piece h k = (λ is. All-append IsPlain text piece (h.0 refl) (k.0 is), λ plain. k.1 (plain_rest text piece plain))
plain_with false b text piece h k = (λ is. absurd cc, λ plain. h.1 (plain_front text piece plain))

-- a rest of a rest

pub rest_of_rest : (rest left text : List ℕ) → IsRest rest left → IsRest left text → IsRest rest text
rest_of_rest rest left text (f, e) (g, h) = (g ++ f, h ∙ ap (λ (q : List ℕ). g ++ q) e ∙ sym (append_assoc g f rest))

behind_mark : (f : List ℕ) (mark : ℕ) (rest text : List ℕ) → text ≡ f ++ mark ∷ rest → IsRest rest text
behind_mark f mark rest text e = (f ++ mark ∷ [], e ∙ sym (append_assoc f (mark ∷ []) rest))

-- the record goes on after a comma
pub record Goes (fs : Fields) (f rest text : List ℕ) : Type 0 where
  pub plain : All IsPlain rest
  pub behind : IsRest rest text
  pub shorter : length rest < length text
  pub reads : next_record default_config st.StartField fs [] text ≡ next_record default_config st.StartField (fs ++ f ∷ []) [] rest

pub goes_on : (fs : Fields) (f rest text : List ℕ) → All IsPlain text → FieldGoesOn f rest text → Goes fs f rest text
goes_on fs f rest text plain h =
    let all = subst (All IsPlain) h.whole plain in
    record {
      plain = All-tail IsPlain 44 rest (plain_rest f (44 ∷ rest) all);
      behind = behind_mark f 44 rest text h.whole;
      shorter = omega (arith, ap length h.whole, length-append f (44 ∷ rest));
      reads = ap (next_record default_config st.StartField fs []) h.whole ∙ after_comma st.StartField fs [] f rest start_line (plain_front f (44 ∷ rest) all) h.inner;
    }

-- and ends at a newline, or with the text
pub record Ends (fs : Fields) (f rest text : List ℕ) : Type 0 where
  pub plain : All IsPlain rest
  pub behind : IsRest rest text
  pub shorter : length rest ≤ length text
  pub reads : next_record default_config st.StartField fs [] text ≡ Some (fs ++ f ∷ [], st.StartRecord, rest)

pub is_last : (fs : Fields) (f rest text : List ℕ) → All IsPlain text → FieldIsLast f rest text → Ends fs f rest text
is_last fs f rest text plain h = go h.whole
  where
    go : (text ≡ f ++ 10 ∷ rest) ⊎ ((text ≡ f) × (rest ≡ [])) → Ends fs f rest text
    go (inl line) =
        let all = subst (All IsPlain) line plain in
        record {
          plain = All-tail IsPlain 10 rest (plain_rest f (10 ∷ rest) all);
          behind = behind_mark f 10 rest text line;
          shorter = omega (arith, ap length line, length-append f (10 ∷ rest));
          reads = ap (next_record default_config st.StartField fs []) line ∙ after_newline st.StartField fs [] f rest start_line (plain_front f (10 ∷ rest) all) h.inner;
        }
    go (inr (all, none)) = rw none (record {
      plain = All-nil IsPlain;
      behind = (f, all ∙ sym (append-nil f));
      shorter = omega arith;
      reads = ap (next_record default_config st.StartField fs []) all ∙ at_end st.StartField fs [] f start_line refl (subst (All IsPlain) all plain) h.inner;
    })

-- where a field is read, one more than those before it is
More : Fields → Option Read → Type 0
More fs None = ⊥
More fs (Some r) = length fs < length r.0

more_than : (fs gs : Fields) (o : Option Read) → length fs ≤ length gs → More gs o → More fs o
unfolding More
more_than fs gs None le h = h
more_than fs gs (Some r) le h = omega (arith, h)

kinds : (c : ℕ) → c ≢ 13 → (in_field default_config c ≡ (st.StartField, act.EndField)) ⊎ (in_field default_config c ≡ (st.StartRecord, act.EndRecord)) ⊎ (in_field default_config c ≡ (st.InField, act.Copy))
kinds c h = go (c == 44) (c == 10) refl refl
  where
    return : (c == 13) ≡ false
    return = grind (arith, nat_tests, h)

    go : (comma feed : Bool) → (c == 44) ≡ comma → (c == 10) ≡ feed
        → (in_field default_config c ≡ (st.StartField, act.EndField)) ⊎ (in_field default_config c ≡ (st.StartRecord, act.EndRecord)) ⊎ (in_field default_config c ≡ (st.InField, act.Copy))
    go true feed e g = inl (rw e refl)
    go false true e g = inr (inl (rw (e, return, g) refl))
    go false false e g = inr (inr (rw (e, return, g) refl))

some_more : (s : State) (fs : Fields) (p text : List ℕ) → InLine s → ends_at_end s ≡ true → All IsPlain text → More fs (next_record default_config s fs p text)
unfolding next_record InLine More
some_more s fs p [] line end plain = rw end (omega (arith, length-append fs (p ∷ [])))
some_more s fs p (c ∷ text) line end plain =
    rw (line c (All-head IsPlain c text plain)) (go (kinds c (All-head IsPlain c text plain).1)
    (some_more st.StartField (fs ++ p ∷ []) [] text start_line refl (All-tail IsPlain c text plain))
    (some_more st.InField fs (p ++ c ∷ []) text in_field_line refl (All-tail IsPlain c text plain)))
  where
    go : (in_field default_config c ≡ (st.StartField, act.EndField)) ⊎ (in_field default_config c ≡ (st.StartRecord, act.EndRecord)) ⊎ (in_field default_config c ≡ (st.InField, act.Copy))
        → More (fs ++ p ∷ []) (next_record default_config st.StartField (fs ++ p ∷ []) [] text) → More fs (next_record default_config st.InField fs (p ++ c ∷ []) text)
        → More fs (cond (is_end (in_field default_config c).1) (Some (fields_after (in_field default_config c).1 fs p, (in_field default_config c).0, text))
        (next_record default_config (in_field default_config c).0 (fields_after (in_field default_config c).1 fs p) (field_after (in_field default_config c).1 c p) text))
    go (inl e) next same = rw e (more_than fs (fs ++ p ∷ []) _ (omega (arith, length-append fs (p ∷ []))) next)
    go (inr (inl e)) next same = rw e (omega (arith, length-append fs (p ∷ [])))
    go (inr (inr e)) next same = rw e same

-- ---- a record

-- these fields of a line are read, and the next begins with this rest
pub record Upto (fs : Fields) (rest text : List ℕ) : Type 0 where
  pub plain : All IsPlain rest
  pub behind : IsRest rest text
  pub shorter : length rest + length fs ≤ length text
  pub reads : (before : Fields) → next_record default_config st.StartField before [] text ≡ next_record default_config st.StartField (before ++ fs) [] rest

pub upto_first : (text : List ℕ) → All IsPlain text → Upto [] text text
upto_first text plain = record { plain = plain; behind = ([], refl); shorter = omega arith; reads = λ before. ap (λ (q : Fields). next_record default_config st.StartField q [] text) (sym (append-nil before)) }

pub upto_next : (fs : Fields) (f rest left text : List ℕ) → Upto fs left text → FieldGoesOn f rest left → Upto (fs ++ f ∷ []) rest text
upto_next fs f rest left text h field =
    let goes = λ (before : Fields). goes_on (before ++ fs) f rest left h.plain field in
    record {
      plain = (goes []).plain;
      behind = rest_of_rest rest left text (goes []).behind h.behind;
      shorter = omega (arith, h.shorter, (goes []).shorter, length-append fs (f ∷ []));
      reads = λ before. h.reads before ∙ (goes before).reads ∙ ap (λ (q : Fields). next_record default_config st.StartField q [] rest) (append_assoc before fs (f ∷ []));
    }

pub too_few : (count : ℕ) (text : List ℕ) (fs : Fields) (left f rest : List ℕ) → (All IsPlain text → Upto fs left text) → FieldIsLast f rest left → length fs + 1 < count → EndsWithOthers count text
too_few count text fs left f rest upto field few plain before =
    let u = upto plain in (
      ((before ++ fs) ++ f ∷ [], st.StartRecord, rest),
      u.reads before ∙ (is_last (before ++ fs) f rest left u.plain field).reads,
      λ same. omega (arith, same, length-append (before ++ fs) (f ∷ []), length-append before fs),
    )

pub too_many : (text : List ℕ) (fs : Fields) (left : List ℕ) → (All IsPlain text → Upto fs left text) → EndsWithOthers (length fs) text
unfolding More
too_many text fs left upto plain before = go (next_record default_config st.StartField (before ++ fs) [] left) refl (some_more st.StartField (before ++ fs) [] left start_line refl (upto plain).plain)
  where
    go : (o : Option Read) → next_record default_config st.StartField (before ++ fs) [] left ≡ o → More (before ++ fs) o
        → (r : Read) × (next_record default_config st.StartField before [] text ≡ Some r) × (length r.0 ≢ length before + length fs)
    go None e more = absurd more
    go (Some r) e more = (r, (upto plain).reads before ∙ e, λ same. omega (arith, more, same, length-append before fs))

pub just_these : (text : List ℕ) (fs : Fields) (left f rest : List ℕ) → (All IsPlain text → Upto fs left text) → FieldIsLast f rest left → 0 < length fs → EndsWith (fs ++ f ∷ []) rest text
just_these text fs left f rest upto field some plain =
    let u = upto plain in
    let last = λ (before : Fields). is_last (before ++ fs) f rest left u.plain field in
    record {
      plain = (last []).plain;
      behind = rest_of_rest rest left text (last []).behind u.behind;
      shorter = omega (arith, u.shorter, (last []).shorter, some);
      reads = λ before. u.reads before ∙ (last before).reads ∙ ap (λ (q : Fields). Some (q, st.StartRecord, rest)) (append_assoc before fs (f ∷ []));
    }

-- one field more in front

pub one_more : (f left text rest : List ℕ) (fs : Fields) → FieldGoesOn f left text → EndsWith fs rest left → EndsWith (f ∷ fs) rest text
one_more f left text rest fs field ends plain =
    let goes = λ (before : Fields). goes_on before f left text plain field in
    let h = ends (goes []).plain in
    record {
      plain = h.plain;
      behind = rest_of_rest rest left text h.behind (goes []).behind;
      shorter = omega (arith, (goes []).shorter, h.shorter);
      reads = λ before. (goes before).reads ∙ h.reads (before ++ f ∷ []) ∙ ap (λ (q : Fields). Some (q, st.StartRecord, rest)) (append_assoc before (f ∷ []) fs);
    }

pub others_too : (f left text : List ℕ) (count : ℕ) → FieldGoesOn f left text → EndsWithOthers count left → EndsWithOthers (count + 1) text
others_too f left text count field ends plain before =
    let goes = goes_on before f left text plain field in
    let (r, e, other) = ends goes.plain (before ++ f ∷ []) in
    (r, goes.reads ∙ e, λ same. other (omega (arith, same, length-append before (f ∷ []))))

-- the first record of a text

first_read : (text : List ℕ) (r : Read) → 0 < length text → get_or text 0 0 ≢ 10 → All IsPlain text → next_record default_config st.StartField [] [] text ≡ Some r → next_record default_config st.StartRecord [] [] text ≡ Some r
first_read [] r some line plain e = absurd (omega arith)
first_read (c ∷ text) r some line plain e = begun c text (All-head IsPlain c text plain) line ∙ e

first_row : (text : List ℕ) (rows : List Fields) (h : HasRows text rows) (r : Read) → 0 < length text → get_or text 0 0 ≢ 10 → next_record default_config st.StartField [] [] text ≡ Some r
    → (m : ℕ) × (h.fuel ≡ suc m) × (rows ≡ r.0 ∷ records_from default_config m r.1 r.2)
first_row text rows h r some line e =
    let (m, fuel) = some_fuel text h.fuel h.enough in
    (m, fuel, sym (rw fuel at h.gives) ∙ records_step m st.StartRecord text r (first_read text r some line h.plain e))

pub row_of_fields : (text rest : List ℕ) (fs : Fields) (rows : List Fields) → 0 < length text → get_or text 0 0 ≢ 10 → EndsWith fs rest text → HasRows text rows
    → (later : List Fields) × (rows ≡ fs ∷ later) × HasRows rest later
row_of_fields text rest fs rows some line ends h =
    let has = ends h.plain in
    let (m, fuel, e) = first_row text rows h (fs, st.StartRecord, rest) some line (has.reads []) in
    (records_from default_config m st.StartRecord rest, e, record { plain = has.plain; fuel = m; enough = omega (arith, h.enough, has.shorter, fuel); gives = refl })

pub row_of_others : (text : List ℕ) (count : ℕ) (rows : List Fields) → 0 < length text → get_or text 0 0 ≢ 10 → EndsWithOthers count text → HasRows text rows
    → (row : Fields) × (later : List Fields) × (rows ≡ row ∷ later) × (length row ≢ count)
row_of_others text count rows some line ends h =
    let (r, reads, other) = ends h.plain [] in
    let (m, fuel, e) = first_row text rows h r some line reads in
    (r.0, records_from default_config m r.1 r.2, e, λ same. other (omega (arith, same)))
