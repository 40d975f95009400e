-- A line without its quotes has the same records.
use Rattle.std.proofs.Common.{◌==◌, arith, ◌≡◌, ◌≢◌, ◌++◌, ◌∙◌, ℕ, true, false, List, [], ◌∷◌, Some, length, add-one, append_assoc, append-nil, ap, refl, sym, subst, inl, inr}
use Rattle.std.proofs.lemmas.Bool.Decides.{nat_tests}
use Rattle.csv.specs.Machine.{ends_at_end, field_after, fields_after, is_end, next_record, step}
use Rattle.csv.specs.Reading.{default_config, records, records_from, strip_bom}
use Rattle.csv.specs.declared.parser.Action.TheVariants as act
use Rattle.csv.specs.declared.parser.State.{State}
use Rattle.csv.specs.declared.parser.State.TheVariants as st
use Rattle.snap_format.proofs.RecordSteps.{records_step, records_stop}
use Rattle.snap_format.specs.Rows.{rows_of}
use Rattle.snap_text.specs.Fields.{Fields}
use Rattle.snap_follow.specs.declared.quotes.At.{At}
use Rattle.snap_follow.specs.declared.quotes.At.TheVariants.{Begin, Bare, Quoted, Closed}
use Rattle.snap_follow.specs.inside.Quotes.{IsNotQuoted, IsStripped, Reaches, Stand, Steps}

-- a byte more, which ends no record
reaches_more : (front : List ℕ) (s : State) (fields : Fields) (field : List ℕ) (byte : ℕ) → is_end (step default_config s byte).1 ≡ false → Reaches front s fields field →
    Reaches (front ++ byte ∷ []) (step default_config s byte).0 (fields_after (step default_config s byte).1 fields field) (field_after (step default_config s byte).1 byte field)
unfolding next_record
reaches_more front s fields field byte no_end reaches rest =
    ap (next_record default_config st.StartRecord [] []) (append_assoc front (byte ∷ []) rest) ∙ reaches (byte ∷ rest) ∙ rw no_end refl

-- a byte more, which leaves the fields as they are
reaches_over : (front : List ℕ) (s : State) (fields : Fields) (field : List ℕ) (byte : ℕ) → (step default_config s byte).1 ≡ act.Skip → Reaches front s fields field →
    Reaches (front ++ byte ∷ []) (step default_config s byte).0 fields field
unfolding next_record
reaches_over front s fields field byte skips reaches rest =
    ap (next_record default_config st.StartRecord [] []) (append_assoc front (byte ∷ []) rest) ∙ reaches (byte ∷ rest) ∙ rw skips refl

-- nothing of a line
pub nothing_stripped : (line : List ℕ) → IsStripped line line [] Begin
nothing_stripped line = record {
  front = [];
  whole = refl;
  quoted = st.StartRecord;
  unquoted = st.StartRecord;
  fields = [];
  field = [];
  with_quotes = λ rest. refl;
  without = λ rest. refl;
  stand = (refl, inl refl);
  begun = λ _. refl;
}

-- a quote goes
pub byte_gone : (line left bare : List ℕ) (at next : At) (byte : ℕ) → Steps at byte next false → IsStripped line (byte ∷ left) bare at → IsStripped line left bare next
byte_gone line left bare at next byte steps h =
    let does = steps h.quoted h.unquoted h.stand in
    record {
      front = h.front ++ byte ∷ [];
      whole = h.whole ∙ sym (append_assoc h.front (byte ∷ []) left);
      quoted = (step default_config h.quoted byte).0;
      unquoted = h.unquoted;
      fields = h.fields;
      field = h.field;
      with_quotes = reaches_over h.front h.quoted h.fields h.field byte does.0 h.with_quotes;
      without = h.without;
      stand = does.1;
      begun = h.begun;
    }

-- any other byte stays
pub byte_stays : (line left bare : List ℕ) (at next : At) (byte : ℕ) → Steps at byte next true → IsStripped line (byte ∷ left) bare at → IsStripped line left (bare ++ byte ∷ []) next
byte_stays line left bare at next byte steps h =
    let does = steps h.quoted h.unquoted h.stand in
    let action = (step default_config h.unquoted byte).1 in
    record {
      front = h.front ++ byte ∷ [];
      whole = h.whole ∙ sym (append_assoc h.front (byte ∷ []) left);
      quoted = (step default_config h.quoted byte).0;
      unquoted = (step default_config h.unquoted byte).0;
      fields = fields_after action h.fields h.field;
      field = field_after action byte h.field;
      with_quotes = subst (λ z. Reaches (h.front ++ byte ∷ []) (step default_config h.quoted byte).0 (fields_after z h.fields h.field) (field_after z byte h.field)) does.0
          (reaches_more h.front h.quoted h.fields h.field byte (ap is_end does.0 ∙ does.1) h.with_quotes);
      without = reaches_more bare h.unquoted h.fields h.field byte does.1 h.without;
      stand = does.3;
      begun = λ e. absurd (does.2 e);
    }

-- a text that is read to its end within one record
one_row : (text : List ℕ) (s : State) (fields : Fields) (field : List ℕ) → ends_at_end s ≡ true → strip_bom text ≡ text → Reaches text s fields field → rows_of text ≡ (fields ++ field ∷ []) ∷ []
unfolding next_record
one_row text s fields field ends mark reaches =
    ap (records default_config) mark
    ∙ rw add-one (records_step (length text) st.StartRecord text (fields ++ field ∷ [], st.StartRecord, []) reads)
    ∙ ap (λ z. (fields ++ field ∷ []) ∷ z) (records_stop (length text) st.StartRecord [] refl)
  where
    reads : next_record default_config st.StartRecord [] [] text ≡ Some (fields ++ field ∷ [], st.StartRecord, [])
    reads = ap (next_record default_config st.StartRecord [] []) (sym (append-nil text)) ∙ reaches [] ∙ rw ends refl

-- after some bytes and outside of quotes the end of the line ends a record, with quotes and without them
both_end : (at : At) (q b : State) → IsNotQuoted at → b ≢ st.StartRecord → Stand at q b → (ends_at_end q ≡ true) × (ends_at_end b ≡ true)
both_end Begin q b out some (same, inl s) = absurd (some s)
both_end Begin q b out some (same, inr s) = (ap ends_at_end (same ∙ s), ap ends_at_end s)
both_end Bare q b out some s = (ap ends_at_end s.0, ap ends_at_end s.1)
both_end Quoted q b out some s = absurd out
both_end Closed q b out some (e, inl s) = absurd (some s)
both_end Closed q b out some (e, inr (inl s)) = (ap ends_at_end e, ap ends_at_end s)
both_end Closed q b out some (e, inr (inr s)) = (ap ends_at_end e, ap ends_at_end s)

pub same_rows : (line bare : List ℕ) (at : At) → IsNotQuoted at → bare ≢ [] → strip_bom line ≡ line → strip_bom bare ≡ bare → IsStripped line [] bare at → rows_of bare ≡ rows_of line
same_rows line bare at out some line_mark bare_mark h =
    let ends = both_end at h.quoted h.unquoted out (λ e. some (h.begun e)) h.stand in
    let front : h.front ≡ line = sym (append-nil h.front) ∙ sym h.whole in
    one_row bare h.unquoted h.fields h.field ends.1 bare_mark h.without
    ∙ sym (one_row line h.quoted h.fields h.field ends.0 line_mark (subst (λ z. Reaches z h.quoted h.fields h.field) front h.with_quotes))

-- a text whose first byte is none of a byte order mark
pub no_mark : (a : ℕ) (rest : List ℕ) → (a == 239) ≡ false → strip_bom (a ∷ rest) ≡ a ∷ rest
unfolding strip_bom
no_mark a [] other = refl
no_mark a (b ∷ []) other = refl
no_mark a (b ∷ c ∷ rest) other = rw other refl

pub no_mark_in_nothing : (text : List ℕ) → length text ≡ 0 → strip_bom text ≡ text
unfolding strip_bom
no_mark_in_nothing [] none = refl
no_mark_in_nothing (b ∷ text) none = absurd (omega (arith, none))

-- an empty line has no record
pub no_rows : (line : List ℕ) → (length line == 0) ≡ true → rows_of line ≡ []
unfolding strip_bom records_from next_record
no_rows [] none = refl
no_rows (b ∷ line) none = let some : length (b ∷ line) ≡ 0 → ⊥ = λ e. omega (arith, e) in absurd (some (grind (arith, nat_tests, none)))

-- bytes without length are none
pub no_elements : (bytes : List ℕ) → (length bytes == 0) ≡ true → bytes ≡ []
no_elements [] none = refl
no_elements (b ∷ bytes) none = let some : length (b ∷ bytes) ≡ 0 → ⊥ = λ e. omega (arith, e) in absurd (some (grind (arith, nat_tests, none)))
