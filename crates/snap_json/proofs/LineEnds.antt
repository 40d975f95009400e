-- A line feed after the text of some tokens: a reader finds the same tokens.
use Rattle.std.proofs.Common.{◌≡◌, ℕ, Bool, true, false, cond, ◌&&◌, List, [], ◌∷◌, ◌++◌, refl, sym, ap, ap₂, ◌∙◌, append_assoc, append-nil, codes, subst}
use Rattle.json.specs.Token.{Token, begin_object, end_object, begin_array, end_array, key, string, number, boolean, null, bad}
use Rattle.json.specs.Word.{ends_word, word}
use Rattle.json.specs.Lex.{Lexeme, token, comma, colon, string_token, lex, between, fresh, punctuate, tokens}
use Rattle.json.specs.Print.{escape, quoted, token_text, begins, ends, print_from, print, IsPrintableOrBad, ArePrintableOrBad}
use Rattle.json.proofs.Printed.Strings.{content-escape, lex-escape}
use Rattle.json.proofs.Printed.Numbers.{lex-number, in_word-ended}
use Rattle.json.proofs.Numbered.{ArePrintableOrBad-tokens_at}
use Rattle.json.specs.declared.reader.Place.TheVariants.{Fresh}

-- what the lexer gives of a token's text, before what it gives of the rest
abbrev lexed : Token → List Lexeme → List Lexeme
lexed begin_object ls = token begin_object ∷ ls
lexed end_object ls = token end_object ∷ ls
lexed begin_array ls = token begin_array ∷ ls
lexed end_array ls = token end_array ∷ ls
lexed (key s) ls = token (string s) ∷ colon ∷ ls
lexed (string s) ls = token (string s) ∷ ls
lexed (number s) ls = token (number s) ∷ ls
lexed (boolean b) ls = token (boolean b) ∷ ls
lexed null ls = token null ∷ ls
lexed bad ls = ls

lex-quoted : (s r : List ℕ) → lex between (quoted s ++ r) ≡ token (string s) ∷ lex between r
unfolding lex
lex-quoted s r =
    let e = append_assoc (escape s) (34 ∷ []) r in
    ap (λ l. lex between (34 ∷ l)) e ∙ ap₂ (λ o l. token (string_token o) ∷ l) (content-escape s r) (lex-escape s r)

lex-token_text : (t : Token) (r : List ℕ) → IsPrintableOrBad t → (ends t ≡ true → ends_word r ≡ true) → lex between (token_text t ++ r) ≡ lexed t (lex between r)
unfolding lex word
lex-token_text begin_object r h ended = refl
lex-token_text end_object r h ended = refl
lex-token_text begin_array r h ended = refl
lex-token_text end_array r h ended = refl
lex-token_text (key s) r h ended = ap (lex between) (append_assoc (quoted s) (58 ∷ []) r) ∙ lex-quoted s (58 ∷ r)
lex-token_text (string s) r h ended = lex-quoted s r
lex-token_text (number s) r h ended = lex-number s r h (ended refl)
lex-token_text (boolean true) r h ended = ap₂ (λ b l. token (cond b (boolean true) bad) ∷ l) (ended refl) (in_word-ended r (ended refl))
lex-token_text (boolean false) r h ended = ap₂ (λ b l. token (cond b (boolean false) bad) ∷ l) (ended refl) (in_word-ended r (ended refl))
lex-token_text null r h ended = ap₂ (λ b l. token (cond b null bad) ∷ l) (ended refl) (in_word-ended r (ended refl))
lex-token_text bad r h ended = refl

-- after a value stands a comma, a closing bracket or the rest
after_value_ends : (ts : List Token) (r : List ℕ) → ends_word r ≡ true → ends_word (print_from true ts ++ r) ≡ true
unfolding print_from
after_value_ends [] r e = e
after_value_ends (begin_object ∷ ts) r e = refl
after_value_ends (end_object ∷ ts) r e = refl
after_value_ends (begin_array ∷ ts) r e = refl
after_value_ends (end_array ∷ ts) r e = refl
after_value_ends (key s ∷ ts) r e = refl
after_value_ends (string s ∷ ts) r e = refl
after_value_ends (number s ∷ ts) r e = refl
after_value_ends (boolean b ∷ ts) r e = refl
after_value_ends (null ∷ ts) r e = refl
after_value_ends (bad ∷ ts) r e = refl

lex-separator : (b : Bool) (r : List ℕ) → lex between (cond b (44 ∷ []) [] ++ r) ≡ cond b (comma ∷ []) [] ++ lex between r
unfolding lex
lex-separator true r = refl
lex-separator false r = refl

-- two rests of which the lexer gives the same
same_behind : (c : Bool) (ts : List Token) (r s : List ℕ) → ArePrintableOrBad ts → ends_word r ≡ true → ends_word s ≡ true → lex between r ≡ lex between s
    → lex between (print_from c ts ++ r) ≡ lex between (print_from c ts ++ s)
unfolding print_from
same_behind c [] r s h p q e = e
same_behind c (t ∷ ts) r s h p q e =
    let one = λ (r : List ℕ) (p : ends_word r ≡ true).
    ap (lex between) (append_assoc (cond (c && begins t) (44 ∷ []) []) (token_text t ++ print_from (ends t) ts) r ∙ ap (λ l. cond (c && begins t) (44 ∷ []) [] ++ l) (append_assoc (token_text t) (print_from (ends t) ts) r))
    ∙ lex-separator (c && begins t) (token_text t ++ (print_from (ends t) ts ++ r))
    ∙ ap (λ l. cond (c && begins t) (comma ∷ []) [] ++ l) (lex-token_text t (print_from (ends t) ts ++ r) h.0 (λ e. ap (λ b. ends_word (print_from b ts ++ r)) e ∙ after_value_ends ts r p)) in
    one r p ∙ ap (λ ls. cond (c && begins t) (comma ∷ []) [] ++ lexed t ls) (same_behind (ends t) ts r s h.1 p q e) ∙ sym (one s q)

line_end : lex between (codes "\n") ≡ lex between []
unfolding lex
line_end = refl

pub line_reads_back : (ts : List Token) → tokens (print ts) ≡ ts → tokens (print ts ++ codes "\n") ≡ ts
line_reads_back ts e =
    let printable = subst ArePrintableOrBad e (ArePrintableOrBad-tokens_at Fresh (print ts)) in
    ap (punctuate fresh) (same_behind false ts (codes "\n") [] printable refl refl line_end ∙ ap (lex between) (append-nil (print ts))) ∙ e
