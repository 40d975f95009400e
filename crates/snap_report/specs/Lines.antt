-- Texts as lists of lines, and lines as lists of words.
use Rattle.std.specs.Prelude.{ℕ, List, ◌+◌, ◌++◌, codes, decimal}
use Rattle.std.specs.List.{flat_map, join_by}
use Rattle.snap_core.specs.declared.entry.Entry.{Entry}

abbrev pub Word : Type 0
Word = List ℕ

abbrev pub Line : Type 0
Line = List Word

-- the words with one space between two of them, and a newline
abbrev pub line_text : Line → List ℕ
line_text words = join_by (λ word. word) (codes " ") words ++ codes "\n"

abbrev pub text_of : List Line → List ℕ
text_of lines = flat_map line_text lines

-- a component and the number of one of its updates, as 0:1
abbrev pub update_word : ℕ → ℕ → Word
update_word component number = decimal component ++ codes ":" ++ decimal number

-- a component, a number and a value, as 0:1:7
abbrev pub entry_word : Entry → Word
entry_word entry = update_word entry.component entry.number ++ codes ":" ++ decimal entry.value

-- a process, as p3
abbrev pub process_word : ℕ → Word
process_word process = codes "p" ++ decimal process

-- a call, by its number in the order of begins, counted from 1
abbrev pub call_word : ℕ → Word
call_word number = decimal (number + 1)
