-- The test case of a text in a document of JUnit.
use Rattle.std.specs.Prelude.{◌++◌, ℕ, List, [], ◌∷◌, codes}
use Rattle.snap_text.specs.Fields.{parts}
use Rattle.snap_names.specs.Shown.{shown}
use Rattle.snap_explain.specs.Xml.{xml_text}
use Rattle.snap_explain.specs.declared.test_case.Ending.{Ending}
use Rattle.snap_explain.specs.declared.test_case.Ending.TheVariants.{Failure, Error}

-- the first of some lines
abbrev pub first_of : List (List ℕ) → List ℕ
first_of [] = []
first_of (line ∷ lines) = line

-- a text up to its first line feed
abbrev pub first_line : List ℕ → List ℕ
first_line text = first_of (parts 10 text)

-- the tag of a case up to the end of its name, which is that of a report
abbrev pub case_front : List ℕ → List ℕ
case_front name = codes "<testcase classname=\"snapjudge\" time=\"0\" name=\"" ++ xml_text (shown name)

-- the case of a text that passes
abbrev pub passed_case : List ℕ → List ℕ
passed_case name = case_front name ++ codes "\"/>\n"

-- the element of a case that does not pass
abbrev pub element_of : Ending → List ℕ
element_of Failure = codes "failure"
element_of Error = codes "error"

-- the begin of the element, whose message is the first line of some sentences
abbrev pub element_front : Ending → List ℕ → List ℕ
element_front ending said = codes "<" ++ element_of ending ++ codes " message=\"" ++ xml_text (first_line said) ++ codes "\">"

-- the element with these sentences
abbrev pub element_text : Ending → List ℕ → List ℕ
element_text ending said = element_front ending said ++ xml_text said ++ codes "</" ++ element_of ending ++ codes ">\n"

-- the case of a text that does not pass, with the sentences that say why
abbrev pub ended_case : Ending → List ℕ → List ℕ → List ℕ
ended_case ending name said = case_front name ++ codes "\">\n" ++ element_text ending said ++ codes "</testcase>\n"
