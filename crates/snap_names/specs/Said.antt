-- Lines that say something of a name.
use Rattle.std.specs.Prelude.{◌==◌, ◌++◌, ℕ, Bool, true, if◌then◌else◌, List, [], ◌∷◌, codes}
use Rattle.snap_names.specs.Shown.{shown}
use Rattle.snap_names.specs.declared.opener.Trouble.{Trouble}
use Rattle.snap_names.specs.declared.opener.Trouble.TheVariants.{Missing, Folder, NotUnicode, Denied, TooManyOpen, LinkLoop, LongName, NoDevice, Unopened, Unread, Memory}

-- a text with a front before each of its lines. It comes before the first byte, if a line begins there, and before each byte that
-- follows a line feed
abbrev pub fronted_from : Bool → List ℕ → List ℕ → List ℕ
fronted_from begins front [] = []
fronted_from begins front (b ∷ bs) = (if begins then front else []) ++ b ∷ fronted_from (b == 10) front bs

-- a text with a name before each of its lines
abbrev pub named_lines : List ℕ → List ℕ → List ℕ
named_lines name text = fronted_from true (shown name ++ codes ": ") text

-- the line that gives a reason for a name
abbrev pub reason_line_text : List ℕ → List ℕ → List ℕ
reason_line_text name reason = codes "snapjudge: " ++ shown name ++ codes ": " ++ reason ++ codes "\n"

-- a trouble in words
abbrev pub trouble_text : Trouble → List ℕ
trouble_text Missing = codes "no such file"
trouble_text Folder = codes "is a directory; check -r judges the files below it"
trouble_text NotUnicode = codes "is not UTF-8"
trouble_text Denied = codes "permission denied"
trouble_text TooManyOpen = codes "too many open files"
trouble_text LinkLoop = codes "too many links"
trouble_text LongName = codes "the name is too long"
trouble_text NoDevice = codes "is a socket, or its device is missing"
trouble_text Unopened = codes "can't be opened"
trouble_text Unread = codes "read failed"
trouble_text Memory = codes "out of memory"

-- the line that gives the trouble of a name
abbrev pub trouble_line_text : List ℕ → Trouble → List ℕ
trouble_line_text name trouble = reason_line_text name (trouble_text trouble)
