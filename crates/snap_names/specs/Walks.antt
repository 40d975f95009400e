-- What is below a folder.
use Rattle.std.specs.Prelude.{◌≡◌, ◌==◌, ◌<◌, ◌++◌, ℕ, Bool, true, false, if◌then◌else◌, List, [], ◌∷◌, All, Option, Some, None, IsPermutation, IsSorted, codes, flat_map, length, map, take}
use Rattle.std.specs.Global.{Vec}
use Rattle.std.specs.List.{ends_with}
use Rattle.std.specs.Cmp.Lexicographic.{slice_cmp}
use Rattle.std.specs.Ordering.{nat_cmp}
use Rattle.snap_names.specs.Lists.{byte_lists}
use Rattle.snap_names.specs.declared.fault.NamesFault.{NamesFault}
use Rattle.snap_names.specs.declared.fault.NamesFault.TheVariants.{Unread, TooLong, Empty, TooManyFolders, Memory}
use Rattle.snap_names.specs.declared.folders.Entry.{Entry}
use Rattle.snap_names.specs.declared.folders.Kind.{Kind}
use Rattle.snap_names.specs.declared.folders.Kind.TheVariants.{Folder, Link, File, Other, Unknown}
use Rattle.snap_names.specs.declared.walk.TheConstants.{FOLDER_LIMIT}

-- the path of what a folder has under a name
abbrev pub path_in : List ℕ → List ℕ → List ℕ
path_in folder name = if ends_with (λ a b. a == b) folder (codes "/") then folder ++ name else (folder ++ codes "/") ++ name

-- a name ends as the names of recordings do
abbrev pub is_csv : List ℕ → Bool
is_csv name = ends_with (λ a b. a == b) name (codes ".csv")

-- a name is taken if it ends in .csv and there is a file, or a link to one; it is also taken if that can't be found out
abbrev pub is_taken_as : Kind → List ℕ → Bool
is_taken_as Folder name = false
is_taken_as Link name = false
is_taken_as File name = is_csv name
is_taken_as Other name = false
is_taken_as Unknown name = true

abbrev pub is_taken : Entry → Bool
is_taken entry = is_taken_as entry.kind entry.name.items

-- only a folder itself is listed, and not a link to one
abbrev pub is_folder_as : Kind → Bool
is_folder_as Folder = true
is_folder_as Link = false
is_folder_as File = false
is_folder_as Other = false
is_folder_as Unknown = false

-- the path of an entry that is listed, and of one that is taken
abbrev pub inner_in : List ℕ → Entry → List (List ℕ)
inner_in folder entry = if is_folder_as entry.kind then path_in folder entry.name.items ∷ [] else []

abbrev pub found_in : List ℕ → Entry → List (List ℕ)
found_in folder entry = if is_taken entry then path_in folder entry.name.items ∷ [] else []

-- a folder, and its listing
pub record Visit : Type 0 where
  pub folder : List ℕ
  pub entries : Option (List Entry)

-- the folders in a folder, and the names that are taken there; a folder that can't be listed is taken itself
abbrev pub inner_listed : List ℕ → Option (List Entry) → List (List ℕ)
inner_listed folder (Some entries) = flat_map (inner_in folder) entries
inner_listed folder None = []

abbrev pub inner_of : Visit → List (List ℕ)
inner_of visit = inner_listed visit.folder visit.entries

abbrev pub found_listed : List ℕ → Option (List Entry) → List (List ℕ)
found_listed folder (Some entries) = flat_map (found_in folder) entries
found_listed folder None = folder ∷ []

abbrev pub found_of : Visit → List (List ℕ)
found_of visit = found_listed visit.folder visit.entries

-- the names below a folder: each folder was listed, the first one and those found in another, once for each time that it was
-- found. The names are those taken there, in the order of their bytes
pub record IsWalk (lists : List ℕ → Option (List Entry) → Type 0) (start : List ℕ) (names : List (Vec ℕ)) : Type 0 where
  pub visits : List Visit
  pub listed : All (λ visit. lists visit.folder visit.entries) visits
  pub whole : map (λ visit. visit.folder) visits ≡ start ∷ flat_map inner_of visits
  pub found : IsPermutation (flat_map found_of visits) (byte_lists names)
  pub ordered : IsSorted (λ a b. slice_cmp nat_cmp a.items b.items) names

-- a walk finds more than `FOLDER_LIMIT` folders: as many were listed, the first one and those found in another, and more were found
pub record FindsMore (lists : List ℕ → Option (List Entry) → Type 0) (start : List ℕ) : Type 0 where
  pub visits : List Visit
  pub listed : All (λ visit. lists visit.folder visit.entries) visits
  pub first : map (λ visit. visit.folder) visits ≡ take FOLDER_LIMIT (start ∷ flat_map inner_of visits)
  pub more : FOLDER_LIMIT < length (start ∷ flat_map inner_of visits)

-- why a walk gives no names: it finds too many folders, or memory ran out
abbrev pub EndsWalk : (List ℕ → Option (List Entry) → Type 0) → List ℕ → NamesFault → Type 0
EndsWalk lists start TooManyFolders = FindsMore lists start
EndsWalk lists start Memory = Unit {0}
EndsWalk lists start Unread = ⊥
EndsWalk lists start TooLong = ⊥
EndsWalk lists start (Empty number) = ⊥
