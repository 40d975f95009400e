-- What the texts of a folder keep while others are looked for.
use Rattle.std.specs.Prelude.{◌≡◌}
use Rattle.snap_follow.specs.declared.folder.FolderTexts.{FolderTexts}

-- the same folder is listed, and as many of its texts were opened
abbrev pub KeepsFolder : {F O : Type 0} → FolderTexts F O → FolderTexts F O → Type 0
KeepsFolder old new = (new.opened ≡ old.opened) × (new.folders ≡ old.folders) × (new.folder ≡ old.folder)
