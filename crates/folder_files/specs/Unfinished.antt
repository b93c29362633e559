-- Why a save that was cut off isn't finished.
use Rattle.std.specs.Prelude.{◌≡◌, true, string_bytes, ⊤}
use Rattle.save_rules.specs.Rules.{is_in_folder}
use Rattle.folder_files.specs.declared.finishing.UnfinishedSave.{UnfinishedSave}
use Rattle.folder_files.specs.declared.finishing.UnfinishedSave.TheVariants.{Foreign, Changed, Disk, PaperDisk, Memory}

-- a file that is told is one of the folder
abbrev pub TellsOfFolder : UnfinishedSave → Type 0
TellsOfFolder Foreign = ⊤
TellsOfFolder (Changed name) = is_in_folder (string_bytes name) ≡ true
TellsOfFolder (Disk name) = is_in_folder (string_bytes name) ≡ true
TellsOfFolder PaperDisk = ⊤
TellsOfFolder Memory = ⊤
