-- Paths of files. 47 is a slash.
use Rattle.std.specs.Prelude.{◌-◌, ◌==◌, not, ℕ, List, length, take}
use Rattle.std.specs.List.{after_last, suffix_len}

-- a file's name in its folder, and the folder's path, which ends with a slash or is empty
abbrev pub name_of_path : List ℕ → List ℕ
name_of_path path = after_last (λ byte. byte == 47) path

abbrev pub folder_of_path : List ℕ → List ℕ
folder_of_path path = take (length path - suffix_len (λ byte. not (byte == 47)) path) path
