-- Names of files.
use Rattle.std.specs.Prelude.{ℕ, ◌-◌, Bool, List, length, take, drop, codes, if◌then◌else◌}
use Rattle.std.specs.Char.{is_ascii_lowercase}
use Rattle.std.specs.List.{list_any}
use Rattle.std.specs.Str.{str_eq_ignore_ascii_case}
use Rattle.folder_shapes.specs.declared.names.Sort.{Sort}
use Rattle.folder_shapes.specs.declared.names.Sort.TheVariants.{Table, Index, Program, Other}

-- the last four bytes of a name, and what stands before them
abbrev pub name_ending : List ℕ → List ℕ
name_ending name = drop (length name - 4) name

abbrev pub stem : List ℕ → List ℕ
stem name = take (length name - 4) name

-- a table's name ends with .DBF, an index's with .NDX, a command file's with .PRG, in any letter case
unfoldable pub sort_of : List ℕ → Sort
sort_of name = if str_eq_ignore_ascii_case (name_ending name) (codes ".DBF") then Table
    else if str_eq_ignore_ascii_case (name_ending name) (codes ".NDX") then Index
    else if str_eq_ignore_ascii_case (name_ending name) (codes ".PRG") then Program
    else Other

abbrev pub has_small : List ℕ → Bool
has_small name = list_any is_ascii_lowercase name
