-- Which files a code file must not overwrite.
use Rattle.std.specs.Prelude.{ℕ, Bool, ◌-◌, ◌||◌, List, Option, Some, None, codes, length, take, drop, if◌then◌else◌}
use Rattle.std.specs.Str.{bytes_eq, str_eq_ignore_ascii_case}
use Rattle.save_rules.specs.declared.overwriting.Overwritten.{Overwritten}
use Rattle.save_rules.specs.declared.overwriting.Overwritten.TheVariants.{Declarations, Source, Save, Table, Index}
use Rattle.save_rules.specs.declared.overwriting.Overwritten.TheVariants.{Commands, Talk}

-- whether a name ends with these bytes, in any case of letters
abbrev pub ends_in : List ℕ → List ℕ → Bool
ends_in name ending = str_eq_ignore_ascii_case (drop (length name - length ending) name) ending

-- whether a file of this name tells of a conversation's beginning or end
abbrev pub tells_of_talk : List ℕ → Bool
tells_of_talk name = ends_in name (codes ".begun") || ends_in name (codes ".done")

-- what a file of this name is by its ending
unfoldable pub by_ending : List ℕ → Option Overwritten
by_ending name =
    if ends_in name (codes ".DBF") then Some Table else
    (if ends_in name (codes ".NDX") then Some Index else
    (if ends_in name (codes ".PRG") then Some Commands else None))

-- what a file of this name is, where the files that tell of a save have names that begin so; where a conversation has
-- been recorded beside a file of this name, the file is its journal
unfoldable pub by_name : List ℕ → List ℕ → Bool → Option Overwritten
by_name out paper recorded =
    if bytes_eq (take (length paper) out) paper then Some Save else
    (if recorded || tells_of_talk out then Some Talk else by_ending out)

abbrev pub source_or : List ℕ → List ℕ → Bool → Option ℕ → Option Overwritten
source_or out paper recorded None = by_name out paper recorded
source_or out paper recorded (Some file) = Some (Source file)

-- what a code file of this name would overwrite, where the first command file of its name is told: the declaration
-- file, a command file, or a file that its name tells of
unfoldable pub overwritten_by : List ℕ → List ℕ → Option ℕ → List ℕ → Bool → Option Overwritten
overwritten_by out decl source paper recorded =
    if bytes_eq decl out then Some Declarations else source_or out paper recorded source
