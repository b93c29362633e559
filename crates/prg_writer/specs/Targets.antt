-- Procedures by their names.
use Rattle.std.specs.Prelude.{ℕ, ◌+◌, if◌then◌else◌, is_some, List, [], ◌∷◌, ◌++◌, Option, Some}
use Rattle.std.specs.Map.{lookup}
use Rattle.std.specs.Str.{bytes_eq}
use Rattle.arrayvec.specs.ArrayVec.{ArrayVec}
use Rattle.prg_parser.specs.declared.program.Procedure.{Procedure}
use Rattle.prg_parser.specs.declared.program.Program.{Program}
use Rattle.prg_commands.specs.declared.programs.Target.{Target}

-- names, and the procedures that they name
abbrev pub NamedTargets : Type 0
NamedTargets = List (ArrayVec ℕ × Target)

abbrev pub target_named : List ℕ → NamedTargets → Option Target
target_named name targets = lookup (λ n. bytes_eq name n.items) targets

-- one more, unless its name is there
abbrev pub with_target : ArrayVec ℕ → Target → NamedTargets → NamedTargets
with_target name target targets =
    if is_some (target_named name.items targets) then targets else targets ++ (name, target) ∷ []

-- with those of a file, counted from this number on
abbrev pub targets_of_file : ℕ → ℕ → List Procedure → NamedTargets → NamedTargets
targets_of_file file number [] targets = targets
targets_of_file file number (p ∷ ps) targets =
    targets_of_file file (number + 1) ps (with_target p.name (record { file = file; procedure = Some number }) targets)

-- with those of files, counted from this number on
abbrev pub targets_of_files : ℕ → List Program → NamedTargets → NamedTargets
targets_of_files file [] targets = targets
targets_of_files file (p ∷ ps) targets =
    targets_of_files (file + 1) ps (targets_of_file file 0 p.procedures.items targets)
