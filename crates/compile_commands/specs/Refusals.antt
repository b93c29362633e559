-- Why files aren't compiled.
use Rattle.std.specs.Prelude.{◌≡◌, ℕ, ◌<◌, List, [], Option, Some, None, length}
use Rattle.file_access.specs.Holding.{Holds, IsTooLong, Rose}
use Rattle.prg_expr.specs.declared.fault.ParseFaultKind.{ParseFaultKind}
use Rattle.prg_parser.specs.Marks.{marks}
use Rattle.prg_parser.specs.Verdict.{verdict}
use Rattle.shape_files.specs.Refusals.{ShapeRefusalIs}
use Rattle.compile_commands.specs.declared.refusal.CompileFilesRefusal.{CompileFilesRefusal}
use Rattle.compile_commands.specs.declared.refusal.CompileFilesRefusal.TheVariants.{Declarations, Source, SourceDisk}
use Rattle.compile_commands.specs.declared.refusal.CompileFilesRefusal.TheVariants.{CodeDisk, Memory}
use Rattle.compile_commands.specs.declared.refusal.SourceFault.{SourceFault}
use Rattle.compile_commands.specs.declared.refusal.SourceFault.TheVariants.{Absent, TooLong, Parse, Compile}
use Rattle.compile_commands.specs.Compiling.{name_at}

-- the file may hold a command file whose first fault is this
pub record HasLineFault (holds : Option (List ℕ) → Type 0) (line : ℕ) (kind : ParseFaultKind) : Type 0 where
  pub bytes : List ℕ
  pub held : holds (Some bytes)
  pub told : verdict [] None (marks bytes) ≡ Some (record { line = line; kind = kind })

abbrev pub SourceFaultIs : (Option (List ℕ) → Type 0) → SourceFault → Type 0
SourceFaultIs holds Absent = holds None
SourceFaultIs holds TooLong = IsTooLong holds
SourceFaultIs holds (Parse line kind) = HasLineFault holds line kind
SourceFaultIs holds (Compile line _) = Unit {0}

-- the file is one of those named, unless the compiler found the fault
abbrev pub IsOfFiles : List (List ℕ) → ℕ → SourceFault → Type 0
IsOfFiles names file Absent = file < length names
IsOfFiles names file TooLong = file < length names
IsOfFiles names file (Parse line kind) = file < length names
IsOfFiles names file (Compile line _) = Unit {0}

-- what is told of one command file, that of this number
abbrev pub SourceRefusalIs : ℕ → (Option (List ℕ) → Type 0) → ℕ → ℕ → CompileFilesRefusal → Type 0
SourceRefusalIs number holds before after (Declarations refusal) = ⊥
SourceRefusalIs number holds before after (Source file fault) = (file ≡ number) × SourceFaultIs holds fault
SourceRefusalIs number holds before after (SourceDisk file) = (file ≡ number) × Rose before after
SourceRefusalIs number holds before after CodeDisk = ⊥
SourceRefusalIs number holds before after Memory = Unit {0}

-- what is told of all command files
abbrev pub SourcesRefusalIs : Holds → List (List ℕ) → ℕ → ℕ → CompileFilesRefusal → Type 0
SourcesRefusalIs holds names before after (Declarations refusal) = ⊥
SourcesRefusalIs holds names before after (Source file fault) =
    IsOfFiles names file fault × SourceFaultIs (holds (name_at names file)) fault
SourcesRefusalIs holds names before after (SourceDisk file) = (file < length names) × Rose before after
SourcesRefusalIs holds names before after CodeDisk = ⊥
SourcesRefusalIs holds names before after Memory = Unit {0}

-- A fault that the declaration file or a command file has, a device failure that was counted, or memory. Nothing is
-- said of a fault that the compiler finds in a command file.
abbrev pub CompileFilesRefusalIs : Holds → List ℕ → List (List ℕ) → ℕ → ℕ → CompileFilesRefusal → Type 0
CompileFilesRefusalIs holds decl names before after (Declarations refusal) =
    ShapeRefusalIs holds decl before after refusal
CompileFilesRefusalIs holds decl names before after (Source file fault) =
    IsOfFiles names file fault × SourceFaultIs (holds (name_at names file)) fault
CompileFilesRefusalIs holds decl names before after (SourceDisk file) = (file < length names) × Rose before after
CompileFilesRefusalIs holds decl names before after CodeDisk = Rose before after
CompileFilesRefusalIs holds decl names before after Memory = Unit {0}

-- what the compiler tells
abbrev pub IsCompilers : CompileFilesRefusal → Type 0
IsCompilers (Declarations refusal) = ⊥
IsCompilers (Source file Absent) = ⊥
IsCompilers (Source file TooLong) = ⊥
IsCompilers (Source file (Parse line kind)) = ⊥
IsCompilers (Source file (Compile line _)) = Unit {0}
IsCompilers (SourceDisk file) = ⊥
IsCompilers CodeDisk = ⊥
IsCompilers Memory = Unit {0}
