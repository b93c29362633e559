-- All faults of a declaration file.
use Rattle.std.specs.Prelude.{◌≡◌, ℕ, ◌+◌, ◌≤◌, List, [], ◌∷◌, ◌++◌, Some, length}
use Rattle.file_access.specs.Holding.{Holds, Rose}
use Rattle.shape.specs.declared.whole.Shape.{Shape}
use Rattle.text_lines.specs.Lines.{lines}
use Rattle.shape_files.specs.declared.refusal.DeclFault.{DeclFault}
use Rattle.shape_files.specs.declared.refusal.DeclFault.TheVariants.{Absent, TooLong, Line}
use Rattle.shape_files.specs.declared.refusal.LineFault.{LineFault}
use Rattle.shape_files.specs.declared.refusal.ShapeRefusal.{ShapeRefusal}
use Rattle.shape_files.specs.declared.refusal.ShapeRefusal.TheVariants.{Refused, Disk, TableDisk, Memory}
use Rattle.shape_files.specs.Lines.{Said, Table, said_in_line}
use Rattle.shape_files.specs.Refusals.{IsTableSaid, LineFaultIs}
use Rattle.shape_files.specs.Shapes.{LineDeclares, no_shape}

-- A line more, that of this number: it declares something, or it has a fault, is listed with it, and declares nothing.
pub data JudgedLine (holds : Holds) (number : ℕ) (text : List ℕ) (before after : Shape) (found more : List DeclFault)
    : Type 0 where
  Good : LineDeclares holds (said_in_line text) before after → more ≡ found
      → JudgedLine holds number text before after found more
  Faulty : (f : LineFault) → LineFaultIs holds before (said_in_line text) f → after ≡ before
      → more ≡ found ++ Line number f ∷ [] → JudgedLine holds number text before after found more

-- What lines declare, and their faults, line by line from 1.
pub data JudgedLines (holds : Holds) : List (List ℕ) → Shape → List DeclFault → Type 0 where
  NoLines : JudgedLines holds [] no_shape []
  Further : (front : List (List ℕ)) (text : List ℕ) (before after : Shape) (found more : List DeclFault)
      → JudgedLines holds front before found → JudgedLine holds (length front + 1) text before after found more
      → JudgedLines holds (front ++ text ∷ []) after more

-- all faults of the file of that name, and what its other lines declare
pub record JudgedDeclarations (holds : Holds) (name : List ℕ) (shape : Shape) (faults : List DeclFault) : Type 0 where
  pub bytes : List ℕ
  pub held : holds name (Some bytes)
  pub short : length bytes ≤ 67108864
  pub judged : JudgedLines holds (lines bytes) shape faults

-- no fault of a line is refused
abbrev pub IsNoLine : ShapeRefusal → Type 0
IsNoLine (Refused Absent) = Unit {0}
IsNoLine (Refused TooLong) = Unit {0}
IsNoLine (Refused (Line number f)) = ⊥
IsNoLine Disk = Unit {0}
IsNoLine (TableDisk table) = Unit {0}
IsNoLine Memory = Unit {0}

-- at a line that says this, a device failure that was counted, at the file of its table, or memory
abbrev pub IsOfDevice : Said → ℕ → ℕ → ShapeRefusal → Type 0
IsOfDevice says before after (Refused f) = ⊥
IsOfDevice says before after Disk = ⊥
IsOfDevice says before after (TableDisk table) = (says ≡ Table table.items) × Rose before after
IsOfDevice says before after Memory = Unit {0}

-- the same at one of the lines
abbrev pub IsOfDeviceAtOne : List (List ℕ) → ℕ → ℕ → ShapeRefusal → Type 0
IsOfDeviceAtOne all before after (Refused f) = ⊥
IsOfDeviceAtOne all before after Disk = ⊥
IsOfDeviceAtOne all before after (TableDisk table) = IsTableSaid all table.items × Rose before after
IsOfDeviceAtOne all before after Memory = Unit {0}
