-- Which fault of a file is told.

use Rattle.std.specs.Prelude.{ℕ, List, [], ◌∷◌, Option, Some, None, if◌then◌else◌, slice_get, option_map, ◌≤◌}
use Rattle.prg_expr.specs.declared.fault.ParseFaultKind.{ParseFaultKind}
use Rattle.prg_expr.specs.declared.fault.ParseFaultKind.TheVariants.{Block}
use Rattle.prg_expr.specs.declared.fault.ParseFault.{ParseFault}
use Rattle.prg_expr.specs.declared.fault.ParseRefusal.{ParseRefusal}
use Rattle.prg_expr.specs.declared.fault.ParseRefusal.TheVariants.{Fault, Memory}
use Rattle.prg_parser.specs.declared.blocks.Part.{Part}
use Rattle.prg_parser.specs.declared.judging.LineMark.{LineMark}
use Rattle.prg_parser.specs.Blocks.{fault_of_place, parts_after, begins_procedure}
use Rattle.prg_expr.specs.Faults.{least}

-- a line of a file of so many
abbrev pub IsLineOf : ℕ → ℕ → Type 0
IsLineOf count line = (1 ≤ line) × (line ≤ count)

-- a refusal that names a line of the file, where it is a fault
abbrev pub NamesLine : ℕ → ParseRefusal → Type 0
NamesLine count (Fault fault) = IsLineOf count fault.line
NamesLine count Memory = Unit {0}

-- the first of two lines, where there is any
abbrev pub earlier : Option ℕ → Option ℕ → Option ℕ
earlier None line = line
earlier (Some line) other = Some line

-- the line that opened the outermost open block
abbrev pub opening_line : List Part → Option ℕ
opening_line parts = option_map (λ part. part.line) (slice_get parts 0)

-- the block that was left open first, behind a line: a procedure begins without blocks, so those that are open before
-- it stay unended
abbrev pub unended_after : List Part → Option ℕ → LineMark → Option ℕ
unended_after parts unended mark = if begins_procedure mark.role then earlier unended (opening_line parts) else unended

abbrev pub block_fault_at : ℕ → ParseFault
block_fault_at line = record { line = line; kind = Block }

-- what is wrong with a line: the least of its own fault and of that of its place
abbrev pub wrong_in_line : List Part → LineMark → Option ParseFaultKind
wrong_in_line parts mark = least mark.fault (fault_of_place parts mark.role)

abbrev pub or_fault : Option ParseFaultKind → ℕ → Option ParseFault → Option ParseFault
or_fault (Some kind) line others = Some (record { line = line; kind = kind })
or_fault None line others = others

-- the fault that is told: that of the first line with one; without any, the first block that is left open
unfoldable pub verdict : List Part → Option ℕ → List LineMark → Option ParseFault
verdict parts unended [] = option_map block_fault_at (earlier unended (opening_line parts))
verdict parts unended (mark ∷ others) =
    or_fault (wrong_in_line parts mark) mark.line
    (verdict (parts_after parts mark.line mark.role) (unended_after parts unended mark) others)
