-- All faults of a file.
use Rattle.std.specs.Prelude.{ℕ, ◌+◌, ◌-◌, ◌==◌, ◌&&◌, nat_le, nat_lt, List, [], ◌∷◌, ◌++◌, length, map, Option, Some}
use Rattle.std.specs.Prelude.{None}
use Rattle.std.specs.Prelude.{is_some, is_none, if◌then◌else◌}
use Rattle.prg_expr.specs.declared.fault.ParseFaultKind.{ParseFaultKind}
use Rattle.prg_expr.specs.declared.fault.ParseFaultKind.TheVariants.{TooDeep}
use Rattle.prg_expr.specs.declared.fault.ParseFault.{ParseFault}
use Rattle.prg_expr.specs.Faults.{least}
use Rattle.prg_line.specs.declared.role.Role.{Role}
use Rattle.prg_parser.specs.declared.blocks.Part.{Part}
use Rattle.prg_parser.specs.declared.judging.LineMark.{LineMark}
use Rattle.prg_parser.specs.Blocks.{fault_of_place, parts_after, open_in, place_opened, ends_block, begins_procedure}
use Rattle.prg_parser.specs.Verdict.{block_fault_at}

-- the fault of a line's place, where so many blocks beyond the thirty-second are open: within them only a further block
-- has one
abbrev pub place_fault : List Part → ℕ → Role → Option ParseFaultKind
place_fault parts deeper role =
    if deeper == 0 then fault_of_place parts role
    else if is_some (place_opened role) then Some TooDeep
    else None

-- what is wrong with a line: the least of its own fault and of that of its place
abbrev pub wrong_at : List Part → ℕ → LineMark → Option ParseFaultKind
wrong_at parts deeper mark = least mark.fault (place_fault parts deeper mark.role)

-- The parts that are open behind a line. A line that doesn't fit its place still opens its block, if there is room, and
-- else changes nothing.
unfoldable pub parts_behind : List Part → ℕ → ℕ → Role → List Part
parts_behind parts deeper line role =
    if begins_procedure role then []
    else if nat_lt 0 deeper then parts
    else if is_none (fault_of_place parts role) then parts_after parts line role
    else if nat_le 32 (length parts) then parts
    else open_in parts line (place_opened role)

-- how many blocks beyond the thirty-second are open behind a line
unfoldable pub deeper_behind : List Part → ℕ → Role → ℕ
deeper_behind parts deeper role =
    if begins_procedure role then 0
    else if is_some (place_opened role) && nat_le 32 (length parts) then deeper + 1
    else if ends_block role then deeper - 1
    else deeper

-- a fault in this line, if there is one
abbrev pub listed_fault : ℕ → Option ParseFaultKind → List ParseFault
listed_fault line None = []
listed_fault line (Some kind) = (record { line = line; kind = kind }) ∷ []

-- the faults of lines in turn
unfoldable pub line_faults : List Part → ℕ → List LineMark → List ParseFault
line_faults parts deeper [] = []
line_faults parts deeper (mark ∷ others) =
    listed_fault mark.line (wrong_at parts deeper mark)
    ++ line_faults (parts_behind parts deeper mark.line mark.role) (deeper_behind parts deeper mark.role) others

-- the blocks of these parts are not ended
abbrev pub unended : List Part → List ParseFault
unended parts = map (λ part. block_fault_at part.line) parts

-- the blocks that a procedure's line finds open
abbrev pub unended_before : List Part → Role → List ParseFault
unended_before parts role = if begins_procedure role then unended parts else []

-- the blocks that are left open, in turn
unfoldable pub left_open : List Part → ℕ → List LineMark → List ParseFault
left_open parts deeper [] = unended parts
left_open parts deeper (mark ∷ others) =
    unended_before parts mark.role
    ++ left_open (parts_behind parts deeper mark.line mark.role) (deeper_behind parts deeper mark.role) others

-- The faults of lines, and behind them those of blocks that are left open.
abbrev pub all_faults : List LineMark → List ParseFault
all_faults marks = line_faults [] 0 marks ++ left_open [] 0 marks
