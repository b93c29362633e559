-- Which lines may stand where, and what they do to the blocks that are open.

use Rattle.std.specs.Prelude.{ℕ, Bool, true, false, not, ◌&&◌, nat_le, List, [], ◌∷◌, ◌++◌, length, take, ◌-◌, Option}
use Rattle.std.specs.Prelude.{Some, None, if◌then◌else◌, slice_get, is_some, option_map}
use Rattle.std.specs.List.{list_any}
use Rattle.prg_expr.specs.declared.fault.ParseFaultKind.{ParseFaultKind}
use Rattle.prg_expr.specs.declared.fault.ParseFaultKind.TheVariants.{Block, TooDeep}
use Rattle.prg_line.specs.declared.role.Role.{Role}
use Rattle.prg_line.specs.declared.role.Role.TheVariants.{Nothing, Plain, Leap, Procedure, If, Else, EndIf, DoCase}
use Rattle.prg_line.specs.declared.role.Role.TheVariants.{Case, Otherwise, EndCase, DoWhile, EndDo, Scan, EndScan}
use Rattle.prg_parser.specs.declared.blocks.Part.{Part}
use Rattle.prg_parser.specs.declared.blocks.Place.{Place}
use Rattle.prg_parser.specs.declared.blocks.Place.TheVariants.{InThen, InElse, BeforeCases, InCase, InOtherwise}
use Rattle.prg_parser.specs.declared.blocks.Place.TheVariants.{InWhile, InScan}

-- where commands may stand: anywhere but between DO CASE and its first CASE
abbrev pub holds_commands : Option Place → Bool
holds_commands (Some BeforeCases) = false
holds_commands _ = true

abbrev pub is_then : Option Place → Bool
is_then (Some InThen) = true
is_then _ = false

abbrev pub is_if : Option Place → Bool
is_if (Some InThen) = true
is_if (Some InElse) = true
is_if _ = false

-- where a further CASE or OTHERWISE may follow
abbrev pub takes_cases : Option Place → Bool
takes_cases (Some BeforeCases) = true
takes_cases (Some InCase) = true
takes_cases _ = false

abbrev pub is_case : Option Place → Bool
is_case (Some BeforeCases) = true
is_case (Some InCase) = true
is_case (Some InOtherwise) = true
is_case _ = false

abbrev pub is_while : Option Place → Bool
is_while (Some InWhile) = true
is_while _ = false

abbrev pub is_scan : Option Place → Bool
is_scan (Some InScan) = true
is_scan _ = false

-- whether a line may stand in the innermost open part, or outside all blocks
abbrev pub may_stand : Role → Option Place → Bool
may_stand Nothing inner = true
may_stand Procedure inner = true
may_stand Plain inner = holds_commands inner
may_stand Leap inner = holds_commands inner
may_stand If inner = holds_commands inner
may_stand DoCase inner = holds_commands inner
may_stand DoWhile inner = holds_commands inner
may_stand Scan inner = holds_commands inner
may_stand Else inner = is_then inner
may_stand EndIf inner = is_if inner
may_stand Case inner = takes_cases inner
may_stand Otherwise inner = takes_cases inner
may_stand EndCase inner = is_case inner
may_stand EndDo inner = is_while inner
may_stand EndScan inner = is_scan inner

abbrev pub is_loop : Place → Bool
is_loop InWhile = true
is_loop InScan = true
is_loop _ = false

abbrev pub is_leap : Role → Bool
is_leap Leap = true
is_leap _ = false

-- the part behind a line that opens a block
abbrev pub place_opened : Role → Option Place
place_opened If = Some InThen
place_opened DoCase = Some BeforeCases
place_opened DoWhile = Some InWhile
place_opened Scan = Some InScan
place_opened _ = None

-- the part behind a line that divides a block
abbrev pub divided : Role → Option Place
divided Else = Some InElse
divided Case = Some InCase
divided Otherwise = Some InOtherwise
divided _ = None

abbrev pub ends_block : Role → Bool
ends_block EndIf = true
ends_block EndCase = true
ends_block EndDo = true
ends_block EndScan = true
ends_block _ = false

abbrev pub begins_procedure : Role → Bool
begins_procedure Procedure = true
begins_procedure _ = false

-- the innermost of the open parts, which stand in a list from the outermost on
abbrev pub innermost : List Part → Option Part
innermost parts = slice_get parts (length parts - 1)

-- the fault of a line where these parts are open: it must fit its place, LOOP and EXIT stand in a loop, and no more
-- than 32 blocks are open
unfoldable pub fault_of_place : List Part → Role → Option ParseFaultKind
fault_of_place parts role =
    if not (may_stand role (option_map (λ part. part.place) (innermost parts))) then Some Block
    else if is_leap role && not (list_any (λ part. is_loop part.place) parts) then Some Block
    else if is_some (place_opened role) && nat_le 32 (length parts) then Some TooDeep
    else None

-- the parts without the innermost
abbrev pub outer : List Part → List Part
outer parts = take (length parts - 1) parts

-- the innermost part replaced by another one of the same block
abbrev pub divide_at : List Part → Option Part → Place → List Part
divide_at parts None place = parts
divide_at parts (Some part) place = outer parts ++ (record { place = place; line = part.line }) ∷ []

abbrev pub divide : List Part → Option Place → List Part
divide parts None = parts
divide parts (Some place) = divide_at parts (innermost parts) place

-- the part of a block that is opened in this line
abbrev pub open_in : List Part → ℕ → Option Place → List Part
open_in parts line None = parts
open_in parts line (Some place) = parts ++ (record { place = place; line = line }) ∷ []

-- the parts that are open behind a line
unfoldable pub parts_after : List Part → ℕ → Role → List Part
parts_after parts line role =
    if begins_procedure role then []
    else if ends_block role then outer parts
    else if is_some (divided role) then divide parts (divided role)
    else open_in parts line (place_opened role)
