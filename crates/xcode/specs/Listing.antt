-- The listing of a code.
use Rattle.std.specs.Prelude.{ℕ, ◌+◌, ◌-◌, List, [], ◌∷◌, ◌++◌, length, replicate}
use Rattle.std.specs.Fmt.{decimal}
use Rattle.code_items.specs.declared.instr.Instr.{Instr}
use Rattle.code_parts.specs.declared.operands.InstrParts.{InstrParts}
use Rattle.code_parts.specs.Instructions.{parts_of}
use Rattle.xcode.specs.Names.{instr_name}

-- right in five places
abbrev pub place_text : ℕ → List ℕ
place_text place = replicate (5 - length (decimal place)) 32 ++ decimal place

-- a blank before each operand
abbrev pub operands_text : InstrParts → List ℕ
operands_text p = (32 ∷ decimal p.a) ++ (32 ∷ decimal p.b) ++ (32 ∷ decimal p.c)

-- the place, the name and the operands, joined by one blank, and a line end
unfoldable pub listing_line : ℕ → Instr → List ℕ
listing_line place i = place_text place ++ (32 ∷ instr_name i) ++ operands_text (parts_of i) ++ (10 ∷ [])

-- a line for each instruction, from this place on
abbrev pub lines_from : ℕ → List Instr → List ℕ
lines_from place [] = []
lines_from place (i ∷ instructions) = listing_line place i ++ lines_from (place + 1) instructions
