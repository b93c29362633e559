-- The codes that have a code file.
use Rattle.std.specs.Prelude.{◌≡◌, ℕ, ◌+◌, ◌-◌, Bool, true, false, ◌&&◌, ◌==◌, nat_lt, nat_le, List, [], ◌∷◌, ◌++◌}
use Rattle.std.specs.Prelude.{length, map, Option, Some, None, if◌then◌else◌}
use Rattle.std.specs.List.{list_all}
use Rattle.code_items.specs.declared.declared.Filter.{Filter}
use Rattle.code_items.specs.declared.declared.Declared.{Declared}
use Rattle.code_items.specs.declared.code.Map.{Map}
use Rattle.code_items.specs.declared.code.Proc.{Proc}
use Rattle.code_items.specs.declared.code.Code.{Code}
use Rattle.code_items.specs.Declarations.{are_declared}
use Rattle.code_items.specs.Instrs.{is_instr}
use Rattle.code_items.specs.States.{is_state, is_state_of_start}

-- a procedure is entered and left with an empty stack
unfoldable pub is_procedure : Declared → Proc → Bool
is_procedure d p = nat_le p.level 20 && is_state d p.entry && is_state d p.exit && length p.entry.stack == 0
    && length p.exit.stack == 0

-- the first procedure is there and is entered with nothing known
abbrev pub begins_blank : List Proc → Bool
begins_blank [] = false
begins_blank (main ∷ procedures) = is_state_of_start main.entry

abbrev pub is_map : Declared → Map → Bool
is_map d m = is_state d m.state

-- places of blocks of these lengths
abbrev pub places_in_all : List ℕ → ℕ
places_in_all [] = 0
places_in_all (n ∷ ns) = n + places_in_all ns

-- how many instructions the procedures' blocks have
abbrev pub places_of : List Proc → ℕ
places_of procedures = places_in_all (map (λ p. p.length) procedures)

-- the blocks in their order: those of the procedures, then those of the filters
abbrev pub blocks_of : List Proc → List Filter → List ℕ
blocks_of procedures filters = map (λ p. p.length) procedures ++ map (λ f. f.length) filters

-- blocks of an instruction at least, together so many
abbrev pub blocks_fill : ℕ → List ℕ → Bool
blocks_fill left [] = left == 0
blocks_fill left (n ∷ ns) = nat_le 1 n && nat_le n left && blocks_fill (left - n) ns

-- what is left of so many places behind these blocks; none where one is empty or they have more
abbrev pub left_behind : ℕ → List ℕ → Option ℕ
left_behind left [] = Some left
left_behind left (n ∷ ns) = if nat_le 1 n && nat_le n left then left_behind (left - n) ns else None

-- maps at rising places, from the least on and before the end
abbrev pub maps_rise : ℕ → ℕ → List Map → Bool
maps_rise least places [] = true
maps_rise least places (m ∷ maps) = nat_le least m.place && nat_lt m.place places && maps_rise (m.place + 1) places maps

abbrev pub procedures_are_legal : Code → Bool
procedures_are_legal code = nat_le (length code.procedures) 256 && list_all (is_procedure code.declared) code.procedures
    && begins_blank code.procedures

-- maps stand in the procedures' blocks alone
abbrev pub maps_are_legal : Code → Bool
maps_are_legal code = nat_le (length code.maps) 4096 && list_all (is_map code.declared) code.maps
    && maps_rise 0 (places_of code.procedures) code.maps

abbrev pub instructions_are_legal : Code → Bool
instructions_are_legal code = nat_le 1 (length code.instructions) && nat_le (length code.instructions) 65535
    && list_all (is_instr code.declared.version) code.instructions
    && blocks_fill (length code.instructions) (blocks_of code.procedures code.declared.filters)

unfoldable pub is_code : Code → Bool
is_code code =
    are_declared code.declared && procedures_are_legal code && maps_are_legal code && instructions_are_legal code

abbrev pub IsCode : Code → Type 0
IsCode code = is_code code ≡ true
