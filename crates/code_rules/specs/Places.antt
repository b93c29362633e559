-- Blocks, maps, and what is known before each place of a code.
use Rattle.std.specs.Prelude.{ℕ, zero, suc, ◌+◌, ◌-◌, ◌==◌, nat_lt, List, [], ◌∷◌, Option}
use Rattle.std.specs.Prelude.{Some, None, if◌then◌else◌, length, replicate, slice_get, slice_set, slice_index_or}
use Rattle.xvalue.specs.declared.kind.Kind.{Kind}
use Rattle.code_items.specs.declared.declared.Need.{Need}
use Rattle.code_items.specs.declared.declared.Filter.{Filter}
use Rattle.code_items.specs.declared.code.Map.{Map}
use Rattle.code_items.specs.declared.code.Proc.{Proc}
use Rattle.code_items.specs.declared.code.Code.{Code}
use Rattle.code_items.specs.declared.state.State.{State}
use Rattle.code_items.specs.declared.desk.Desk.{Desk}
use Rattle.code_items.specs.declared.desk.AreaState.TheVariants.{Closed, Open as IsOpen}
use Rattle.code_items.specs.declared.instr.Instr.{Instr}
use Rattle.code_items.specs.declared.instr.Instr.TheVariants.{Flow}
use Rattle.code_items.specs.declared.instr.FlowInstr.TheVariants.{End}
use Rattle.code_items.specs.Legal.{blocks_of}
use Rattle.code_rules.specs.declared.blocks.Block.{Block}
use Rattle.code_rules.specs.Flow.{flow, just_opened}

-- the instruction at a place
abbrev pub instr_at : Code → ℕ → Instr
instr_at code place = slice_index_or code.instructions place (Flow End)

-- the block that a place is in, of blocks of these lengths: the next one has this number and begins at this place
abbrev pub block_from : ℕ → ℕ → List ℕ → ℕ → Block
block_from number first [] place = record { number = number; first = first; end = first }
block_from number first (n ∷ ns) place = if nat_lt place (first + n)
    then record { number = number; first = first; end = first + n } else block_from (number + 1) (first + n) ns place

unfoldable pub block_at : Code → ℕ → Block
block_at code place = block_from 0 0 (blocks_of code.procedures code.declared.filters) place

-- the map of a place
abbrev pub map_in : List Map → ℕ → Option State
map_in [] place = None
map_in (m ∷ maps) place = if m.place == place then Some m.state else map_in maps place

-- the state of a map, if it is that of the place
abbrev pub found_at : ℕ → Option Map → Option State
found_at place None = None
found_at place (Some m) = if m.place == place then Some m.state else None

unfoldable pub map_at : Code → ℕ → Option State
map_at code place = map_in code.maps place

-- what is known where a filter's block begins: work area 1 is selected and holds the filter's table without list, order
-- and filter, the others are closed, the slots that it needs have the kinds that it needs there, and the stack is empty

abbrev pub needed : List Need → List (Option Kind) → List (Option Kind)
needed [] slots = slots
needed (need ∷ needs) slots = needed needs (slice_set slots need.slot (Some need.kind))

abbrev pub filter_desk : ℕ → Desk
filter_desk table = record { selected = 1; areas = IsOpen (just_opened table 0) ∷ replicate 9 Closed }

abbrev pub filter_start : ℕ → Filter → State
filter_start slots f = record { desk = filter_desk f.table; slots = needed f.needs (replicate slots None); stack = [] }

-- nothing is known of a block that isn't there
abbrev pub nowhere : State
nowhere = record { desk = record { selected = 0; areas = [] }; slots = []; stack = [] }

abbrev pub entry_of : Option Proc → Option Filter → ℕ → State
entry_of (Some p) f slots = p.entry
entry_of None (Some f) slots = filter_start slots f
entry_of None None slots = nowhere

-- what is known where the block of a number begins: the procedures' blocks come first
unfoldable pub start_of : Code → ℕ → State
start_of code number = entry_of (slice_get code.procedures number)
    (slice_get code.declared.filters (number - length code.procedures)) code.declared.slots

-- the state before a place: its map, else what is known where a block begins there, else what the place before leaves
abbrev pub or_state : Option State → State → State
or_state None s = s
or_state (Some m) s = m

abbrev pub state_entered : Code → Block → ℕ → State → State
state_entered code block place left = if block.first == place then start_of code block.number else left

unfoldable pub incoming_at : Code → ℕ → State
incoming_at code zero = start_of code (block_at code zero).number
incoming_at code (suc place) =
    state_entered code (block_at code (suc place)) (suc place)
    (flow code (instr_at code place) (or_state (map_at code place) (incoming_at code place)))

unfoldable pub state_at : Code → ℕ → State
state_at code place = or_state (map_at code place) (incoming_at code place)
