-- States that a code file can hold.
use Rattle.std.specs.Prelude.{ℕ, Bool, true, false, ◌&&◌, ◌||◌, ◌==◌, nat_lt, nat_le, List, length, Option, Some, None}
use Rattle.std.specs.Prelude.{is_none}
use Rattle.std.specs.List.{list_all}
use Rattle.shape.specs.declared.lists.IndexList.{IndexList}
use Rattle.shape.specs.declared.indexes.IndexShape.{IndexShape}
use Rattle.shape.specs.Lists.{list_table}
use Rattle.code_items.specs.declared.declared.Version.{Version}
use Rattle.code_items.specs.declared.declared.Version.TheVariants.{One, Two}
use Rattle.code_items.specs.declared.declared.Filter.{Filter}
use Rattle.code_items.specs.declared.declared.Declared.{Declared}
use Rattle.code_items.specs.declared.desk.OpenArea.{OpenArea}
use Rattle.code_items.specs.declared.desk.AreaState.{AreaState}
use Rattle.code_items.specs.declared.desk.AreaState.TheVariants.{Closed, Open, Unsure}
use Rattle.code_items.specs.declared.desk.Desk.{Desk}
use Rattle.code_items.specs.declared.state.State.{State}
use Rattle.code_items.specs.Declarations.{list_of, filter_of}

abbrev pub is_this_number : ℕ → Option ℕ → Bool
is_this_number n None = false
is_this_number n (Some m) = m == n

abbrev pub lists_table : List IndexShape → ℕ → Option IndexList → Bool
lists_table indexes table None = false
lists_table indexes table (Some l) = is_this_number table (list_table indexes l)

-- a declared list of the table
abbrev pub is_list_of : Declared → ℕ → ℕ → Bool
is_list_of d table list = lists_table d.shape.indexes table (list_of d list)

abbrev pub filters_table : ℕ → Option Filter → Bool
filters_table table None = false
filters_table table (Some f) = f.table == table

-- a declared filter of the table
abbrev pub is_filter_of : Declared → ℕ → ℕ → Bool
is_filter_of d table filter = filters_table table (filter_of d filter)

-- how many indexes a list opens; none has none
abbrev pub how_many : Option IndexList → ℕ
how_many None = 0
how_many (Some l) = length l.indexes.items

abbrev pub opened_by : Declared → ℕ → ℕ
opened_by d list = how_many (list_of d list)

-- a table that is there, with a list and a filter of it or none, and an order of the list
abbrev pub is_open : Declared → OpenArea → Bool
is_open d a = nat_lt a.table (length d.shape.tables) && (a.list == 0 || is_list_of d a.table a.list)
    && nat_le a.order (opened_by d a.list) && (a.filter == 0 || is_filter_of d a.table a.filter)

-- nothing is known of a work area in codes of version two alone
abbrev pub may_be_unsure : Version → Bool
may_be_unsure One = false
may_be_unsure Two = true

abbrev pub is_area_state : Declared → AreaState → Bool
is_area_state d Closed = true
is_area_state d (Open a) = is_open d a
is_area_state d Unsure = may_be_unsure d.version

-- one of ten work areas is selected
unfoldable pub is_desk : Declared → Desk → Bool
is_desk d desk = nat_le 1 desk.selected && nat_le desk.selected 10 && length desk.areas == 10
    && list_all (is_area_state d) desk.areas

-- each slot is known of, and the stack is within the bound
unfoldable pub is_state : Declared → State → Bool
is_state d s = is_desk d s.desk && length s.slots == d.slots && nat_le (length s.stack) d.stack_bound

-- nothing is known: work area 1 is selected, all are closed, each slot is free

abbrev pub is_closed : AreaState → Bool
is_closed Closed = true
is_closed (Open a) = false
is_closed Unsure = false

abbrev pub is_state_of_start : State → Bool
is_state_of_start s = s.desk.selected == 1 && list_all is_closed s.desk.areas && list_all is_none s.slots
