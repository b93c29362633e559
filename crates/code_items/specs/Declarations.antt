-- What a code may declare.
use Rattle.std.specs.Prelude.{ℕ, zero, suc, ◌+◌, Bool, true, ◌&&◌, nat_lt, nat_le, List, [], ◌∷◌, length, Option, None}
use Rattle.std.specs.Prelude.{slice_get}
use Rattle.std.specs.List.{list_all}
use Rattle.shape.specs.declared.lists.IndexList.{IndexList}
use Rattle.shape.specs.Lists.{is_list}
use Rattle.shape.specs.Whole.{is_shape}
use Rattle.code_items.specs.declared.declared.Need.{Need}
use Rattle.code_items.specs.declared.declared.Filter.{Filter}
use Rattle.code_items.specs.declared.declared.Declared.{Declared}
use Rattle.code_items.specs.Constants.{is_constant}

-- slots that rise, from the least on, and are there
abbrev pub needs_rise : ℕ → ℕ → List Need → Bool
needs_rise least slots [] = true
needs_rise least slots (need ∷ needs) =
    nat_le least need.slot && nat_lt need.slot slots && needs_rise (need.slot + 1) slots needs

-- a filter of one of so many tables, in a code of so many slots
abbrev pub is_filter : ℕ → ℕ → Filter → Bool
is_filter tables slots f = nat_lt f.table tables && needs_rise 0 slots f.needs

abbrev pub lists_are_legal : Declared → Bool
lists_are_legal d = nat_le (length d.lists) 64 && list_all (is_list d.shape.indexes) d.lists

abbrev pub constants_are_legal : Declared → Bool
constants_are_legal d = nat_le (length d.constants) 4096 && list_all is_constant d.constants

abbrev pub filters_are_legal : Declared → Bool
filters_are_legal d = nat_le (length d.filters) 64 && list_all (is_filter (length d.shape.tables) d.slots) d.filters

unfoldable pub are_declared : Declared → Bool
are_declared d = nat_le d.stack_bound 64 && nat_le d.slots 256 && is_shape d.shape && lists_are_legal d
    && constants_are_legal d && filters_are_legal d

-- the list or the filter of a number, counted from 1

abbrev pub list_of : Declared → ℕ → Option IndexList
list_of d zero = None
list_of d (suc n) = slice_get d.lists n

abbrev pub filter_of : Declared → ℕ → Option Filter
filter_of d zero = None
filter_of d (suc n) = slice_get d.filters n
