-- What the names of an expression stand for in a world, and what is left where its code has run.
use Rattle.std.specs.Prelude.{◌≡◌, ◌<◌, ◌≤◌, ℕ, ◌+◌, true, false, List, [], ◌∷◌, Option, Some, None, slice_get, take}
use Rattle.std.specs.Prelude.{drop, length, codes, if◌then◌else◌}
use Rattle.std.specs.Str.{bytes_eq}
use Rattle.xvalue.specs.declared.value.Value.{Value}
use Rattle.dbf_file.specs.declared.field.Field.{Field}
use Rattle.shape.specs.declared.whole.Shape.{Shape}
use Rattle.open_table.specs.Open.{OpenState, field_of}
use Rattle.work_area.specs.declared.uses.Use.{Use}
use Rattle.work_area.specs.Areas.{StoreState, use_at, area_table, here, selected_use, holds, AreApart}
use Rattle.code_items.specs.declared.code.Code.{Code}
use Rattle.code_items.specs.declared.instr.Instr.{Instr}
use Rattle.code_items.specs.declared.instr.Question.{Question}
use Rattle.code_items.specs.Desks.{desk_covered}
use Rattle.code_items.specs.Kinds.{slots_covered}
use Rattle.code_items.specs.Legal.{places_of}
use Rattle.code_rules.specs.Rules.{height_after}
use Rattle.prg_code.specs.Bindings.{NamedVariables, slot_named}
use Rattle.prg_values.specs.Readings.{Scoped, on_some, table_fields, field_named, table_named, letter_area}
use Rattle.run_steps.specs.World.{World, state_of}
use Rattle.run_steps.specs.Effects.{answer}
use Rattle.run_steps.specs.Shapes.{HasShape}
use Rattle.expr_laws.specs.Meaning.{Sight, nothing}

-- ---- variables

abbrev pub slot_value : Option (Option Value) → Value
slot_value None = nothing
slot_value (Some None) = nothing
slot_value (Some (Some v)) = v

-- the value in the slot of that name
abbrev pub variable_value : NamedVariables → List (Option Value) → List ℕ → Value
variable_value names slots name = on_some (slot_named names name) nothing (λ slot. slot_value (slice_get slots slot))

-- ---- fields

-- the declared fields of the table that a work area holds
abbrev pub used_fields : Shape → Option Use → List Field
used_fields shape None = []
used_fields shape (Some u) = table_fields shape u.table

-- the value of a field by its number in the record that is pointed to
abbrev pub field_value : Option OpenState → ℕ → Value
field_value None number = nothing
field_value (Some o) number = field_of number o

-- a plain name: the field of the selected area's table, else the variable
abbrev pub named_value : Shape → NamedVariables → World → List ℕ → Value
named_value shape names w name =
    on_some (field_named (used_fields shape (selected_use w.env.store)) name)
    (variable_value names w.values.slots name) (λ f. field_value (here w.env.store) f.number)

-- the first work area, of those from this number on, that holds a table
abbrev pub holder : ℕ → List (Option Use) → ℕ → Option ℕ
holder number [] table = None
holder number (u ∷ areas) table = if holds table u then Some number else holder (number + 1) areas table

-- the work area of an alias: that of a letter, else the one that holds the table of that name
abbrev pub alias_of : Shape → StoreState → List ℕ → Option ℕ
alias_of shape s alias =
    on_some (letter_area alias) (on_some (table_named shape alias) None (holder 1 s.areas)) (λ area. Some area)

abbrev pub value_of_area : Shape → StoreState → List ℕ → ℕ → Value
value_of_area shape s name area =
    on_some (field_named (used_fields shape (use_at s area)) name) nothing
    (λ f. field_value (area_table s area) f.number)

-- a name behind an alias: a field of that area's table; behind M a variable
abbrev pub qualified_value : Shape → NamedVariables → World → List ℕ → List ℕ → Value
qualified_value shape names w alias name = if bytes_eq alias (codes "M") then variable_value names w.values.slots name
    else on_some (alias_of shape w.env.store alias) nothing (value_of_area shape w.env.store name)

-- ---- questions to the selected area

abbrev pub asked_value : Option OpenState → Question → Value
asked_value None q = nothing
asked_value (Some o) q = answer q o

-- what is seen in a world, by the declared tables and the variables' slots
abbrev pub sight : Shape → NamedVariables → World → Sight
sight shape names w = record {
  settings = w.env.settings;
  today = w.env.today;
  named = λ name. named_value shape names w name;
  qualified = λ alias name. qualified_value shape names w alias name;
  asked = λ q. asked_value (here w.env.store) q;
}

-- ---- where an expression was compiled, and where its code runs

-- it was compiled for this code's tables, outside of a filter, and what was known of slots and work areas is true of
-- the world
pub record StandsAt (code : Code) (s : Scoped) (w : World) : Type 0 where
  pub shape : s.shape ≡ code.declared.shape
  pub outside : s.in_filter ≡ false
  pub slots : slots_covered s.state.slots (state_of w).slots ≡ true
  pub desk : desk_covered s.state.desk (state_of w).desk ≡ true

-- these instructions stand in a code from a place on
abbrev pub IsThere : Code → ℕ → List Instr → Type 0
IsThere code place block = take (length block) (drop place code.instructions) ≡ block

-- instructions one behind the other never make a stack of this height higher than the bound
abbrev pub StaysWithin : ℕ → ℕ → List Instr → Type 0
StaysWithin bound height [] = Unit {0}
StaysWithin bound height (i ∷ block) =
    (height_after height i ≤ bound) × StaysWithin bound (height_after height i) block

-- in a code, accepted or not, the instructions can be run through from this world: it has the code's shape, no two work
-- areas hold one table, the place behind the instructions stands in a procedure, and the stack has room
pub record HasWay (code : Code) (w : World) (block : List Instr) : Type 0 where
  pub shape : HasShape code w
  pub apart : AreApart w.env.store.areas
  pub behind : w.place + length block < places_of code.procedures
  pub room : StaysWithin code.declared.stack_bound (length w.values.stack) block

-- the world so many instructions further, with a value more on the stack; nothing else is changed
abbrev pub with_value : ℕ → Value → World → World
with_value count v w = record {
  place = w.place + count;
  returns = w.returns;
  values = record { slots = w.values.slots; stack = v ∷ w.values.stack };
  env = w.env;
}
