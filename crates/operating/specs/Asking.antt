-- In which field the value of the line that is asked for is stored.
use Rattle.std.specs.Prelude.{ℕ, ◌+◌, ◌-◌, ◌==◌, List, Option, Some, None, if◌then◌else◌, option_and_then, option_map}
use Rattle.std.specs.Prelude.{slice_get}
use Rattle.code_items.specs.declared.code.Code.{Code}
use Rattle.code_items.specs.declared.instr.Instr.{Instr}
use Rattle.code_items.specs.declared.instr.Instr.TheVariants.{Records}
use Rattle.code_items.specs.declared.instr.RecordInstr.{RecordInstr}
use Rattle.code_items.specs.declared.instr.RecordInstr.TheVariants.{Field as LentField, Replace}
use Rattle.dbf_file.specs.declared.field.Field.{Field}
use Rattle.operating.specs.declared.operator.FieldSize.{FieldSize}
use Rattle.shape.specs.declared.tables.TableShape.{TableShape}
use Rattle.work_area.specs.Areas.{StoreState, selected_use}
use Rattle.work_area.specs.declared.uses.Use.{Use}

-- the field of a work area that an instruction puts on the stack
abbrev pub field_lent : ℕ → RecordInstr → Option ℕ
field_lent area (LentField of field) = if of == area then Some field else None
field_lent area _ = None

abbrev pub lent_field : ℕ → Instr → Option ℕ
lent_field area (Records instr) = field_lent area instr
lent_field area _ = None

-- the field of the selected work area that takes a value
abbrev pub field_replaced : RecordInstr → Option ℕ
field_replaced (Replace field) = Some field
field_replaced _ = None

abbrev pub replaced_field : Instr → Option ℕ
replaced_field (Records instr) = field_replaced instr
replaced_field _ = None

-- one field, if both are the same
abbrev pub same_field : Option ℕ → Option ℕ → Option ℕ
same_field (Some lent) (Some replaced) = if lent == replaced then Some lent else None
same_field _ _ = None

-- the instruction before a place
abbrev pub instr_before : List Instr → ℕ → Option Instr
instr_before instrs place = if place == 0 then None else slice_get instrs (place - 1)

-- the field of a work area that is put on the stack just before a place, and takes the value just after it
abbrev pub field_around : List Instr → ℕ → ℕ → Option ℕ
field_around instrs place area =
    same_field (option_and_then (lent_field area) (instr_before instrs place))
    (option_and_then replaced_field (slice_get instrs (place + 1)))

-- a field that a code declares
abbrev pub field_declared : ℕ → TableShape → Option Field
field_declared field table = slice_get table.fields field

abbrev pub declared_field : Code → ℕ → ℕ → Option Field
declared_field code table field = option_and_then (field_declared field) (slice_get code.declared.shape.tables table)

abbrev pub size_of_field : Field → FieldSize
size_of_field field = record { width = field.width; decimals = field.decimals }

-- the size of the field of a table in use
abbrev pub size_in : Code → Option ℕ → Use → Option FieldSize
size_in code None used = None
size_in code (Some field) used = option_map size_of_field (declared_field code used.table field)

-- the field of the selected work area's table in which the value of a line is stored that is taken at a place
abbrev pub field_wanted : Code → StoreState → ℕ → Option FieldSize
field_wanted code store place =
    option_and_then (size_in code (field_around code.instructions place store.selected)) (selected_use store)
