-- What the names of an expression mean, by what is known where it stands.
use Rattle.std.specs.Prelude.{◌≡◌, ℕ, zero, suc, ◌+◌, ◌-◌, Bool, false, ◌&&◌, ◌==◌, nat_le, nat_lt, List, []}
use Rattle.std.specs.Prelude.{◌∷◌, Option, Some, None, Result, Ok, Err, slice_get, is_some, codes, if◌then◌else◌}
use Rattle.std.specs.List.{list_any}
use Rattle.std.specs.Str.{bytes_eq}
use Rattle.xvalue.specs.declared.kind.Kind.{Kind}
use Rattle.dbf_file.specs.declared.field.Field.{Field}
use Rattle.dbf_file.specs.Values.{kind_for}
use Rattle.shape.specs.declared.tables.TableShape.{TableShape}
use Rattle.shape.specs.declared.whole.Shape.{Shape}
use Rattle.code_items.specs.declared.desk.OpenArea.{OpenArea}
use Rattle.code_items.specs.declared.desk.AreaState.{AreaState}
use Rattle.code_items.specs.declared.desk.AreaState.TheVariants.{Closed, Open, Unsure}
use Rattle.code_items.specs.declared.desk.Desk.{Desk}
use Rattle.code_items.specs.declared.state.State.{State}
use Rattle.code_items.specs.declared.instr.ValueInstr.TheVariants.{Load}
use Rattle.code_items.specs.declared.instr.RecordInstr.TheVariants as record_instr
use Rattle.code_items.specs.declared.instr.Instr.TheVariants.{Values, Records}
use Rattle.prg_code.specs.declared.fault.CompileFaultKind.{CompileFaultKind}
use Rattle.prg_code.specs.Bindings.{NamedVariables, slot_named}
use Rattle.prg_values.specs.declared.scope.Scope.{Scope}
use Rattle.prg_values.specs.declared.scope.Reading.{Reading}
use Rattle.prg_values.specs.declared.scope.FieldPlace.{FieldPlace}
pub use Rattle.prg_expr.specs.Reading.{if_some as on_some}

-- what names are looked up in: the declared tables, what is known, the variables' slots, and whether it is a filter's
-- condition
pub record Scoped : Type 0 where
  pub shape : Shape
  pub state : State
  pub names : NamedVariables
  pub in_filter : Bool

abbrev pub scoped : Scope → Scoped
scoped s = record { shape = s.shape.now; state = s.state.now; names = s.names.now; in_filter = s.in_filter }

-- what was found is the definition's, and there is none of it where nothing was found
abbrev pub FindsReading : {A : Type 0} → Result A CompileFaultKind → Option A → Type 0
FindsReading (Ok a) found = found ≡ Some a
FindsReading (Err fault) found = found ≡ None

-- ---- fields

-- the field of this number, if an instruction can name it
abbrev pub nameable_field : ℕ → Field → Option FieldPlace
nameable_field number f = if nat_lt number 65536 then Some
    (record { number = number; kind = kind_for f.letter }) else None

-- the first field of this name, where the first of them has this number
abbrev pub field_named_from : ℕ → List Field → List ℕ → Option FieldPlace
field_named_from number [] name = None
field_named_from number (f ∷ fs) name = if bytes_eq f.name.items name then nameable_field number f
    else field_named_from (number + 1) fs name

abbrev pub field_named : List Field → List ℕ → Option FieldPlace
field_named fields name = field_named_from 0 fields name

-- the fields of a declared table by its number, counted from 0
abbrev pub table_fields : Shape → ℕ → List Field
table_fields shape t = on_some (slice_get shape.tables t) [] (λ s. s.fields)

abbrev pub field_in : Shape → OpenArea → List ℕ → Option FieldPlace
field_in shape area name = field_named (table_fields shape area.table) name

abbrev pub has_field : List ℕ → TableShape → Bool
has_field name s = is_some (field_named s.fields name)

-- ---- work areas

abbrev pub or_closed : Option AreaState → AreaState
or_closed None = Closed
or_closed (Some a) = a

-- what is known of the work area of this number, counted from 1
abbrev pub area_at : Desk → ℕ → AreaState
area_at desk zero = Closed
area_at desk (suc n) = or_closed (slice_get desk.areas n)

-- a number that an instruction can name
abbrev pub number_below : ℕ → ℕ → Option ℕ
number_below limit number = if nat_lt number limit then Some number else None

-- the number of the first table of this name, where the first of these tables has this number
abbrev pub table_from : ℕ → List TableShape → List ℕ → Option ℕ
table_from number [] name = None
table_from number (s ∷ ss) name = if bytes_eq s.name.items name then number_below 65536 number
    else table_from (number + 1) ss name

abbrev pub table_named : Shape → List ℕ → Option ℕ
table_named shape name = table_from 0 shape.tables name

abbrev pub is_of : ℕ → AreaState → Bool
is_of table Closed = false
is_of table (Open a) = a.table == table
is_of table Unsure = false

-- the first work area that is known to hold the table, where the first of these has this number
abbrev pub holder_from : ℕ → List AreaState → ℕ → Option ℕ
holder_from number [] table = None
holder_from number (a ∷ others) table = if is_of table a then number_below 256 number
    else holder_from (number + 1) others table

-- an alias of one letter A to J
abbrev pub letter_area : List ℕ → Option ℕ
letter_area (b ∷ []) = if nat_le 65 b && nat_le b 74 then Some (b - 65 + 1) else None
letter_area _ = None

abbrev pub holder_of : Scoped → Option ℕ → Option ℕ
holder_of s None = None
holder_of s (Some table) = holder_from 1 s.state.desk.areas table

-- the work area, counted from 1, that an alias names: by its letter, else by the table that it is known to hold
abbrev pub alias_area : Scoped → List ℕ → Option ℕ
alias_area s alias = on_some (letter_area alias) (holder_of s (table_named s.shape alias)) (λ area. Some area)

-- ---- readings: the instruction, and the kind of the value

abbrev pub loads : ℕ → Option (Option Kind) → Option Reading
loads slot (Some (Some kind)) = Some (record { instr = Values (Load kind slot); kind = kind })
loads slot _ = None

-- a variable that is known to have a value
abbrev pub variable : Scoped → List ℕ → Option Reading
variable s name = on_some (slot_named s.names name) None (λ slot. loads slot (slice_get s.state.slots slot))

-- in a filter's condition only the row tried has fields
abbrev pub field_reading : Scoped → ℕ → FieldPlace → Option Reading
field_reading s area f = if s.in_filter
    then (if area == s.state.desk.selected
    then Some (record { instr = Records (record_instr.RowField f.number); kind = f.kind }) else None)
    else Some (record { instr = Records (record_instr.Field area f.number); kind = f.kind })

-- the field of this name of an area's table, if there is one; where nothing is known of the area, no declared table may
-- have such a field
abbrev pub field_known : Scoped → List ℕ → AreaState → Option (Option FieldPlace)
field_known s name Closed = Some None
field_known s name (Open a) = Some (field_in s.shape a name)
field_known s name Unsure = if list_any (has_field name) s.shape.tables then None else Some None

abbrev pub field_here : Scoped → List ℕ → Option (Option FieldPlace)
field_here s name = field_known s name (area_at s.state.desk s.state.desk.selected)

-- a field of the selected area's table, else a variable
abbrev pub here_reading : Scoped → List ℕ → Option FieldPlace → Option Reading
here_reading s name None = variable s name
here_reading s name (Some f) = field_reading s s.state.desk.selected f

unfoldable pub read_name : Scoped → List ℕ → Option Reading
read_name s name = on_some (field_here s name) None (here_reading s name)

-- a field of an open work area
abbrev pub field_of_area : Scoped → List ℕ → ℕ → AreaState → Option Reading
field_of_area s name area (Open a) = on_some (field_in s.shape a name) None (field_reading s area)
field_of_area s name area _ = None

-- M is no work area: behind it stands a variable
unfoldable pub read_qualified : Scoped → List ℕ → List ℕ → Option Reading
read_qualified s alias name = if bytes_eq alias (codes "M") then variable s name
    else on_some (alias_area s alias) None (λ area. field_of_area s name area (area_at s.state.desk area))
