-- The text of each item of a code file. Numbers are written with their lowest byte first.
use Rattle.std.specs.Prelude.{ℕ, suc, ◌+◌, pos, negsuc, List, [], ◌∷◌, ◌++◌, length, reverse, Option, Some, None, Bool}
use Rattle.std.specs.Prelude.{true, false}
use Rattle.std.specs.Int.{w16, w64, to_le_bytes}
use Rattle.std.specs.List.{flat_map}
use Rattle.arrayvec.specs.ArrayVec.{ArrayVec}
use Rattle.xvalue.specs.declared.kind.Kind.{Kind}
use Rattle.xvalue.specs.declared.kind.Kind.TheVariants.{Number as OfNumber, Text as OfText, Date as OfDate}
use Rattle.xvalue.specs.declared.kind.Kind.TheVariants.{Logical as OfLogical}
use Rattle.calendar.specs.declared.day.DayParts.{DayParts}
use Rattle.xvalue.specs.declared.value.Value.{Value}
use Rattle.xvalue.specs.declared.value.Value.TheVariants.{Number, Text, Date, Logical}
use Rattle.fixed_num.specs.Number.{Number as Decimal, asterisk, finite}
use Rattle.dbf_file.specs.declared.field.Field.{Field}
use Rattle.dbf_file.specs.Fields.{code_of}
use Rattle.shape.specs.declared.tables.TableShape.{TableShape}
use Rattle.shape.specs.declared.parts.KeyPart.{KeyPart}
use Rattle.shape.specs.declared.indexes.IndexShape.{IndexShape}
use Rattle.shape.specs.declared.lists.IndexList.{IndexList}
use Rattle.code_items.specs.declared.declared.Need.{Need}
use Rattle.code_items.specs.declared.declared.Filter.{Filter}
use Rattle.code_items.specs.declared.desk.AreaState.{AreaState}
use Rattle.code_items.specs.declared.desk.AreaState.TheVariants.{Closed, Open, Unsure}
use Rattle.code_items.specs.declared.state.State.{State}
use Rattle.code_items.specs.declared.code.Proc.{Proc}
use Rattle.code_items.specs.declared.code.Map.{Map}

-- a number of two bytes
abbrev pub two : ℕ → List ℕ
two n = to_le_bytes w16 n

-- the numbers of the kinds, and of a slot's kind or none
abbrev pub kind_number : Kind → ℕ
kind_number OfNumber = 1
kind_number OfText = 2
kind_number OfDate = 3
kind_number OfLogical = 4

abbrev pub slot_number : Option Kind → ℕ
slot_number None = 0
slot_number (Some kind) = kind_number kind

abbrev pub truth_number : Bool → ℕ
truth_number false = 0
truth_number true = 1

abbrev pub kind_text : Kind → List ℕ
kind_text kind = kind_number kind ∷ []

abbrev pub slot_text : Option Kind → List ℕ
slot_text slot = slot_number slot ∷ []

-- ---- tables, indexes and lists

-- a text's length and bytes
abbrev pub counted_text : List ℕ → List ℕ
counted_text bytes = length bytes ∷ bytes

abbrev pub name_text : ArrayVec ℕ → List ℕ
name_text name = counted_text name.items

-- the name, and the type, the width and the decimals in a byte each
abbrev pub field_text : Field → List ℕ
field_text f = name_text f.name ++ (code_of f.letter ∷ f.width ∷ f.decimals ∷ [])

-- the name, how many fields there are, and those
abbrev pub table_text : TableShape → List ℕ
table_text t = name_text t.name ++ (length t.fields ∷ flat_map field_text t.fields)

-- the field, and 1 where its text is taken in capitals
abbrev pub key_part_text : KeyPart → List ℕ
key_part_text p = p.field ∷ truth_number p.upper ∷ []

-- the name, the table, how many parts the key has, and those
abbrev pub index_text : IndexShape → List ℕ
index_text x = name_text x.name ++ (x.table ∷ length x.key ∷ flat_map key_part_text x.key)

-- how many indexes there are, and those
abbrev pub list_text : IndexList → List ℕ
list_text l = counted_text l.indexes.items

-- ---- constants

-- the decimals, 1 where the number is below zero, and its digits as a number of eight bytes; the asterisk value has no
-- text
abbrev pub decimal_text : Decimal → List ℕ
decimal_text asterisk = []
decimal_text (finite (pos m) d) = d ∷ 0 ∷ to_le_bytes w64 m
decimal_text (finite (negsuc m) d) = d ∷ 1 ∷ to_le_bytes w64 (suc m)

-- the year in two bytes, the month and the day; all 0 for the blank date
abbrev pub date_text : Option DayParts → List ℕ
date_text None = two 0 ++ (0 ∷ 0 ∷ [])
date_text (Some parts) = two parts.year ++ (parts.month ∷ parts.day ∷ [])

abbrev pub kind_of_value : Value → Kind
kind_of_value (Number number) = OfNumber
kind_of_value (Date day) = OfDate
kind_of_value (Text text) = OfText
kind_of_value (Logical truth) = OfLogical

-- a number's parts, a date's parts, a text's length and bytes, or a truth value
abbrev pub value_text : Value → List ℕ
value_text (Number number) = decimal_text number
value_text (Date day) = date_text day
value_text (Text text) = counted_text text.items
value_text (Logical truth) = truth_number truth ∷ []

-- a constant's kind, and its value
abbrev pub constant_text : Value → List ℕ
constant_text value = kind_number (kind_of_value value) ∷ value_text value

-- ---- filters

-- the slot and the kind
abbrev pub need_text : Need → List ℕ
need_text n = n.slot ∷ kind_number n.kind ∷ []

-- the table, the length of the block, how much is needed, and that
abbrev pub filter_text : Filter → List ℕ
filter_text f = f.table ∷ (two f.length ++ (two (length f.needs) ++ flat_map need_text f.needs))

-- ---- states, procedures and maps

-- 0 for a closed area, 255 for one of which nothing is known, else the table, counted from 1
abbrev pub area_byte : AreaState → ℕ
area_byte Closed = 0
area_byte (Open a) = a.table + 1
area_byte Unsure = 255

-- an open area's list, order and filter
abbrev pub open_text : AreaState → List ℕ
open_text Closed = []
open_text (Open a) = a.list ∷ a.order ∷ a.filter ∷ []
open_text Unsure = []

abbrev pub area_text : AreaState → List ℕ
area_text area = area_byte area ∷ open_text area

-- the selected work area, the work areas, the slots, and the stack's height and kinds, the top last
abbrev pub state_text : State → List ℕ
state_text s = s.desk.selected
    ∷ (flat_map area_text s.desk.areas
    ++ (flat_map slot_text s.slots ++ (length s.stack ∷ flat_map kind_text (reverse s.stack))))

-- the length of the block, the level, and the states at entry and exit
abbrev pub procedure_text : Proc → List ℕ
procedure_text p = two p.length ++ (p.level ∷ (state_text p.entry ++ state_text p.exit))

-- the place and the state before it
abbrev pub map_text : Map → List ℕ
map_text m = two m.place ++ state_text m.state
