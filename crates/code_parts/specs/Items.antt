-- Reading each item: what its bytes say, or its first flaw. What an item says of others, as a list of its indexes,
-- isn't judged here.
use Rattle.std.specs.Prelude.{ℕ, ◌-◌, ◌^◌, List, length, reverse, Bool, true, false, ◌&&◌, ◌||◌, ◌==◌, nat_lt, nat_le}
use Rattle.std.specs.Prelude.{if◌then◌else◌, Option, Some, None, Ok, Err}
use Rattle.std.specs.Int.{w16, w64}
use Rattle.arrayvec.specs.ArrayVec.{ArrayVec}
use Rattle.xvalue.specs.declared.kind.Kind.{Kind}
use Rattle.xvalue.specs.declared.kind.Kind.TheVariants.{Number as OfNumber, Text as OfText, Date as OfDate}
use Rattle.xvalue.specs.declared.kind.Kind.TheVariants.{Logical as OfLogical}
use Rattle.calendar.specs.declared.day.DayParts.{DayParts}
use Rattle.calendar.specs.Calendar.{is_day}
use Rattle.xvalue.specs.declared.value.Value.{Value}
use Rattle.xvalue.specs.declared.value.Value.TheVariants.{Number, Text, Date, Logical}
use Rattle.fixed_num.specs.Number.{finite, signed}
use Rattle.dbf_file.specs.declared.field.Field.{Field}
use Rattle.dbf_file.specs.Fields.{letter_of}
use Rattle.shape.specs.declared.tables.TableShape.{TableShape}
use Rattle.shape.specs.declared.parts.KeyPart.{KeyPart}
use Rattle.shape.specs.declared.indexes.IndexShape.{IndexShape}
use Rattle.shape.specs.declared.lists.IndexList.{IndexList}
use Rattle.code_items.specs.declared.declared.Version.{Version}
use Rattle.code_items.specs.declared.declared.Need.{Need}
use Rattle.code_items.specs.declared.declared.Filter.{Filter}
use Rattle.code_items.specs.declared.desk.AreaState.{AreaState}
use Rattle.code_items.specs.declared.desk.AreaState.TheVariants.{Closed, Open, Unsure}
use Rattle.code_items.specs.declared.state.State.{State}
use Rattle.code_items.specs.declared.code.Proc.{Proc}
use Rattle.code_items.specs.declared.code.Map.{Map}
use Rattle.code_items.specs.States.{may_be_unsure}
use Rattle.code_parts.specs.declared.flaw.Flaw.{Flaw}
use Rattle.code_parts.specs.declared.flaw.Flaw.TheVariants.{Limit, Shape}
use Rattle.code_parts.specs.Reading.{Reader, ◌>>=◌, give, byte_at, number_read_at, text_read_at, Judged, several, sure}
use Rattle.code_parts.specs.Reading.{pair_read_at}
use Rattle.code_parts.specs.Reading.{made_at, counted_at, by_byte}

-- this flaw, unless the test holds
abbrev pub wanted : {A : Type 0} → Flaw → Bool → A → Judged A
wanted flaw test x = if test then Ok x else Err flaw

-- the thing, if there is one
abbrev pub there : {A B : Type 0} → Flaw → Option A → (A → Judged B) → Judged B
there flaw None make = Err flaw
there flaw (Some x) make = make x

-- ---- kinds and truth values

abbrev pub kind_of_byte : ℕ → Option Kind
kind_of_byte byte =
    if byte == 1 then Some OfNumber else (
    if byte == 2 then Some OfText else (
    if byte == 3 then Some OfDate else (
    if byte == 4 then Some OfLogical else None)))

abbrev pub kind_from : ℕ → Judged Kind
kind_from byte = there Shape (kind_of_byte byte) (λ kind. Ok kind)

abbrev pub slot_from : ℕ → Judged (Option Kind)
slot_from byte = if byte == 0 then Ok None else there Shape (kind_of_byte byte) (λ kind. Ok (Some kind))

abbrev pub truth_of_byte : ℕ → Option Bool
truth_of_byte byte = if byte == 0 then Some false else (if byte == 1 then Some true else None)

unfoldable pub kind_at : Reader (Judged Kind)
kind_at = made_at (sure byte_at) kind_from

unfoldable pub slot_at : Reader (Judged (Option Kind))
slot_at = made_at (sure byte_at) slot_from

-- ---- tables, indexes and lists

abbrev pub name_from : List ℕ → Judged (ArrayVec ℕ)
name_from bytes = wanted Shape (nat_le (length bytes) 10) (record { items = bytes })

unfoldable pub name_read_at : Reader (Judged (ArrayVec ℕ))
name_read_at = made_at (sure text_read_at) name_from

abbrev pub field_from : ArrayVec ℕ × (ℕ × (ℕ × ℕ)) → Judged Field
field_from (name, (letter, (width, decimals))) =
    there Shape (letter_of letter) (λ l. Ok (record { name = name; letter = l; width = width; decimals = decimals }))

unfoldable pub field_at : Reader (Judged Field)
field_at = made_at
    (pair_read_at name_read_at (pair_read_at (sure byte_at) (pair_read_at (sure byte_at) (sure byte_at)))) field_from

unfoldable pub table_read_at : Reader (Judged TableShape)
table_read_at = made_at (pair_read_at name_read_at (counted_at field_at))
    (λ p. Ok (record { name = p.0; fields = p.1 }))

abbrev pub part_from : ℕ × ℕ → Judged KeyPart
part_from (field, upper) = there Shape (truth_of_byte upper) (λ u. Ok (record { field = field; upper = u }))

unfoldable pub part_at : Reader (Judged KeyPart)
part_at = made_at (pair_read_at (sure byte_at) (sure byte_at)) part_from

abbrev pub index_from : ArrayVec ℕ × (ℕ × List KeyPart) → Judged IndexShape
index_from (name, (table, parts)) =
    wanted Shape (nat_le (length parts) 8) (record { name = name; table = table; key = parts })

unfoldable pub index_at : Reader (Judged IndexShape)
index_at = made_at (pair_read_at name_read_at (pair_read_at (sure byte_at) (counted_at part_at))) index_from

abbrev pub list_from : List ℕ → Judged IndexList
list_from bytes = wanted Shape (nat_le (length bytes) 7) (record { indexes = record { items = bytes } })

unfoldable pub list_at : Reader (Judged IndexList)
list_at = made_at (sure text_read_at) list_from

-- ---- constants

-- decimals, sign and digits of a number: in range, and zero without a sign
abbrev pub is_stored_number : ℕ → ℕ → ℕ → Bool
is_stored_number decimals sign magnitude =
    nat_le decimals 15 && nat_lt magnitude (10 ^ 19) && (sign == 0 || (sign == 1 && nat_lt 0 magnitude))

abbrev pub decimal_from : ℕ × (ℕ × ℕ) → Judged Value
decimal_from (decimals, (sign, magnitude)) =
    wanted Shape (is_stored_number decimals sign magnitude) (Number (finite (signed (sign == 1) magnitude) decimals))

unfoldable pub decimal_at : Reader (Judged Value)
decimal_at =
    made_at (pair_read_at (sure byte_at) (pair_read_at (sure byte_at) (sure (number_read_at w64)))) decimal_from

-- the blank date, or a day that the calendar has
abbrev pub date_from : DayParts → Judged Value
date_from parts = if parts.year == 0 && parts.month == 0
    && parts.day == 0 then Ok (Date None) else wanted Shape (is_day parts) (Date (Some parts))

unfoldable pub date_at : Reader (Judged Value)
date_at = made_at (pair_read_at (sure (number_read_at w16)) (pair_read_at (sure byte_at) (sure byte_at)))
    (λ (year, (month, day)). date_from (record { year = year; month = month; day = day }))

abbrev pub text_from : List ℕ → Judged Value
text_from bytes = wanted Shape (nat_le (length bytes) 254) (Text (record { items = bytes }))

unfoldable pub text_value_at : Reader (Judged Value)
text_value_at = made_at (sure text_read_at) text_from

abbrev pub truth_from : ℕ → Judged Value
truth_from byte = there Shape (truth_of_byte byte) (λ truth. Ok (Logical truth))

unfoldable pub truth_at : Reader (Judged Value)
truth_at = made_at (sure byte_at) truth_from

-- of a constant of another kind the kind's byte alone is read
abbrev pub value_at : ℕ → Reader (Judged Value)
value_at kind =
    if kind == 1 then decimal_at else (
    if kind == 2 then text_value_at else (
    if kind == 3 then date_at else (
    if kind == 4 then truth_at else give (Err Shape))))

unfoldable pub constant_at : Reader (Judged Value)
constant_at = by_byte value_at

-- ---- filters

abbrev pub need_from : ℕ × ℕ → Judged Need
need_from (slot, kind) = there Shape (kind_of_byte kind) (λ k. Ok (record { slot = slot; kind = k }))

unfoldable pub need_at : Reader (Judged Need)
need_at = made_at (pair_read_at (sure byte_at) (sure byte_at)) need_from

-- a number of two bytes that says how many there are, and those
unfoldable pub needs_at : Reader (Judged (List Need))
needs_at = do
  count ← number_read_at w16
  several need_at count

unfoldable pub filter_at : Reader (Judged Filter)
filter_at = made_at (pair_read_at (sure byte_at) (pair_read_at (sure (number_read_at w16)) needs_at))
    (λ (table, (length, needs)). Ok (record { table = table; length = length; needs = needs }))

-- ---- states, procedures and maps

abbrev pub open_from : ℕ → ℕ × (ℕ × ℕ) → Judged AreaState
open_from byte (list, (order, filter)) =
    Ok (Open (record { table = byte - 1; list = list; order = order; filter = filter }))

unfoldable pub open_read_at : ℕ → Reader (Judged AreaState)
open_read_at byte =
    made_at (pair_read_at (sure byte_at) (pair_read_at (sure byte_at) (sure byte_at))) (open_from byte)

-- in version one 255 is a table's number as any other
abbrev pub area_behind : Version → ℕ → Reader (Judged AreaState)
area_behind version byte =
    if byte == 0 then give (Ok Closed) else (
    if byte == 255 && may_be_unsure version then give (Ok Unsure) else open_read_at byte)

unfoldable pub area_read_at : Version → Reader (Judged AreaState)
area_read_at version = by_byte (area_behind version)

abbrev pub state_from : ℕ × (List AreaState × (List (Option Kind) × List Kind)) → Judged State
state_from (selected, (areas, (slots, kinds))) =
    Ok (record { desk = record { selected = selected; areas = areas }; slots = slots; stack = reverse kinds })

-- the top of the stack stands last
unfoldable pub state_read_at : Version → ℕ → Reader (Judged State)
state_read_at version slots =
    made_at (pair_read_at (sure byte_at) (pair_read_at (several (area_read_at version) 10)
    (pair_read_at (several slot_at slots) (counted_at kind_at)))) state_from

abbrev pub level_from : ℕ → Judged ℕ
level_from level = wanted Limit (nat_le level 20) level

unfoldable pub procedure_read_at : Version → ℕ → Reader (Judged Proc)
procedure_read_at version slots =
    made_at (pair_read_at (sure (number_read_at w16))
    (pair_read_at (made_at (sure byte_at) level_from)
    (pair_read_at (state_read_at version slots) (state_read_at version slots))))
    (λ (length, (level, (entry, exit))). Ok (record { length = length; level = level; entry = entry; exit = exit }))

unfoldable pub map_read_at : Version → ℕ → Reader (Judged Map)
map_read_at version slots =
    made_at (pair_read_at (sure (number_read_at w16)) (state_read_at version slots))
    (λ p. Ok (record { place = p.0; state = p.1 }))
