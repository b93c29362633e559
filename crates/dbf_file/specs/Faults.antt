-- Why bytes are no table's file within a limit of rows.
use Rattle.std.specs.Prelude.{ℕ, ◌+◌, ◌*◌, Bool, true, false, not, ◌||◌, ◌==◌, nat_lt, List, [], ◌∷◌, length, drop}
use Rattle.std.specs.Prelude.{slice_index, slice_range, Option, find, Result, Ok, Err}
use Rattle.dbf_file.specs.declared.field.Field.{Field}
use Rattle.dbf_file.specs.declared.fault.DbfFault.{DbfFault}
use Rattle.dbf_file.specs.declared.fault.DbfFault.TheVariants.{Short, Version, HeaderLength, FieldShape, NoEnd}
use Rattle.dbf_file.specs.declared.fault.DbfFault.TheVariants.{RecordLength, TooMany, Truncated, RecordMark, Memory}
use Rattle.dbf_file.specs.Numbers.{number_at}
use Rattle.dbf_file.specs.Fields.{widths_of, size_of}
use Rattle.dbf_file.specs.Descriptors.{fields_from}
use Rattle.dbf_file.specs.Rows.{are_marked}

-- what the header tells
abbrev pub told_count : List ℕ → ℕ
told_count bytes = number_at 4 4 bytes

abbrev pub told_header : List ℕ → ℕ
told_header bytes = number_at 2 8 bytes

abbrev pub told_size : List ℕ → ℕ
told_size bytes = number_at 2 10 bytes

-- what the descriptors tell, which begin at byte 32 and end before the header's length
unfoldable pub told_fields : List ℕ → Result (List Field) DbfFault
told_fields bytes = fields_from 129 [] (slice_range bytes 32 (told_header bytes))

abbrev pub fields_in : Result (List Field) DbfFault → List Field
fields_in (Ok fields) = fields
fields_in (Err fault) = []

-- the fault that the descriptors have first
abbrev pub is_shape_fault : Result (List Field) DbfFault → Bool
is_shape_fault (Err FieldShape) = true
is_shape_fault _ = false

abbrev pub is_no_end : Result (List Field) DbfFault → Bool
is_no_end (Err NoEnd) = true
is_no_end _ = false

-- the length of a record of the fields that are told
abbrev pub true_size : List ℕ → ℕ
true_size bytes = size_of (widths_of (fields_in (told_fields bytes)))

-- whether the bytes have this fault
abbrev pub has_fault : ℕ → List ℕ → DbfFault → Bool
has_fault limit bytes Short = nat_lt (length bytes) 65
has_fault limit bytes Version = not (slice_index bytes 0 == 3)
has_fault limit bytes HeaderLength = nat_lt (told_header bytes) 65 || nat_lt (length bytes) (told_header bytes)
has_fault limit bytes FieldShape = is_shape_fault (told_fields bytes)
has_fault limit bytes NoEnd = is_no_end (told_fields bytes)
has_fault limit bytes RecordLength = not (told_size bytes == true_size bytes) || nat_lt 4000 (true_size bytes)
has_fault limit bytes TooMany = nat_lt limit (told_count bytes)
has_fault limit bytes Truncated = nat_lt (length bytes) (told_header bytes + told_count bytes * true_size bytes)
has_fault limit bytes RecordMark =
    not (are_marked (true_size bytes) (told_count bytes) (drop (told_header bytes) bytes))
has_fault limit bytes Memory = false

-- The order in which faults are told. Of the two that descriptors can have, the one that comes first in the file is
-- their fault.
abbrev pub fault_order : List DbfFault
fault_order = Short ∷ Version ∷ HeaderLength ∷ FieldShape ∷ NoEnd ∷ RecordLength ∷ TooMany ∷ Truncated ∷ RecordMark ∷ []

-- the first fault, None in the file of a table within the limit
unfoldable pub first_fault : ℕ → List ℕ → Option DbfFault
first_fault limit bytes = find (has_fault limit bytes) fault_order
