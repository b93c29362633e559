-- Descriptors: 32 bytes for each field, and a byte 13 behind the last.
use Rattle.std.specs.Prelude.{◌≡◌, ℕ, zero, suc, ◌-◌, ◌==◌, nat_lt, nat_le, List, [], ◌∷◌, ◌++◌, length, take, drop}
use Rattle.std.specs.Prelude.{replicate, slice_index, Option, Some, None, position, Result, Ok, Err, if◌then◌else◌}
use Rattle.std.specs.List.{flat_map}
use Rattle.dbf_file.specs.declared.field.Letter.{Letter}
use Rattle.dbf_file.specs.declared.field.Letter.TheVariants.{C, N, D, L}
use Rattle.dbf_file.specs.declared.field.Field.{Field}
use Rattle.dbf_file.specs.declared.fault.DbfFault.{DbfFault}
use Rattle.dbf_file.specs.declared.fault.DbfFault.TheVariants.{FieldShape, NoEnd}
use Rattle.dbf_file.specs.Fields.{code_of, letter_of, is_field, is_new}

-- ---- what a descriptor says

-- the decimals of a field: those of its byte for a number, else 0
abbrev pub decimals_of : Letter → ℕ → ℕ
decimals_of C byte = 0
decimals_of N byte = byte
decimals_of D byte = 0
decimals_of L byte = 0

-- The 32 bytes describe the field. Its other bytes may be any: what stands behind the zero byte that ends the name,
-- bytes 12 to 15, the decimals of a field that is no number, bytes 18 to 31.
pub record IsDescriptor (bytes : List ℕ) (f : Field) : Type 0 where
  pub whole : length bytes ≡ 32
  pub name : (behind : List ℕ) × (take 11 bytes ≡ f.name.items ++ 0 ∷ behind)
  pub letter : slice_index bytes 11 ≡ code_of f.letter
  pub width : slice_index bytes 16 ≡ f.width
  pub decimals : f.decimals ≡ decimals_of f.letter (slice_index bytes 17)

-- the bytes begin with descriptors of the fields, and a byte 13 behind them
abbrev pub Describes : List ℕ → List Field → Type 0
Describes bytes [] = (behind : List ℕ) × (bytes ≡ 13 ∷ behind)
Describes bytes (f ∷ fs) = IsDescriptor (take 32 bytes) f × Describes (drop 32 bytes) fs

-- ---- what is told, and the fault

-- the field of a descriptor by its name's length and its letter
abbrev pub field_with : List ℕ → ℕ → Letter → Field
field_with bytes i letter =
    record {
      name = record { items = take i bytes };
      letter = letter;
      width = slice_index bytes 16;
      decimals = decimals_of letter (slice_index bytes 17);
    }

abbrev pub if_field : Field → Option Field
if_field f = if is_field f then Some f else None

abbrev pub with_letter : List ℕ → ℕ → Option Letter → Option Field
with_letter bytes i None = None
with_letter bytes i (Some letter) = if_field (field_with bytes i letter)

abbrev pub with_end : List ℕ → Option ℕ → Option Field
with_end bytes None = None
with_end bytes (Some i) = with_letter bytes i (letter_of (slice_index bytes 11))

-- the field that a descriptor tells, None where it is bad
unfoldable pub told_field : List ℕ → Option Field
told_field bytes = with_end bytes (position (λ byte. byte == 0) (take 11 bytes))

-- a field that is told behind these
abbrev pub if_new : List Field → Option Field → Result (Option Field) DbfFault
if_new earlier None = Err FieldShape
if_new earlier (Some f) = if is_new earlier f then Ok (Some f) else Err FieldShape

-- What stands at the front of the bytes, behind descriptors of these fields: the end (None), or one more field. There
-- must be a field before the end, and no 129th; the bytes must not end before the end or within a descriptor.
unfoldable pub next_told : List Field → List ℕ → Result (Option Field) DbfFault
next_told earlier [] = Err NoEnd
next_told earlier (byte ∷ bytes) =
    if byte == 13 then (if length earlier == 0 then Err FieldShape else Ok None)
    else if nat_le 128 (length earlier) then Err FieldShape
    else if nat_lt (length (byte ∷ bytes)) 32 then Err NoEnd
    else if_new earlier (told_field (take 32 (byte ∷ bytes)))

-- what a step leads to: a fault, the fields before the end, or one field more
abbrev pub after_step : List Field → Result (Option Field) DbfFault → (List Field → Result (List Field) DbfFault)
    → Result (List Field) DbfFault
after_step earlier (Err fault) more = Err fault
after_step earlier (Ok None) more = Ok earlier
after_step earlier (Ok (Some f)) more = more (earlier ++ f ∷ [])

-- the fields that are told step by step, behind descriptors of these; n steps are enough
unfoldable pub fields_from : ℕ → List Field → List ℕ → Result (List Field) DbfFault
fields_from zero earlier bytes = Err FieldShape
fields_from (suc n) earlier bytes =
    after_step earlier (next_told earlier bytes) (λ fields. fields_from n fields (drop 32 bytes))

-- ---- how a field that no file gave is written

-- a descriptor with 0 in each byte that has no meaning
unfoldable pub descriptor_text : Field → List ℕ
descriptor_text f =
    ((((f.name.items ++ replicate (11 - length f.name.items) 0)
    ++ code_of f.letter ∷ []) ++ replicate 4 0) ++ f.width ∷ f.decimals ∷ []) ++ replicate 14 0

abbrev pub descriptors_text : List Field → List ℕ
descriptors_text fields = flat_map descriptor_text fields

-- 20 bytes 0, the descriptors, and a byte 13
unfoldable pub field_head_text : List Field → List ℕ
field_head_text fields = (replicate 20 0 ++ descriptors_text fields) ++ 13 ∷ []
