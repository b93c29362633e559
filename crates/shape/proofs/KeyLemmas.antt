-- Keys that fit fields are keys that rows can have.
use Rattle.std.proofs.Common.{◌≡◌, ◌≤◌, ◌<◌, ℕ, zero, suc, true, nat_le, List, [], ◌∷◌, length, map}
use Rattle.std.proofs.Common.{refl, subst, arith}
use Rattle.std.specs.Prelude.{slice_get, slice_index, slice_index_or}
use Rattle.std.specs.List.{AllByRecursion, list_all}
use Rattle.std.proofs.lemmas.Bool.{leb-true, and_parts}
use Rattle.dbf_file.specs.declared.field.Letter.{Letter}
use Rattle.dbf_file.specs.declared.field.Letter.TheVariants.{C, N, D, L}
use Rattle.dbf_file.specs.declared.field.Field.{Field}
use Rattle.dbf_file.specs.Fields.{widths_of}
use Rattle.dbf_file.specs.Tables.{StructureState, row_widths}
use Rattle.shape.specs.declared.parts.KeyPart.{KeyPart}
use Rattle.shape.specs.Keys.{IsKey, IsTextField, key_length, is_text_field, holds_text, width_of, names_text, key_bytes}
use Rattle.shape.specs.Keys.{is_key}

letter : (f : Letter) → holds_text f ≡ true → f ≡ C
letter C e = refl
letter N e = absurd (cc)
letter D e = absurd (cc)
letter L e = absurd (cc)

text_there : (fields : List Field) (n : ℕ) → is_text_field (slice_get fields n) ≡ true
    → (n < length fields) × (slice_index_or (map (λ f. f.letter) fields) n C ≡ C)
text_there [] n e = absurd (cc)
text_there (f ∷ fields) zero e = (omega arith, letter f.letter e)
text_there (f ∷ fields) (suc n) e = let t = text_there fields n e in (omega (arith, t.0), t.1)

width_there : (fields : List Field) (n : ℕ) → n < length fields → width_of (slice_get fields n)
    ≡ slice_index (widths_of fields) n
width_there [] n lt = absurd (omega arith)
width_there (f ∷ fields) zero lt = refl
width_there (f ∷ fields) (suc n) lt = width_there fields n (omega arith)

fields_there : (s : StructureState) (parts : List KeyPart) → list_all (names_text s.fields) parts ≡ true
    → AllByRecursion (IsTextField s) parts
fields_there s [] e = record {}
fields_there s (part ∷ parts) e =
    let b = and_parts (names_text s.fields part) (list_all (names_text s.fields) parts) e in
    let t = text_there s.fields part.field b.0 in
    (record { within = t.0; letter = t.1 }, fields_there s parts b.1)

bytes_there : (s : StructureState) (parts : List KeyPart) → list_all (names_text s.fields) parts ≡ true
    → key_bytes s.fields parts ≡ key_length parts (row_widths s)
bytes_there s [] e = refl
bytes_there s (part ∷ parts) e =
    let b = and_parts (names_text s.fields part) (list_all (names_text s.fields) parts) e in
    let t = text_there s.fields part.field b.0 in
    let here : width_of (slice_get s.fields part.field) ≡ slice_index (row_widths s) part.field =
    width_there s.fields part.field t.0 in
    let rest : key_bytes s.fields parts ≡ key_length parts (row_widths s) = bytes_there s parts b.1 in
    rw (here, rest) refl

pub keys_there : (s : StructureState) (parts : List KeyPart) → is_key s.fields parts ≡ true → IsKey s parts
unfolding is_key
keys_there s parts e =
    let a = and_parts _ (nat_le (key_bytes s.fields parts) 100) e in
    let b = and_parts _ (nat_le 1 (key_bytes s.fields parts)) a.0 in
    let c = and_parts _ (list_all (names_text s.fields) parts) b.0 in
    let d = and_parts (nat_le 1 (length parts)) (nat_le (length parts) 8) c.0 in
    let same = bytes_there s parts c.1 in
    record {
      some = leb-true 1 (length parts) d.0;
      few = leb-true (length parts) 8 d.1;
      fields = fields_there s parts c.1;
      short = (
        subst (λ n. 1 ≤ n) same (leb-true 1 (key_bytes s.fields parts) b.1),
        subst (λ n. n ≤ 100) same
            (leb-true (key_bytes s.fields parts) 100 a.1),
      );
    }
