-- Bytes hold one table.
use Rattle.std.proofs.Common.{◌≡◌, ℕ, List, length, drop, sym, ap, ◌∙◌}
use Rattle.dbf_file.specs.declared.field.Field.{Field}
use Rattle.dbf_file.specs.declared.stamp.Stamp.{Stamp}
use Rattle.dbf_file.specs.Faults.{told_header, told_fields}
use Rattle.dbf_file.specs.Fields.{widths_of}
use Rattle.dbf_file.specs.Rows.{Row, rows_in}
use Rattle.dbf_file.specs.Tables.{StructureState, DbfText}
use Rattle.dbf_file.proofs.FileLemmas.{parts_of, ok_same}

-- a structure is its fields and its head
same_structures : (one other : StructureState) → one.fields ≡ other.fields → one.head ≡ other.head → one ≡ other
same_structures one other e f =
    let made : List Field → List ℕ → StructureState = λ fields head. record { fields = fields; head = head } in
    ap (λ (fields : List Field). made fields one.head) e ∙ ap (made other.fields) f

-- a stamp is its year, month and day
same_stamps : (one other : Stamp) → one.year ≡ other.year → one.month ≡ other.month → one.day ≡ other.day → one ≡ other
same_stamps one other e f g =
    let made : ℕ → ℕ → ℕ → Stamp = λ year month day. record { year = year; month = month; day = day } in
    ap (λ (year : ℕ). made year one.month one.day) e ∙ ap (λ (month : ℕ). made other.year month one.day) f
    ∙ ap (made other.year other.month) g

pub one_table : (one other : StructureState) (rows others : List Row) (stamp later : Stamp) (bytes : List ℕ)
    → DbfText one rows stamp bytes → DbfText other others later bytes
    → (one ≡ other) × (rows ≡ others) × (stamp ≡ later)
one_table one other rows others stamp later bytes a b =
    let p = parts_of one rows stamp bytes a in
    let q = parts_of other others later bytes b in
    let fields : one.fields ≡ other.fields = ok_same (told_fields bytes) one.fields other.fields p.fields q.fields in
    let head : one.head ≡ other.head = sym p.head ∙ q.head in
    let count : length rows ≡ length others = sym p.count ∙ q.count in
    let behind : List ℕ = drop (told_header bytes) bytes in (
      same_structures one other fields head,
      sym p.same_rows ∙ ap (λ (fs : List Field). rows_in (widths_of fs) (length rows) behind) fields
          ∙ ap (λ (n : ℕ). rows_in (widths_of other.fields) n behind) count ∙ q.same_rows,
      same_stamps stamp later (sym a.year ∙ b.year) (sym a.month ∙ b.month) (sym a.day ∙ b.day),
    )
