-- Bytes hold one table, and two files hold one table if it is written alike.
use Rattle.std.proofs.Common.{◌≡◌, ◌↔◌, ℕ, IsTrue, List, length, drop, sym, ap, ◌∙◌, subst}
use Rattle.std.proofs.lemmas.Slice.Eq.{bytes_eq-Decides}
use Rattle.std.specs.Str.{bytes_eq}
use Rattle.dbf_file.specs.declared.field.Field.{Field}
use Rattle.dbf_file.specs.Faults.{told_header, told_fields}
use Rattle.dbf_file.specs.Fields.{widths_of}
use Rattle.dbf_file.specs.Rows.{Row, rows_in}
use Rattle.dbf_file.specs.Tables.{StructureState, DbfText, dbf_text}
use Rattle.dbf_file.proofs.FileLemmas.{parts_of, ok_same, same_structure}
use Rattle.save_rules.specs.Unchanged.{TextOfTable, IsUnstamped, HoldOneTable, no_stamp}

-- the same structure and the same rows
abbrev pub Same : StructureState → StructureState → List Row → List Row → Type 0
Same one other first second = (one ≡ other) × (first ≡ second)

one_table : (bytes : List ℕ) (one other : StructureState) (rows others : List Row) → TextOfTable bytes one rows
    → TextOfTable bytes other others → Same one other rows others
one_table bytes one other rows others (stamp, a) (later, b) =
    let p = parts_of one rows stamp bytes a in
    let q = parts_of other others later bytes b in
    let fields : one.fields ≡ other.fields = ok_same (told_fields bytes) one.fields other.fields p.fields q.fields in
    let head : one.head ≡ other.head = sym p.head ∙ q.head in
    let count : length rows ≡ length others = sym p.count ∙ q.count in
    let behind : List ℕ = drop (told_header bytes) bytes in (
      same_structure one other.fields other.head fields head,
      sym p.same_rows ∙ ap (λ (fs : List Field). rows_in (widths_of fs) (length rows) behind) fields
          ∙ ap (λ (n : ℕ). rows_in (widths_of other.fields) n behind) count ∙ q.same_rows,
    )

-- two files of tables hold one table if their structures and rows are the same
pub hold_one : (read new : List ℕ) (one other : StructureState) (rows others : List Row) → TextOfTable read one rows
    → TextOfTable new other others → HoldOneTable read new ↔ Same one other rows others
hold_one read new one other rows others before after = (
  λ held.
      let first = one_table read one held.structure rows held.rows before held.before in
      let second = one_table new other held.structure others held.rows after held.after in
      (first.0 ∙ sym second.0, first.1 ∙ sym second.1),
  λ (structures, all). record {
    structure = one;
    rows = rows;
    before = before;
    after = subst (λ (s : StructureState). TextOfTable new s rows) (sym structures)
        (subst (TextOfTable new other) (sym all) after);
  },
)

pub written_alike : (read new was is : List ℕ) → IsUnstamped read was → IsUnstamped new is
    → IsTrue (bytes_eq was is) ↔ HoldOneTable read new
written_alike read new was is p q =
    let held = hold_one read new p.structure q.structure p.rows q.rows p.held q.held in (
      λ alike. held.1 (one_table was p.structure q.structure p.rows q.rows (no_stamp, p.again)
          (no_stamp, subst (DbfText q.structure q.rows no_stamp) (sym ((bytes_eq-Decides was is).0 alike)) q.again)),
      λ one.
          let (structures, all) = held.0 one in
          (bytes_eq-Decides was is).1
          (p.written ∙ ap (λ (s : StructureState). dbf_text s p.rows no_stamp) structures
          ∙ ap (λ (rows : List Row). dbf_text q.structure rows no_stamp) all ∙ sym q.written),
    )
