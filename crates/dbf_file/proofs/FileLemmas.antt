-- The file of a table and what its header tells.
use Rattle.std.proofs.Common.{◌≡◌, ◌==◌, ℕ, ◌+◌, ◌*◌, ◌-◌, ◌≤◌, List, [], ◌∷◌, ◌++◌, length, get_or, take, drop, Bool}
use Rattle.std.proofs.Common.{true, false, not, Some, None, Result, Ok, refl, sym, ap, ◌∙◌, subst, arith, eq-eqb}
use Rattle.std.proofs.Common.{length-append, length-drop}
use Rattle.std.specs.List.{slice_range}
use Rattle.std.proofs.lemmas.Bool.{le-ltb, leb-true, le-leb, and_parts, and_from}
use Rattle.std.proofs.lemmas.List.{take_at, drop_at, drop-drop, drop-take, take-append-drop, drop-append-le}
use Rattle.std.proofs.lemmas.List.{length-take-le}
use Rattle.dbf_file.specs.declared.field.Field.{Field}
use Rattle.dbf_file.specs.declared.stamp.Stamp.{Stamp}
use Rattle.dbf_file.specs.declared.reading.Layout.{Layout}
use Rattle.dbf_file.specs.declared.fault.DbfFault.{DbfFault}
use Rattle.dbf_file.specs.declared.fault.DbfFault.TheVariants.{Short, Version, HeaderLength, FieldShape, NoEnd}
use Rattle.dbf_file.specs.declared.fault.DbfFault.TheVariants.{RecordLength, TooMany, Truncated, RecordMark}
use Rattle.dbf_file.specs.Fields.{fields_go_on, are_fields, widths_of, size_of}
use Rattle.dbf_file.specs.Rows.{Row, rows_text, rows_in, are_marked}
use Rattle.dbf_file.specs.Descriptors.{Describes, fields_from}
use Rattle.dbf_file.specs.Tables.{StructureState, DbfText, row_widths}
use Rattle.dbf_file.specs.Faults.{told_count, told_header, told_size, told_fields, fields_in, true_size, is_shape_fault}
use Rattle.dbf_file.specs.Faults.{is_no_end, has_fault, first_fault}
use Rattle.dbf_file.specs.Kept.{IsKept}
use Rattle.dbf_file.specs.Layouts.{IsLayout, structure_told, rows_told}
use Rattle.dbf_file.proofs.FieldsLemmas.{fields_told, fields_again, length_described}
use Rattle.dbf_file.proofs.RowLemmas.{length-rows_in, rows_of_front}
use Rattle.dbf_file.proofs.TextRowLemmas.{rows_back, rows_again, rows_have_widths}
use Rattle.dbf_file.proofs.FaultLemmas.{find_skip, both_false, told_from}

-- ---- what a text tells

-- the facts of good fields
pub record GoodFields (fields : List Field) : Type 0 where
  pub some : 1 ≤ length fields
  pub most : length fields ≤ 128
  pub good : fields_go_on [] fields ≡ true
  pub small : size_of (widths_of fields) ≤ 4000

pub good_fields : (fields : List Field) → are_fields fields ≡ true → GoodFields fields
unfolding are_fields
good_fields fields good =
    let a = and_parts _ _ good in
    let b = and_parts _ _ a.0 in
    let d = and_parts _ _ b.0 in
    record { some = leb-true 1 _ d.0; most = leb-true _ 128 d.1; good = b.1; small = leb-true _ 4000 a.1 }

pub fields_good : (fields : List Field) → GoodFields fields → are_fields fields ≡ true
unfolding are_fields
fields_good fields g = and_from _ _ (and_from _ _ (and_from _ _ (le-leb 1 _ g.some) (le-leb _ 128 g.most)) g.good)
    (le-leb _ 4000 g.small)

-- a table's text, taken apart
pub record Parts (structure : StructureState) (rows : List Row) (bytes : List ℕ) : Type 0 where
  pub version : get_or bytes 0 0 ≡ 3
  pub header : told_header bytes ≡ 12 + length structure.head
  pub long : 65 ≤ told_header bytes
  pub fields : told_fields bytes ≡ Ok structure.fields
  pub head : slice_range bytes 12 (told_header bytes) ≡ structure.head
  pub count : told_count bytes ≡ length rows
  pub size : told_size bytes ≡ size_of (row_widths structure)
  pub small : size_of (row_widths structure) ≤ 4000
  pub within : told_header bytes + length rows * size_of (row_widths structure) ≤ length bytes
  pub marks : are_marked (size_of (row_widths structure)) (length rows) (drop (told_header bytes) bytes) ≡ true
  pub same_rows : rows_in (row_widths structure) (length rows) (drop (told_header bytes) bytes) ≡ rows

pub parts_of : (structure : StructureState) (rows : List Row) (stamp : Stamp) (bytes : List ℕ)
    → DbfText structure rows stamp bytes → Parts structure rows bytes
parts_of structure rows stamp bytes text =
    let head = structure.head in
    let ws = row_widths structure in
    let rest = text.text.0 in
    let there = text.text.1 in
    let good = good_fields structure.fields text.good.fields in
    let back = rows_again ws rows rest text.sound.each in
    let long = length_described (drop 20 head) structure.fields text.good.described in
    let shorter = length-drop 20 head in
    let less = length-drop 12 bytes in
    let whole = ap length there ∙ length-append head (rows_text rows ++ rest) in
    let more = length-append (rows_text rows) rest in
    let header : told_header bytes ≡ 12 + length head = text.header in
    let behind : drop (12 + length head) bytes ≡ rows_text rows ++ rest =
    sym (drop-drop (length head) 12 bytes) ∙ ap (drop (length head)) there
    ∙ drop_at head (rows_text rows ++ rest) (length head) refl in
    let behind_header : drop (told_header bytes) bytes ≡ rows_text rows ++ rest =
    ap (λ n. drop n bytes) header ∙ behind in
    let before : 20 ≤ length head = omega arith in
    let from_fields : drop 32 bytes ≡ drop 20 head ++ (rows_text rows ++ rest) =
    sym (drop-drop 20 12 bytes) ∙ ap (drop 20) there ∙ drop-append-le 20 head (rows_text rows ++ rest) before in
    let body : slice_range bytes 32 (12 + length head) ≡ drop 20 head =
    ap (take (12 + length head - 32)) from_fields ∙ take_at (drop 20 head) (rows_text rows ++ rest)
    (12 + length head - 32) (omega arith) in
    record {
      version = text.version;
      header = header;
      long = omega arith;
      fields = told_from bytes (12 + length head) (Ok structure.fields) (sym header)
          (ap (fields_from 129 []) body ∙ fields_again structure.fields 129 [] (drop 20 head) text.good.described
          good.good (omega (arith, good.most)) (omega (arith, good.some)) (omega (arith, good.most)));
      head = ap (λ n. take (n - 12) (drop 12 bytes)) header ∙ ap (take (12 + length head - 12)) there
          ∙ take_at head (rows_text rows ++ rest) (12 + length head - 12) (omega arith);
      count = text.count;
      size = text.size;
      small = good.small;
      within = omega (arith, back.whole);
      marks = ap (are_marked (size_of ws) (length rows)) behind_header ∙ back.marks;
      same_rows = ap (rows_in ws (length rows)) behind_header ∙ back.same;
    }

eq-parts : (a b : ℕ) → a ≡ b → not (a == b) ≡ false
eq-parts a b e = ap not (eq-eqb a b e)

-- a table's text has no fault within the limit
pub no_fault : (limit : ℕ) (structure : StructureState) (rows : List Row) (bytes : List ℕ) → Parts structure rows bytes
    → length rows ≤ limit → first_fault limit bytes ≡ None
unfolding first_fault
no_fault limit structure rows bytes parts limited =
    let p : DbfFault → Bool = has_fault limit bytes in
    let size : true_size bytes ≡ size_of (row_widths structure) =
    ap (λ told. size_of (widths_of (fields_in told))) parts.fields in
    let a : List DbfFault = RecordMark ∷ [] in
    let b : List DbfFault = Truncated ∷ a in
    let c : List DbfFault = TooMany ∷ b in
    let d : List DbfFault = RecordLength ∷ c in
    let e : List DbfFault = NoEnd ∷ d in
    let f : List DbfFault = FieldShape ∷ e in
    let g : List DbfFault = HeaderLength ∷ f in
    let long : told_header bytes ≤ length bytes = omega (arith, parts.within) in
    find_skip p Short (Version ∷ g) (le-ltb (length bytes) 65 (omega (arith, parts.long)))
    ∙ find_skip p Version g (eq-parts _ 3 parts.version)
    ∙ find_skip p HeaderLength f (both_false _ _ (le-ltb (told_header bytes) 65 parts.long)
    (le-ltb (length bytes) (told_header bytes) long))
    ∙ find_skip p FieldShape e (ap is_shape_fault parts.fields)
    ∙ find_skip p NoEnd d (ap is_no_end parts.fields)
    ∙ find_skip p RecordLength c (both_false _ _ (eq-parts _ _ (parts.size ∙ sym size))
    (le-ltb 4000 (true_size bytes) (subst (λ n. n ≤ 4000) (sym size) parts.small)))
    ∙ find_skip p TooMany b (le-ltb limit (told_count bytes) (subst (λ n. n ≤ limit) (sym parts.count) limited))
    ∙ find_skip p Truncated a
    (le-ltb (length bytes) _ (subst (λ n. told_header bytes + n * true_size bytes ≤ length bytes) (sym parts.count)
    (subst (λ n. told_header bytes + length rows * n ≤ length bytes) (sym size) parts.within)))
    ∙ find_skip p RecordMark []
    (ap not (ap (λ n. are_marked (true_size bytes) n (drop (told_header bytes) bytes)) parts.count
    ∙ ap (λ n. are_marked n (length rows) (drop (told_header bytes) bytes)) size ∙ parts.marks))

-- ---- what is told has a text

pub text_of : (bytes : List ℕ) (layout : Layout) → IsLayout bytes layout →
    DbfText (structure_told bytes layout) (rows_told bytes layout)
    (record { year = get_or bytes 1 0; month = get_or bytes 2 0; day = get_or bytes 3 0 }) bytes
unfolding told_fields
text_of bytes layout is =
    let fields = layout.fields.items in
    let ws = widths_of fields in
    let h = layout.header in
    let told = fields_told 129 [] (slice_range bytes 32 h) fields (omega arith)
    (ap (λ n. fields_from 129 [] (slice_range bytes 32 n)) (sym is.header) ∙ is.fields) in
    let same : fields ≡ told.more = told.together in
    let head : List ℕ = slice_range bytes 12 h in
    let less = length-drop 12 bytes in
    let length_head : length head ≡ h - 12 = length-take-le (h - 12) (drop 12 bytes) (omega (arith, is.within)) in
    let split : h - 12 ≡ 20 + (h - 32) = omega (arith, is.long) in
    let body : drop 20 head ≡ slice_range bytes 32 h =
    ap (λ n. drop 20 (take n (drop 12 bytes))) split ∙ drop-take 20 (h - 32) (drop 12 bytes)
    ∙ ap (take (h - 32)) (drop-drop 20 12 bytes) in
    let described : Describes (drop 20 head) fields = subst (λ (xs : List ℕ). Describes xs fields) (sym body)
    (subst (Describes (slice_range bytes 32 h)) (sym same) told.described) in
    let good : fields_go_on [] fields ≡ true = ap (fields_go_on []) same ∙ told.good in
    let small : size_of ws ≤ 4000 = subst (λ n. n ≤ 4000) (sym is.size) is.small in
    let records : List ℕ = drop h bytes in
    let behind = length-drop h bytes in
    let room : layout.rows * layout.size ≤ length records = omega (arith, is.within) in
    let enough : layout.rows * size_of ws ≤ length records =
    subst (λ n. layout.rows * n ≤ length records) (sym is.size) room in
    let marks : are_marked (size_of ws) layout.rows records ≡ true =
    ap (λ n. are_marked n layout.rows records) is.size ∙ is.marks in
    let written = rows_back ws layout.rows records marks enough in
    let count = length-rows_in ws layout.rows records in
    record {
      good = record {
        fields = fields_good fields
            (record { some = told.some; most = told.most; good = good; small = small });
        described =
            described;
        short = omega (arith, is.short, is.long);
      };
      sound = record { each = rows_have_widths ws layout.rows records enough; count = omega (arith, is.few) };
      version = is.version;
      year = refl;
      month = refl;
      day = refl;
      count = is.count ∙ sym count;
      header = is.header ∙ omega (arith, is.long);
      size = is.told ∙ sym is.size;
      text = (
        drop (layout.rows * size_of ws) records,
        sym (take-append-drop (h - 12) (drop 12 bytes))
            ∙ ap (λ (back : List ℕ). head ++ back)
            (drop-drop (h - 12) 12 bytes ∙ ap (λ n. drop n bytes) (omega (arith, is.long)))
            ∙ ap (λ (back : List ℕ). head ++ back) (sym (take-append-drop (layout.rows * size_of ws) records))
            ∙ ap (λ (front : List ℕ). head ++ (front ++ drop (layout.rows * size_of ws) records)) (sym written),
      );
    }

pub same_structure : (s : StructureState) (fields : List Field) (head : List ℕ) → s.fields ≡ fields → s.head ≡ head
    → s ≡ record { fields = fields; head = head }
same_structure s fields head e f =
    let made : List Field → List ℕ → StructureState = λ a b. record { fields = a; head = b } in
    ap (λ (a : List Field). made a s.head) e ∙ ap (made fields) f

-- ---- the parts of a table that is told

-- the bytes of the records
abbrev pub records_told : List ℕ → Layout → List ℕ
records_told bytes layout = slice_range bytes layout.header (layout.header + layout.rows * layout.size)

records_are : (bytes : List ℕ) (layout : Layout) → records_told bytes layout
    ≡ take (layout.rows * layout.size) (drop layout.header bytes)
records_are bytes layout =
    let long : layout.header + layout.rows * layout.size - layout.header ≡ layout.rows * layout.size = omega arith in
    ap (λ n. take n (drop layout.header bytes)) long

pub kept_told : (bytes : List ℕ) (layout : Layout) → IsLayout bytes layout
    → IsKept (structure_told bytes layout) layout.size layout.rows (records_told bytes layout)
kept_told bytes layout is =
    let text = text_of bytes layout is in
    let records : List ℕ = drop layout.header bytes in
    let behind = length-drop layout.header bytes in
    let same = records_are bytes layout in
    record {
      good = text.good;
      right_size = sym is.size;
      whole = ap length same ∙ length-take-le (layout.rows * layout.size) records (omega (arith, is.within));
      few = is.few;
    }

pub rows_of_records : (bytes : List ℕ) (layout : Layout) → IsLayout bytes layout
    → rows_in (widths_of layout.fields.items) layout.rows (records_told bytes layout) ≡ rows_told bytes layout
rows_of_records bytes layout is =
    let ws = widths_of layout.fields.items in
    let records : List ℕ = drop layout.header bytes in
    ap (rows_in ws layout.rows) (records_are bytes layout)
    ∙ ap (λ n. rows_in ws layout.rows (take (layout.rows * n) records)) (sym is.size)
    ∙ rows_of_front ws layout.rows records

pub ok_same : (told : Result (List Field) DbfFault) (a b : List Field) → told ≡ Ok a → told ≡ Ok b → a ≡ b
ok_same told a b e f = cc

-- what is told is the table whose text the bytes are
pub told_same : (bytes : List ℕ) (layout : Layout) (structure : StructureState) (rows : List Row)
    → IsLayout bytes layout → Parts structure rows bytes → (structure_told bytes layout ≡ structure)
    × (rows_told bytes layout ≡ rows)
told_same bytes layout structure rows is parts =
    let fields : layout.fields.items ≡ structure.fields =
    ok_same (told_fields bytes) layout.fields.items structure.fields is.fields parts.fields in
    let head : slice_range bytes 12 layout.header ≡ structure.head =
    ap (λ n. slice_range bytes 12 n) (sym is.header) ∙ parts.head in
    let made : List Field → List ℕ → StructureState = λ a b. record { fields = a; head = b } in
    let count : layout.rows ≡ length rows = sym is.count ∙ parts.count in (
      ap (λ (a : List Field). made a (slice_range bytes 12 layout.header)) fields ∙ ap (made structure.fields) head,
      ap (λ (a : List Field). rows_in (widths_of a) layout.rows (drop layout.header bytes)) fields
          ∙ ap (λ n. rows_in (widths_of structure.fields) n (drop layout.header bytes)) count
          ∙ ap (λ n. rows_in (widths_of structure.fields) (length rows) (drop n bytes)) (sym is.header)
          ∙ parts.same_rows,
    )

pub no_text_with_fault : (limit : ℕ) (structure : StructureState) (rows : List Row) (stamp : Stamp) (bytes : List ℕ)
    (fault : DbfFault) → DbfText structure rows stamp bytes → length rows ≤ limit → first_fault limit bytes ≡ Some fault
    → ⊥
no_text_with_fault limit structure rows stamp bytes fault text limited told =
    let none = no_fault limit structure rows bytes (parts_of structure rows stamp bytes text) limited in
    let clash : None ≡ Some fault = sym none ∙ told in
    cc
