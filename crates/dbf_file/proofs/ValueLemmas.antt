-- Values written and read.
use Rattle.std.proofs.Common.{◌≡◌, ◌==◌, ℕ, zero, suc, ◌+◌, ◌-◌, ◌/◌, ◌%◌, ◌<◌, ◌≤◌, ℤ, pos, List, [], ◌∷◌, ◌++◌}
use Rattle.std.proofs.Common.{length, get_or, min, Bool, true, false, ◌&&◌, cond, Option, Some, None, refl, sym, ap}
use Rattle.std.proofs.Common.{◌∙◌, arith, replicate, reverse, take, eq-eqb, length-append}
use Rattle.std.specs.List.{AllByRecursion}
use Rattle.std.proofs.lemmas.Bool.{le-leb, and_parts, and_from}
use Rattle.std.proofs.lemmas.List.{take_all, length-take, length-replicate}
use Rattle.fixed_num.specs.Number.{Number as Decimal, asterisk, finite, IsInRange}
use Rattle.fixed_num.specs.Rounding.{rounded_at}
use Rattle.fixed_num.specs.Reading.{parsed, signed_read, without_blanks, is_digit, are_digits, with_digits}
use Rattle.fixed_num.specs.Text.{last_digits, whole_digits, text_of, at_right, in_field}
use Rattle.calendar.specs.declared.day.DayParts.{DayParts}
use Rattle.xvalue.specs.declared.value.Value.{Value}
use Rattle.xvalue.specs.declared.value.Value.TheVariants.{Number, Text, Date, Logical}
use Rattle.xvalue.specs.Kinds.{kind_of}
use Rattle.calendar.specs.Days.{IsDay, HasDay}
use Rattle.calendar.specs.Calendar.{day_at, is_day, day_or_blank, month_length}
use Rattle.dbf_file.specs.declared.field.Letter.{Letter}
use Rattle.dbf_file.specs.declared.field.Letter.TheVariants.{C, N, D, L}
use Rattle.dbf_file.specs.declared.field.Field.{Field}
use Rattle.dbf_file.specs.Fields.{has_shape, is_field, fields_go_on, are_fields}
use Rattle.dbf_file.specs.Rows.{Row, rows_in, rows_text, with_text}
use Rattle.dbf_file.specs.Lending.{place_of_field, put_within, rows_left}
use Rattle.dbf_file.specs.Values.{kind_for, is_all_blanks, is_yes, number_in, day_in, value_by, value_of, fitted_text}
use Rattle.dbf_file.specs.Values.{stored_day, logical_text, text_by, text_for, FitsWidth, FitsField, kept_of}
use Rattle.dbf_file.specs.Tables.{TableState, row_widths}
use Rattle.dbf_file.proofs.TableLemmas.{state}
use Rattle.dbf_file.proofs.FileLemmas.{good_fields}

-- the kind of a field's value, by its letter
pub value_kind : (l : Letter) (decimals : ℕ) (text : List ℕ) → kind_of (value_by l decimals text) ≡ kind_for l
value_kind C decimals text = refl
value_kind N decimals text = refl
value_kind D decimals text = refl
value_kind L decimals text = refl

-- ---- laws on fields and rows

each_good : (fields earlier : List Field) → fields_go_on earlier fields ≡ true
    → AllByRecursion (λ f. is_field f ≡ true) fields
each_good [] earlier good = tt
each_good (f ∷ fs) earlier good =
    let parts = and_parts _ _ good in ((and_parts _ _ parts.0).0, each_good fs (earlier ++ f ∷ []) parts.1)

pub fields_are_good : (fields : List Field) → are_fields fields ≡ true → AllByRecursion (λ f. is_field f ≡ true) fields
fields_are_good fields are = each_good fields [] (good_fields fields are).good

pub texts_are_left : (widths : List ℕ) (rows : List Row) (r f : ℕ) (text : List ℕ) → length text ≡ get_or widths f 0
    → rows_left widths rows r f text ≡ with_text rows r f text
unfolding rows_left
texts_are_left widths rows r f text fits = ap
    (λ (b : Bool). cond b (with_text rows r f text)
    (rows_in widths (length rows) (put_within (place_of_field widths r f) text (rows_text rows))))
    (eq-eqb (length text) (get_or widths f 0) fits)

-- ---- numbers

blanks_off : (n : ℕ) (text : List ℕ) → without_blanks (replicate n 32 ++ text) ≡ without_blanks text
blanks_off zero text = refl
blanks_off (suc n) text = blanks_off n text

read_right : (n : ℕ) (text : List ℕ) → parsed (replicate n 32 ++ text) ≡ parsed text
read_right n text = ap (λ (cs : List ℕ). signed_read (reverse (without_blanks (reverse cs)))) (blanks_off n text)

blank_behind : (n : ℕ) (text : List ℕ) → is_all_blanks (replicate n 32 ++ text) ≡ is_all_blanks text
blank_behind zero text = refl
blank_behind (suc n) text = blank_behind n text

only_blanks : (text : List ℕ) → is_all_blanks text ≡ true → without_blanks text ≡ []
only_blanks [] blank = refl
only_blanks (c ∷ cs) blank =
    let parts = and_parts (c == 32) (is_all_blanks cs) blank in
    ap (λ (b : Bool). cond b (without_blanks cs) (c ∷ cs)) parts.0 ∙ only_blanks cs parts.1

blank_is_zero : (text : List ℕ) → is_all_blanks text ≡ true → parsed text ≡ finite (pos 0) 0
blank_is_zero text blank =
    ap (λ (cs : List ℕ). signed_read (reverse (without_blanks (reverse cs)))) (only_blanks text blank)

zero_text : is_all_blanks (text_of (finite (pos 0) 0)) ≡ false
unfolding whole_digits
zero_text = refl

-- no number's text is blank
never_blank : (x : Decimal) (b : Bool) → parsed (text_of x) ≡ x → is_all_blanks (text_of x) ≡ b → b ≡ false
never_blank x false back e = refl
never_blank x true back e =
    let none : x ≡ finite (pos 0) 0 = sym back ∙ blank_is_zero (text_of x) e in
    let clash : true ≡ false = sym e ∙ ap (λ y. is_all_blanks (text_of y)) none ∙ zero_text in
    clash

number_back : (width decimals : ℕ) (x : Decimal) → parsed (text_of x) ≡ x → length (text_of x) ≤ width
    → number_in decimals (at_right width (text_of x)) ≡ x
number_back width decimals x back room =
    let text : List ℕ = text_of x in
    let field : List ℕ = replicate (width - length text) 32 ++ text in
    let stands : at_right width text ≡ field =
    ap (λ (b : Bool). cond b field (replicate width 42)) (le-leb (length text) width room) in
    ap (number_in decimals) stands
    ∙ ap (λ (b : Bool). cond b (finite (pos 0) (min decimals 15)) (parsed field))
    (blank_behind (width - length text) text ∙ never_blank x (is_all_blanks text) back refl)
    ∙ read_right (width - length text) text ∙ back

number_kept : (width decimals : ℕ) (x : Decimal)
    → ((m : ℤ) (d : ℕ) → IsInRange (finite m d) → parsed (text_of (finite m d)) ≡ finite m d) → IsInRange x
    → FitsWidth width x → number_in decimals (in_field width x) ≡ x
number_kept width decimals asterisk reads good room = absurd room
number_kept width decimals (finite m d) reads good room = number_back width decimals (finite m d) (reads m d good) room

-- ---- days

digit_is : (r : ℕ) → r < 10 → is_digit (48 + r) ≡ true
digit_is r below = and_from _ _ (le-leb 48 (48 + r) (omega arith)) (le-leb (48 + r) 57 (omega arith))

four_read : (y : ℕ) → y < 10000 → with_digits 0 (last_digits 4 y) ≡ y
four_read y below = omega arith

two_read : (y : ℕ) → y < 100 → with_digits 0 (last_digits 2 y) ≡ y
two_read y below = omega arith

short_month : (a b c : Bool) → cond a (cond b 29 28) (cond c 30 31) ≤ 31
short_month true true c = omega arith
short_month true false c = omega arith
short_month false b true = omega arith
short_month false b false = omega arith

day_good : (parts : DayParts) → IsDay parts → is_day parts ≡ true
day_good parts is = and_from _ _ (and_from _ _ (le-leb 1 _ is.year.0) (le-leb _ 9999 is.year.1))
    (and_from _ _ (and_from _ _ (le-leb 1 _ is.month.0) (le-leb _ 12 is.month.1))
    (and_from _ _ (le-leb 1 _ is.day.0) (le-leb parts.day (month_length parts) is.day.1)))

pub day_back : (day : Option DayParts) → HasDay day → day_in (stored_day day) ≡ day
day_back None is = refl
day_back (Some parts) is =
    let y : ℕ = parts.year in
    let m : ℕ = parts.month in
    let d : ℕ = parts.day in
    let short : month_length parts ≤ 31 = short_month _ _ _ in
    let digits : are_digits (stored_day (Some parts)) ≡ true =
    and_from _ _ (digit_is (y / 1000 % 10) (omega arith))
    (and_from _ _ (digit_is (y / 100 % 10) (omega arith))
    (and_from _ _ (digit_is (y / 10 % 10) (omega arith)) (and_from _ _ (digit_is (y / 1 % 10) (omega arith))
    (and_from _ _ (digit_is (m / 10 % 10) (omega arith))
    (and_from _ _ (digit_is (m / 1 % 10) (omega arith))
    (and_from _ _ (digit_is (d / 10 % 10) (omega arith))
    (and_from _ _ (digit_is (d / 1 % 10) (omega arith)) refl))))))) in
    let read : ℕ → ℕ → ℕ → Option DayParts = λ a b c. day_or_blank (day_at a b c) in
    ap (λ (t : Bool). cond (t && true)
    (read (with_digits 0 (last_digits 4 y)) (with_digits 0 (last_digits 2 m)) (with_digits 0 (last_digits 2 d)))
    None) digits
    ∙ ap (λ a. read a (with_digits 0 (last_digits 2 m)) (with_digits 0 (last_digits 2 d)))
    (four_read y (omega (arith, is.year.1)))
    ∙ ap (λ b. read y b (with_digits 0 (last_digits 2 d))) (two_read m (omega (arith, is.month.1)))
    ∙ ap (λ c. read y m c) (two_read d (omega (arith, is.day.1, short)))
    ∙ ap (λ (b : Bool). cond b (Some parts) None) (day_good parts is)

length-fitted : (width : ℕ) (text : List ℕ) → length (fitted_text width text) ≡ width
length-fitted width text = length-append (take width text) (replicate (width - length text) 32)
    ∙ omega (arith, length-take width text, length-replicate {A = ℕ} (width - length text) 32)

-- a day fills eight bytes
whole_day : (day : Option DayParts) → fitted_text 8 (stored_day day) ≡ stored_day day
whole_day None = refl
whole_day (Some parts) = refl

-- ---- values

pub value_back : (law : (m : ℤ) (d : ℕ) → IsInRange (finite m d) → parsed (text_of (finite m d)) ≡ finite m d)
    (f : Field) (v : Value) (letter : Letter) →
    f.letter ≡ letter → kind_of v ≡ kind_for letter → FitsField f v
    → value_by letter f.decimals (text_by f.width f.decimals v) ≡ kept_of f v
value_back law f (Number number) C same kind fits = cc
value_back law f (Number number) N same kind fits =
    ap Number (number_kept f.width f.decimals (rounded_at (pos (min f.decimals 15)) number) law fits.0 fits.1)
value_back law f (Number number) D same kind fits = cc
value_back law f (Number number) L same kind fits = cc
value_back law f (Text text) C same kind fits = ap (λ (items : List ℕ). Text (record { items = items }))
    (take_all 254 (fitted_text f.width text.items) (omega (arith, length-fitted f.width text.items, fits)))
value_back law f (Text text) N same kind fits = cc
value_back law f (Text text) D same kind fits = cc
value_back law f (Text text) L same kind fits = cc
value_back law f (Date day) C same kind fits = cc
value_back law f (Date day) N same kind fits = cc
value_back law f (Date day) D same kind fits =
    ap Date (ap day_in (ap (λ w. fitted_text w (stored_day day)) fits.1 ∙ whole_day day) ∙ day_back day fits.0)
value_back law f (Date day) L same kind fits = cc
value_back law f (Logical truth) C same kind fits = cc
value_back law f (Logical truth) N same kind fits = cc
value_back law f (Logical truth) D same kind fits = cc
value_back law f (Logical true) L same kind fits =
    ap (λ w. Logical (is_yes (get_or (fitted_text w (logical_text true)) 0 0))) fits
value_back law f (Logical false) L same kind fits =
    ap (λ w. Logical (is_yes (get_or (fitted_text w (logical_text false)) 0 0))) fits

pub read_back : (law : (m : ℤ) (d : ℕ) → IsInRange (finite m d) → parsed (text_of (finite m d)) ≡ finite m d)
    (f : Field) (v : Value) → kind_of v ≡ kind_for f.letter → FitsField f v → value_of f (text_for f v) ≡ kept_of f v
unfolding value_of text_for
read_back law f v kind fits = value_back law f v f.letter refl kind fits

pub shape_of : (f : Field) → is_field f ≡ true → has_shape f.letter f.width f.decimals ≡ true
unfolding is_field
shape_of f good = (and_parts _ _ good).1

-- ---- a value that is written

pub put_is : (t : TableState) (r f : ℕ) (v : Value) (width decimals decimals' : ℕ) (text : List ℕ)
    → text ≡ text_by width decimals v → length text ≡ get_or (row_widths t.structure) f 0
    → width ≡ get_or (row_widths t.structure) f 0 → decimals ≡ decimals' →
    state t.structure (rows_left (row_widths t.structure) t.rows r f text) t.spare
    ≡ record t { rows = with_text t.rows r f (text_by (get_or (row_widths t.structure) f 0) decimals' v) }
put_is t r f v width decimals decimals' text made fits a b =
    let rows : List Row → TableState = λ rs. state t.structure rs t.spare in
    ap rows (texts_are_left (row_widths t.structure) t.rows r f text fits)
    ∙ ap (λ (xs : List ℕ). rows (with_text t.rows r f xs))
    (made ∙ ap (λ k. text_by k decimals v) a ∙ ap (λ k. text_by (get_or (row_widths t.structure) f 0) k v) b)
