-- Constants by number.
use Rattle.std.specs.Prelude.{◌≡◌, ℕ, ◌+◌, ◌*◌, Bool, true, false, ◌&&◌, ◌==◌, List, Option, Some, None}
use Rattle.std.specs.Prelude.{slice_get, refl}
use Rattle.std.specs.Bool.{beq}
use Rattle.std.specs.Cmp.{IsEquivalence, unsigned_Decides, booleans_Decides}
use Rattle.std.specs.Hash.{HashWrites}
use Rattle.std.specs.Hash as fed
use Rattle.std.specs.Str.{bytes_eq}
use Rattle.std.proofs.Common.{ap, sym, ◌∙◌}
use Rattle.std.proofs.lemmas.Bool.{false≢true, and_parts}
use Rattle.std.proofs.lemmas.Slice.Eq.{bytes_eq-Decides}
use Rattle.calendar.specs.declared.day.DayParts.{DayParts}
use Rattle.fixed_num.specs.Words.{magnitude_of, is_same_number, is_same_number-true, is_same_number-refl}
use Rattle.xvalue.specs.declared.value.Value.{Value}
use Rattle.xvalue.specs.declared.value.Value.TheVariants.{Number, Text, Date, Logical}

-- the constant has a number
abbrev pub HasConstant : List Value → Value → Type 0
HasConstant constants value = (number : ℕ) × (slice_get constants number ≡ Some value)

-- both are one day, or both are blank
abbrev pub is_same_day : Option DayParts → Option DayParts → Bool
is_same_day None None = true
is_same_day (Some a) (Some b) = a.year == b.year && (a.month == b.month && a.day == b.day)
is_same_day _ _ = false

-- both are one constant: 1 and 1.0 are two
abbrev pub is_one_constant : Value → Value → Bool
is_one_constant (Number a) (Number b) = is_same_number a b
is_one_constant (Text a) (Text b) = bytes_eq a.items b.items
is_one_constant (Date a) (Date b) = is_same_day a b
is_one_constant (Logical a) (Logical b) = beq a b
is_one_constant _ _ = false

-- a day as a number
abbrev pub day_code : Option DayParts → ℕ
day_code None = 0
day_code (Some parts) = (parts.year * 16 + parts.month) * 32 + parts.day

-- what of a constant is hashed
abbrev pub constant_input : Value → HashWrites
constant_input (Number number) = fed.u64 (magnitude_of number)
constant_input (Text text) = fed.slice fed.u8 text.items
constant_input (Date day) = fed.u32 (day_code day)
constant_input (Logical truth) = fed.bool truth

is_same_day-true : (x y : Option DayParts) → is_same_day x y ≡ true → x ≡ y
is_same_day-true None None h = refl
is_same_day-true None (Some b) h = absurd (false≢true h)
is_same_day-true (Some a) None h = absurd (false≢true h)
is_same_day-true (Some a) (Some b) h =
    let year = and_parts (a.year == b.year) (a.month == b.month && a.day == b.day) h in
    let rest = and_parts (a.month == b.month) (a.day == b.day) year.1 in
    λ i. Some (record {
      year = (unsigned_Decides a.year b.year).0 year.0 i;
      month = (unsigned_Decides a.month b.month).0 rest.0 i;
      day = (unsigned_Decides a.day b.day).0 rest.1 i;
    })

is_same_day-refl : (x : Option DayParts) → is_same_day x x ≡ true
is_same_day-refl None = refl
is_same_day-refl (Some a) = λ i. (unsigned_Decides a.year a.year).1 refl i
    && ((unsigned_Decides a.month a.month).1 refl i && (unsigned_Decides a.day a.day).1 refl i)

-- it holds of one constant alone
pub is_one_constant-true : (x y : Value) → is_one_constant x y ≡ true → x ≡ y
is_one_constant-true (Number a) (Number b) h = ap Number (is_same_number-true a b h)
is_one_constant-true (Text a) (Text b) h = λ i. Text (record { items = (bytes_eq-Decides a.items b.items).0 h i })
is_one_constant-true (Date a) (Date b) h = ap Date (is_same_day-true a b h)
is_one_constant-true (Logical a) (Logical b) h = ap Logical ((booleans_Decides a b).0 h)
is_one_constant-true (Number a) (Text b) h = absurd (false≢true h)
is_one_constant-true (Number a) (Date b) h = absurd (false≢true h)
is_one_constant-true (Number a) (Logical b) h = absurd (false≢true h)
is_one_constant-true (Text a) (Number b) h = absurd (false≢true h)
is_one_constant-true (Text a) (Date b) h = absurd (false≢true h)
is_one_constant-true (Text a) (Logical b) h = absurd (false≢true h)
is_one_constant-true (Date a) (Number b) h = absurd (false≢true h)
is_one_constant-true (Date a) (Text b) h = absurd (false≢true h)
is_one_constant-true (Date a) (Logical b) h = absurd (false≢true h)
is_one_constant-true (Logical a) (Number b) h = absurd (false≢true h)
is_one_constant-true (Logical a) (Text b) h = absurd (false≢true h)
is_one_constant-true (Logical a) (Date b) h = absurd (false≢true h)

pub is_one_constant-refl : (x : Value) → is_one_constant x x ≡ true
is_one_constant-refl (Number a) = is_same_number-refl a
is_one_constant-refl (Text a) = (bytes_eq-Decides a.items a.items).1 refl
is_one_constant-refl (Date a) = is_same_day-refl a
is_one_constant-refl (Logical a) = (booleans_Decides a a).1 refl

turned : (x y : Value) (a b : Bool) → is_one_constant x y ≡ a → is_one_constant y x ≡ b → a ≡ b
turned x y true true h g = refl
turned x y false false h g = refl
turned x y true false h g =
    sym (is_one_constant-refl x) ∙ ap (λ z. is_one_constant z x) (is_one_constant-true x y h) ∙ g
turned x y false true h g =
    sym h ∙ ap (λ z. is_one_constant x z) (is_one_constant-true y x g) ∙ is_one_constant-refl x

pub is_one_constant-laws : IsEquivalence is_one_constant
is_one_constant-laws = record {
  refl = is_one_constant-refl;
  symm = λ x y. turned x y (is_one_constant x y) (is_one_constant y x) refl refl;
  congr = λ x y z h. ap (λ w. is_one_constant w z) (is_one_constant-true x y h);
}
