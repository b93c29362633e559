-- Laws of the reader of constants.
use Rattle.std.proofs.Common.{inl, inr, ◌≡◌, ℕ, zero, suc, pos, negsuc, ◌^◌, ◌<◌, ◌≤◌, Bool, true, false, eqb, leb, ltb}
use Rattle.std.proofs.Common.{List, [], ◌∷◌, ◌++◌, length, Some, None, Ok, refl, sym, ap, subst, arith}
use Rattle.std.specs.Prelude.{◌&&◌, ◌||◌}
use Rattle.std.specs.Int.{w64, to_le_bytes}
use Rattle.std.specs.List.{AllByRecursion, list_all}
use Rattle.std.proofs.lemmas.Bool.{eqb-true, leb-true, le-leb, ltb-true, lt-ltb, and_parts, and_from}
use Rattle.std.proofs.Math.Dec.{eqb-suc-zero}
use Rattle.calendar.specs.Calendar.{is_day}
use Rattle.fixed_num.specs.Number.{asterisk, finite, signed}
use Rattle.calendar.specs.declared.day.DayParts.{DayParts}
use Rattle.xvalue.specs.declared.value.Value.{Value}
use Rattle.xvalue.specs.declared.value.Value.TheVariants.{Number, Text, Date, Logical}
use Rattle.code_items.specs.Constants.{is_byte, is_decimal, is_constant}
use Rattle.code_parts.specs.declared.flaw.Flaw.TheVariants.{Shape}
use Rattle.code_parts.specs.Laws.{ReadsTexts, IsLegalConstant}
use Rattle.code_parts.specs.Texts.{two, kind_number, truth_number, kind_of_value, decimal_text, counted_text}
use Rattle.code_parts.specs.Texts.{value_text, constant_text}
use Rattle.code_parts.specs.Items.{wanted, truth_of_byte, is_stored_number, decimal_from, decimal_at, date_from}
use Rattle.code_parts.specs.Items.{date_at, text_from, text_value_at, truth_from, truth_at, value_at, constant_at}
use Rattle.dbf_file.proofs.ChoiceLemmas.{chosen}
use Rattle.code_parts.proofs.Combine.{done, ok_is, pair_spells, made_spells, byte_spells, choice_spells, flawed_spells}
use Rattle.code_parts.proofs.Numbers.{text_spells, two_spells, eight_spells}
use Rattle.code_parts.proofs.Choices.{either_true, wanted_ok, there_ok, truth_was}
use Rattle.code_parts.proofs.Choices.{truth_is, if_spells}

-- a legal constant of the kind of this number
abbrev Of : ℕ → Value → Type 0
Of b v = IsLegalConstant v × (kind_number (kind_of_value v) ≡ b)

-- ---- numbers

below_text : (d m : ℕ) → 0 < m → decimal_text (finite (signed true m) d) ≡ d ∷ 1 ∷ to_le_bytes w64 m
below_text d zero h = absurd (omega (arith, h))
below_text d (suc m) h = refl

in_range : (negative : Bool) (d m : ℕ) → d ≤ 15 → m < 10 ^ 19 → is_decimal (finite (signed negative m) d) ≡ true
in_range false d m few small = and_from (ltb m (10 ^ 19)) (leb d 15) (lt-ltb m (10 ^ 19) small) (le-leb d 15 few)
in_range true d zero few small = and_from (ltb 0 (10 ^ 19)) (leb d 15) (lt-ltb 0 (10 ^ 19) small) (le-leb d 15 few)
in_range true d (suc m) few small =
    and_from (ltb (suc m) (10 ^ 19)) (leb d 15) (lt-ltb (suc m) (10 ^ 19) small) (le-leb d 15 few)

-- what is read of a number is its text
abbrev Spelled : ℕ → ℕ → ℕ → Type 0
Spelled d s m = (d ∷ s ∷ to_le_bytes w64 m ≡ decimal_text (finite (signed (eqb s 1) m) d))
    × (is_decimal (finite (signed (eqb s 1) m) d) ≡ true)

number_spelled : (d s m : ℕ) → is_stored_number d s m ≡ true → Spelled d s m
number_spelled d s m e =
    let p = and_parts (leb d 15 && ltb m (10 ^ 19)) (eqb s 0 || (eqb s 1 && ltb 0 m)) e in
    let q = and_parts (leb d 15) (ltb m (10 ^ 19)) p.0 in
    let few = leb-true d 15 q.0 in
    let small = ltb-true m (10 ^ 19) q.1 in
    elim (either_true (eqb s 0) (eqb s 1 && ltb 0 m) p.1) [
      | inl h ↦ subst (λ (n : ℕ). Spelled d n m) (sym (eqb-true s 0 h)) (refl, in_range false d m few small)
      | inr h ↦
          let r = and_parts (eqb s 1) (ltb 0 m) h in
          subst (λ (n : ℕ). Spelled d n m) (sym (eqb-true s 1 r.0))
          (sym (below_text d m (ltb-true 0 m r.1)), in_range true d m few small)
    ]

is_number_above : (d m : ℕ) → d ≤ 15 → m < 10 ^ 19 → is_stored_number d 0 m ≡ true
is_number_above d m few small =
    and_from (leb d 15 && ltb m (10 ^ 19)) true
    (and_from (leb d 15) (ltb m (10 ^ 19)) (le-leb d 15 few) (lt-ltb m (10 ^ 19) small)) refl

is_number_below : (d m : ℕ) → d ≤ 15 → m < 10 ^ 19 → 0 < m → is_stored_number d 1 m ≡ true
is_number_below d m few small some =
    and_from (leb d 15 && ltb m (10 ^ 19)) (ltb 0 m)
    (and_from (leb d 15) (ltb m (10 ^ 19)) (le-leb d 15 few) (lt-ltb m (10 ^ 19) small)) (lt-ltb 0 m some)

abbrev FromParts : Value → Type 0
FromParts v = (p : ℕ × (ℕ × ℕ)) × (Unit {0} × (Unit {0} × (p.1.1 < 2 ^ 64))) × (decimal_from p ≡ Ok v)
    × (value_text v ≡ p.0 ∷ p.1.0 ∷ to_le_bytes w64 p.1.1)

parts_above : (d m : ℕ) → d ≤ 15 → m < 10 ^ 19 → FromParts (Number (finite (pos m) d))
parts_above d m few small = (
  (d, (0, m)),
  (tt, (tt, omega (arith, small))),
  rw (is_number_above d m few small) refl,
  refl,
)

parts_below : (d m : ℕ) → d ≤ 15 → suc m < 10 ^ 19 → FromParts (Number (finite (negsuc m) d))
parts_below d m few small = (
  (d, (1, suc m)),
  (tt, (tt, omega (arith, small))),
  rw
      (is_number_below d (suc m) few small (omega arith)) refl,
  refl,
)

parts_of_decimal : (v : Value) → Of 1 v → FromParts v
unfolding is_constant
parts_of_decimal (Number asterisk) h = absurd (let e : false ≡ true = h.0 in cc)
parts_of_decimal (Number (finite (pos m) d)) h = let p =
    and_parts (ltb m (10 ^ 19)) (leb d 15) h.0 in parts_above d m (leb-true d 15 p.1) (ltb-true m (10 ^ 19) p.0)
parts_of_decimal (Number (finite (negsuc m) d)) h = let p =
    and_parts (ltb (suc m) (10 ^ 19)) (leb d 15) h.0 in
    parts_below d m (leb-true d 15 p.1) (ltb-true (suc m) (10 ^ 19) p.0)
parts_of_decimal (Text text) h = absurd (let e : 2 ≡ 1 = h.1 in omega arith)
parts_of_decimal (Date day) h = absurd (let e : 3 ≡ 1 = h.1 in omega arith)
parts_of_decimal (Logical truth) h = absurd (let e : 4 ≡ 1 = h.1 in omega arith)

decimal_spells : ReadsTexts decimal_at value_text (Of 1) (Of 1)
unfolding decimal_at is_constant
decimal_spells = made_spells (pair_spells byte_spells (pair_spells byte_spells eight_spells)) decimal_from value_text
    (Of 1) (Of 1)
    (λ (decimals, (sign, magnitude)) v fit e.
    let made : Value = Number (finite (signed (eqb sign 1) magnitude) decimals) in
    let w = wanted_ok Shape (is_stored_number decimals sign magnitude) made v e in
    let s = number_spelled decimals sign magnitude w.0 in
    subst (λ (x : Value). (decimals ∷ sign ∷ to_le_bytes w64 magnitude ≡ value_text x) × Of 1 x) {x = made} {y = v} w.1
    (s.0, (s.1, refl)))
    (λ v h. parts_of_decimal v h)

-- ---- dates

not_zero : (n : ℕ) → 1 ≤ n → eqb n 0 ≡ false
not_zero zero h = absurd (omega (arith, h))
not_zero (suc n) h = eqb-suc-zero n

parts_text_same : (y m d y' m' d' : ℕ) → y ≡ y' → m ≡ m' → d ≡ d' → two y ++ (m ∷ d ∷ []) ≡ two y' ++ (m' ∷ d' ∷ [])
parts_text_same y m d y' m' d' e f g = rw (e, f, g) refl

-- the year of a day
year_is : (p : DayParts) → is_day p ≡ true → (1 ≤ p.year) × (p.year ≤ 9999)
year_is p e =
    let all = and_parts (leb 1 p.year && leb p.year 9999) _ e in
    let year = and_parts (leb 1 p.year) (leb p.year 9999) all.0 in
    (leb-true 1 p.year year.0, leb-true p.year 9999 year.1)

date_spelled : (p : DayParts) (v : Value) → date_from p ≡ Ok v
    → (two p.year ++ (p.month ∷ p.day ∷ []) ≡ value_text v) × Of 3 v
unfolding is_constant
date_spelled p v e =
    let blank : Value = Date None in
    let some_day : Value = Date (Some p) in
    elim (chosen (eqb p.year 0 && eqb p.month 0 && eqb p.day 0) (done blank) (wanted Shape (is_day p) some_day) (Ok v)
    e) [
      | inl h ↦
          let q = and_parts (eqb p.year 0 && eqb p.month 0) (eqb p.day 0) h.0 in
          let r = and_parts (eqb p.year 0) (eqb p.month 0) q.0 in
          subst (λ (x : Value). (two p.year ++ (p.month ∷ p.day ∷ []) ≡ value_text x) × Of 3 x) (ok_is blank v h.1) (
            parts_text_same p.year p.month p.day 0 0 0 (eqb-true p.year 0 r.0) (eqb-true p.month 0 r.1)
                (eqb-true p.day 0 q.1),
            (refl, refl),
          )
      | inr h ↦
          let w = wanted_ok Shape (is_day p) some_day v h.1 in
          subst (λ (x : Value). (two p.year ++ (p.month ∷ p.day ∷ []) ≡ value_text x) × Of 3 x) w.1 (refl, (w.0, refl))
    ]

some_date : (p : DayParts) → is_day p ≡ true → date_from p ≡ Ok (Date (Some p))
some_date p h = rw (not_zero p.year (year_is p h).0, h) refl

abbrev FromDate : Value → Type 0
FromDate v = (p : ℕ × (ℕ × ℕ)) × ((p.0 < 2 ^ 16) × (Unit {0} × Unit {0}))
    × (date_from (record { year = p.0; month = p.1.0; day = p.1.1 }) ≡ Ok v)
    × (value_text v ≡ two p.0 ++ (p.1.0 ∷ p.1.1 ∷ []))

parts_of_date : (v : Value) → Of 3 v → FromDate v
unfolding is_constant
parts_of_date (Number number) h = absurd (let e : 1 ≡ 3 = h.1 in omega arith)
parts_of_date (Text text) h = absurd (let e : 2 ≡ 3 = h.1 in omega arith)
parts_of_date (Date None) h = ((0, (0, 0)), (omega arith, (tt, tt)), refl, refl)
parts_of_date (Date (Some p)) h = let year =
    (year_is p h.0).1 in ((p.year, (p.month, p.day)), (omega (arith, year), (tt, tt)), some_date p h.0, refl)
parts_of_date (Logical truth) h = absurd (let e : 4 ≡ 3 = h.1 in omega arith)

date_spells : ReadsTexts date_at value_text (Of 3) (Of 3)
unfolding date_at
date_spells = made_spells (pair_spells two_spells (pair_spells byte_spells byte_spells)) _ value_text (Of 3) (Of 3)
    (λ p v fit e. date_spelled _ v e)
    (λ v h. parts_of_date v h)

-- ---- texts and truth values

bytes_pass : (bytes : List ℕ) → AllByRecursion (λ byte. byte < 256) bytes → list_all is_byte bytes ≡ true
bytes_pass [] h = refl
bytes_pass (b ∷ bytes) h = and_from (ltb b 256) (list_all is_byte bytes) (lt-ltb b 256 h.0) (bytes_pass bytes h.1)

abbrev FromText : Value → Type 0
FromText v = (bytes : List ℕ) × Unit {0} × (text_from bytes ≡ Ok v) × (value_text v ≡ counted_text bytes)

bytes_of_text : (v : Value) → Of 2 v → FromText v
unfolding is_constant
bytes_of_text (Number number) h = absurd (let e : 1 ≡ 2 = h.1 in omega arith)
bytes_of_text (Text text) h = let p =
    and_parts (leb (length text.items) 254) (list_all is_byte text.items) h.0 in (text.items, tt, rw p.0 refl, refl)
bytes_of_text (Date day) h = absurd (let e : 3 ≡ 2 = h.1 in omega arith)
bytes_of_text (Logical truth) h = absurd (let e : 4 ≡ 2 = h.1 in omega arith)

text_value_spells : ReadsTexts text_value_at value_text (Of 2) (Of 2)
unfolding text_value_at is_constant
text_value_spells = made_spells text_spells text_from value_text (Of 2) (Of 2)
    (λ bytes v fit e.
    let made : Value = Text (record { items = bytes }) in
    let w = wanted_ok Shape (leb (length bytes) 254) made v e in
    subst (λ (x : Value). (counted_text bytes ≡ value_text x) × Of 2 x) {x = made} {y = v} w.1
    (refl, (and_from (leb (length bytes) 254) (list_all is_byte bytes) w.0 (bytes_pass bytes fit.1), refl)))
    (λ v h. bytes_of_text v h)

abbrev FromByte : Value → Type 0
FromByte v = (byte : ℕ) × Unit {0} × (truth_from byte ≡ Ok v) × (value_text v ≡ byte ∷ [])

byte_of_truth : (v : Value) → Of 4 v → FromByte v
byte_of_truth (Number number) h = absurd (let e : 1 ≡ 4 = h.1 in omega arith)
byte_of_truth (Text text) h = absurd (let e : 2 ≡ 4 = h.1 in omega arith)
byte_of_truth (Date day) h = absurd (let e : 3 ≡ 4 = h.1 in omega arith)
byte_of_truth (Logical truth) h = (truth_number truth, tt, rw (truth_is truth) refl, refl)

truth_spells : ReadsTexts truth_at value_text (Of 4) (Of 4)
unfolding truth_at is_constant
truth_spells = made_spells byte_spells truth_from value_text (Of 4) (Of 4)
    (λ byte v fit e.
    let make = λ (truth : Bool). let made : Value = Logical truth in done made in
    let t = there_ok Shape (truth_of_byte byte) make v e in
    let made : Value = Logical t.0 in
    subst (λ (x : Value). (byte ∷ [] ≡ value_text x) × Of 4 x) {x = made} {y = v} (ok_is made v t.2)
    (ap (λ (n : ℕ). n ∷ []) (truth_was byte t.0 t.1), (refl, refl)))
    (λ v h. byte_of_truth v h)

-- ---- constants

-- no kind has another number
other_kind : (b : ℕ) → eqb b 1 ≡ false → eqb b 2 ≡ false → eqb b 3 ≡ false → eqb b 4 ≡ false → (v : Value) → Of b v → ⊥
other_kind b one two three four (Number number) h = let e : eqb b 1 ≡ true = rw (← h.1) refl in cc
other_kind b one two three four (Text text) h = let e : eqb b 2 ≡ true = rw (← h.1) refl in cc
other_kind b one two three four (Date day) h = let e : eqb b 3 ≡ true = rw (← h.1) refl in cc
other_kind b one two three four (Logical truth) h = let e : eqb b 4 ≡ true = rw (← h.1) refl in cc

value_spells : (b : ℕ) → ReadsTexts (value_at b) value_text (Of b) (Of b)
value_spells b =
    if_spells (eqb b 1) (λ is. subst (λ (n : ℕ). ReadsTexts decimal_at value_text (Of n) (Of n)) (sym (eqb-true b 1 is))
    decimal_spells)
    (λ one. if_spells (eqb b 2) (λ is. subst (λ (n : ℕ). ReadsTexts text_value_at value_text (Of n) (Of n))
    (sym (eqb-true b 2 is)) text_value_spells)
    (λ two. if_spells (eqb b 3) (λ is. subst (λ (n : ℕ). ReadsTexts date_at value_text (Of n) (Of n))
    (sym (eqb-true b 3 is)) date_spells)
    (λ three. if_spells (eqb b 4) (λ is. subst (λ (n : ℕ). ReadsTexts truth_at value_text (Of n) (Of n))
    (sym (eqb-true b 4 is)) truth_spells)
    (λ four. flawed_spells Shape value_text (Of b) (Of b) (other_kind b one two three four)))))

pub constant_spells : ReadsTexts constant_at constant_text IsLegalConstant IsLegalConstant
unfolding constant_at
constant_spells = choice_spells value_at (λ v. kind_number (kind_of_value v)) value_text IsLegalConstant IsLegalConstant
    value_spells
