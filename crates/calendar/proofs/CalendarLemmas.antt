-- The days so many days on, by their numbers.
use Rattle.std.proofs.Common.{◌≡◌, ℕ, zero, suc, ◌+◌, ◌-◌, ◌<◌, ◌≤◌, refl, sym, ap, ◌∙◌, subst, arith, inl, inr}
use Rattle.std.specs.Prelude.{Bool, true, false, ◌↔◌, ◌⊎◌, nat_lt, int_lt, if◌then◌else◌, ℤ, pos, negsuc, ◌+ℤ◌, ◌-ℤ◌}
use Rattle.std.specs.Prelude.{◌<ℤ◌, ◌≤ℤ◌, unsigned_abs, Option, Some, None, MatchOption}
use Rattle.std.proofs.lemmas.Bool.Decides.{leb_tells}
use Rattle.std.proofs.lemmas.Int.{ints}
use Rattle.jiff_core.specs.declared.civil.date.Date.{Date}
use Rattle.jiff_core.specs.Calendar.{days_in_month, days_from_civil, IsEpochDay}
use Rattle.jiff_core.specs.Date.{epoch_day, IsYmd}
use Rattle.jiff_core.proofs.SignedLemmas.{signed_arith, unsigned_abs-parts, one_part}
use Rattle.jiff_core.proofs.CalendarLemmas.{days_in_month_bounds}
use Rattle.jiff_core.proofs.DateLemmas.{IsEarlier, epoch_day_range, epoch_day-lt, cases_date, epoch_day_injective}
use Rattle.jiff_core.proofs.DateLemmas.{epoch_day_same, days_from_civil-day, days_from_civil-next_month}
use Rattle.jiff_core.proofs.DateLemmas.{days_from_civil-next_year, days_from_civil-max}
use Rattle.calendar.specs.declared.day.DayParts.{DayParts}
use Rattle.calendar.specs.Days.{IsDay, HasDay}
use Rattle.calendar.specs.Laws.{LiesThere, IsSooner}
use Rattle.calendar.specs.Calendar.{day_number, day_at, is_earlier, month_length, next_day, previous_day, stepped}
use Rattle.calendar.specs.Calendar.{steps, days_on}

-- a date with this number: a day with it, or none where the number is beyond
abbrev pub Lies : (ℤ → Type 0) → Option DayParts → ℤ → Type 0
Lies beyond None z = beyond z
Lies beyond (Some parts) z = IsDay parts × (day_number parts ≡ z)

abbrev pub above : ℤ → Type 0
above z = day_number (day_at 9999 12 31) <ℤ z

abbrev pub below : ℤ → Type 0
below z = z <ℤ day_number (day_at 1 1 1)

-- a choice by a test on numbers
chosen : {A : Type 0} (P : A → Type 0) (a b : ℕ) (x y : A) → (a < b → P x) → (b ≤ a → P y)
    → P (if nat_lt a b then x else y)
chosen P a b x y less other =
    elim (leb_tells (suc a) b) [
      | inl w ↦ subst (λ t. P (if t then x else y)) (sym w.0) (less (omega (arith, w.1)))
      | inr w ↦ subst (λ t. P (if t then x else y)) (sym w.0) (other (omega (arith, w.1)))
    ]

same_month : (y m d : ℕ) → IsDay (day_at y m d) → d < days_in_month (pos y) m
    → Lies above (Some (day_at y m (d + 1))) (day_number (day_at y m d) +ℤ pos 1)
same_month y m d h more = (
  record { year = h.year; month = h.month; day = (omega arith, omega arith) },
  omega (arith, signed_arith, days_from_civil-day (pos y) m d (d + 1) h.day.0 (omega arith)),
)

next_month : (y m d : ℕ) → IsDay (day_at y m d) → days_in_month (pos y) m ≤ d → m < 12
    → Lies above (Some (day_at y (m + 1) 1)) (day_number (day_at y m d) +ℤ pos 1)
next_month y m d h last more =
    let bounds = days_in_month_bounds (pos y) (m + 1) in
    let e : d ≡ days_in_month (pos y) m = omega (arith, h.day.1) in (
      record { year = h.year; month = (omega arith, omega arith); day = (omega arith, omega (arith, bounds.1)) },
      days_from_civil-next_month (pos y) m d h.month.0 e,
    )

next_year : (y m d : ℕ) → IsDay (day_at y m d) → days_in_month (pos y) m ≤ d → 12 ≤ m → y < 9999
    → Lies above (Some (day_at (y + 1) 1 1)) (day_number (day_at y m d) +ℤ pos 1)
next_year y m d h last december more =
    let e : m ≡ 12 = omega (arith, h.month.1) in
    let f : d ≡ 31 = omega (arith, h.day.1) ∙ ap (days_in_month (pos y)) e in (
      record {
        year = (omega arith, omega arith);
        month = (omega arith, omega arith);
        day = (omega arith, omega arith);
      },
      days_from_civil-next_year (pos y) (pos (y + 1)) (omega (arith, signed_arith)) refl
          ∙ ap (λ k. days_from_civil (pos y) 12 k +ℤ pos 1) (sym f) ∙ ap (λ k. days_from_civil (pos y) k d +ℤ pos 1)
          (sym e),
    )

no_year : (y m d : ℕ) → IsDay (day_at y m d) → days_in_month (pos y) m ≤ d → 12 ≤ m → 9999 ≤ y
    → above (day_number (day_at y m d) +ℤ pos 1)
no_year y m d h last december none =
    let e : m ≡ 12 = omega (arith, h.month.1) in
    let f : d ≡ 31 = omega (arith, h.day.1) ∙ ap (days_in_month (pos y)) e in
    let g : y ≡ 9999 = omega (arith, h.year.1) in
    let same : day_number (day_at y m d) ≡ day_number (day_at 9999 12 31) = ap (λ k. days_from_civil (pos y) m k) f
    ∙ ap (λ k. days_from_civil (pos y) k 31) e ∙ ap (λ k. days_from_civil (pos k) 12 31) g in
    omega (arith, signed_arith, same)

next_lies : (p : DayParts) → IsDay p → Lies above (next_day p) (day_number p +ℤ pos 1)
next_lies p h =
    let z = day_number p +ℤ pos 1 in
    let P : Option DayParts → Type 0 = λ o. Lies above o z in
    chosen P p.day (month_length p) _ _ (same_month p.year p.month p.day h)
    (λ last. chosen P p.month 12 _ _ (next_month p.year p.month p.day h last)
    (λ december. chosen P p.year 9999 _ _ (next_year p.year p.month p.day h last december)
    (no_year p.year p.month p.day h last december)))

earlier_in_month : (y m d : ℕ) → IsDay (day_at y m d) → 1 < d → Lies below (Some (day_at y m (d - 1)))
    (day_number (day_at y m d) -ℤ pos 1)
earlier_in_month y m d h more = (
  record { year = h.year; month = h.month; day = (omega arith, omega (arith, h.day.1)) },
  omega (arith, signed_arith, days_from_civil-day (pos y) m d (d - 1) h.day.0 (omega arith)),
)

month_before : (y m d : ℕ) → IsDay (day_at y m d) → d ≤ 1 → 1 < m
    → Lies below (Some (day_at y (m - 1) (days_in_month (pos y) (m - 1)))) (day_number (day_at y m d) -ℤ pos 1)
month_before y m d h first more =
    let bounds = days_in_month_bounds (pos y) (m - 1) in
    let e : d ≡ 1 = omega (arith, h.day.0) in
    let f : m - 1 + 1 ≡ m = omega arith in
    let g = days_from_civil-next_month (pos y) (m - 1) (days_in_month (pos y) (m - 1)) (omega arith) refl in
    let here : days_from_civil (pos y) m d ≡ days_from_civil (pos y) (m - 1 + 1) 1 =
    ap (λ k. days_from_civil (pos y) m k) e ∙ ap (λ k. days_from_civil (pos y) k 1) (sym f) in (
      record {
        year = h.year;
        month = (omega arith, omega (arith, h.month.1));
        day =
            (omega (arith, bounds.1), omega arith);
      },
      omega (arith, signed_arith, here, g),
    )

year_before : (y m d : ℕ) → IsDay (day_at y m d) → d ≤ 1 → m ≤ 1 → 1 < y
    → Lies below (Some (day_at (y - 1) 12 31)) (day_number (day_at y m d) -ℤ pos 1)
year_before y m d h first january more =
    let e : d ≡ 1 = omega (arith, h.day.0) in
    let f : m ≡ 1 = omega (arith, h.month.0) in
    let i : y - 1 + 1 ≡ y = omega arith in
    let g = days_from_civil-next_year (pos (y - 1)) (pos y) (omega (arith, signed_arith)) (ap pos (sym i)) in
    let here : days_from_civil (pos y) m d ≡ days_from_civil (pos y) 1 1 =
    ap (λ k. days_from_civil (pos y) m k) e ∙ ap (λ k. days_from_civil (pos y) k 1) f in (
      record {
        year = (omega arith, omega (arith, h.year.1));
        month = (omega arith, omega arith);
        day =
            (omega arith, omega arith);
      },
      omega (arith, signed_arith, here, g),
    )

no_year_before : (y m d : ℕ) → IsDay (day_at y m d) → d ≤ 1 → m ≤ 1 → y ≤ 1 → below (day_number (day_at y m d) -ℤ pos 1)
no_year_before y m d h first january none =
    let e : d ≡ 1 = omega (arith, h.day.0) in
    let f : m ≡ 1 = omega (arith, h.month.0) in
    let g : y ≡ 1 = omega (arith, h.year.0) in
    let same : day_number (day_at y m d) ≡ day_number (day_at 1 1 1) = ap (λ k. days_from_civil (pos y) m k) e
    ∙ ap (λ k. days_from_civil (pos y) k 1) f ∙ ap (λ k. days_from_civil (pos k) 1 1) g in
    omega (arith, signed_arith, same)

previous_lies : (p : DayParts) → IsDay p → Lies below (previous_day p) (day_number p -ℤ pos 1)
previous_lies p h =
    let z = day_number p -ℤ pos 1 in
    let P : Option DayParts → Type 0 = λ o. Lies below o z in
    chosen P 1 p.day _ _ (earlier_in_month p.year p.month p.day h)
    (λ first. chosen P 1 p.month _ _ (month_before p.year p.month p.day h first)
    (λ january. chosen P 1 p.year _ _ (year_before p.year p.month p.day h first january)
    (no_year_before p.year p.month p.day h first january)))

-- steps from a day, each of which changes the number alike
stepped_lies : (beyond : ℤ → Type 0) (step : DayParts → Option DayParts) (by : ℤ → ℤ)
    → ((p : DayParts) → IsDay p → Lies beyond (step p) (by (day_number p))) → ((z : ℤ) → beyond z → beyond (by z))
    → (o : Option DayParts) (z : ℤ) → Lies beyond o z → Lies beyond (stepped step o) (by z)
stepped_lies beyond step by each stays None z h = stays z h
stepped_lies beyond step by each stays (Some p) z h = subst (λ w. Lies beyond (step p) (by w)) h.1 (each p h.0)

later_lies : (n : ℕ) (p : DayParts) → IsDay p → Lies above (steps next_day n (Some p)) (day_number p +ℤ pos n)
later_lies zero p h = (h, omega (arith, signed_arith))
later_lies (suc n) p h =
    let e : day_number p +ℤ pos n +ℤ pos 1 ≡ day_number p +ℤ pos (suc n) = omega (arith, signed_arith) in
    subst (Lies above (stepped next_day (steps next_day n (Some p)))) e
    (stepped_lies above next_day (λ z. z +ℤ pos 1) next_lies (λ z a. omega (arith, signed_arith, a))
    (steps next_day n (Some p)) (day_number p +ℤ pos n) (later_lies n p h))

earlier_lies : (n : ℕ) (p : DayParts) → IsDay p → Lies below (steps previous_day n (Some p)) (day_number p -ℤ pos n)
earlier_lies zero p h = (h, omega (arith, signed_arith))
earlier_lies (suc n) p h =
    let e : day_number p -ℤ pos n -ℤ pos 1 ≡ day_number p -ℤ pos (suc n) = omega (arith, signed_arith) in
    subst (Lies below (stepped previous_day (steps previous_day n (Some p)))) e
    (stepped_lies below previous_day (λ z. z -ℤ pos 1) previous_lies (λ z a. omega (arith, signed_arith, a))
    (steps previous_day n (Some p)) (day_number p -ℤ pos n) (earlier_lies n p h))

-- the library's date of a day
abbrev date_of : (p : DayParts) → IsDay p → Date
date_of p h = record {
  year = pos p.year;
  month = p.month;
  day = p.day;
  year_in = (omega (arith, signed_arith), omega (arith, signed_arith, h.year.1));
  month_in = h.month;
  day_in = h.day;
}

first_day : IsDay (day_at 1 1 1)
first_day = record {
  year = (omega arith, omega arith);
  month = (omega arith, omega arith);
  day =
      (omega arith, omega arith);
}

none_above : (p : DayParts) → IsDay p → above (day_number p) → ⊥
none_above p h a =
    let top : day_number p ≤ℤ pos 2_932_896 = (epoch_day_range (date_of p h)).1 in
    omega (arith, signed_arith, a, days_from_civil-max, top)

none_before : (p : DayParts) (h : IsDay p) → IsEarlier (date_of p h) (date_of (day_at 1 1 1) first_day) → ⊥
none_before p h (inl year) = let y : pos p.year <ℤ pos 1 = year in omega (arith, signed_arith, y, h.year.0)
none_before p h (inr (year, inl month)) = let m : p.month < 1 = month in omega (arith, m, h.month.0)
none_before p h (inr (year, inr day)) = let d : p.day < 1 = day.1 in omega (arith, d, h.day.0)

none_below : (p : DayParts) → IsDay p → below (day_number p) → ⊥
none_below p h b =
    elim (cases_date (date_of p h) (date_of (day_at 1 1 1) first_day)) [
      | inl less ↦ none_before p h less
      | inr (inl more) ↦
          let later : day_number (day_at 1 1 1) <ℤ day_number p =
          epoch_day-lt (date_of (day_at 1 1 1) first_day) (date_of p h) more in
          omega (arith, signed_arith, b, later)
      | inr (inr same) ↦
          let e : day_number p ≡ day_number (day_at 1 1 1) =
          epoch_day_same (date_of p h) (date_of (day_at 1 1 1) first_day) same.0 same.1 same.2 in
          omega (arith, signed_arith, b, e)
    ]

-- no day is beyond
abbrev Empty : (ℤ → Type 0) → Type 0
Empty beyond = (p : DayParts) → IsDay p → beyond (day_number p) → ⊥

-- what a date of the library is as a day: none before the year 1
abbrev pub IsHeld : Date → Option DayParts → Type 0
IsHeld date held = MatchOption held (date.year <ℤ pos 1)
    (λ parts. IsYmd (pos parts.year) (pos parts.month) (pos parts.day) date)

pos_number : (m n : ℕ) → pos m ≡ pos n → m ≡ n
pos_number m n e = ap unsigned_abs e

same_parts : (p q : DayParts) → p.year ≡ q.year → p.month ≡ q.month → p.day ≡ q.day → p ≡ q
same_parts p q year month day = ap (λ y. day_at y p.month p.day) year ∙ ap (λ m. day_at q.year m p.day) month
    ∙ ap (λ d. day_at q.year q.month d) day

held_number : (date : Date) (p : DayParts) → IsYmd (pos p.year) (pos p.month) (pos p.day) date
    → epoch_day date ≡ day_number p
held_number date p h =
    ap (λ z. days_from_civil z date.month date.day) h.0 ∙ ap (λ m. days_from_civil (pos p.year) m date.day)
    (pos_number date.month p.month h.1) ∙ ap (λ d. days_from_civil (pos p.year) p.month d)
    (pos_number date.day p.day h.2)

-- the day with a number is the library's date with that number
held_same : (beyond : ℤ → Type 0) → Empty beyond → (o held : Option DayParts) (z : ℤ) (date : Date) → Lies beyond o z
    → epoch_day date ≡ z → IsHeld date held → HasDay held → held ≡ o
held_same beyond empty None None z date lies e h has = refl
held_same beyond empty None (Some p) z date lies e h has =
    absurd (empty p has (subst beyond (sym e ∙ held_number date p h) lies))
held_same beyond empty (Some q) None z date lies e h has =
    let same = epoch_day_injective date (date_of q lies.0) (e ∙ sym lies.1) in
    let y : date.year ≡ pos q.year = same.0 in
    absurd (omega (arith, signed_arith, h, y, lies.0.year.0))
held_same beyond empty (Some q) (Some p) z date lies e h has =
    let same = epoch_day_injective date (date_of q lies.0) (e ∙ sym lies.1) in
    let year : pos p.year ≡ pos q.year = sym h.0 ∙ same.0 in
    let month : p.month ≡ q.month = sym (pos_number date.month p.month h.1) ∙ same.1 in
    let day : p.day ≡ q.day = sym (pos_number date.day p.day h.2) ∙ same.2 in
    ap Some (same_parts p q (pos_number p.year q.year year) month day)

-- where the library has no date with a number, no day has it
none_held : (beyond : ℤ → Type 0) (o : Option DayParts) (z : ℤ) → Lies beyond o z → (IsEpochDay z → ⊥) → None ≡ o
none_held beyond None z lies h = refl
none_held beyond (Some q) z lies h = absurd (h (subst IsEpochDay lies.1 (epoch_day_range (date_of q lies.0))))

-- the same of the days so many days on

pub on_held : (days : ℤ) (p : DayParts) → IsDay p → (held : Option DayParts) (date : Date)
    → epoch_day date ≡ day_number p +ℤ days → IsHeld date held → HasDay held → held ≡ days_on days (Some p)
unfolding days_on
on_held (pos n) p day held date e h has = held_same above none_above _ held _ date (later_lies n p day) e h has
on_held (negsuc n) p day held date e h has =
    let f : day_number p +ℤ negsuc n ≡ day_number p -ℤ pos (suc n) = omega (arith, signed_arith) in
    held_same below none_below _ held _ date (earlier_lies (suc n) p day) (e ∙ f) h has

pub none_on : (days : ℤ) (p : DayParts) → IsDay p → (IsEpochDay (day_number p +ℤ days) → ⊥)
    → None ≡ days_on days (Some p)
unfolding days_on
none_on (pos n) p day h = none_held above _ _ (later_lies n p day) h
none_on (negsuc n) p day h =
    let f : day_number p +ℤ negsuc n ≡ day_number p -ℤ pos (suc n) = omega (arith, signed_arith) in
    none_held below _ _ (earlier_lies (suc n) p day) (λ g. h (subst IsEpochDay (sym f) g))

-- so many days on there is no date of the library
pub far_on : (days : ℤ) (p : DayParts) → IsDay p → 7_304_483 < unsigned_abs days → None ≡ days_on days (Some p)
far_on days p day far =
    let range : IsEpochDay (day_number p) = epoch_day_range (date_of p day) in
    none_on days p day
    (λ h. omega (arith, signed_arith, unsigned_abs-parts days, one_part days, far, range.0, range.1, h.0, h.1))

-- and none on from the blank date
steps-blank : (step : DayParts → Option DayParts) (n : ℕ) → steps step n None ≡ None
steps-blank step zero = refl
steps-blank step (suc n) = ap (stepped step) (steps-blank step n)

pub blank_on : (days : ℤ) → None ≡ days_on days None
unfolding days_on
blank_on (pos n) = sym (steps-blank next_day n)
blank_on (negsuc n) = sym (steps-blank previous_day (suc n))

-- where the days so many days on lie
lies_there_above : (o : Option DayParts) (z : ℤ) → Lies above o z → LiesThere o z
lies_there_above None z h = inr h
lies_there_above (Some p) z h = h

lies_there_below : (o : Option DayParts) (z : ℤ) → Lies below o z → LiesThere o z
lies_there_below None z h = inl h
lies_there_below (Some p) z h = h

pub days_on-number : (days : ℤ) (p : DayParts) → IsDay p → LiesThere (days_on days (Some p)) (day_number p +ℤ days)
unfolding days_on
days_on-number (pos n) p h = lies_there_above _ _ (later_lies n p h)
days_on-number (negsuc n) p h =
    let f : day_number p -ℤ pos (suc n) ≡ day_number p +ℤ negsuc n = omega (arith, signed_arith) in
    subst (LiesThere (steps previous_day (suc n) (Some p))) f (lies_there_below _ _ (earlier_lies (suc n) p h))

-- days and their numbers

pub number-injective : (p q : DayParts) → IsDay p → IsDay q → day_number p ≡ day_number q → p ≡ q
number-injective p q h k e =
    let same = epoch_day_injective (date_of p h) (date_of q k) e in
    same_parts p q (pos_number p.year q.year same.0) same.1 same.2

sooner_date : (p q : DayParts) (h : IsDay p) (k : IsDay q) → IsSooner p q → IsEarlier (date_of p h) (date_of q k)
sooner_date p q h k (inl year) = inl (omega (arith, signed_arith, year))
sooner_date p q h k (inr (year, rest)) = inr (ap pos year, rest)

date_sooner : (p q : DayParts) (h : IsDay p) (k : IsDay q) → IsEarlier (date_of p h) (date_of q k) → IsSooner p q
date_sooner p q h k (inl year) = let y : pos p.year <ℤ pos q.year = year in inl (omega (arith, signed_arith, y))
date_sooner p q h k (inr (year, rest)) = inr (pos_number p.year q.year year, rest)

number-lt : (p q : DayParts) → IsDay p → IsDay q → IsSooner p q → day_number p <ℤ day_number q
number-lt p q h k s = epoch_day-lt (date_of p h) (date_of q k) (sooner_date p q h k s)

lt-sooner : (p q : DayParts) → IsDay p → IsDay q → day_number p <ℤ day_number q → IsSooner p q
lt-sooner p q h k less =
    elim (cases_date (date_of p h) (date_of q k)) [
      | inl lt ↦ date_sooner p q h k lt
      | inr (inl gt) ↦
          let later : day_number q <ℤ day_number p = epoch_day-lt (date_of q k) (date_of p h) gt in
          absurd (omega (arith, signed_arith, less, later))
      | inr (inr same) ↦
          let e : day_number p ≡ day_number q = epoch_day_same (date_of p h) (date_of q k) same.0 same.1 same.2 in
          absurd (omega (arith, signed_arith, less, e))
    ]

pub sooner-lt : (p q : DayParts) → IsDay p → IsDay q → (day_number p <ℤ day_number q) ↔ IsSooner p q
sooner-lt p q h k = (lt-sooner p q h k, number-lt p q h k)

lt_int : (x y : ℤ) → x <ℤ y → int_lt x y ≡ true
lt_int x y less = by (int_lt x y) refl
  where
    by : (t : Bool) → int_lt x y ≡ t → int_lt x y ≡ true
    by true e = e
    by false e = absurd (omega (arith, ints, e, less))

pub in_order : (a b : Option DayParts) → HasDay a → HasDay b → (is_earlier a b ≡ true)
    ⊎ ((a ≡ b) ⊎ (is_earlier b a ≡ true))
in_order None None h k = inr (inl refl)
in_order None (Some q) h k = inl refl
in_order (Some p) None h k = inr (inr refl)
in_order (Some p) (Some q) h k =
    elim (cases_date (date_of p h) (date_of q k)) [
      | inl lt ↦ inl (lt_int (day_number p) (day_number q) (epoch_day-lt (date_of p h) (date_of q k) lt))
      | inr (inl gt) ↦ inr (inr (lt_int (day_number q) (day_number p) (epoch_day-lt (date_of q k) (date_of p h) gt)))
      | inr (inr same) ↦ inr (inl (ap Some (same_parts p q (pos_number p.year q.year same.0) same.1 same.2)))
    ]
