use Rattle.std.proofs.Common.{◌≡◌, ℕ, ◌<◌, ◌≤◌, ◌∙◌, ap, sym, subst, Some, FitsSigned, w64, to_z, of_z, arith}
use Rattle.std.specs.Int.{w128}
use Rattle.std.specs.Prelude.{ℤ, ◌+ℤ◌, unsigned_abs}
use Rattle.std.proofs.lemmas.Int.{to_z-of_z}
use Rattle.std.proofs.lemmas.Bool.{false≢true}
use Rattle.jiff_core.proofs.SignedLemmas.{signed_arith, unsigned_abs-parts}
use Rattle.jiff.specs.Words.{IsEpochDay, epoch_day}
use Rattle.calendar.specs.Days.{IsDay}
use Rattle.calendar.specs.Calendar.{days_on}
use Rattle.calendar.proofs.CalendarLemmas.{on_held, none_on, far_on, blank_on}
use Rattle.calendar.proofs.day.Day.days_on.Goals as goal

-- a number of days that is near goes through the casts
near : (days : ℤ) (abs : ℕ) → FitsSigned w128 days → abs ≡ unsigned_abs (to_z w128 (of_z w128 days)) → abs ≤ 7_304_483
    → to_z w64 (of_z w64 (to_z w128 (of_z w128 days))) ≡ days
near days abs fits e few =
    let same : to_z w128 (of_z w128 days) ≡ days = to_z-of_z w128 days fits in
    let f : unsigned_abs days ≤ 7_304_483 = subst (λ n. n ≤ 7_304_483) (e ∙ ap unsigned_abs same) few in
    ap (λ z. to_z w64 (of_z w64 z)) same ∙ to_z-of_z w64 days (omega (arith, signed_arith, unsigned_abs-parts days, f))

pub returns-in_default : goal.returns-in_default
returns-in_default c = c.blank.ensures ∙ blank_on c.args.days ∙ ap (days_on c.args.days)
    (sym c.in_default.is ∙ c.parts.ensures.same)

pub returns-then-unsigned_abs-gt-MOST_DAYS : goal.returns-then-unsigned_abs-gt-MOST_DAYS
returns-then-unsigned_abs-gt-MOST_DAYS c =
    let self : Some c.in-Some.parts ≡ c.args.self = sym c.in-Some.is ∙ c.parts.ensures.same in
    let is_day : IsDay c.in-Some.parts = c.in-Some.ensures.in_range in
    let fits : FitsSigned w128 c.args.days = c.ranges.days in
    let e : c.unsigned_abs.result ≡ unsigned_abs c.args.days = simp to_z-of_z at c.unsigned_abs.ensures.value in
    let far : 7_304_483 < unsigned_abs c.args.days = subst (λ n. 7_304_483 < n) e c.if-unsigned_abs-gt-MOST_DAYS.true in
    c.blank-then-unsigned_abs-gt-MOST_DAYS.ensures ∙ far_on c.args.days c.in-Some.parts is_day far
    ∙ ap (days_on c.args.days) self

pub returns-in-Ok : goal.returns-in-Ok
returns-in-Ok c =
    let self : Some c.in-Some.parts ≡ c.args.self = sym c.in-Some.is ∙ c.parts.ensures.same in
    let is_day : IsDay c.in-Some.parts = c.in-Some.ensures.in_range in
    let cast = near c.args.days c.unsigned_abs.result c.ranges.days c.unsigned_abs.ensures.value
    c.if-unsigned_abs-gt-MOST_DAYS.false in
    let number = c.in-Ok.ensures.value ∙ ap (λ z. epoch_day c.library_date.result +ℤ z) cast
    ∙ ap (λ z. z +ℤ c.args.days) c.library_date.ensures.number in
    on_held c.args.days c.in-Some.parts is_day c.held.result c.in-Ok.date number c.held.ensures.same c.held.ensures.day
    ∙ ap (days_on c.args.days) self

pub returns-in-Err : goal.returns-in-Err
returns-in-Err c =
    let self : Some c.in-Some.parts ≡ c.args.self = sym c.in-Some.is ∙ c.parts.ensures.same in
    let is_day : IsDay c.in-Some.parts = c.in-Some.ensures.in_range in
    let cast = near c.args.days c.unsigned_abs.result c.ranges.days c.unsigned_abs.ensures.value
    c.if-unsigned_abs-gt-MOST_DAYS.false in
    let number = ap (λ z. epoch_day c.library_date.result +ℤ z) cast
    ∙ ap (λ z. z +ℤ c.args.days) c.library_date.ensures.number in
    c.blank-in-Err.ensures
    ∙ none_on c.args.days c.in-Some.parts is_day
    (λ h. false≢true (c.in-Err.ensures.succeeds.1 (subst IsEpochDay (sym number) h)))
    ∙ ap (days_on c.args.days) self
