-- How long dates' texts are.
use Rattle.std.proofs.Common.{◌≡◌, ◌≤◌, length, Bool, true, false, Option, Some, None, refl, sym, arith}
use Rattle.std.proofs.lemmas.List.{take_all}
use Rattle.calendar.specs.declared.day.DayParts.{DayParts}
use Rattle.xvalue.specs.declared.settings.Settings.{Settings}
use Rattle.xvalue.specs.Shown.{shown_day}
use Rattle.xvalue.specs.Texts.{fitting}

pub length-without : (settings : Settings) (date : Option DayParts) → settings.century ≡ false
    → length (shown_day settings date) ≡ 8
unfolding shown_day
length-without settings None e = rw e refl
length-without settings (Some parts) e = rw e refl

pub length-with : (settings : Settings) (date : Option DayParts) → settings.century ≡ true
    → length (shown_day settings date) ≡ 10
unfolding shown_day
length-with settings None e = rw e refl
length-with settings (Some parts) e = rw e refl

short_day : (settings : Settings) (date : Option DayParts) (century : Bool) → settings.century ≡ century
    → length (shown_day settings date) ≤ 254
short_day settings date true e = omega (arith, length-with settings date e)
short_day settings date false e = omega (arith, length-without settings date e)

-- none is cut
pub day_fits : (settings : Settings) (date : Option DayParts)
    → shown_day settings date ≡ fitting (shown_day settings date)
day_fits settings date = sym (take_all 254 (shown_day settings date) (short_day settings date settings.century refl))
