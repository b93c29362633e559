-- What the contracts of `calendar` say.
pub use Rattle.calendar.specs.Days
pub use Rattle.calendar.specs.Calendar
pub use Rattle.calendar.specs.DateTexts
pub use Rattle.calendar.specs.Laws
pub use Rattle.calendar.specs.declared.day.DayParts
