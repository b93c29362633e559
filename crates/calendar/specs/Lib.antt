pub mod Days
pub mod Calendar
pub mod DateTexts
pub mod Laws
