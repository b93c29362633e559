pub mod Flow
pub mod Kept
pub mod Places
pub mod Rules
pub mod Signature
pub mod Wants
