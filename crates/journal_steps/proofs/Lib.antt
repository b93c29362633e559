mod Lines
mod Sessions
