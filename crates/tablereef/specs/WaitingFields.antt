-- What the contracts of `waiting_fields` say.
pub use Rattle.waiting_fields.specs.Reads
