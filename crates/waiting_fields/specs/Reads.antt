-- READs, and which shown values they ask for.
use Rattle.std.specs.Prelude.{◌≡◌, ◌+◌, ◌-◌, ◌==◌, ◌&&◌, ◌⊎◌, ℕ, Bool, true, false, List, [], Option, Some, None}
use Rattle.std.specs.Prelude.{if◌then◌else◌, map, slice_get}
use Rattle.std.specs.List.{All, Any, Contains}
use Rattle.code_items.specs.declared.instr.Instr.{Instr}
use Rattle.code_items.specs.declared.instr.Instr.TheVariants.{Values, Screen, Records}
use Rattle.code_items.specs.declared.instr.RecordInstr.{RecordInstr}
use Rattle.code_items.specs.declared.instr.RecordInstr.TheVariants.{Field}
use Rattle.code_items.specs.declared.instr.ScreenInstr.{ScreenInstr}
use Rattle.code_items.specs.declared.instr.ScreenInstr.TheVariants.{Input}
use Rattle.code_items.specs.declared.instr.ValueInstr.{ValueInstr}
use Rattle.code_items.specs.declared.instr.ValueInstr.TheVariants.{Load}
use Rattle.code_items.specs.Showing.{shows_value}
use Rattle.waiting_fields.specs.declared.reads.Read.{Read}

-- ---- instructions

abbrev pub value_is_source : ValueInstr → Bool
value_is_source (Load k s) = true
value_is_source _ = false

abbrev pub record_is_source : RecordInstr → Bool
record_is_source (Field a f) = true
record_is_source _ = false

-- puts the value of a variable or of a field on the stack
abbrev pub is_source : Instr → Bool
is_source (Values i) = value_is_source i
is_source (Records i) = record_is_source i
is_source _ = false

abbrev pub screen_is_input : ScreenInstr → Bool
screen_is_input (Input k) = true
screen_is_input _ = false

-- takes a line for a value
abbrev pub is_input : Instr → Bool
is_input (Screen i) = screen_is_input i
is_input _ = false

-- ---- places

-- the instruction before a place
abbrev pub before : List Instr → ℕ → Option Instr
before code place = if place == 0 then None else slice_get code (place - 1)

abbrev pub passes : (Instr → Bool) → Option Instr → Bool
passes test None = false
passes test (Some i) = test i

-- a line is taken there for the variable or the field whose value stands before it
abbrev pub takes_at : List Instr → ℕ → Bool
takes_at code place = passes is_source (before code place) && passes is_input (slice_get code place)

abbrev pub shows_at : List Instr → ℕ → Bool
shows_at code place = passes shows_value (slice_get code place)

-- ---- READs

-- each value for which a line is taken is the one that is shown, in order
abbrev pub AreMatched : List Instr → List ℕ → List ℕ → Type 0
AreMatched code takes shows = map (before code) shows ≡ map (before code) takes

-- a line that is taken three places behind one of these is one of these
abbrev pub GoesOn : List Instr → List ℕ → Type 0
GoesOn code takes = (place : ℕ) → Contains takes place → takes_at code (place + 3) ≡ true → Contains takes (place + 3)

-- lines are taken for variables and fields, one behind the other, and each of these is shown once, in order, or it
-- can't be told where
pub record IsReadOfCode (code : List Instr) (read : Read) : Type 0 where
  pub takes : All (λ place. takes_at code place ≡ true) read.takes.items
  pub goes_on : GoesOn code read.takes.items
  pub shows : All (λ place. shows_at code place ≡ true) read.shows.items
  pub matched : (read.shows.items ≡ []) ⊎ AreMatched code read.takes.items read.shows.items

-- one of the READs takes a line at the place
abbrev pub IsTaken : List Read → ℕ → Type 0
IsTaken reads place = Any (λ read. Contains read.takes.items place) reads
