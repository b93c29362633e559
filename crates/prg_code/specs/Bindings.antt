-- Variables by their names.
use Rattle.std.specs.Prelude.{◌≡◌, ℕ, Bool, false, ◌||◌, not, List, Option, Some, map, length}
use Rattle.std.specs.List.{All, filter}
use Rattle.std.specs.Map.{lookup}
use Rattle.std.specs.Option.{option_map}
use Rattle.std.specs.Str.{bytes_eq}
use Rattle.arrayvec.specs.ArrayVec.{ArrayVec}
use Rattle.prg_code.specs.declared.names.Variable.{Variable}

-- names, and the variables for which they stand
abbrev pub NamedVariables : Type 0
NamedVariables = List (ArrayVec ℕ × Variable)

-- the slot of the variable of this name
abbrev pub slot_named : NamedVariables → List ℕ → Option ℕ
slot_named names name = option_map (λ v. v.slot) (lookup (λ n. bytes_eq name n.items) names)

-- a variable as one that a caller has
abbrev pub as_caller : Variable → Variable
as_caller variable = record { slot = variable.slot; own = false }

-- the same names, all as a caller's
abbrev pub as_callers : NamedVariables → NamedVariables
as_callers names = map (λ e. (e.0, as_caller e.1)) names

-- whether a variable is a procedure's own, or has another name
abbrev pub is_left : List ℕ → ArrayVec ℕ × Variable → Bool
is_left hidden e = e.1.own || not (bytes_eq e.0.items hidden)

-- the names without this one, where it is a caller's
abbrev pub without_caller : List ℕ → NamedVariables → NamedVariables
without_caller hidden names = filter (is_left hidden) names

-- each name of the first stands for the same slot in the second, which has no more names
pub record DoNameSame (one two : NamedVariables) : Type 0 where
  pub many : length one ≡ length two
  pub slots : All (λ e. slot_named two e.0.items ≡ Some e.1.slot) one
