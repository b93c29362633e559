-- Which of a line's faults is told.
use Rattle.std.specs.Prelude.{◌≡◌, ℕ, List, [], ◌∷◌, Option, Some, None, nat_le, nat_lt, if◌then◌else◌}
use Rattle.prg_expr.specs.declared.fault.ParseFaultKind.{ParseFaultKind}
use Rattle.prg_expr.specs.declared.fault.ParseFaultKind.TheVariants.{Character, Text, Number, Word, Expression, Block}
use Rattle.prg_expr.specs.declared.fault.ParseFaultKind.TheVariants.{TooLong, TooDeep, Macro}
use Rattle.prg_expr.specs.declared.fault.ParseFault.{ParseFault}
use Rattle.prg_expr.specs.declared.fault.ParseRefusal.{ParseRefusal}
use Rattle.prg_expr.specs.declared.fault.ParseRefusal.TheVariants.{Fault, Memory}

-- the order of the kinds
abbrev pub rank : ParseFaultKind → ℕ
rank Character = 1
rank Text = 2
rank Number = 3
rank Word = 4
rank Expression = 5
rank Block = 6
rank TooLong = 7
rank TooDeep = 8
rank Macro = 9

-- the lesser of two faults, where there are any
abbrev pub least : Option ParseFaultKind → Option ParseFaultKind → Option ParseFaultKind
least None found = found
least (Some f) None = Some f
least (Some f) (Some g) = if nat_le (rank f) (rank g) then Some f else Some g

-- the least of a fault and of those of a list
abbrev pub least_of : Option ParseFaultKind → List (Option ParseFaultKind) → Option ParseFaultKind
least_of told [] = told
least_of told (found ∷ others) = least_of (least told found) others

-- a line has at most 1,024 bytes
abbrev pub length_fault : ℕ → Option ParseFaultKind
length_fault bytes = if nat_lt 1024 bytes then Some TooLong else None

-- a refusal that is the fault which the definition tells, or want of memory
abbrev pub Tells : Option ParseFault → ParseRefusal → Type 0
Tells told (Fault fault) = told ≡ Some fault
Tells told Memory = Unit {0}

-- a refusal for another cause than memory
abbrev pub OnFault : ParseRefusal → Type 0 → Type 0
OnFault (Fault fault) p = p
OnFault Memory p = Unit {0}
