-- Lines as they are typed.
use Rattle.std.specs.Prelude.{◌≡◌, length, ⊤}
use Rattle.operator_desk.specs.Held.{line_length}
use Rattle.operator_desk.specs.declared.typing.Typed.{Typed}
use Rattle.operator_desk.specs.declared.typing.Typed.TheVariants.{Line, End, Long}

-- a line holds no line end
abbrev pub HoldsNoEnd : Typed → Type 0
HoldsNoEnd (Line line) = line_length line.items ≡ length line.items
HoldsNoEnd End = ⊤
HoldsNoEnd Long = ⊤
