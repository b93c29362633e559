-- The parts of what is known at a place, each compared by itself.
use Rattle.std.specs.Prelude.{ℕ, Bool, Option}
use Rattle.code_items.specs.declared.code.Code.{Code}
use Rattle.code_items.specs.declared.state.State.{State}
use Rattle.code_rules.specs.Rules.{Here as Place, slots_fail, desk_fails, stack_fails}
use Rattle.code_rules.specs.Rules.{some_slots_fail, some_desk_fails, some_stack_fails}
use Rattle.xverify.specs.declared.covering.KnownPart.{KnownPart}
use Rattle.xverify.specs.declared.covering.KnownPart.TheVariants.{Slots, Desk, Stack}

-- this part isn't covered, so many values of kinds that aren't known being on top of the stack that flows there
abbrev pub part_fails : KnownPart → ℕ → Option State → State → Bool
part_fails Slots more m s = slots_fail m s
part_fails Desk more m s = desk_fails m s
part_fails Stack more m s = stack_fails more m s

-- where the block begins, in the procedure that is called, or at a next place
abbrev pub some_part_fails : KnownPart → Code → Place → Bool
some_part_fails Slots = some_slots_fail
some_part_fails Desk = some_desk_fails
some_part_fails Stack = some_stack_fails
