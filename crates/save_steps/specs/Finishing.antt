-- How what stands is judged, and which steps finish it.
use Rattle.std.specs.Prelude.{ℕ, List, Bool, true, false, Option, Some, None, length, ◌&&◌, ◌||◌, is_none}
use Rattle.std.specs.Prelude.{if◌then◌else◌}
use Rattle.std.specs.List.{list_any}
use Rattle.std.specs.Option.{option_eq}
use Rattle.std.specs.Str.{bytes_eq}
use Rattle.save_steps.specs.declared.slots.Slot.{Slot}
use Rattle.save_steps.specs.declared.slots.Slot.TheVariants.{Waiting, Placed, Foreign}
use Rattle.save_steps.specs.declared.steps.Paper.{Paper}
use Rattle.save_steps.specs.declared.steps.Paper.TheVariants.{Absent, Plan, Note}
use Rattle.save_steps.specs.declared.steps.Step.{Step}
use Rattle.save_steps.specs.Steps.{without_steps, back_steps, on_steps}

-- whether two sums are one, or both files are absent
abbrev pub same_sum : Option (List ℕ) → Option (List ℕ) → Bool
same_sum a b = option_eq bytes_eq a b

-- What stands at a file, by the sums under its name and under its new file's name, and by those of what it was and is
-- to be.
unfoldable pub slot_of : Option (List ℕ) → Option (List ℕ) → Option (List ℕ) → List ℕ → Slot
slot_of target beside old new =
    if same_sum beside (Some new)
    then (if same_sum target old || same_sum target (Some new) then Waiting else Foreign)
    else (if is_none beside && same_sum target (Some new) then Placed else Foreign)

abbrev pub is_foreign : Slot → Bool
is_foreign Foreign = true
is_foreign Waiting = false
is_foreign Placed = false

-- the steps that finish what was found, none where a note's file was changed by others
abbrev pub finish_of : Paper → List Slot → Option (List Step)
finish_of Absent slots = Some without_steps
finish_of Plan slots = Some (back_steps (length slots))
finish_of Note slots = if list_any is_foreign slots then None else Some (on_steps (length slots))
