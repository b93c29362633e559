-- How the end of a run is told: a full table by its name.
use Rattle.std.specs.Prelude.{◌≡◌, Bool, true, not, ℕ, List, [], Option, Some, None, slice_get}
use Rattle.shape.specs.declared.tables.TableShape.{TableShape}
use Rattle.shape.specs.declared.whole.Shape.{Shape}
use Rattle.run_steps.specs.declared.ending.End.{End}
use Rattle.run_steps.specs.declared.ending.End.TheVariants.{Finished as EndFinished, Spent as EndSpent, Full as EndFull}
use Rattle.run_steps.specs.declared.ending.End.TheVariants.{NoMemory as EndNoMemory, Fault as EndFault}
use Rattle.run_commands.specs.declared.ending.How.{How}
use Rattle.run_commands.specs.declared.ending.How.TheVariants.{Finished, Spent, Full, NoMemory, Fault}

abbrev pub name_of_table : Option TableShape → List ℕ
name_of_table None = []
name_of_table (Some t) = t.name.items

abbrev pub TellsHow : Shape → End → How → Type 0
TellsHow shape EndFinished Finished = Unit {0}
TellsHow shape EndSpent Spent = Unit {0}
TellsHow shape (EndFull table) (Full name) = name.items ≡ name_of_table (slice_get shape.tables table)
TellsHow shape EndNoMemory NoMemory = Unit {0}
TellsHow shape (EndFault kind at) (Fault told place) = (told ≡ kind) × (place ≡ at)
TellsHow shape _ _ = ⊥

-- whether a run that ended so saves its tables: each run does, or only a finished one
abbrev pub is_saved : Bool → How → Bool
is_saved only_finished Finished = true
is_saved only_finished how = not only_finished
