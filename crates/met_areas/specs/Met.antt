-- The work areas that are told of a faulty command.
use Rattle.std.specs.Prelude.{◌≡◌, List, Option, Some, None, map, slice_get}
use Rattle.code_items.specs.declared.desk.AreaState.{AreaState}
use Rattle.code_items.specs.declared.desk.AreaState.TheVariants.{Closed, Open, Unsure as IsUnsure}
use Rattle.shape.specs.declared.tables.TableShape.{TableShape}
use Rattle.shape.specs.declared.whole.Shape.{Shape}
use Rattle.met_areas.specs.declared.areas.HeldTable.{HeldTable}
use Rattle.met_areas.specs.declared.areas.HeldTable.TheVariants.{Nothing, Table, Unsure}
use Rattle.met_areas.specs.declared.areas.MetAreas.{MetAreas}

-- the declared table, if there is one
abbrev pub by_its_name : Option TableShape → HeldTable
by_its_name None = Unsure
by_its_name (Some table) = Table table.name

-- what a work area holds with this state
abbrev pub held_by : List TableShape → AreaState → HeldTable
held_by tables Closed = Nothing
held_by tables (Open area) = by_its_name (slice_get tables area.table)
held_by tables IsUnsure = Unsure

-- what a work area holds where it is selected, if it is
abbrev pub held_on : List TableShape → Option AreaState → Option HeldTable
held_on tables None = None
held_on tables (Some area) = Some (held_by tables area)

-- these states of work areas and of those that are selected, told by the names of the declared tables
pub record AreTold (shape : Shape) (states : List AreaState) (ways : List (Option AreaState))
    (met : MetAreas) : Type 0 where
  pub areas : met.areas.items ≡ map (held_by shape.tables) states
  pub selected : met.ways.items ≡ map (held_on shape.tables) ways

-- some states, told so
pub record AreasOfShape (shape : Shape) (met : MetAreas) : Type 0 where
  pub states : List AreaState
  pub ways : List (Option AreaState)
  pub told : AreTold shape states ways met
