-- What is told of the work areas for which a command can't be compiled.
use Rattle.std.specs.Prelude.{◌≡◌, Some, slice_get}
use Rattle.met_areas.specs.declared.areas.HeldTable.TheVariants.{Nothing, Table}
use Rattle.met_areas.specs.declared.areas.HeldTable.TheVariants as held
use Rattle.met_areas.specs.declared.areas.MetAreas.{MetAreas}
use Rattle.hints.specs.declared.areas.AreasHint.{AreasHint}
use Rattle.hints.specs.declared.areas.AreasHint.TheVariants as hint

-- what is told of a work area is known of it, and the tables told are those that are known
abbrev pub IsTrueOf : MetAreas → AreasHint → Type 0
IsTrueOf met (hint.Meet ways) = ways.now ≡ met.ways.items
IsTrueOf met (hint.Open table place) = slice_get met.areas.items place ≡ Some (Table table)
IsTrueOf met (hint.MayBeOpen table areas selected) = areas.now ≡ met.areas.items
IsTrueOf met (hint.Closed chosen place) = slice_get met.areas.items place ≡ Some Nothing
IsTrueOf met (hint.Unsure chosen place) = slice_get met.areas.items place ≡ Some held.Unsure
IsTrueOf met (hint.SomeUnsure areas) = areas.now ≡ met.areas.items
IsTrueOf met (hint.Lettered letter table place) = slice_get met.areas.items place ≡ Some (Table table.now)
IsTrueOf met (hint.NoOrder table place) = slice_get met.areas.items place ≡ Some (Table table.now)
