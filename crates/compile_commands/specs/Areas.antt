-- The work areas at the command for which files aren't compiled.
use Rattle.std.specs.Prelude.{ℕ, List}
use Rattle.file_access.specs.Holding.{Holds}
use Rattle.met_areas.specs.Met.{AreasOfShape}
use Rattle.met_areas.specs.declared.areas.MetAreas.{MetAreas}
use Rattle.shape.specs.declared.whole.Shape.{Shape}
use Rattle.shape_files.specs.Shapes.{IsDeclared}

-- tables go by the names that the declaration file declares
pub record AreOfDeclared (holds : Holds) (decl : List ℕ) (met : MetAreas) : Type 0 where
  pub shape : Shape
  pub declared : IsDeclared holds decl shape
  pub told : AreasOfShape shape met
