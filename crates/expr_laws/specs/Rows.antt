-- What the names of a filter's condition stand for at a row.
use Rattle.std.specs.Prelude.{◌≡◌, ℕ, true, List, Some, length, codes, if◌then◌else◌}
use Rattle.std.specs.Str.{bytes_eq}
use Rattle.xvalue.specs.declared.value.Value.{Value}
use Rattle.shape.specs.declared.whole.Shape.{Shape}
use Rattle.open_table.specs.Tried.{TriedRow}
use Rattle.work_area.specs.Making.{HaveAlikeFields}
use Rattle.code_items.specs.declared.code.Code.{Code}
use Rattle.code_items.specs.declared.declared.Filter.{Filter}
use Rattle.code_items.specs.declared.desk.OpenArea.{OpenArea}
use Rattle.code_items.specs.declared.desk.AreaState.TheVariants.{Open}
use Rattle.code_items.specs.Declarations.{filter_of}
use Rattle.prg_code.specs.Bindings.{NamedVariables}
use Rattle.prg_values.specs.Readings.{Scoped, on_some, table_fields, field_named, area_at}
use Rattle.run_steps.specs.Filters.{Viewer, row_field, asked_of}
use Rattle.expr_laws.specs.Meaning.{Sight, nothing}
use Rattle.expr_laws.specs.Seeing.{variable_value}

-- a field of the row's table
abbrev pub row_value : Shape → ℕ → TriedRow → List ℕ → Value → Value
row_value shape table r name other =
    on_some (field_named (table_fields shape table) name) other (λ f. row_field f.number r)

-- a name is a field of the row, else a variable; behind an alias, which can only be that of the filter's own work area,
-- a field of the row; behind M a variable
abbrev pub row_sight : Shape → NamedVariables → Viewer → ℕ → TriedRow → Sight
row_sight shape names v table r = record {
  settings = v.settings;
  today = v.today;
  named = λ name. row_value shape table r name (variable_value names v.slots name);
  qualified = λ alias name. if bytes_eq alias (codes "M") then variable_value names v.slots name
      else row_value shape table r name nothing;
  asked = λ q. asked_of q r;
}

-- the condition was compiled for this code's tables as a filter's, where the selected work area held this table; the
-- filter of the number is of that table
pub record IsOfFilter (code : Code) (s : Scoped) (number table : ℕ) : Type 0 where
  pub shape : s.shape ≡ code.declared.shape
  pub inside : s.in_filter ≡ true
  pub area : OpenArea
  pub known : area_at s.state.desk s.state.desk.selected ≡ Open area
  pub holds : area.table ≡ table
  pub filter : Filter
  pub declared : filter_of code.declared number ≡ Some filter
  pub of_table : filter.table ≡ table

-- the row's fields hold what is declared of the table, and the viewer has the code's slots
pub record IsOfTable (code : Code) (v : Viewer) (table : ℕ) (r : TriedRow) : Type 0 where
  pub fields : HaveAlikeFields r.structure.fields (table_fields code.declared.shape table)
  pub slots : length v.slots ≡ code.declared.slots
