-- Which arguments of a procedure are handed over by reference.
use Rattle.std.specs.Prelude.{ℕ, List, Option, false, Some, None, codes, if◌then◌else◌}
use Rattle.std.specs.Str.{bytes_eq}
use Rattle.prg_expr.specs.Tree.{Tree}
use Rattle.prg_expr.specs.Tree as tree
use Rattle.prg_code.specs.Bindings.{slot_named}
use Rattle.prg_values.specs.declared.scope.FieldPlace.{FieldPlace}
use Rattle.prg_values.specs.Readings.{Scoped, on_some, field_here}
use Rattle.prg_writer.specs.declared.writer.Writer.{Writer}

-- what names mean behind the code that is written
abbrev pub scope_at : Writer → Scoped
scope_at w =
    record { shape = w.shape.now; state = w.work.block.state; names = w.work.names; in_filter = false }

-- the slot of a variable; None where there is no such variable
abbrev pub variable_reference : Scoped → List ℕ → Option (Option ℕ)
variable_reference s name = on_some (slot_named s.names name) None (λ slot. Some (Some slot))

abbrev pub unless_field : Scoped → List ℕ → Option FieldPlace → Option (Option ℕ)
unless_field s name (Some field) = Some None
unless_field s name None = variable_reference s name

-- a name alone that is no field
abbrev pub named_reference : Scoped → List ℕ → Option (Option ℕ)
named_reference s name = on_some (field_here s name) None (unless_field s name)

-- a name behind M
abbrev pub qualified_reference : Scoped → List ℕ → List ℕ → Option (Option ℕ)
qualified_reference s alias name = if bytes_eq alias (codes "M") then variable_reference s name else Some None

-- the slot of an argument that is handed over by reference; Some None of one by value, None where there is a fault
abbrev pub by_reference : Scoped → Tree → Option (Option ℕ)
by_reference s (tree.Name name) = named_reference s name
by_reference s (tree.Qualified alias name) = qualified_reference s alias name
by_reference s _ = Some None
