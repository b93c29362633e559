use Rattle.std.proofs.Common.{◌≡◌, List, sym, subst, ◌∙◌}
use Rattle.std.specs.Prelude.{true}
use Rattle.shape.specs.declared.tables.TableShape.{TableShape}
use Rattle.shape.specs.Tables.{is_next_table}
use Rattle.shape.specs.Whole.{is_shape}
use Rattle.shape_files.specs.Shapes.{shape_of}
use Rattle.shape_files.proofs.ShapeLemmas.{table_added}
use Rattle.shape_files.proofs.declarations.Declarations.add_table.Goals as goal

pub returns-clause-legal : goal.returns-clause-legal
returns-clause-legal c = λ h.
    let before = shape_of c.args.self.now in
    let next = subst (λ (ts : List TableShape). is_next_table ts c.args.table ≡ true) c.as_slice.ensures.value
    (sym c.is_next.ensures ∙ c.if-not-is_next.false) in
    subst (λ (ts : List TableShape). is_shape (record before { tables = ts }) ≡ true) (sym c.in_ok-push.ensures.items)
    (table_added before c.args.table c.requires next h)
