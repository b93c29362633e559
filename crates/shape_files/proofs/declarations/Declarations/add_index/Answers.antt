use Rattle.std.proofs.Common.{◌≡◌, ◌<◌, List, length, sym, subst, ◌∙◌, rules}
use Rattle.std.specs.Prelude.{true}
use Rattle.shape.specs.declared.indexes.IndexShape.{IndexShape}
use Rattle.shape.specs.Indexes.{is_next_index}
use Rattle.shape.specs.Whole.{is_shape}
use Rattle.shape_files.specs.Shapes.{shape_of}
use Rattle.shape_files.proofs.ShapeLemmas.{index_added}
use Rattle.shape_files.proofs.declarations.Declarations.add_index.Goals as goal

pub returns-clause-legal : goal.returns-clause-legal
returns-clause-legal c = λ h.
    let before = shape_of c.args.self.now in
    let room : length c.args.self.now.indexes.items < 64 = search rules in
    let next : is_next_index before.tables before.indexes c.args.index ≡ true =
    rw (sym c.as_slice.ensures.value, sym c.as_slice-2.ensures.value)
    (sym c.is_next.ensures ∙ c.if-not-is_next.false) in
    subst (λ (xs : List IndexShape). is_shape (record before { indexes = xs }) ≡ true) (sym c.in_ok-push.ensures.items)
    (index_added before c.args.index room next h)
