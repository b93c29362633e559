use Rattle.std.proofs.Common.{◌≡◌, ◌<◌, true, false, length, inr, rules}
use Rattle.shape.specs.declared.indexes.IndexShape.{IndexShape}
use Rattle.shape.specs.Indexes.{is_index, is_next_index}
use Rattle.folder_shapes.specs.Names.{has_small}
use Rattle.folder_shapes.proofs.OwnerLemmas.{indexes_of}
use Rattle.folder_shapes.proofs.indexes.index_shape.Goals as goal

pub returns-then-not-is_index-clause-unfit : goal.returns-then-not-is_index-clause-unfit
returns-then-not-is_index-clause-unfit c =
    let owned = c.in_ok-table.field-0 in
    let index : IndexShape = record { name = c.in-Some.capitals; table = owned.table; key = owned.key } in
    let is = indexes_of c.as_slice.result.now c.args.declared.now.found.items c.args.name.now c.stem.result.now
    c.args.tree.now.form c.args.tree.now.pairs index
    c.as_slice.ensures.value c.stem.ensures c.in-Some.ensures c.in_ok-table.ensures.of c.in_ok-table.ensures.key in
    let no : is_index c.args.declared.now.tables.items index ≡ false = search rules in
    inr (index, is, no)

pub returns-then-not-is_next-clause-unfit : goal.returns-then-not-is_next-clause-unfit
returns-then-not-is_next-clause-unfit c =
    let owned = c.in_ok-table.field-0 in
    let index : IndexShape = record { name = c.in-Some.capitals; table = owned.table; key = owned.key } in
    let is = indexes_of c.as_slice.result.now c.args.declared.now.found.items c.args.name.now c.stem.result.now
    c.args.tree.now.form c.args.tree.now.pairs index
    c.as_slice.ensures.value c.stem.ensures c.in-Some.ensures c.in_ok-table.ensures.of c.in_ok-table.ensures.key in
    let no : is_next_index c.args.declared.now.tables.items c.args.declared.now.indexes.items index ≡ false =
    search rules in
    inr (index, is, no)

pub returns-clause-index : goal.returns-clause-index
returns-clause-index c =
    let owned = c.in_ok-table.field-0 in
    let index : IndexShape = record { name = c.in-Some.capitals; table = owned.table; key = owned.key } in
    let is = indexes_of c.as_slice.result.now c.args.declared.now.found.items c.args.name.now c.stem.result.now
    c.args.tree.now.form c.args.tree.now.pairs index
    c.as_slice.ensures.value c.stem.ensures c.in-Some.ensures c.in_ok-table.ensures.of c.in_ok-table.ensures.key in
    let small : has_small c.args.name.now ≡ false = search rules in
    let room : length c.args.declared.now.indexes.items < 64 = search rules in
    let next : is_next_index c.args.declared.now.tables.items c.args.declared.now.indexes.items index ≡ true =
    search rules in
    record { indexes = is; capitals = small; room = room; next = next }
