use Rattle.std.proofs.Common.{sym, ap, ◌∙◌}
use Rattle.folder_shapes.specs.Keys.{plain_text}
use Rattle.folder_shapes.proofs.OwnerLemmas.{key_at, maker_at, maker_of}
use Rattle.folder_shapes.proofs.indexes.owned_by.Goals as goal

pub owner_key-requires : goal.owner_key-requires
owner_key-requires c =
    let form = c.args.tree.now.form in
    let tables = c.args.found.now in
    maker_at tables c.key_length.result form.key_length c.as_slice-in-Table.result.now (plain_text form.key_text)
    c.in-Table.table
    c.key_length.ensures
    (c.as_slice-in-Table.ensures.value ∙ c.in_ok-plain.ensures ∙ ap plain_text c.key_text.ensures)
    (maker_of tables form c.args.tree.now.pairs c.in-Table.table (sym c.in_ok-owner.ensures.owner ∙ c.in-Table.is))

pub returns-clause-key : goal.returns-clause-key
returns-clause-key c =
    let form = c.args.tree.now.form in
    key_at c.args.found.now c.key_length.result form.key_length c.as_slice-in-Table.result.now
    (plain_text form.key_text) c.in-Table.table c.in_ok-key-in-Table.key
    c.key_length.ensures
    (c.as_slice-in-Table.ensures.value ∙ c.in_ok-plain.ensures ∙ ap plain_text c.key_text.ensures)
    c.in_ok-key-in-Table.ensures
