use Rattle.std.proofs.Common.{inl}
use Rattle.folder_shapes.proofs.declared.FolderDeclared.take_table.Goals as goal

pub returns-in_ok-add_table-in-Ok-clause-taken : goal.returns-in_ok-add_table-in-Ok-clause-taken
returns-in_ok-add_table-in-Ok-clause-taken g c =
    inl (c.in-Ok.shape, c.in-Ok.found, c.in-Ok.ensures.table, c.in_ok-add_table-in-Ok.ensures)
