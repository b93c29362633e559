use Rattle.std.proofs.Common.{ap, sym, ◌∙◌}
use Rattle.row_keys.specs.Lists.{index_list}
use Rattle.folder_shapes.specs.Keys.{made_of}
use Rattle.folder_shapes.specs.Owners.{are_listed}
use Rattle.folder_shapes.proofs.PairLemmas.{same_of}
use Rattle.folder_shapes.proofs.owners.lists.Goals as goal

pub returns-in-Some : goal.returns-in-Some
returns-in-Some c =
    let t = c.args.found.now.table in
    let pairs = c.args.tree.now.pairs in
    let key = sym c.in_ok-key.ensures ∙ c.in-Some.is in
    same_of c.lists_rows.result pairs (index_list c.in-Some.key t.rows) c.lists_rows.ensures
    ∙ ap (λ made. are_listed made t.rows pairs)
    (sym key ∙ ap (λ n. made_of t.structure.fields n c.args.plain.now) c.key_length-key_length.ensures)
