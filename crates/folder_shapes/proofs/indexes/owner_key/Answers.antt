use Rattle.std.proofs.Common.{◌≡◌, length, get_or, refl, sym, ◌∙◌, rules}
use Rattle.std.proofs.lemmas.Option.{slice_get_read, slice_get_within}
use Rattle.folder_shapes.proofs.indexes.owner_key.Goals as goal

pub returns : goal.returns
returns c =
    let found = c.args.found.now in
    let owner = c.in-Some.owner.now in
    let below = slice_get_within found c.args.table c.requires.0 c.requires.1 in
    let read : owner ≡ get_or found c.args.table owner = search rules in (
      owner,
      slice_get_read found (length found) c.args.table owner refl below read,
      sym c.in_ok-key-in-Some.ensures
          ∙ c.in-Some-2.is,
    )
