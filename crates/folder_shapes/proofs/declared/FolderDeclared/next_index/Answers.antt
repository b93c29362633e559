use Rattle.std.proofs.Common.{inr}
use Rattle.folder_shapes.specs.States.{taken_state}
use Rattle.folder_shapes.specs.Told.{MayNotIndex, WhyNoIndex}
use Rattle.folder_shapes.proofs.FolderLemmas.{unfit_map}
use Rattle.folder_shapes.proofs.declared.FolderDeclared.next_index.Goals as goal

pub returns-clause-unfit : goal.returns-clause-unfit
returns-clause-unfit g c =
    let s = taken_state c.args.self.now in
    let tree = c.in_ok-tree.tree in
    unfit_map (MayNotIndex s c.args.name.now tree.form tree.pairs)
    (WhyNoIndex (g.F.Files.holds c.args.files.now) s c.args.name.now) c.in-Err.unfit
    (λ n h. inr (tree.form, tree.pairs, c.in_ok-tree.ensures.index, h))
    c.in-Err.ensures.unfit
