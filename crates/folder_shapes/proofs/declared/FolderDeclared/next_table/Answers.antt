use Rattle.std.proofs.Common.{inr}
use Rattle.folder_shapes.specs.States.{taken_state}
use Rattle.folder_shapes.specs.Told.{MayNotDeclare, WhyNoTable}
use Rattle.folder_shapes.proofs.FolderLemmas.{unfit_map}
use Rattle.folder_shapes.proofs.declared.FolderDeclared.next_table.Goals as goal

pub returns-in-Err-clause-unfit : goal.returns-in-Err-clause-unfit
returns-in-Err-clause-unfit g c =
    let s = taken_state c.args.self.now in
    unfit_map (MayNotDeclare s c.args.name.now c.in_ok-found.found)
    (WhyNoTable (g.F.Files.holds c.args.files.now) s c.args.name.now) c.in-Err.unfit
    (λ n h. inr (c.in_ok-found.found, c.in_ok-found.ensures.found, h))
    c.in-Err.ensures.unfit
