use Rattle.folder_shapes.specs.States.{taken_state}
use Rattle.folder_shapes.proofs.CommentLemmas.{declares_before}
use Rattle.folder_shapes.proofs.FolderLemmas.{texts}
use Rattle.folder_shapes.proofs.LegalLemmas.{legal_taken}
use Rattle.folder_shapes.proofs.NamedLemmas.{all_named}
use Rattle.folder_shapes.proofs.folder.declare.Goals as goal

pub returns-clause-comments : goal.returns-clause-comments
returns-clause-comments g c = declares_before (g.F.Files.holds c.args.files.now) (texts c.args.names.now)
    (taken_state c.in_ok-declared.declared) c.in_ok-declared.ensures.taken

pub returns-clause-named : goal.returns-clause-named
returns-clause-named g c = all_named (g.F.Files.holds c.args.files.now) (texts c.args.names.now)
    (taken_state c.in_ok-declared.declared) c.in_ok-declared.ensures.taken

pub returns-clause-legal : goal.returns-clause-legal
returns-clause-legal g c = legal_taken (g.F.Files.holds c.args.files.now) (texts c.args.names.now)
    (taken_state c.in_ok-declared.declared) c.in_ok-declared.ensures.taken
