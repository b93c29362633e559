use Rattle.folder_shapes.specs.States.{taken_state}
use Rattle.folder_shapes.proofs.FolderLemmas.{programs_same, texts}
use Rattle.folder_shapes.proofs.folder.take_folder.Goals as goal

pub returns-clause-taken : goal.returns-clause-taken
returns-clause-taken g c =
    let first = g.F.Files.holds c.args.files.now in
    let second = g.F.Files.holds c.take_all.new.files in
    let declared = taken_state c.in_ok-declared.declared in
    let read = taken_state c.take_programs.new.declared in (
      declared,
      read,
      c.in_ok-declared.ensures.taken,
      programs_same first second 0 (texts c.args.names.now) declared read c.in_ok-declared.ensures.kept
          c.in_ok-take_programs.ensures.taken,
      c.in_ok-propose.ensures,
    )
