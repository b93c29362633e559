use Rattle.std.proofs.Common.{◌<◌, ℕ, List, [], length, rules, Bor}
use Rattle.folder_shapes.specs.States.{taken_state}
use Rattle.folder_shapes.specs.Told.{TakePrograms}
use Rattle.file_access.proofs.Holding.{same_then}
use Rattle.folder_shapes.proofs.FolderLemmas.{goes_programs, texts}
use Rattle.folder_shapes.proofs.folder.take_programs.Goals as goal

pub loop-file-preserved : goal.loop-file-preserved
loop-file-preserved g c =
    let first = g.F.Files.holds c.args.files.now in
    let before = g.F.Files.holds c.loop-file.files in
    let after = g.F.Files.holds c.program_step.new.files in
    let x = taken_state c.loop-file.declared in
    let y = taken_state c.program_step.new.self in
    let d : Bor (List ℕ) = record { ref_ptr = (0, 0); now = [] } in
    let below : c.loop-file.file < length c.args.names.now = search rules in
    record {
      same = same_then first before after c.loop-file.invariant.same c.program_step.ensures.kept;
      goes = goes_programs first before c.args.names.now c.loop-file.file d x y
          (λ s. TakePrograms first 0 (texts c.args.names.now) (taken_state c.args.declared.now) s)
          c.loop-file.invariant.same below c.in_ok-program_step.ensures.taken c.loop-file.invariant.goes;
    }
