use Rattle.std.proofs.Common.{map, drop}
use Rattle.file_access.specs.Holding.{SameFiles}
use Rattle.folder_shapes.specs.States.{taken_state}
use Rattle.folder_shapes.specs.Told.{State, TakePrograms}
use Rattle.folder_shapes.proofs.folder.take_programs.Given as goal

abbrev pub invariant-loop-file : goal.invariant-loop-file
invariant-loop-file g l = record {
  same : SameFiles (g.F.Files.holds l.fn.files) (g.F.Files.holds l.files);
  goes : (after : State) → TakePrograms (g.F.Files.holds l.fn.files) l.file
      (map (λ name. name.now) (drop l.file l.fn.names)) (taken_state l.declared) after
      → TakePrograms (g.F.Files.holds l.fn.files) 0 (map (λ name. name.now) l.fn.names) (taken_state l.fn.declared)
      after;
}
