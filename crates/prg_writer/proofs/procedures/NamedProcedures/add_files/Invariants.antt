use Rattle.std.proofs.Common.{◌≡◌, ◌+◌, length}
use Rattle.prg_writer.specs.Targets.{targets_of_files}
use Rattle.prg_writer.proofs.procedures.NamedProcedures.add_files.Given as goal

abbrev pub invariant-loop-program : goal.invariant-loop-program
invariant-loop-program l = record {
  same : targets_of_files l.file l.rest l.self ≡ targets_of_files 0 l.programs l.initial.self;
  count : l.file + length l.rest ≡ length l.programs;
}

abbrev pub decreases-loop-program : goal.decreases-loop-program
decreases-loop-program l = length l.rest
