use Rattle.std.proofs.Common.{◌≡◌, ◌+◌, length}
use Rattle.prg_writer.specs.Targets.{targets_of_file}
use Rattle.prg_writer.proofs.procedures.NamedProcedures.add_file.Given as goal

abbrev pub invariant-loop-procedure : goal.invariant-loop-procedure
invariant-loop-procedure l = record {
  same : targets_of_file l.file l.number l.rest l.self ≡ targets_of_file l.file 0 l.procedures l.initial.self;
  count : l.number + length l.rest ≡ length l.procedures;
}

abbrev pub decreases-loop-procedure : goal.decreases-loop-procedure
decreases-loop-procedure l = length l.rest
