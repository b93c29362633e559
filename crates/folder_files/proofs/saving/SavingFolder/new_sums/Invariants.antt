use Rattle.std.proofs.Common.{◌≡◌, map, take}
use Rattle.folder_files.specs.Handed.{sum_told, sum_to_be}
use Rattle.folder_files.proofs.saving.SavingFolder.new_sums.Given as goal

abbrev pub invariant-loop-pending : goal.invariant-loop-pending
invariant-loop-pending g l = map sum_told l.sums.items ≡ map sum_to_be (take l.pending-index l.self.pending.items)
