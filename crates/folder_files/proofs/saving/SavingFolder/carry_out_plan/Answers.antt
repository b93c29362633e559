use Rattle.folder_files.specs.Handed.{count_handed}
use Rattle.folder_files.proofs.saving.SavingFolder.carry_out_plan.Goals as goal

pub returns-in-Err : goal.returns-in-Err
returns-in-Err g c = λ some. c.behind_note.ensures (count_handed c.args.self.now) some (c.in-Err.ensures some)
