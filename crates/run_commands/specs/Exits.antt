-- How the program exits behind a run, and what a refusal tells.
use Rattle.std.specs.Prelude.{ℕ, List}
use Rattle.file_commands.specs.declared.status.Status.{Status}
use Rattle.file_commands.specs.declared.status.Status.TheVariants as status
use Rattle.run_commands.specs.declared.ending.How.{How}
use Rattle.run_commands.specs.declared.ending.How.TheVariants as how
use Rattle.run_commands.specs.declared.refusal.RunRefusal.{RunRefusal}
use Rattle.run_commands.specs.declared.refusal.RunRefusal.TheVariants.{File, Rule, Disk, Tables, Memory}
use Rattle.run_commands.specs.declared.refusal.ToldRefusal.{ToldRefusal}
use Rattle.table_files.specs.declared.refusal.FilesRefusal.{FilesRefusal}
use Rattle.table_files.specs.declared.refusal.FilesRefusal.TheVariants as files

-- behind a run that ended so
abbrev pub exit_of_end : How → Status
exit_of_end how.Finished = status.Done
exit_of_end how.Spent = status.Spent
exit_of_end (how.Full name) = status.Full
exit_of_end how.NoMemory = status.Memory
exit_of_end (how.Fault kind place) = status.Fault

-- where tables and indexes aren't loaded or saved
abbrev pub exit_of_tables : FilesRefusal → Status
exit_of_tables (files.Refused name fault) = status.Refused
exit_of_tables (files.Disk name) = status.Disk
exit_of_tables files.Memory = status.Memory

-- where a run isn't carried out, or not all of its tables are saved
abbrev pub exit_of_run : RunRefusal → Status
exit_of_run (File fault) = status.Refused
exit_of_run (Rule failed) = status.Refused
exit_of_run Disk = status.Disk
exit_of_run (Tables refusal) = exit_of_tables refusal
exit_of_run Memory = status.Memory

-- the refusal that is told, and the name of the code's file
abbrev pub refusal_told : ToldRefusal → RunRefusal
refusal_told told = told.refusal.now

abbrev pub name_told : ToldRefusal → List ℕ
name_told told = told.name.now
