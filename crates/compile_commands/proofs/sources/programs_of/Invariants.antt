use Rattle.std.proofs.Common.{◌≡◌, ◌<◌, ◌≤◌, ℕ, length, map}
use Rattle.file_access.specs.Holding.{SameFiles}
use Rattle.compile_commands.specs.Compiling.{IsRead, name_at}
use Rattle.compile_commands.proofs.sources.programs_of.Given as goal

abbrev pub invariant-loop-file : goal.invariant-loop-file
invariant-loop-file g l = record {
  kept : SameFiles (g.F.Files.holds l.fn.files) (g.F.Files.holds l.files);
  counted : g.F.Files.failed l.fn.files ≤ g.F.Files.failed l.files;
  all : length l.programs.items ≡ l.file;
  read : (number : ℕ) → number < l.file
      → IsRead (g.F.Files.holds l.fn.files (name_at (map (λ name. name.now) l.fn.names) number));
}
