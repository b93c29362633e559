use Rattle.std.proofs.Common.{◌≤◌, map}
use Rattle.file_access.specs.Holding.{SameFiles}
use Rattle.compile_commands.specs.Listing.{AreListed}
use Rattle.compile_commands.proofs.listing.list_files.Given as goal

abbrev pub invariant-loop-file : goal.invariant-loop-file
invariant-loop-file g l = record {
  kept : SameFiles (g.F.Files.holds l.fn.files) (g.F.Files.holds l.files);
  counted : g.F.Files.failed l.fn.files ≤ g.F.Files.failed l.files;
  listed : AreListed (g.F.Files.holds l.fn.files) (map (λ name. name.now) l.fn.names) l.file l.found.items;
}
