use Rattle.std.proofs.Common.{◌∙◌, ap, List, ℕ, map}
use Rattle.prg_parser.specs.Listing.{all_faults}
use Rattle.prg_parser.specs.Marks.{marks}
use Rattle.compile_commands.specs.Listing.{Lines, line_fault}
use Rattle.compile_commands.proofs.listing.faults_of_file.Goals as goal

pub returns-in-Ok-faults_in-clause-listed : goal.returns-in-Ok-faults_in-clause-listed
returns-in-Ok-faults_in-clause-listed g c =
    Lines c.in-Ok.bytes.items c.in-Ok.ensures.found.0
    (c.in-Ok-faults_in.ensures ∙ ap (λ (bytes : List ℕ). map (line_fault c.args.file) (all_faults (marks bytes)))
    c.as_slice.ensures.value)
