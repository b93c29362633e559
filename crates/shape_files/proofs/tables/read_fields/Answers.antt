use Rattle.std.proofs.Common.{ℕ, List, Some, sym, subst}
use Rattle.shape_files.specs.Shapes.{file_name}
use Rattle.shape_files.proofs.RefusalLemmas.{for_err, no_fields}
use Rattle.shape_files.proofs.tables.read_fields.Goals as goal

pub returns-in-Ok-clause-refused : goal.returns-in-Ok-clause-refused
returns-in-Ok-clause-refused g c =
    let holds = g.F.Files.holds c.args.files.now in
    let name = c.args.name.now.items in
    let held = subst (λ (bytes : List ℕ). holds (file_name name) (Some bytes)) (sym c.as_slice.ensures.value)
    c.in-Ok.ensures.held in
    for_err c.fields_in.result _ _ (λ why. no_fields holds name _
    (g.F.Files.failed c.args.files.now) (g.F.Files.failed c.table_bytes.new.files) why held)
    c.fields_in.ensures.refused
