use Rattle.std.proofs.Common.{◌≡◌, ◌∷◌, [], take, map}
use Rattle.std.specs.Prelude.{codes}
use Rattle.csv.specs.Records.{fields_of, partial_of}
use Rattle.table_csv.proofs.cells.names_line.Given as goal

abbrev pub invariant-loop-field : goal.invariant-loop-field
invariant-loop-field l =
    (fields_of l.line ≡ codes "DELETED" ∷ map (λ f. f.name.items) (take l.field-index l.fields))
    × (partial_of l.line ≡ [])
