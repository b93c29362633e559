use Rattle.shape.specs.declared.indexes.IndexShape.{IndexShape}
use Rattle.shape_files.specs.Shapes.{shape_of}
use Rattle.shape_files.proofs.RefusalLemmas.{for_err, index_told, key_told}
use Rattle.shape_files.proofs.reading.declare_index.Goals as goal

pub returns-in-Ok-clause-refused : goal.returns-in-Ok-clause-refused
returns-in-Ok-clause-refused c =
    let index : IndexShape = record { name = c.in-Some.name; table = c.in-Some-table.table; key = c.in-Ok.key } in
    for_err c.add_index.result _ _ (λ why. index_told (shape_of c.args.declarations.now) c.args.word.now c.args.of.now
    c.args.text.now index why c.in-Some.ensures.1
    (record {
      fields = c.in-Some-table.fields.now;
      named = c.in-Some.ensures.0;
      owner = c.in-Some-table.ensures;
      spelled = c.in-Ok.ensures.spelled;
    }))
    c.add_index.ensures.refused

pub returns-in-Err-clause-refused : goal.returns-in-Err-clause-refused
returns-in-Err-clause-refused c =
    key_told (shape_of c.args.declarations.now) c.args.word.now c.args.of.now c.args.text.now c.in-Some-table.table
    c.in-Some-table.fields.now c.in-Err.refusal c.in-Some.ensures.1 c.in-Some-table.ensures c.in-Err.ensures.refused
