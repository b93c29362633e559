use Rattle.std.proofs.Common.{refl, subst}
use Rattle.std.specs.Prelude.{IfErr}
use Rattle.shape_files.specs.declared.refusal.LineFault.TheVariants.{Word}
use Rattle.shape_files.specs.Lines.{Said}
use Rattle.shape_files.specs.Refusals.{LineFaultIs, LineRefusalIs}
use Rattle.shape_files.specs.Shapes.{shape_of}
use Rattle.shape_files.proofs.RefusalLemmas.{for_err, index_line}
use Rattle.shape_files.proofs.reading.declare.Goals as goal

pub returns-in-Table-clause-refused : goal.returns-in-Table-clause-refused
returns-in-Table-clause-refused g c =
    subst (λ (x : Said). IfErr c.declare_table.result
    (LineRefusalIs (g.F.Files.holds c.args.files.now) (shape_of c.args.declarations.now) x
    (g.F.Files.failed c.args.files.now) (g.F.Files.failed c.declare_table.new.files))) c.in-Table.ensures
    c.declare_table.ensures.refused

pub returns-in-Index-clause-refused : goal.returns-in-Index-clause-refused
returns-in-Index-clause-refused g c =
    let failed = g.F.Files.failed c.args.files.now in
    let holds = g.F.Files.holds c.args.files.now in
    let before = shape_of c.args.declarations.now in
    subst (λ (x : Said). IfErr c.declare_index.result
    (LineRefusalIs holds before x failed failed)) c.in-Index.ensures
    (for_err c.declare_index.result _ _ (λ why. index_line holds before c.in-Index.name.now c.in-Index.table.now
    c.in-Index.key.now failed failed why) c.declare_index.ensures.refused)

pub returns-in-Other-clause-refused : goal.returns-in-Other-clause-refused
returns-in-Other-clause-refused g c =
    subst (λ (x : Said). LineFaultIs (g.F.Files.holds c.args.files.now) (shape_of c.args.declarations.now) x Word)
    c.in-Other.ensures refl
