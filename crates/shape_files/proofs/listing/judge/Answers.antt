use Rattle.std.proofs.Common.{subst}
use Rattle.shape_files.specs.declared.refusal.LineRefusal.{LineRefusal}
use Rattle.shape_files.specs.Lines.{said_in_line}
use Rattle.shape_files.specs.Listing.{Faulty}
use Rattle.shape_files.specs.Refusals.{LineRefusalIs}
use Rattle.shape_files.specs.Shapes.{shape_of}
use Rattle.shape_files.proofs.listing.judge.Goals as goal

pub returns-in-Ok-push-clause-judged : goal.returns-in-Ok-push-clause-judged
returns-in-Ok-push-clause-judged g c =
    let told =
    subst (λ (r : LineRefusal). LineRefusalIs (g.F.Files.holds c.args.files.now) (shape_of c.args.declarations.now)
    (said_in_line c.args.text.now)
    (g.F.Files.failed c.args.files.now) (g.F.Files.failed c.declare.new.files) r)
    c.in-Err-Fault.field-0-is c.in-Err-Fault.ensures.refused in
    Faulty c.in-Err-Fault.fault told c.in-Err-Fault.ensures.same c.in-Ok-push.ensures.items
