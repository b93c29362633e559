use Rattle.std.proofs.Common.{rules, ◌≡◌, arith}
use Rattle.std.proofs.lemmas.Result.{err_from_is_err_and}
use Rattle.dbf_file.specs.Faults.{told_header}
use Rattle.dbf_file.proofs.FaultLemmas.{fields_first, told_from}
use Rattle.dbf_file.proofs.reading.layout_of.Goals as goal

pub returns-in_err-fields-clause-fault : goal.returns-in_err-fields-clause-fault
returns-in_err-fields-clause-fault c =
    let p = err_from_is_err_and c.from_residual.result c.from_residual.ensures.1 in
    let header : c.two_at-header.result ≡ told_header c.args.bytes.now = c.two_at-header.ensures.value in
    rw (p.1, p.2) (fields_first c.args.limit c.args.bytes.now c.in_err-fields.field-0.0 c.if-bytes-lt-SHORTEST.false
    (search rules) (omega arith) (omega arith) (told_from c.args.bytes.now _ _ header c.in_err-fields.ensures))
