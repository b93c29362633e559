use Rattle.std.proofs.Common.{◌≡◌, ◌∙◌, sym, ap, Some, None, Ok, Err, arith}
use Rattle.std.proofs.lemmas.Result.{err_from_is_err_and}
use Rattle.dbf_file.specs.Descriptors.{next_told}
use Rattle.dbf_file.proofs.DescriptorLemmas.{turn_more, turn_end, turn_fault, turn_none}
use Rattle.dbf_file.proofs.descriptors.fields_of.Goals as goal

pub returns-in_err-field : goal.returns-in_err-field
returns-in_err-field c =
    let p = err_from_is_err_and c.from_residual.result c.from_residual.ensures.1 in
    let told : next_told c.loop.fields.items c.loop.rest.now ≡ Err c.in_err-field.field-0.0 =
    rw (← c.as_slice.ensures.value) (sym c.next_told.ensures.told ∙ c.in_err-field.was) in
    rw (p.1, p.2) (sym c.loop.invariant.1 ∙ turn_fault c.loop.counter _ _ _ (omega arith) told)

pub returns-in_default : goal.returns-in_default
returns-in_default c =
    let told : next_told c.loop.fields.items c.loop.rest.now ≡ Ok None =
    rw (← c.as_slice.ensures.value) (sym c.next_told.ensures.told ∙ c.in_ok-field.was ∙ ap Ok c.in_default.is) in
    sym c.loop.invariant.1 ∙ turn_end c.loop.counter _ _ (omega arith) told

pub loop-preserved : goal.loop-preserved
loop-preserved c =
    let told : next_told c.loop.fields.items c.loop.rest.now ≡ Ok (Some c.in-Some.field) =
    rw (← c.as_slice.ensures.value) (sym c.next_told.ensures.told ∙ c.in_ok-field.was ∙ ap Ok c.in-Some.is) in (
      omega arith,
      rw (c.push.ensures.items, c.split_at.ensures.back)
          (turn_more c.loop.counter _ _ _ (omega arith) told ∙ c.loop.invariant.1),
    )

pub returns : goal.returns
returns c = sym c.loop.invariant.1 ∙ turn_none c.loop.counter _ _ (omega arith)
