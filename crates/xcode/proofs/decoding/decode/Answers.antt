use Rattle.std.proofs.Common.{◌≡◌, subst, sym, ap, ◌∙◌, Result, Ok, arith}
use Rattle.code_items.specs.declared.code.Code.{Code}
use Rattle.xcode.specs.CodeFile.{CodeText}
use Rattle.xcode.specs.Decoding.{FileFails, code_at}
use Rattle.xcode.specs.declared.fault.CodeFault.{CodeFault}
use Rattle.xcode.proofs.decoding.decode.Goals as goal

pub of-requires : goal.of-requires
of-requires c =
    (c.files_are_of_their_codes.ensures.found _ _ (λ i. omega (arith, c.type_inv.bytes i)) c.in-Ok.ensures).legal

pub returns-in-Ok-clause-found : goal.returns-in-Ok-clause-found
returns-in-Ok-clause-found c =
    subst (λ (code : Code). CodeText c.args.bytes.now code) (sym c.of.ensures)
    (c.files_are_of_their_codes.ensures.found _ _ (λ i. omega (arith, c.type_inv.bytes i)) c.in-Ok.ensures)

pub returns-in-Ok-clause-only : goal.returns-in-Ok-clause-only
returns-in-Ok-clause-only c = λ code text.
    let made : code_at c.args.bytes.now ≡ Ok c.of.result = c.in-Ok.ensures ∙ ap Ok (sym c.of.ensures) in
    subst (λ (read : Result Code CodeFault). read ≡ Ok c.of.result)
    (c.files_are_of_their_codes.ensures.only c.args.bytes.now code text) made

pub returns-in-Err-clause-only : goal.returns-in-Err-clause-only
returns-in-Err-clause-only c = λ code text.
    subst (λ (read : Result Code CodeFault). FileFails c.in-Err.fault read)
    (c.files_are_of_their_codes.ensures.only c.args.bytes.now code text) c.in-Err.ensures
