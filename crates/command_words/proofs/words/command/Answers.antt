use Rattle.std.proofs.Common.{refl}
use Rattle.std.specs.Prelude.{Ok}
use Rattle.std.specs.declared.alloc.AllocError.{AllocError}
use Rattle.std.proofs.lemmas.Result.{IfOk-weaker}
use Rattle.command_words.proofs.Making.{is_plain_made, with_made}
use Rattle.command_words.proofs.words.command.Goals as goal

pub with-requires-11 : goal.with-requires-11
with-requires-11 c = is_plain_made c.forgetter.result _ refl c.forgetter.ensures

pub returns : goal.returns
returns c =
    let k0 = c.program.ensures in
    let k1 =
    with_made c.compiler.result c.program.result c.in_ok-command.command _ _ c.in_ok-command.ensures
    c.compiler.ensures k0 in
    let k2 =
    with_made c.checker.result c.in_ok-command.command c.in_ok-command-2.command _ _ c.in_ok-command-2.ensures
    c.checker.ensures k1 in
    let k3 =
    with_made c.saving_runner.result c.in_ok-command-2.command c.in_ok-command-3.command _ _
    c.in_ok-command-3.ensures c.saving_runner.ensures k2 in
    let k4 =
    with_made c.operator.result c.in_ok-command-3.command c.in_ok-command-4.command _ _ c.in_ok-command-4.ensures
    c.operator.ensures k3 in
    let k5 =
    with_made c.testing_runner.result c.in_ok-command-4.command c.in_ok-command-5.command _ _
    c.in_ok-command-5.ensures c.testing_runner.ensures k4 in
    let k6 =
    with_made c.verifier.result c.in_ok-command-5.command c.in_ok-command-6.command _ _ c.in_ok-command-6.ensures
    c.verifier.ensures k5 in
    let k7 =
    with_made c.code_lister.result c.in_ok-command-6.command c.in_ok-command-7.command _ _ c.in_ok-command-7.ensures
    c.code_lister.ensures k6 in
    let k8 =
    with_made c.lister.result c.in_ok-command-7.command c.in_ok-command-8.command _ _ c.in_ok-command-8.ensures
    c.lister.ensures k7 in
    let k9 =
    with_made c.index_lister.result c.in_ok-command-8.command c.in_ok-command-9.command _ _
    c.in_ok-command-9.ensures c.index_lister.ensures k8 in
    let k10 =
    with_made {E = AllocError} (Ok c.declarer.result) c.in_ok-command-9.command c.in_ok-command-10.command _ _
    c.in_ok-command-10.ensures c.declarer.ensures k9 in
    IfOk-weaker c.with-11.result _ _
    (λ new h. with_made c.forgetter.result c.in_ok-command-10.command new _ _ h c.forgetter.ensures k10)
    c.with-11.ensures
