use Rattle.std.proofs.Common.{◌≡◌, ◌∙◌, ap, sym, List, Option, None, Some}
use Rattle.prg_expr.specs.declared.fault.ParseFaultKind.{ParseFaultKind}
use Rattle.prg_expr.specs.Faults.{least}
use Rattle.prg_line.specs.declared.role.Role.{Role}
use Rattle.prg_line.specs.Saying.{saying_of}
use Rattle.prg_line.specs.Alone.{fault_at, role_at, saying_at}
use Rattle.prg_parser.specs.declared.blocks.Part.{Part}
use Rattle.prg_parser.specs.declared.judging.LineMark.{LineMark}
use Rattle.prg_parser.specs.Blocks.{fault_of_place, parts_after}
use Rattle.prg_parser.specs.Joined.{joined_of}
use Rattle.prg_parser.specs.Marks.{line_mark}
use Rattle.prg_parser.specs.Verdict as spec
use Rattle.prg_parser.proofs.HalfReadLemmas.{passes, told_first}
use Rattle.prg_parser.proofs.half_read.pass.Goals as goal

pub returns-in-Some-clause-told : goal.returns-in-Some-clause-told
returns-in-Some-clause-told c =
    let ps = c.args.half.parts.items in
    let text = c.args.line.now.text.items in
    let role : c.in_ok-role.field-0.role ≡ role_at text =
    c.in_ok-role.ensures.role ∙ ap role_at c.deref.ensures.value in
    let fault : c.in_ok-role.field-0.fault ≡ fault_at text =
    c.in_ok-role.ensures.fault ∙ ap fault_at c.deref.ensures.value in
    let place : c.block_fault.result ≡ fault_of_place ps (role_at text) =
    c.block_fault.ensures ∙ ap (λ (p : List Part). fault_of_place p c.in_ok-role.field-0.role) c.deref-2.ensures.0
    ∙ ap (fault_of_place ps) role in
    let wrong : spec.wrong_in_line ps (line_mark (joined_of c.args.line.now)) ≡ Some c.in-Some.kind =
    sym (c.least.ensures ∙ ap (λ (k : Option ParseFaultKind). least k c.block_fault.result) fault
    ∙ ap (least (fault_at text)) place) ∙ c.in-Some.is in
    λ others. told_first ps c.args.half.unended (joined_of c.args.line.now) c.in-Some.kind others wrong

pub returns-clause-passed : goal.returns-clause-passed
returns-clause-passed c =
    let ps = c.args.half.parts.items in
    let o = c.args.half.unended in
    let line = c.args.line.now.first in
    let text = c.args.line.now.text.items in
    let role : c.in_ok-role.field-0.role ≡ role_at text =
    c.in_ok-role.ensures.role ∙ ap role_at c.deref.ensures.value in
    let fault : c.in_ok-role.field-0.fault ≡ fault_at text =
    c.in_ok-role.ensures.fault ∙ ap fault_at c.deref.ensures.value in
    let place : c.block_fault.result ≡ fault_of_place ps (role_at text) =
    c.block_fault.ensures ∙ ap (λ (p : List Part). fault_of_place p c.in_ok-role.field-0.role) c.deref-2.ensures.0
    ∙ ap (fault_of_place ps) role in
    let wrong : spec.wrong_in_line ps (line_mark (joined_of c.args.line.now)) ≡ None =
    sym (c.least.ensures ∙ ap (λ (k : Option ParseFaultKind). least k c.block_fault.result) fault
    ∙ ap (least (fault_at text)) place) ∙ c.in_default.is in
    let mark : Role → LineMark = λ r. record { line = line; role = r; fault = c.in_ok-role.field-0.fault } in
    let unended : c.unended_after-unended.result ≡ spec.unended_after ps o (line_mark (joined_of c.args.line.now)) =
    c.unended_after-unended.ensures
    ∙ ap (λ (p : List Part). spec.unended_after p o (mark c.in_ok-role.field-0.role)) c.deref-3.ensures.0
    ∙ ap (λ (r : Role). spec.unended_after ps o (mark r)) role in
    passes c.lines_are_read.ensures.placed ps c.enter.new.parts.items o c.unended_after-unended.result
    (joined_of c.args.line.now)
    c.args.half.builder c.in_ok-builder.builder c.is_some.result (saying_of c.in_ok-role.field-0.sentence)
    wrong (c.enter.ensures ∙ ap (parts_after ps line) role) unended c.is_some.ensures
    (c.in_ok-role.ensures.saying ∙ ap saying_at c.deref.ensures.value) c.in_ok-builder.ensures
