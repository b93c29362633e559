use Rattle.std.proofs.Common.{◌≡◌, ◌<◌, ◌++◌, [], ◌∙◌, ap, length, get_or, drop, List, None, Option, arith}
use Rattle.std.proofs.lemmas.List.{drop_all}
use Rattle.prg_expr.specs.Faults.{least}
use Rattle.prg_expr.specs.declared.fault.ParseFaultKind.{ParseFaultKind}
use Rattle.prg_expr.specs.declared.fault.ParseFault.{ParseFault}
use Rattle.prg_line.specs.declared.role.Role.TheVariants.{Nothing}
use Rattle.prg_parser.specs.declared.blocks.Part.{Part}
use Rattle.prg_parser.specs.declared.judging.LineMark.{LineMark}
use Rattle.prg_parser.specs.Listing as spec
use Rattle.prg_parser.proofs.ListingLemmas.{lines_step, open_step, both_end, behind_rise}
use Rattle.prg_parser.proofs.listing.list_faults.Goals as goal

pub loop-mark-preserved : goal.loop-mark-preserved
loop-mark-preserved c =
    let d : LineMark = record { line = 0; role = Nothing; fault = None } in
    let marks = c.args.marks.now in
    let i = c.loop-mark.mark-index in
    let m = get_or marks i d in
    let parts = c.loop-mark.parts.items in
    let deeper = c.loop-mark.deeper in
    let below : i < length marks = omega (arith, c.loop-mark-test.true) in
    let place : c.place_fault.result ≡ spec.place_fault parts deeper m.role =
    c.place_fault.ensures ∙ ap (λ (p : List Part). spec.place_fault p deeper m.role) c.deref.ensures.0 in
    let wrong : c.least-kind.result ≡ spec.wrong_at parts deeper m =
    c.least-kind.ensures ∙ ap (λ (o : Option ParseFaultKind). least m.fault o) place in
    let behind : c.deeper_behind-behind.result ≡ spec.deeper_behind parts deeper m.role =
    c.deeper_behind-behind.ensures ∙ ap (λ (p : List Part). spec.deeper_behind p deeper m.role)
    c.deref-in-loop-mark-2.ensures.0 in
    let told : c.list.new.faults.items ≡ c.loop-mark.faults.items ++ spec.listed_fault m.line
    (spec.wrong_at parts deeper m) =
    c.in_ok-list.ensures ∙ ap (λ (o : Option ParseFaultKind). c.loop-mark.faults.items ++ spec.listed_fault m.line o)
    wrong in
    let blocked : c.list_before.new.faults.items ≡ c.loop-mark.unended.items ++ spec.unended_before parts m.role =
    c.in_ok-list_before.ensures ∙ ap (λ (p : List Part). c.loop-mark.unended.items ++ spec.unended_before p m.role)
    c.deref-in-loop-mark.ensures.0 in
    record {
      deeper = behind_rise parts deeper c.deeper_behind-behind.result i m.role behind c.loop-mark.invariant.deeper;
      faults =
          lines_step c.loop-mark.faults.items c.list.new.faults.items parts c.pass.new.parts.items deeper
          c.deeper_behind-behind.result marks i d (spec.line_faults [] 0 marks) below c.pass.ensures behind told
          c.loop-mark.invariant.faults;
      unended =
          open_step c.loop-mark.unended.items c.list_before.new.faults.items parts c.pass.new.parts.items deeper
          c.deeper_behind-behind.result marks i d (spec.left_open [] 0 marks) below c.pass.ensures behind blocked
          c.loop-mark.invariant.unended;
    }

pub returns : goal.returns
returns c =
    let marks = c.args.marks.now in
    let i = c.loop-mark.mark-index in
    let blocked : c.list_unended.new.faults.items ≡ c.loop-mark.unended.items ++ spec.unended c.loop-mark.parts.items =
    c.in_ok-list_unended.ensures ∙ ap (λ (p : List Part). c.loop-mark.unended.items ++ spec.unended p)
    c.deref-2.ensures.0 in
    c.in_ok-extend_from_slice.ensures.items
    ∙ ap (λ (x : List ParseFault). c.loop-mark.faults.items ++ x) c.deref-3.ensures.value
    ∙ both_end c.loop-mark.faults.items c.loop-mark.unended.items (spec.line_faults [] 0 marks)
    (spec.left_open [] 0 marks) c.list_unended.new.faults.items c.loop-mark.parts.items c.loop-mark.deeper
    (drop i marks)
    (drop_all i marks (omega (arith, c.loop-mark-test.false))) c.loop-mark.invariant.faults
    c.loop-mark.invariant.unended blocked
