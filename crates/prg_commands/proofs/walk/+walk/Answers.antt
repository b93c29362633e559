use Rattle.std.proofs.Common.{rules, [], ℕ, List, sym, ap, ◌∙◌, subst, option_map, ◌+◌}
use Rattle.prg_expr.specs.Tree.{tree_of}
use Rattle.prg_parser.specs.Commands.{Cmd, If, DoCase, DoWhile, Scan, commands_of, cases_of, part_of}
use Rattle.prg_parser.specs.Commands.{form_command, command_of}
use Rattle.prg_parser.specs.declared.command.Case.{Case}
use Rattle.prg_parser.specs.declared.command.Command.{Command}
use Rattle.prg_parser.specs.declared.command.Form.TheViews.{out-Case}
use Rattle.prg_commands.specs.Acts.{names_of}
use Rattle.prg_commands.specs.Commands.{Laid, LaidAll, LaidPart}
use Rattle.prg_commands.specs.Layout.{Laying}
use Rattle.prg_commands.specs.Walking.{Looked}
use Rattle.prg_commands.specs.declared.way.Way.{Way}
use Rattle.prg_commands.proofs.Equations.{form_if, form_do_case, form_do_while, form_scan}
use Rattle.prg_commands.proofs.Steps.{Leads, LeadsCases, turn, all_done, case_turn, cases_done, case_laid, on_done}
use Rattle.prg_commands.proofs.Steps.{otherwise_laid, absent_laid}
use Rattle.prg_commands.proofs.walk.+walk.Goals as goal

pub all-loop-command-preserved : goal.all-loop-command-preserved
all-loop-command-preserved g t c = record {
  same = c.in_ok-next.ensures.same ∙ c.loop-command.invariant.same;
  leads = λ j. subst (λ (z : Way). Leads (g.S.Sink.laying c.args.sink.now) c.args.around.leaps
      (g.S.Sink.place c.args.sink.now) c.args.list.now (c.loop-command.command-index + 1)
      (names_of c.next.new.gets.items) z (g.S.Sink.place c.next.new.sink)) (sym c.then-way.ensures)
      (turn (g.S.Sink.laying c.args.sink.now) c.args.around.leaps (g.S.Sink.place c.args.sink.now) c.args.list.now
      c.loop-command.command-index (g.S.Sink.place c.loop-command.sink) (g.S.Sink.place c.next.new.sink)
      c.command-item.result (names_of c.loop-command.gets.items) (names_of c.next.new.gets.items) c.loop-command.way
      c.in_ok-next.field-0 c.loop-command-test.true c.command-item.is (search rules) (c.loop-command.invariant.leads j)
      (subst (λ (f : Laying). Laid f c.args.around.leaps (names_of c.loop-command.gets.items)
      (g.S.Sink.place c.loop-command.sink) (command_of c.command-item.result) c.in_ok-next.field-0
      (g.S.Sink.place c.next.new.sink)) c.loop-command.invariant.same (c.in_ok-next.ensures.laid j))
      (c.in_ok-next.ensures.waiting j));
}

pub all-returns-clause-laid : goal.all-returns-clause-laid
all-returns-clause-laid g t c = λ j.
    subst (λ (p : ℕ). LaidAll (g.S.Sink.laying c.args.sink.now) c.args.around.leaps [] (g.S.Sink.place c.args.sink.now)
    (commands_of c.args.list.now) c.loop-command.way p) (sym (c.in_ok-no_get_waits.ensures.place j))
    (all_done (g.S.Sink.laying c.args.sink.now) c.args.around.leaps (g.S.Sink.place c.args.sink.now) c.args.list.now
    c.loop-command.command-index (g.S.Sink.place c.loop-command.sink) (names_of c.loop-command.gets.items)
    c.loop-command.way c.loop-command-test.false (c.loop-command.invariant.leads j)
    (c.in_ok-no_get_waits.ensures.none j))

pub block-returns-in-If-clause-laid : goal.block-returns-in-If-clause-laid
block-returns-in-If-clause-laid g t c = λ j. on_done c.choose.result (λ w h n.
    subst (λ (x : Cmd). Laid (g.S.Sink.laying c.args.sink.now) c.args.around.leaps [] (g.S.Sink.place c.args.sink.now)
    x w (g.S.Sink.place c.choose.new.sink))
    (sym (ap (λ f. form_command f n) c.in-If.is
    ∙ (form_if c.in-If.condition c.in-If.then c.in-If.branch c.in-If.end n
    ∙ ap (λ (xs : List Command). If n (tree_of c.in-If.condition) (commands_of xs) (part_of c.in-If.branch) c.in-If.end)
    (sym c.deref.ensures.value)))) (h n c.in-If.end)) (c.choose.ensures.laid j)

pub block-returns-in-DoCase-clause-laid : goal.block-returns-in-DoCase-clause-laid
block-returns-in-DoCase-clause-laid g t c = λ j. on_done c.decide.result (λ w h n.
    subst (λ (x : Cmd). Laid (g.S.Sink.laying c.args.sink.now) c.args.around.leaps [] (g.S.Sink.place c.args.sink.now)
    x w (g.S.Sink.place c.decide.new.sink))
    (sym (ap (λ f. form_command f n) c.in-DoCase.is
    ∙ (form_do_case c.in-DoCase.cases c.in-DoCase.branch c.in-DoCase.end n
    ∙ ap (λ (xs : List Case). DoCase n (cases_of xs) (part_of c.in-DoCase.branch) c.in-DoCase.end)
    (sym c.deref-in-DoCase.ensures.value)))) (h n c.in-DoCase.end)) (c.decide.ensures.laid j)

pub block-returns-in-DoWhile-clause-laid : goal.block-returns-in-DoWhile-clause-laid
block-returns-in-DoWhile-clause-laid g t c = λ j. on_done c.repeat.result (λ w h n.
    subst (λ (x : Cmd). Laid (g.S.Sink.laying c.args.sink.now) c.args.around.leaps [] (g.S.Sink.place c.args.sink.now)
    x w (g.S.Sink.place c.repeat.new.sink))
    (sym (ap (λ f. form_command f n) c.in-DoWhile.is
    ∙ (form_do_while c.in-DoWhile.condition c.in-DoWhile.body c.in-DoWhile.end n
    ∙ ap (λ (xs : List Command). DoWhile n (tree_of c.in-DoWhile.condition) (commands_of xs) c.in-DoWhile.end)
    (sym c.deref-in-DoWhile.ensures.value)))) (h c.args.around.leaps n c.in-DoWhile.end)) (c.repeat.ensures.laid j)

pub block-returns-in-Scan-clause-laid : goal.block-returns-in-Scan-clause-laid
block-returns-in-Scan-clause-laid g t c = λ j. on_done c.scan.result (λ w h n.
    subst (λ (x : Cmd). Laid (g.S.Sink.laying c.args.sink.now) c.args.around.leaps [] (g.S.Sink.place c.args.sink.now)
    x w (g.S.Sink.place c.scan.new.sink))
    (sym (ap (λ f. form_command f n) c.in-Scan.is
    ∙ (form_scan c.in-Scan.condition c.in-Scan.body c.in-Scan.end n
    ∙ ap (λ (xs : List Command). Scan n (option_map tree_of c.in-Scan.condition) (commands_of xs) c.in-Scan.end)
    (sym c.deref-in-Scan.ensures.value)))) (h c.args.around.leaps n c.in-Scan.end)) (c.scan.ensures.laid j)

pub chain-loop-number-preserved : goal.chain-loop-number-preserved
chain-loop-number-preserved g t c = record {
  same = c.in_ok-part.ensures.same ∙ c.loop-number.invariant.same;
  leads = λ j. subst (λ (z : Way). LeadsCases (g.S.Sink.laying c.args.sink.now) c.args.around.leaps
      (g.S.Sink.place c.args.sink.now) c.args.cases.now c.args.closed (c.loop-number.number + 1) c.in_ok-part.part.end
      z (g.S.Sink.place c.part.new.sink)) (sym c.or-way.ensures)
      (case_turn (g.S.Sink.laying c.args.sink.now) c.args.around.leaps (g.S.Sink.place c.args.sink.now)
      c.args.cases.now c.loop-number.number (g.S.Sink.place c.loop-number.sink) (g.S.Sink.place c.part.new.sink)
      c.index-cases-number.result c.loop-number.way c.loop-number.end c.in_ok-part.part c.is_last-last.result
      c.args.closed c.loop-number-test.true c.index-cases-number.is (c.loop-number.invariant.leads j)
      (subst (λ (xs : List Command). Looked (g.S.Sink.laying c.args.sink.now) c.args.around.leaps c.loop-number.end
      (tree_of (out-Case c.index-cases-number.result).condition) (g.S.Sink.place c.loop-number.sink) (commands_of xs)
      c.is_last-last.result c.in_ok-part.part (g.S.Sink.place c.part.new.sink)) c.deref.ensures.value
      (subst (λ (f : Laying). Looked f c.args.around.leaps c.loop-number.end
      (tree_of (out-Case c.index-cases-number.result).condition) (g.S.Sink.place c.loop-number.sink)
      (commands_of c.deref.result.now) c.is_last-last.result c.in_ok-part.part (g.S.Sink.place c.part.new.sink))
      c.loop-number.invariant.same (c.in_ok-part.ensures.laid j)))
      c.is_last-last.ensures);
}

pub chain-returns-clause-laid : goal.chain-returns-clause-laid
chain-returns-clause-laid g t c = λ j.
    cases_done (g.S.Sink.laying c.args.sink.now) c.args.around.leaps (g.S.Sink.place c.args.sink.now) c.args.cases.now
    c.loop-number.number (g.S.Sink.place c.loop-number.sink) c.loop-number.way c.loop-number.end c.args.closed
    c.loop-number-test.false (c.loop-number.invariant.leads j)

pub decide-returns-clause-laid : goal.decide-returns-clause-laid
decide-returns-clause-laid g t c = λ j n end.
    subst (λ (z : Way). Laid (g.S.Sink.laying c.args.sink.now) c.args.around.leaps [] (g.S.Sink.place c.args.sink.now)
    (DoCase n (cases_of c.args.cases.now) (part_of c.args.branch.now) end) z (g.S.Sink.place c.otherwise.new.sink))
    (sym c.or.ensures)
    (case_laid (g.S.Sink.laying c.args.sink.now) c.args.around.leaps (g.S.Sink.place c.args.sink.now) n end
    (g.S.Sink.place c.chain.new.sink) (g.S.Sink.place c.otherwise.new.sink) c.args.cases.now c.args.branch.now
    c.is_none.result c.in_ok-part.part c.in_ok-other.other (c.in_ok-part.ensures.laid j) c.is_none.ensures
    (c.in_ok-other.ensures.told j)
    (subst (λ (f : Laying). LaidPart f c.args.around.leaps (g.S.Sink.place c.chain.new.sink)
    (part_of c.args.branch.now) c.in_ok-other.other (g.S.Sink.place c.otherwise.new.sink)) c.in_ok-part.ensures.same
    (c.in_ok-other.ensures.laid j)))

pub otherwise-returns-in_ok-arrive-in-Some-clause-laid : goal.otherwise-returns-in_ok-arrive-in-Some-clause-laid
otherwise-returns-in_ok-arrive-in-Some-clause-laid g t c = λ j.
    subst (λ (p : ℕ). LaidPart (g.S.Sink.laying c.args.sink.now) c.args.around.leaps (g.S.Sink.place c.args.sink.now)
    (part_of c.args.branch.now) c.in_ok-way-in-Some.way p) (sym (c.in_ok-arrive-in-Some.ensures.place j))
    (otherwise_laid (g.S.Sink.laying c.args.sink.now) c.args.around.leaps (g.S.Sink.place c.args.sink.now)
    (g.S.Sink.place c.all.new.sink) c.args.branch.now c.in-Some.branch c.in_ok-way-in-Some.way c.in-Some.is
    (subst (λ (xs : List Command). LaidAll (g.S.Sink.laying c.args.sink.now) c.args.around.leaps []
    (g.S.Sink.place c.args.sink.now) (commands_of xs) c.in_ok-way-in-Some.way (g.S.Sink.place c.all.new.sink))
    c.deref.ensures.value (c.in_ok-way-in-Some.ensures.laid j)))

pub otherwise-returns-in_ok-arrive-in-None-clause-laid : goal.otherwise-returns-in_ok-arrive-in-None-clause-laid
otherwise-returns-in_ok-arrive-in-None-clause-laid g t c = λ j.
    subst (λ (z : Way). LaidPart (g.S.Sink.laying c.args.sink.now) c.args.around.leaps (g.S.Sink.place c.args.sink.now)
    (part_of c.args.branch.now) z (g.S.Sink.place c.arrive-in-None.new.sink)) (sym c.through.ensures)
    (subst (λ (p : ℕ). LaidPart (g.S.Sink.laying c.args.sink.now) c.args.around.leaps (g.S.Sink.place c.args.sink.now)
    (part_of c.args.branch.now) Rattle.prg_commands.specs.Commands.through p)
    (sym (c.in_ok-arrive-in-None.ensures.place j))
    (absent_laid (g.S.Sink.laying c.args.sink.now) c.args.around.leaps (g.S.Sink.place c.args.sink.now)
    c.args.branch.now c.in-None.is))
