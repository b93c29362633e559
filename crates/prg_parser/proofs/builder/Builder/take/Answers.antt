use Rattle.std.proofs.Common.{option_map}
use Rattle.prg_expr.specs.Tree.{tree_of}
use Rattle.prg_parser.specs.Building.{built_parts}
use Rattle.prg_line.specs.Saying as saying
use Rattle.std.proofs.Common.{refl, sym, subst}
use Rattle.prg_parser.proofs.BuildLemmas as by
use Rattle.prg_line.specs.declared.role.Role.TheVariants as role
use Rattle.prg_parser.specs.declared.builder.Open.TheVariants as begun
use Rattle.prg_line.specs.declared.statement.Sentence.{Sentence}
use Rattle.prg_parser.proofs.builder.Builder.take.Goals as goal

pub returns-in-Nothing : goal.returns-in-Nothing
returns-in-Nothing c = by.nothing_took c.args.self c.args.line c.args.sentence c.in-Nothing.is

pub returns-in-Whole : goal.returns-in-Whole
returns-in-Whole c =
    subst (λ (s : Sentence). by.Takes c.args.self c.args.line c.put.result s) (sym c.in-Whole.is)
    (λ e p. by.whole_took c.args.self c.args.line c.in-Whole.statement c.put.result e c.put.ensures)

pub returns-in-If : goal.returns-in-If
returns-in-If c =
    subst (λ (s : Sentence). by.Takes c.args.self c.args.line c.open.result s) (sym c.in-If.is)
    (λ e p. by.open_took c.args.self c.args.line (begun.Then c.in-If.condition) (saying.If (tree_of c.in-If.condition))
    c.open.result (by.standing (built_parts c.args.self) role.If e) refl
    (by.after_if (built_parts c.args.self) c.args.line) c.open.ensures)

pub returns-in-DoWhile : goal.returns-in-DoWhile
returns-in-DoWhile c =
    subst (λ (s : Sentence). by.Takes c.args.self c.args.line c.open-in-DoWhile.result s) (sym c.in-DoWhile.is)
    (λ e p. by.open_took c.args.self c.args.line (begun.While c.in-DoWhile.condition)
    (saying.DoWhile (tree_of c.in-DoWhile.condition)) c.open-in-DoWhile.result
    (by.standing (built_parts c.args.self) role.DoWhile e) refl
    (by.after_do_while (built_parts c.args.self) c.args.line) c.open-in-DoWhile.ensures)

pub returns-in-Scan : goal.returns-in-Scan
returns-in-Scan c =
    subst (λ (s : Sentence). by.Takes c.args.self c.args.line c.open-in-Scan.result s) (sym c.in-Scan.is)
    (λ e p. by.open_took c.args.self c.args.line (begun.Scan c.in-Scan.condition)
    (saying.Scan (option_map tree_of c.in-Scan.condition)) c.open-in-Scan.result
    (by.standing (built_parts c.args.self) role.Scan e) refl (by.after_scan (built_parts c.args.self) c.args.line)
    c.open-in-Scan.ensures)

pub returns-in-DoCase : goal.returns-in-DoCase
returns-in-DoCase c =
    by.choice_took c.args.self c.args.line c.args.sentence c.await_case.result c.in-DoCase.is c.await_case.ensures
