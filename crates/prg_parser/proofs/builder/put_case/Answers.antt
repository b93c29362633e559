use Rattle.std.proofs.Common.{◌∷◌}
use Rattle.prg_expr.specs.Tree.{tree_of}
use Rattle.prg_parser.specs.Layout.{body_lines, cases_lines, case_lines}
use Rattle.prg_line.specs.Saying.{line as said_line}
use Rattle.prg_line.specs.Saying as saying
use Rattle.prg_parser.proofs.BuildLemmas.{put_by}
use Rattle.prg_parser.proofs.LayoutLemmas.{cases_more}
use Rattle.prg_parser.proofs.builder.put_case.Goals as goal

pub returns : goal.returns
returns c =
    put_by cases_lines case_lines cases_more c.args.cases.items c.push.new.self.items c.one_case.result
    (said_line c.args.line (saying.Case (tree_of c.args.condition)) ∷ body_lines c.args.body.items)
    c.in_ok-push.ensures.items c.one_case.ensures
