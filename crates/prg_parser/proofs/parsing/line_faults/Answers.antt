use Rattle.std.proofs.Common.{◌∙◌, ap, sym, subst, List, length}
use Rattle.std.specs.Prelude.{slice_get}
use Rattle.std.specs.List.{All}
use Rattle.std.proofs.lemmas.Result.{IfOk-weaker}
use Rattle.prg_expr.specs.declared.fault.ParseFault.{ParseFault}
use Rattle.prg_parser.specs.Lines.{before_end}
use Rattle.prg_parser.specs.Listing.{all_faults}
use Rattle.prg_parser.specs.Marks.{marks}
use Rattle.prg_parser.specs.Verdict.{IsLineOf}
use Rattle.prg_parser.specs.declared.judging.LineMark.{LineMark}
use Rattle.text_lines.specs.Lines.{lines}
use Rattle.prg_parser.proofs.ListingLemmas.{first_told}
use Rattle.prg_parser.proofs.RangeLemmas.{names_lines}
use Rattle.prg_parser.proofs.parsing.line_faults.Goals as goal

pub returns-clause-all : goal.returns-clause-all
returns-clause-all c =
    IfOk-weaker c.list_faults.result _ _
    (λ faults e. e ∙ ap (λ (ms : List LineMark). all_faults ms) (c.deref.ensures.value ∙ c.in_ok-marks.ensures))
    c.list_faults.ensures

pub returns-clause-told : goal.returns-clause-told
returns-clause-told c =
    IfOk-weaker c.list_faults.result _ _
    (λ faults e. ap (λ (fs : List ParseFault). slice_get fs 0) e ∙ first_told (marks c.args.bytes.now))
    (returns-clause-all c)

pub returns-clause-named : goal.returns-clause-named
returns-clause-named c =
    IfOk-weaker c.list_faults.result _ _
    (λ faults e. subst (λ (fs : List ParseFault). All
    (λ (fault : ParseFault). IsLineOf (length (lines (before_end c.args.bytes.now))) fault.line) fs) (sym e)
    (names_lines c.args.bytes.now)) (returns-clause-all c)
