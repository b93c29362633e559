use Rattle.prg_expr.proofs.Lines.{scan_sound, few_spots}
use Rattle.prg_expr.proofs.lexer.lines_are_cut.Goals as goal

pub returns-clause-cut : goal.returns-clause-cut
returns-clause-cut c = scan_sound

pub returns-clause-few : goal.returns-clause-few
returns-clause-few c = few_spots
