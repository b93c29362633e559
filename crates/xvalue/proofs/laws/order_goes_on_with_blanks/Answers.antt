use Rattle.xvalue.proofs.OrderLemmas.{is_before-blank_first, is_before-blank_second}
use Rattle.xvalue.proofs.laws.order_goes_on_with_blanks.Goals as goal

pub returns-clause-first : goal.returns-clause-first
returns-clause-first c cs ds = is_before-blank_first cs ds

pub returns-clause-second : goal.returns-clause-second
returns-clause-second c cs ds = is_before-blank_second cs ds
