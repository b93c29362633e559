use Rattle.expr_laws.proofs.Alone.{by_only}
use Rattle.expr_laws.proofs.laws.lone_instructions_are_laid.Goals as goal

pub returns-clause-laid : goal.returns-clause-laid
returns-clause-laid c = λ f gets a b act i only stands. (by_only f gets a b act i only).0 stands

pub returns-clause-alone : goal.returns-clause-alone
returns-clause-alone c = λ f gets a b act i only laid. (by_only f gets a b act i only).1 laid
