use Rattle.std.proofs.Common.{subst, arith}
use Rattle.save_papers.specs.Papers.{paper_view}
use Rattle.save_papers.specs.Reading.{PaperGives}
use Rattle.save_papers.proofs.Whole.{is_found, paper_again}
use Rattle.save_papers.proofs.reading.read.Goals as goal

pub returns-clause-found : goal.returns-clause-found
returns-clause-found c =
    is_found c.args.bytes.now c.whole.result (λ i. omega (arith, c.type_inv.bytes i)) c.whole.ensures

pub returns-clause-only : goal.returns-clause-only
returns-clause-only c = λ says fits text. subst (λ f. PaperGives paper_view c.whole.result f)
    (paper_again says c.args.bytes.now fits text) c.whole.ensures
