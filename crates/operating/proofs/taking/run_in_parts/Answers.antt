use Rattle.operating.proofs.PartLemmas.{of_headline}
use Rattle.operating.proofs.taking.run_in_parts.Goals as goal

pub returns-then-not-is_watching : goal.returns-then-not-is_watching
returns-then-not-is_watching g c = λ w begun. of_headline _ _ _ _ _ (c.run.ensures w begun)
