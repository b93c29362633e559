use Rattle.std.proofs.Common.{rules}
use Rattle.save_papers.proofs.writing.put_entry.Goals as goal

pub returns-clause-fits : goal.returns-clause-fits
returns-clause-fits c = record {
  name = search rules;
  beside = search rules;
  old = c.in_ok-put_flagged.ensures.fits;
  new = search rules;
}
