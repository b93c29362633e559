use Rattle.std.proofs.Common.{◌∙◌, refl, ap}
use Rattle.std.specs.Option.{is_some, option_map}
use Rattle.row_moves.proofs.key_search.seek.Goals as goal

pub returns-clause-lands : goal.returns-clause-lands
returns-clause-lands g c = λ shown sees.
    let scan = c.in_ok-at.ensures.scan shown sees in
    record {
      row = c.record_of.ensures ∙ ap (option_map (λ p. p.1)) scan.0;
      cost = scan.1;
      within = scan.2;
      bof = refl;
      found = c.is_some.ensures ∙ ap is_some scan.0;
    }
