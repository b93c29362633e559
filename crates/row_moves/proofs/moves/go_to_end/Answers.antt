use Rattle.std.proofs.Common.{◌≡◌, Bool, true, false, not, refl, sym, ap, ◌∙◌}
use Rattle.std.specs.Option.{is_none, is_some, option_map}
use Rattle.row_moves.proofs.Steps.{none_mapped, row_mapped}
use Rattle.row_moves.proofs.moves.go_to_end.Goals as goal

turned : (none some : Bool) → some ≡ not none → none ≡ not some
turned true some e = rw e refl
turned false some e = rw e refl

pub returns-clause-lands : goal.returns-clause-lands
returns-clause-lands g c = λ shown sees.
    let pair = g.O.RowOrder.pair in
    let scan = c.in_ok-at.ensures.scan shown sees in
    record {
      row = c.record_of.ensures ∙ row_mapped pair c.in_ok-at.at ∙ ap (option_map (λ p. p.1)) scan.0;
      cost = scan.1;
      within = scan.2;
      bof = turned c.is_none.result (is_some c.in_ok-at.at) c.is_none.ensures ∙ sym (none_mapped pair c.in_ok-at.at)
          ∙ ap is_none scan.0;
      found = refl;
    }
