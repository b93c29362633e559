use Rattle.std.proofs.Common.{◌≡◌, is_none, sym, ap, ◌∙◌, arith, refl, rules}
use Rattle.std.specs.Option.{option_map}
use Rattle.row_keys.specs.Lists.{index_list, kept_rows}
use Rattle.row_moves.specs.Moves.{met}
use Rattle.open_table.specs.Passes.{count_met}
use Rattle.open_table.proofs.PassLemmas.{met_count}
use Rattle.open_table.proofs.passes.first_of.Goals as goal

pub returns-then-cost-budget : goal.returns-then-cost-budget
returns-then-cost-budget g c = λ shown sees.
    let rows = kept_rows c.args.kept c.args.table.now.rows in
    let list = index_list c.args.key.now rows in
    let best = c.first_place-best.ensures shown sees in
    let passed : c.met_before.result ≡ met shown list = c.met_before.ensures.met ∙ ap (λ b. count_met b list) best
    ∙ sym (met_count c.orders_pairs.ensures.strict shown list
    (c.index_lists.ensures c.args.key.now rows).ordered) in
    omega (arith, passed)

pub returns : goal.returns
returns g c = λ shown sees.
    let rows = kept_rows c.args.kept c.args.table.now.rows in
    let list = index_list c.args.key.now rows in
    let best = c.first_place-best.ensures shown sees in
    let passed : c.met_before.result ≡ met shown list = c.met_before.ensures.met ∙ ap (λ b. count_met b list) best
    ∙ sym (met_count c.orders_pairs.ensures.strict shown list
    (c.index_lists.ensures c.args.key.now rows).ordered) in
    let ends : c.is_none.result ≡ is_none c.first_place-best.result = search rules in
    record {
      row = c.record_of.ensures ∙ ap (option_map (λ p. p.1)) best;
      cost = omega (arith, passed);
      within = omega arith;
      bof = ends ∙ ap is_none best;
      found = refl;
    }
