-- Record order as a list of keys that have no parts.
use Rattle.std.proofs.Common.{◌≡◌, ℕ, ◌+◌, Option, Some, None, List, [], ◌∷◌, length, refl, ap, ◌∙◌}
use Rattle.dbf_file.specs.Rows.{Row}
use Rattle.key_lists.specs.Laws.{PutsInOrder}
use Rattle.key_lists.specs.Order.{in_order}
use Rattle.key_lists.specs.Pairs.{Pair, is_before}
use Rattle.row_keys.specs.Lists.{index_list, row_pairs}
use Rattle.row_moves.specs.Orders.{records_from, record_order}
use Rattle.row_moves.proofs.RecordOrder.{ascending_records}
use Rattle.open_table.specs.Marks.{IndexMark}
use Rattle.open_table.specs.Tables.{pairs_in_order, order_parts}

bare_pairs : (n : ℕ) (rows : List Row) → row_pairs [] n rows ≡ records_from n (length rows)
bare_pairs n [] = refl
bare_pairs n (row ∷ rows) = ap (λ ps. ([], n) ∷ ps) (bare_pairs (n + 1) rows)

record_list : ((pairs : List Pair) → PutsInOrder pairs) → (rows : List Row)
    → index_list [] rows ≡ record_order (length rows)
unfolding index_list
record_list law rows =
    ap (in_order is_before) (bare_pairs 1 rows)
    ∙ (law (record_order (length rows))).same (ascending_records 1 (length rows))

-- the rows in an order, by how its keys are made
pub by_parts : ((pairs : List Pair) → PutsInOrder pairs) → (order : Option ℕ) (marks : List IndexMark) (rows : List Row)
    → index_list (order_parts order marks) rows ≡ pairs_in_order order marks rows
by_parts law None marks rows = record_list law rows
by_parts law (Some n) marks rows = refl
