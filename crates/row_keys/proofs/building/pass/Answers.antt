use Rattle.std.proofs.Common.{◌+◌, ◌++◌, ◌∷◌, [], cond, length, sym, ap, ◌∙◌, arith}
use Rattle.dbf_file.specs.Rows.{row_at}
use Rattle.shape.specs.Keys.{key_of}
use Rattle.row_keys.specs.Lists.{is_kept}
use Rattle.row_keys.proofs.ListLemmas.{pairs_more}
use Rattle.row_keys.proofs.building.pass.Goals as goal

pub loop-r-preserved : goal.loop-r-preserved
loop-r-preserved c =
    let parts = c.args.key.now in
    let rows = c.args.table.now.rows in
    let r = c.loop-r.r in
    let items = c.loop-r.entries.items in
    let more = cond (is_kept c.args.kept (row_at rows r)) ((key_of parts (row_at rows r).texts, length items + 1) ∷ [])
    [] in
    record {
      pairs =
          c.in_ok-put_row.ensures.pairs ∙ ap (λ xs. xs ++ more) c.loop-r.invariant.pairs
          ∙ sym (pairs_more parts c.args.kept rows r (length items + 1) (omega arith)
          (ap (λ xs. length xs + 1) c.loop-r.invariant.pairs));
      keys = c.in_ok-put_row.ensures.keys c.loop-r.invariant.keys;
      few = omega (arith, c.in_ok-put_row.ensures.few, c.loop-r.invariant.few);
    }
