use Rattle.std.proofs.Common.{◌≡◌, ◌+◌, ◌<◌, true, false, List, [], ◌∷◌, length, take, sym, ap, ◌∙◌, arith}
use Rattle.std.proofs.Common.{length-append}
use Rattle.dbf_file.specs.Rows.{Row, row_at}
use Rattle.row_keys.specs.Lists.{is_kept, kept_rows, index_list}
use Rattle.open_table.specs.Passes.{count_met}
use Rattle.open_table.proofs.PassLemmas.{kept_take, kept_skip, one_counted}
use Rattle.open_table.proofs.passes.met_before.Goals as goal
use Rattle.open_table.proofs.passes.met_before.Goals.{then-keeps, else-keeps}

pub loop-r-preserved : goal.loop-r-preserved
loop-r-preserved c =
    let rows = c.args.table.now.rows in
    let kept = c.args.kept in
    let r = c.loop-r.r in
    let lt : r < length rows = omega (arith, c.rows-r-end.ensures.count, c.loop-r-test.true) in
    elim c.if-keeps.branch [
      | then-keeps w ↦
          let keeps : is_kept kept (row_at rows r) ≡ true = sym c.keeps.ensures ∙ w.if-keeps.true in
          let longer = ap (λ (rs : List Row). length {A = Row} rs) (kept_take kept rows r lt keeps) in
          let counted = one_counted c.index_lists.ensures c.orders_pairs.ensures.strict c.args.key.now kept rows r lt
          c.args.best.now (c.loop-r.number + 1) keeps (ap (λ n. n + 1) c.loop-r.invariant.number) in
          record {
            number = omega (
              arith,
              w.number-is,
              c.loop-r.invariant.number,
              longer,
              length-append
                  (kept_rows kept (take r rows)) (row_at rows r ∷ []),
            );
            few = omega (arith, w.number-is, c.loop-r.invariant.few);
            met = omega (arith, w.met-is, c.loop-r.invariant.met, counted, w.one_if_met-met.ensures.value);
            small = omega (arith, w.met-is, c.loop-r.invariant.small, w.one_if_met-met.ensures.small);
          }
      | else-keeps w ↦
          let skips : is_kept kept (row_at rows r) ≡ false = sym c.keeps.ensures ∙ w.if-keeps.false in
          let same = kept_skip kept rows r lt skips in
          record {
            number = w.number-is ∙ c.loop-r.invariant.number ∙ ap (λ (rs : List Row). length {A = Row} rs) (sym same);
            few = omega (arith, w.number-is, c.loop-r.invariant.few);
            met = w.met-is ∙ c.loop-r.invariant.met ∙ ap
                (λ rs. count_met c.args.best.now (index_list c.args.key.now rs)) (sym same);
            small = omega (arith, w.met-is, c.loop-r.invariant.small);
          }
    ]
