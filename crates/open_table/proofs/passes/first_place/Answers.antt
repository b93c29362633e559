use Rattle.std.proofs.Common.{◌≡◌, ◌+◌, ◌<◌, true, false, List, [], ◌∷◌, length, take, sym, ap, ◌∙◌, subst, arith}
use Rattle.std.proofs.Common.{length-append}
use Rattle.std.specs.Fn.{FnReturnsAt}
use Rattle.dbf_file.specs.Rows.{Row, row_at}
use Rattle.row_keys.specs.Lists.{is_kept, kept_rows, index_list}
use Rattle.row_moves.specs.Moves.{first_shown}
use Rattle.open_table.specs.Tried.{tried}
use Rattle.open_table.proofs.PassLemmas.{kept_take, kept_skip, kept_place, one_tried, same_tried}
use Rattle.open_table.proofs.passes.first_place.Goals as goal
use Rattle.open_table.proofs.passes.first_place.Goals.{then-keeps, else-keeps}

pub loop-r-preserved : goal.loop-r-preserved
loop-r-preserved g c =
    let s = c.args.table.now.structure in
    let rows = c.args.table.now.rows in
    let kept = c.args.kept in
    let r = c.loop-r.r in
    let n = c.loop-r.number + 1 in
    let lt : r < length rows = omega (arith, c.rows-r-end.ensures.count, c.loop-r-test.true) in
    elim c.if-keeps.branch [
      | then-keeps w ↦
          let keeps : is_kept kept (row_at rows r) ≡ true = sym c.keeps.ensures ∙ w.if-keeps.true in
          let longer = ap (λ (rs : List Row). length {A = Row} rs) (kept_take kept rows r lt keeps) in
          let place = kept_place kept rows r lt keeps in
          let at : n ≡ length (kept_rows kept (take r rows)) + 1 = ap (λ m. m + 1) c.loop-r.invariant.number in
          let one : record { structure = s; row = row_at rows r; number = n; count = c.args.count }
          ≡ tried s (kept_rows kept rows) n =
          same_tried s rows (kept_rows kept rows) r n c.args.count (length (kept_rows kept (take r rows))) at place.1
          c.requires.count in
          record {
            number = omega (
              arith,
              w.number-is,
              c.loop-r.invariant.number,
              longer,
              length-append
                  (kept_rows kept (take r rows)) (row_at rows r ∷ []),
            );
            few = omega (arith, w.number-is, c.loop-r.invariant.few);
            best = λ shown sees.
                let said = w.try_row-best.ensures (shown n)
                (λ a answer. sees n a (omega arith) (omega (arith, place.0, at))
                (subst (λ t. FnReturnsAt g.F.Fn c.args.see.now t a) one answer)) in
                one_tried c.index_lists.ensures c.orders_pairs.ensures.strict c.args.key.now kept rows r lt shown
                c.loop-r.best c.if-keeps.best n keeps at (c.loop-r.invariant.best shown sees) (w.best-is ∙ said);
          }
      | else-keeps w ↦
          let skips : is_kept kept (row_at rows r) ≡ false = sym c.keeps.ensures ∙ w.if-keeps.false in
          let same = kept_skip kept rows r lt skips in
          record {
            number = w.number-is ∙ c.loop-r.invariant.number ∙ ap (λ (rs : List Row). length {A = Row} rs) (sym same);
            few = omega (arith, w.number-is, c.loop-r.invariant.few);
            best = λ shown sees. w.best-is ∙ c.loop-r.invariant.best shown sees
                ∙ ap (λ rs. first_shown shown (index_list c.args.key.now rs)) (sym same);
          }
    ]
