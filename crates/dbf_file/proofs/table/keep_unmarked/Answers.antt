use Rattle.std.proofs.Common.{◌≡◌, ◌==◌, ◌∙◌, ◌+◌, ◌*◌, sym, ap, arith, get_or, true, false, refl}
use Rattle.std.specs.List.{copy_within}
use Rattle.std.proofs.lemmas.Bool.{ne_eqb}
use Rattle.std.proofs.lemmas.List.{get_or_read}
use Rattle.std.proofs.Common.{eq-eqb}
use Rattle.dbf_file.proofs.PackLemmas.{packed_none, packed_skip, packed_more}
use Rattle.dbf_file.proofs.table.keep_unmarked.Goals as goal
use Rattle.dbf_file.proofs.table.keep_unmarked.Goals.{then-index-ne-MARKED, else-index-ne-MARKED}

pub loop-r-init : goal.loop-r-init
loop-r-init c = (refl, packed_none c.args.size c.args.records.now.items)

pub loop-r-preserved : goal.loop-r-preserved
loop-r-preserved c =
    let old = c.args.records.now.items in
    let now = c.loop-r.records.items in
    let r = c.loop-r.r in
    let size = c.args.size in
    let packed = c.loop-r.invariant.1 in
    let place = c.row_place-place.ensures in
    let byte : c.index.result.now ≡ get_or now (r * size) 0 =
    get_or_read now c.row_place-place.result c.index.result.now
    (omega (arith, packed.whole, c.requires.whole, place.within, c.requires.some)) c.index.ensures 0
    ∙ ap (λ k. get_or now k 0) place.place in
    elim c.if-index-ne-MARKED.branch [
      | then-index-ne-MARKED w ↦
          let live : get_or now (r * size) 0 == 42 ≡ false =
          ap (λ b. b == 42) (sym byte) ∙ ne_eqb _ 42 w.if-index-ne-MARKED.true in
          let more = packed_more size c.args.rows r c.loop-r.kept old now _ c.loop-r-test.true c.requires.whole live
          (w.copy_within.ensures.items ∙ ap (λ k. copy_within now k (k + size) w.row_place.result) place.place
          ∙ ap (λ k. copy_within now (r * size) (r * size + size) k) w.row_place.ensures.place) packed in
          rw (w.records-is, w.kept-is) (w.copy_within.ensures.capacity ∙ c.loop-r.invariant.0, more)
      | else-index-ne-MARKED w ↦
          let marked : get_or now (r * size) 0 == 42 ≡ true =
          ap (λ b. b == 42) (sym byte) ∙ eq-eqb _ 42 w.if-index-ne-MARKED.false in
          rw (w.records-is, w.kept-is) (
            c.loop-r.invariant.0,
            packed_skip size c.args.rows r c.loop-r.kept old now
                c.loop-r-test.true c.requires.whole marked packed,
          )
    ]
