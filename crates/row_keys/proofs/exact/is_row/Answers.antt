use Rattle.std.proofs.Common.{◌≡◌, ℕ, ◌-◌, ◌<◌, ◌↔◌, ◌⊎◌, inl, inr, List, length, IsTrue, subst, arith}
use Rattle.std.proofs.lemmas.Bool.{false≢true}
use Rattle.dbf_file.specs.Rows.{row_at}
use Rattle.row_keys.proofs.ExactLemmas.{is_pair_of, is_no_pair, iff_trans}
use Rattle.row_keys.proofs.exact.is_row.Goals as goal
use Rattle.row_keys.proofs.exact.is_row.Goals.{then-number-eq0-via-then-number-eq0}
use Rattle.row_keys.proofs.exact.is_row.Goals.{then-number-eq0-via-else-number-eq0+then-rows-number}
use Rattle.shape.specs.Keys.{key_of}

pub returns-then-number-eq0 : goal.returns-then-number-eq0
returns-then-number-eq0 c =
    let rows = c.args.table.now.rows in
    let pair = c.args.entry.now in
    let out : (pair.1 ≡ 0) ⊎ (length rows < pair.1) =
    elim c.then-number-eq0.branch as (λ _. (pair.1 ≡ 0) ⊎ (length rows < pair.1)) [
      | then-number-eq0-via-then-number-eq0 w ↦ inl (omega (arith, c.number-number.ensures, w.if-number-eq0.true))
      | then-number-eq0-via-else-number-eq0+then-rows-number w ↦ inr
          (omega (arith, c.number-number.ensures, w.rows.ensures.count, w.if-rows-number.true))
    ] in (
      λ f. absurd (false≢true f),
      λ there. absurd
          (is_no_pair c.args.key.now rows pair (c.index_lists.ensures c.args.key.now rows) out there),
    )

pub returns : goal.returns
returns c =
    let rows = c.args.table.now.rows in
    let parts = c.args.key.now in
    let pair = c.args.entry.now in
    let r : ℕ = c.number-number.result - 1 in
    let told = subst (λ (k : List ℕ). IsTrue c.is_row_key.result ↔ (k ≡ key_of parts (row_at rows r).texts))
    c.key.ensures.value c.is_row_key.ensures in
    iff_trans told (is_pair_of parts rows pair r (c.index_lists.ensures parts rows)
    (omega (arith, c.rows.ensures.count, c.if-number-eq0.false, c.if-rows-number.false))
    (omega (arith, c.number-number.ensures, c.if-number-eq0.false)))
