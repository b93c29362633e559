use Rattle.std.proofs.Common.{rules, ◌≡◌, Some, subst}
use Rattle.command_words.specs.Windows.{IsNumber}
use Rattle.command_words.proofs.Sizes.{uncut, cut, joined, same_size, size_parts, one_number}
use Rattle.command_words.proofs.operate_words.window_named.Goals as goal

pub returns-in_err-rows : goal.returns-in_err-rows
returns-in_err-rows c size = (search rules, λ s. absurd (uncut c.args.word.now c.in_err-rows.ensures.cases size s))

pub returns-in_err-number_said : goal.returns-in_err-number_said
returns-in_err-number_said c size = (
  search rules,
  λ s.
      let here = cut c.args.word.now (c.in_ok-rows.rows, c.in_ok-rows.columns) c.in_ok-rows.ensures.cases size s in
      let e = (c.number_said.ensures size.rows).1 here.0 in absurd (search rules),
)

pub returns-in_err-number_said-2 : goal.returns-in_err-number_said-2
returns-in_err-number_said-2 c size = (
  search rules,
  λ s.
      let here = cut c.args.word.now (c.in_ok-rows.rows, c.in_ok-rows.columns) c.in_ok-rows.ensures.cases size s in
      let e = (c.number_said-2.ensures size.columns).1 here.1 in absurd (search rules),
)

pub returns : goal.returns
returns c size =
    let rows : c.number_said.result ≡ Some c.in_ok-number_said.field-0 = search rules in
    let columns : c.number_said-2.result ≡ Some c.in_ok-number_said-2.field-0 = search rules in
    let high = (c.number_said.ensures c.in_ok-number_said.field-0).0 rows in
    let wide = (c.number_said-2.ensures c.in_ok-number_said-2.field-0).0 columns in (
      λ e. (let same = size_parts c.in_ok-number_said.field-0 c.in_ok-number_said-2.field-0 size e in
          joined c.args.word.now (c.in_ok-rows.rows, c.in_ok-rows.columns) c.in_ok-rows.ensures.cases size
          (subst (λ n. IsNumber c.in_ok-rows.rows.now n) same.0 high)
          (subst (λ n. IsNumber c.in_ok-rows.columns.now n) same.1 wide)),
      λ s. (let here = cut c.args.word.now (c.in_ok-rows.rows, c.in_ok-rows.columns) c.in_ok-rows.ensures.cases size
          s in
          same_size c.in_ok-number_said.field-0 c.in_ok-number_said-2.field-0 size
          (one_number c.number_said.result c.in_ok-number_said.field-0 size.rows rows
          ((c.number_said.ensures size.rows).1 here.0))
          (one_number c.number_said-2.result c.in_ok-number_said-2.field-0 size.columns columns
          ((c.number_said-2.ensures size.columns).1 here.1))),
    )
