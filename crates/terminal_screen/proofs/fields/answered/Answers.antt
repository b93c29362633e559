use Rattle.std.proofs.Common.{◌≡◌, ◌<◌, ◌+◌, ◌∙◌, ap, arith, get_or, inl, inr, length, set, subst, sym, ℕ, List}
use Rattle.std.proofs.lemmas.Bool.{cases_eq}
use Rattle.std.proofs.lemmas.List.{get_or-set_other, get_or-set_same, get_or_default, length-set}
use Rattle.terminal_screen.specs.Orders.{cell_under}
use Rattle.terminal_screen.proofs.fields.answered.Goals as goal

-- one more cell that shows its value
set_more : (over : List ℕ) (value : ℕ → ℕ) (i y : ℕ) → i < length over → y ≡ value i
    → ((k : ℕ) → k < i → get_or over k 32 ≡ value k)
    → (k : ℕ) → k < i + 1 → get_or (set over i y) k 32 ≡ value k
set_more over value i y there here below k within =
    elim (cases_eq k i) [
      | inl same ↦ subst (λ n. get_or (set over i y) n 32 ≡ value n) (sym same)
          (get_or-set_same over i y 32 there ∙ here)
      | inr other ↦ get_or-set_other over i k y 32 other ∙ below k (omega arith)
    ]

pub loop-column-preserved : goal.loop-column-preserved
loop-column-preserved c = (
  length-set c.loop-column.over c.loop-column.column c.cell_of.result ∙ c.loop-column.invariant.0,
  set_more c.loop-column.over (λ k. cell_under c.args.field c.args.answer.now k (get_or c.args.row.now k 32))
      c.loop-column.column c.cell_of.result
      (omega (arith, c.loop-column.invariant.0))
      (c.cell_of.ensures ∙ ap (λ cell. cell_under c.args.field c.args.answer.now c.loop-column.column cell)
      (get_or_default c.args.row.now c.loop-column.column 0 32 (omega arith)))
      c.loop-column.invariant.1,
)
