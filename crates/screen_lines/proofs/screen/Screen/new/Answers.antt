use Rattle.std.proofs.Common.{ap, false}
use Rattle.std.proofs.lemmas.Bool.{false≢true}
use Rattle.screen_lines.proofs.Keeping.{Keeps-new, roll-new}
use Rattle.screen_lines.proofs.screen.Screen.new.Goals as goal

pub invariant_of-result : goal.invariant_of-result
invariant_of-result c = (
  Keeps-new c.new.result.items c.in_ok-blank_rows.field-0.items c.new.ensures.items c.in_ok-blank_rows.ensures,
  λ h.
      absurd (false≢true h),
)

pub returns : goal.returns
returns c =
    ap (λ r. record { roll = r; reserved = false })
    (roll-new c.new.result.items c.in_ok-blank_rows.field-0.items c.new.ensures.items c.in_ok-blank_rows.ensures)
