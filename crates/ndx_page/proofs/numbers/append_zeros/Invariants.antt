use Rattle.std.proofs.Common.{◌≡◌, ◌++◌, replicate}
use Rattle.ndx_page.proofs.numbers.append_zeros.Given as goal

abbrev pub invariant-loop : goal.invariant-loop
invariant-loop l = l.sheet.items ≡ l.initial.sheet.items ++ replicate l.counter 0
