-- Bytes that aren't read aren't a table's file, unless memory was missing.
use Rattle.std.proofs.Common.{◌≤◌, length, arith, sym, ◌∙◌}
use Rattle.std.proofs.lemmas.Bool.{true≢false}
use Rattle.save_rules.proofs.unchanged.table_in.Goals as goal

pub returns-else-table_lacks_memory : goal.returns-else-table_lacks_memory
returns-else-table_lacks_memory c = λ structure rows (stamp, text).
    let count = text.sound.count in
    let few : length rows ≤ 4294967295 = omega arith in
    let is = c.in-Err.ensures.only structure rows stamp text few in
    true≢false (sym (c.table_lacks_memory.ensures.1 is) ∙ c.if-table_lacks_memory.false)
