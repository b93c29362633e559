-- Bytes that aren't read aren't an index file, unless memory was missing.
use Rattle.std.proofs.Common.{sym, ◌∙◌}
use Rattle.std.proofs.lemmas.Bool.{true≢false}
use Rattle.save_rules.proofs.unchanged.index_in.Goals as goal

pub returns-else-index_lacks_memory : goal.returns-else-index_lacks_memory
returns-else-index_lacks_memory c = λ form pairs file.
    let is = c.in-Err.ensures.only form pairs file.file in
    true≢false (sym (c.index_lacks_memory.ensures.1 is) ∙ c.if-index_lacks_memory.false)
