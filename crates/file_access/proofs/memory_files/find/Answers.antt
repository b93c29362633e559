use Rattle.std.specs.Cmp.Lexicographic.{same_text, other_text}
use Rattle.file_access.proofs.Entries.{found_at, not_at}
use Rattle.file_access.proofs.memory_files.find.Goals as goal

pub returns-then-eq : goal.returns-then-eq
returns-then-eq c = c.loop-entry.invariant _ (found_at _ _ _ _ c.loop-entry-test.true (same_text _ _ c.if-eq.ensures))

pub loop-entry-preserved : goal.loop-entry-preserved
loop-entry-preserved c = λ found h. c.loop-entry.invariant found
    (not_at _ _ _ _ found c.loop-entry-test.true (other_text _ _ c.if-eq.ensures) h)
