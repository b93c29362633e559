use Rattle.std.proofs.Common.{length}
use Rattle.terminal_screen.proofs.plain.+put_changes.Given as goal

abbrev pub decreases-put_changes : goal.decreases-put_changes
decreases-put_changes l = length l.rows.now
