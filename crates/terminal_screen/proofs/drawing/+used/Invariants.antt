use Rattle.std.proofs.Common.{length}
use Rattle.terminal_screen.proofs.drawing.+used.Given as goal

abbrev pub decreases-used : goal.decreases-used
decreases-used l = length l.cells.now
