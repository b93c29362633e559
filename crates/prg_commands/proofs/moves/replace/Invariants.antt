use Rattle.std.proofs.Common.{◌≡◌, ℕ, map, length}
use Rattle.prg_line.specs.Act.{change_of}
use Rattle.prg_commands.specs.Acts as acts
use Rattle.prg_commands.proofs.moves.replace.Given as goal

-- what is left leads to the whole
abbrev pub invariant-loop-change : goal.invariant-loop-change
invariant-loop-change g l = record {
  same : g.S.Sink.laying l.sink ≡ g.S.Sink.laying l.fn.sink;
  leads : g.S.Sink.judges → (b : ℕ)
      → acts.Replaced (g.S.Sink.laying l.fn.sink) (g.S.Sink.place l.sink) (map change_of l.rest) b
      → acts.Replaced (g.S.Sink.laying l.fn.sink) (g.S.Sink.place l.fn.sink) (map change_of l.changes) b;
}

abbrev pub decreases-loop-change : goal.decreases-loop-change
decreases-loop-change g l = length l.rest
