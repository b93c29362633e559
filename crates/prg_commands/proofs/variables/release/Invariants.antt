use Rattle.std.proofs.Common.{◌≡◌, ℕ, map, length}
use Rattle.prg_line.specs.Act.{letters_of}
use Rattle.prg_commands.specs.Acts as acts
use Rattle.prg_commands.proofs.variables.release.Given as goal

-- what is left leads to the whole
abbrev pub invariant-loop-name : goal.invariant-loop-name
invariant-loop-name g l = record {
  same : g.S.Sink.laying l.sink ≡ g.S.Sink.laying l.fn.sink;
  leads : g.S.Sink.judges → (b : ℕ)
      → acts.Released (g.S.Sink.laying l.fn.sink) (g.S.Sink.place l.sink) (map letters_of l.rest) b
      → acts.Released (g.S.Sink.laying l.fn.sink) (g.S.Sink.place l.fn.sink) (map letters_of l.names) b;
}

abbrev pub decreases-loop-name : goal.decreases-loop-name
decreases-loop-name g l = length l.rest
