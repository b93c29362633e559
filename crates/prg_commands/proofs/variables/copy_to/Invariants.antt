use Rattle.std.proofs.Common.{◌≡◌, ℕ, map, length}
use Rattle.prg_line.specs.Act.{letters_of}
use Rattle.prg_commands.specs.Acts as acts
use Rattle.prg_commands.proofs.variables.copy_to.Given as goal

-- what is left leads to the whole
abbrev pub invariant-loop-name : goal.invariant-loop-name
invariant-loop-name g l = record {
  same : g.S.Sink.laying l.sink ≡ g.S.Sink.laying l.fn.sink;
  leads : g.S.Sink.judges → (b : ℕ)
      → acts.Copied (g.S.Sink.laying l.fn.sink) (g.S.Sink.place l.sink) l.kind l.slot (map letters_of l.rest) b
      → acts.Copied (g.S.Sink.laying l.fn.sink) (g.S.Sink.place l.fn.sink) l.kind l.slot (map letters_of l.names) b;
}

abbrev pub decreases-loop-name : goal.decreases-loop-name
decreases-loop-name g l = length l.rest
