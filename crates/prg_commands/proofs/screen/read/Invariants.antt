use Rattle.std.proofs.Common.{◌≡◌, ℕ, length}
use Rattle.prg_commands.specs.Acts as acts
use Rattle.prg_commands.proofs.screen.read.Given as goal

-- what is left leads to the whole
abbrev pub invariant-loop-get : goal.invariant-loop-get
invariant-loop-get g l = record {
  same : g.S.Sink.laying l.sink ≡ g.S.Sink.laying l.fn.sink;
  leads : g.S.Sink.judges → (b : ℕ)
      → acts.ReadLaid (g.S.Sink.laying l.fn.sink) (g.S.Sink.place l.sink) (acts.names_of l.rest) b
      → acts.ReadLaid (g.S.Sink.laying l.fn.sink) (g.S.Sink.place l.fn.sink) (acts.names_of l.gets) b;
}

abbrev pub decreases-loop-get : goal.decreases-loop-get
decreases-loop-get g l = length l.rest
