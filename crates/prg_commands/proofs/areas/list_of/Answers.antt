use Rattle.std.proofs.Common.{map}
use Rattle.prg_line.specs.Act.{letters_of}
use Rattle.prg_commands.specs.Acts.{NamesIndex}
use Rattle.prg_commands.proofs.Indexes.{all_listed}
use Rattle.prg_commands.proofs.areas.list_of.Goals as goal

pub returns : goal.returns
returns c =
    all_listed (NamesIndex c.args.shape.now.indexes) (map letters_of c.args.names.now) c.loop-name.rest.now
    c.loop-name.indexes.items c.in_default.ensures.cases c.loop-name.invariant
