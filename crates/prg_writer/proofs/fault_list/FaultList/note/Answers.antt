use Rattle.std.proofs.Common.{rules}
use Rattle.prg_writer.proofs.FaultLines.{one_more}
use Rattle.prg_writer.proofs.fault_list.FaultList.note.Goals as goal

pub invariant_of-self-2 : goal.invariant_of-self-2
invariant_of-self-2 c =
    one_more c.self.inside.places c.insert.new.self c.self.inside.told c.args.fault c.self.inside.faults.items
    c.push.new.self.items c.self.invariant (search rules) (search rules)
