use Rattle.std.proofs.Common.{◌∙◌, sym}
use Rattle.tagged_machine.proofs.Worlds.{fault_found}
use Rattle.tagged_machine.proofs.faults.fault.Goals as goal

pub returns-then-is_clear : goal.returns-then-is_clear
returns-then-is_clear g c = sym (c.is_clear.ensures c.if-is_clear.true)

pub returns : goal.returns
returns g c = c.first_fault.ensures ∙ fault_found c.args.code.now c.args.machine.now _ c.args.instr c.requires.shown
