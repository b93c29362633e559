use Rattle.prg_commands.proofs.statement.put_statement.Goals as goal

pub returns-in-SayGet-clause-laid : goal.returns-in-SayGet-clause-laid
returns-in-SayGet-clause-laid g c = rw (c.in-SayGet.is) c.say_and_get.ensures.laid
