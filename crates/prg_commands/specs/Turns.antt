-- What a command of one line does to the way that the commands take.
use Rattle.std.specs.Prelude.{◌≡◌, ◌⊎◌, Bool, true, false, Option, Some, None, map}
use Rattle.prg_expr.specs.Tree.{tree_of}
use Rattle.prg_line.specs.Act.{Act}
use Rattle.prg_line.specs.Act as act
use Rattle.prg_commands.specs.declared.statement.Turn.{Turn}
use Rattle.prg_commands.specs.declared.statement.Turn.TheVariants.{Again, Out, Return, End, Call}

-- whether it turns the way
abbrev pub turns_the_way : Act → Bool
turns_the_way act.Loop = true
turns_the_way act.Exit = true
turns_the_way act.Return = true
turns_the_way act.Quit = true
turns_the_way act.Cancel = true
turns_the_way (act.Do procedure arguments) = true
turns_the_way _ = false

-- this is the turn that a command makes, if it makes one
abbrev pub IsTurn : Option Turn → Act → Type 0
IsTurn None a = turns_the_way a ≡ false
IsTurn (Some Again) a = a ≡ act.Loop
IsTurn (Some Out) a = a ≡ act.Exit
IsTurn (Some Return) a = a ≡ act.Return
IsTurn (Some End) a = (a ≡ act.Quit) ⊎ (a ≡ act.Cancel)
IsTurn (Some (Call procedure arguments)) a = a ≡ act.Do procedure.now.items (map tree_of arguments.now)
