-- The names of instructions.
use Rattle.std.specs.Prelude.{ℕ, List, codes}
use Rattle.code_items.specs.declared.instr.ValueInstr.{ValueInstr}
use Rattle.code_items.specs.declared.instr.ValueInstr.TheVariants.{Constant, Load, Store, Unset, Discard, Function}
use Rattle.code_items.specs.declared.instr.ValueInstr.TheVariants.{Today, Set}
use Rattle.code_items.specs.declared.instr.FlowInstr.{FlowInstr}
use Rattle.code_items.specs.declared.instr.FlowInstr.TheVariants.{Jump, JumpFalse, Call, Return, End}
use Rattle.code_items.specs.declared.instr.ScreenInstr.{ScreenInstr}
use Rattle.code_items.specs.declared.instr.ScreenInstr.TheVariants.{NewLine, Print, Say, SayOn, Input, Line, Clear}
use Rattle.code_items.specs.declared.instr.AreaInstr.{AreaInstr}
use Rattle.code_items.specs.declared.instr.AreaInstr.TheVariants.{Open, Close, CloseAll, Select, Order, Filter}
use Rattle.code_items.specs.declared.instr.MoveInstr.{MoveInstr}
use Rattle.code_items.specs.declared.instr.MoveInstr.TheVariants.{Top, Bottom, Skip, Go, Seek}
use Rattle.code_items.specs.declared.instr.RecordInstr.{RecordInstr}
use Rattle.code_items.specs.declared.instr.RecordInstr.TheVariants.{Field, RowField, Ask, Append, Replace, Delete}
use Rattle.code_items.specs.declared.instr.RecordInstr.TheVariants.{Recall, Pack, Zap, Reindex, Index}
use Rattle.code_items.specs.declared.instr.Instr.{Instr}
use Rattle.code_items.specs.declared.instr.Instr.TheVariants.{Values, Flow, Screen, Areas, Moves, Records}

abbrev pub name_of_values : ValueInstr → List ℕ
name_of_values (Constant number) = codes "CONST"
name_of_values (Load kind slot) = codes "LOAD"
name_of_values (Store kind slot) = codes "STORE"
name_of_values (Unset slot) = codes "UNSET"
name_of_values (Discard kind) = codes "DROP"
name_of_values (Function fun) = codes "FUN"
name_of_values Today = codes "ASK"
name_of_values (Set setting on) = codes "SET"

abbrev pub name_of_flow : FlowInstr → List ℕ
name_of_flow (Jump place) = codes "JUMP"
name_of_flow (JumpFalse place) = codes "JUMPF"
name_of_flow (Call procedure) = codes "CALL"
name_of_flow Return = codes "RETURN"
name_of_flow End = codes "END"

abbrev pub name_of_screen : ScreenInstr → List ℕ
name_of_screen NewLine = codes "NEWLINE"
name_of_screen (Print kind) = codes "PRINT"
name_of_screen (Say kind) = codes "SAY"
name_of_screen (SayOn kind) = codes "SAYON"
name_of_screen (Input kind) = codes "INPUT"
name_of_screen Line = codes "LINE"
name_of_screen Clear = codes "CLEAR"

abbrev pub name_of_areas : AreaInstr → List ℕ
name_of_areas (Open table list) = codes "OPEN"
name_of_areas Close = codes "CLOSE"
name_of_areas CloseAll = codes "CLOSEALL"
name_of_areas (Select area) = codes "SELECT"
name_of_areas (Order number) = codes "ORDER"
name_of_areas (Filter number) = codes "FILTER"

abbrev pub name_of_moves : MoveInstr → List ℕ
name_of_moves Top = codes "TOP"
name_of_moves Bottom = codes "BOTTOM"
name_of_moves Skip = codes "SKIP"
name_of_moves Go = codes "GO"
name_of_moves Seek = codes "SEEK"

abbrev pub name_of_records : RecordInstr → List ℕ
name_of_records (Field area field) = codes "FIELD"
name_of_records (RowField field) = codes "ROWFIELD"
name_of_records (Ask question) = codes "ASK"
name_of_records Append = codes "APPEND"
name_of_records (Replace field) = codes "REPLACE"
name_of_records Delete = codes "DELETE"
name_of_records Recall = codes "RECALL"
name_of_records Pack = codes "PACK"
name_of_records Zap = codes "ZAP"
name_of_records Reindex = codes "REINDEX"
name_of_records (Index list) = codes "INDEX"

abbrev pub instr_name : Instr → List ℕ
instr_name (Values i) = name_of_values i
instr_name (Flow i) = name_of_flow i
instr_name (Screen i) = name_of_screen i
instr_name (Areas i) = name_of_areas i
instr_name (Moves i) = name_of_moves i
instr_name (Records i) = name_of_records i
