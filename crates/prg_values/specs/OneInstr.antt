-- What a command of one line alone tells: the one instruction of its code, and where it may stand.
use Rattle.std.specs.Prelude.{Bool, true, false, Option, Some, None}
use Rattle.xvalue.specs.declared.settings.Setting.{Setting}
use Rattle.xvalue.specs.declared.settings.Setting.TheVariants as setting
use Rattle.code_items.specs.declared.instr.ValueInstr.TheVariants as value_instr
use Rattle.code_items.specs.declared.instr.ScreenInstr.TheVariants as screen
use Rattle.code_items.specs.declared.instr.AreaInstr.TheVariants as area_instr
use Rattle.code_items.specs.declared.instr.MoveInstr.TheVariants as move_instr
use Rattle.code_items.specs.declared.instr.RecordInstr.TheVariants as record_instr
use Rattle.code_items.specs.declared.instr.Instr.{Instr}
use Rattle.code_items.specs.declared.instr.Instr.TheVariants.{Values, Screen, Areas, Moves, Records}
use Rattle.prg_line.specs.declared.statement.Toggle.{Toggle}
use Rattle.prg_line.specs.declared.statement.Toggle.TheVariants as toggle
use Rattle.prg_line.specs.Act.{Act, Number, Top, Bottom}
use Rattle.prg_line.specs.Act as act

abbrev pub setting_of : Toggle → Setting
setting_of toggle.Exact = setting.Exact
setting_of toggle.Deleted = setting.Deleted
setting_of toggle.Century = setting.Century

-- the instruction that is all of a command's code, if the command alone tells it
abbrev pub only_instr : Act → Option Instr
only_instr act.Clear = Some (Screen screen.Clear)
only_instr act.Close = Some (Areas area_instr.Close)
only_instr (act.Select (Number n)) = Some (Areas (area_instr.Select n))
only_instr act.CloseAll = Some (Areas area_instr.CloseAll)
only_instr (act.SetOrder order) = Some (Areas (area_instr.Order order))
only_instr (act.SetFilter None) = Some (Areas (area_instr.Filter 0))
only_instr (act.Set switch on) = Some (Values (value_instr.Set (setting_of switch) on))
only_instr (act.Go Top) = Some (Moves move_instr.Top)
only_instr (act.Go Bottom) = Some (Moves move_instr.Bottom)
only_instr act.AppendBlank = Some (Records record_instr.Append)
only_instr act.Delete = Some (Records record_instr.Delete)
only_instr act.Recall = Some (Records record_instr.Recall)
only_instr act.Pack = Some (Records record_instr.Pack)
only_instr act.Zap = Some (Records record_instr.Zap)
only_instr act.Reindex = Some (Records record_instr.Reindex)
only_instr _ = None

-- the commands that may stand between a GET and its READ, and that READ
abbrev pub may_wait : Act → Bool
may_wait (act.Show values) = true
may_wait (act.ShowOn values) = true
may_wait (act.Say row column e) = true
may_wait (act.Get row column name) = true
may_wait (act.SayGet row column e name) = true
may_wait act.Read = true
may_wait _ = false
