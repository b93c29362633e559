-- Commands of one instruction that the command alone tells.
use Rattle.std.proofs.Common.{◌≡◌, ℕ, List, Some, None, subst}
use Rattle.std.proofs.lemmas.Option.{same_Some, none-some}
use Rattle.code_items.specs.declared.instr.ValueInstr.TheVariants as value_instr
use Rattle.code_items.specs.declared.instr.ScreenInstr.TheVariants as screen
use Rattle.code_items.specs.declared.instr.AreaInstr.TheVariants as area_instr
use Rattle.code_items.specs.declared.instr.MoveInstr.TheVariants as move_instr
use Rattle.code_items.specs.declared.instr.RecordInstr.TheVariants as record_instr
use Rattle.code_items.specs.declared.instr.Instr.{Instr}
use Rattle.code_items.specs.declared.instr.Instr.TheVariants.{Values, Screen, Areas, Moves, Records}
use Rattle.prg_line.specs.Act.{Act, Letters, Number, Named, Top, Bottom, Record}
use Rattle.prg_line.specs.Act as act
use Rattle.prg_values.specs.OneInstr.{only_instr, setting_of}
use Rattle.prg_values.specs.Placed.{InstrStands}
use Rattle.prg_commands.specs.Acts.{ActLaid}
use Rattle.prg_commands.specs.Layout.{Laying}

-- the command is laid out just where the instruction stands
abbrev pub IsLaidBy : Laying → List Letters → ℕ → ℕ → Act → Instr → Type 0
IsLaidBy f gets a b act i =
    (InstrStands f.text a i b → ActLaid f gets a act b) × (ActLaid f gets a act b → InstrStands f.text a i b)

told : (f : Laying) (gets : List Letters) (a b : ℕ) (act : Act) (x i : Instr) → Some x ≡ Some i
    → IsLaidBy f gets a b act x → IsLaidBy f gets a b act i
told f gets a b act x i e laid = subst (IsLaidBy f gets a b act) (same_Some x i e) laid

pub by_only : (f : Laying) (gets : List Letters) (a b : ℕ) (act : Act) (i : Instr) → only_instr act ≡ Some i
    → IsLaidBy f gets a b act i
by_only f gets a b (act.Show values) i e = absurd (none-some i e)
by_only f gets a b (act.ShowOn values) i e = absurd (none-some i e)
by_only f gets a b (act.Say row column x) i e = absurd (none-some i e)
by_only f gets a b (act.Get row column name) i e = absurd (none-some i e)
by_only f gets a b (act.SayGet row column x name) i e = absurd (none-some i e)
by_only f gets a b act.Read i e = absurd (none-some i e)
by_only f gets a b (act.Accept prompt name) i e = absurd (none-some i e)
by_only f gets a b (act.Wait prompt name) i e = absurd (none-some i e)
by_only f gets a b act.Clear i e = told f gets a b act.Clear (Screen screen.Clear) i e (λ s. s, λ l. l)
by_only f gets a b (act.Assign name x) i e = absurd (none-some i e)
by_only f gets a b (act.Store x names) i e = absurd (none-some i e)
by_only f gets a b (act.Release names) i e = absurd (none-some i e)
by_only f gets a b (act.Private names) i e = absurd (none-some i e)
by_only f gets a b (act.Parameters names) i e = absurd (none-some i e)
by_only f gets a b act.Loop i e = absurd (none-some i e)
by_only f gets a b act.Exit i e = absurd (none-some i e)
by_only f gets a b (act.Do name xs) i e = absurd (none-some i e)
by_only f gets a b act.Return i e = absurd (none-some i e)
by_only f gets a b act.Quit i e = absurd (none-some i e)
by_only f gets a b act.Cancel i e = absurd (none-some i e)
by_only f gets a b act.Close i e = told f gets a b act.Close (Areas area_instr.Close) i e (λ s. s, λ l. l)
by_only f gets a b (act.Use table indexes) i e = absurd (none-some i e)
by_only f gets a b (act.Select (Number n)) i e =
    told f gets a b (act.Select (Number n)) (Areas (area_instr.Select n)) i e (λ s. s, λ l. l)
by_only f gets a b (act.Select (Named name)) i e = absurd (none-some i e)
by_only f gets a b act.CloseAll i e = told f gets a b act.CloseAll (Areas area_instr.CloseAll) i e (λ s. s, λ l. l)
by_only f gets a b (act.SetOrder order) i e =
    told f gets a b (act.SetOrder order) (Areas (area_instr.Order order)) i e (λ s. s, λ l. l)
by_only f gets a b (act.SetFilter None) i e =
    told f gets a b (act.SetFilter None) (Areas (area_instr.Filter 0)) i e (λ s. s, λ l. l)
by_only f gets a b (act.SetFilter (Some x)) i e = absurd (none-some i e)
by_only f gets a b (act.Set switch on) i e =
    told f gets a b (act.Set switch on) (Values (value_instr.Set (setting_of switch) on)) i e (λ s. s, λ l. l)
by_only f gets a b (act.Go Top) i e = told f gets a b (act.Go Top) (Moves move_instr.Top) i e (λ s. s, λ l. l)
by_only f gets a b (act.Go Bottom) i e = told f gets a b (act.Go Bottom) (Moves move_instr.Bottom) i e (λ s. s, λ l. l)
by_only f gets a b (act.Go (Record x)) i e = absurd (none-some i e)
by_only f gets a b (act.Skip rows) i e = absurd (none-some i e)
by_only f gets a b (act.Seek key) i e = absurd (none-some i e)
by_only f gets a b act.AppendBlank i e =
    told f gets a b act.AppendBlank (Records record_instr.Append) i e (λ s. s, λ l. l)
by_only f gets a b (act.Replace changes) i e = absurd (none-some i e)
by_only f gets a b act.Delete i e = told f gets a b act.Delete (Records record_instr.Delete) i e (λ s. s, λ l. l)
by_only f gets a b act.Recall i e = told f gets a b act.Recall (Records record_instr.Recall) i e (λ s. s, λ l. l)
by_only f gets a b act.Pack i e = told f gets a b act.Pack (Records record_instr.Pack) i e (λ s. s, λ l. l)
by_only f gets a b act.Zap i e = told f gets a b act.Zap (Records record_instr.Zap) i e (λ s. s, λ l. l)
by_only f gets a b act.Reindex i e = told f gets a b act.Reindex (Records record_instr.Reindex) i e (λ s. s, λ l. l)
by_only f gets a b (act.IndexOn key index) i e = absurd (none-some i e)
