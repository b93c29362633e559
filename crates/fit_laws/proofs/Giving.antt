-- What instructions that name what is declared give is known.
use Rattle.std.proofs.Common.{◌≡◌, ℕ, true, false, List, length, Option, Some, None, refl}
use Rattle.std.specs.Prelude.{is_none, slice_get, nat_le}
use Rattle.std.proofs.lemmas.Bool.{leb-false}
use Rattle.xvalue.specs.declared.value.Value.{Value}
use Rattle.xvalue.specs.Kinds.{kind_held}
use Rattle.dbf_file.specs.declared.field.Field.{Field as TableField}
use Rattle.code_items.specs.declared.declared.Declared.{Declared}
use Rattle.code_items.specs.declared.code.Code.{Code}
use Rattle.code_items.specs.declared.desk.Desk.{Desk}
use Rattle.code_items.specs.declared.desk.OpenArea.{OpenArea}
use Rattle.code_items.specs.Desks.{open_at}
use Rattle.code_items.specs.declared.instr.ValueInstr.{ValueInstr}
use Rattle.code_items.specs.declared.instr.ValueInstr.TheVariants.{Constant, Load, Store, Unset, Discard, Function}
use Rattle.code_items.specs.declared.instr.ValueInstr.TheVariants.{Today, Set}
use Rattle.code_items.specs.declared.instr.ScreenInstr.{ScreenInstr}
use Rattle.code_items.specs.declared.instr.ScreenInstr.TheVariants.{NewLine, Print, Say, SayOn, Input, Line, Clear}
use Rattle.code_items.specs.declared.instr.RecordInstr.{RecordInstr}
use Rattle.code_items.specs.declared.instr.RecordInstr.TheVariants.{Field, RowField, Ask, Append, Replace, Delete}
use Rattle.code_items.specs.declared.instr.RecordInstr.TheVariants.{Recall, Pack, Zap, Reindex, Index}
use Rattle.code_items.specs.declared.instr.Instr.{Instr}
use Rattle.code_items.specs.declared.instr.Instr.TheVariants.{Values, Flow, Screen, Areas, Moves, Records}
use Rattle.code_rules.specs.Signature.{area_of, record_area, call_of}
use Rattle.code_rules.specs.Wants.{fields_at, kind_of_field, value_gives, screen_gives, record_gives, gives, unknown}
use Rattle.code_rules.specs.Rules.{fails_if_named, fails_if_open, is_rows, record_is_rows, no_procedure}
use Rattle.code_rules.specs.Rules.{value_undeclared, record_undeclared, undeclared}
use Rattle.run_laws.proofs.Tests.{is_there}

constant_known : (values : List Value) (n : ℕ) → nat_le (length values) n ≡ false
    → unknown (Some (kind_held (slice_get values n))) ≡ 0
constant_known values n e =
    let t = is_there values n (leb-false (length values) n e) in
    rw t.1 refl

field_there : (fields : List TableField) (n : ℕ) → nat_le (length fields) n ≡ false
    → unknown (Some (kind_of_field (slice_get fields n))) ≡ 0
field_there fields n e =
    let t = is_there fields n (leb-false (length fields) n e) in
    rw t.1 refl

field_known : (d : Declared) (o : Option OpenArea) (n : ℕ) → is_none o ≡ false
    → fails_if_open (λ a. nat_le (length (fields_at d (Some a))) n) o ≡ false
    → unknown (Some (kind_of_field (slice_get (fields_at d o) n))) ≡ 0
field_known d None n e f = absurd (cc)
field_known d (Some a) n e f = field_there (fields_at d (Some a)) n f

value_known : (d : Declared) (i : ValueInstr) → value_undeclared d i ≡ false → unknown (value_gives d i) ≡ 0
value_known d (Constant n) e = constant_known d.constants n e
value_known d (Load k s) e = refl
value_known d (Store k s) e = refl
value_known d (Unset s) e = refl
value_known d (Discard k) e = refl
value_known d (Function f) e = refl
value_known d Today e = refl
value_known d (Set x on) e = refl

screen_known : (i : ScreenInstr) → unknown (screen_gives i) ≡ 0
screen_known NewLine = refl
screen_known (Print k) = refl
screen_known (Say k) = refl
screen_known (SayOn k) = refl
screen_known (Input k) = refl
screen_known Line = refl
screen_known Clear = refl

record_known : (d : Declared) (desk : Desk) (i : RecordInstr)
    → fails_if_named (λ n. is_none (open_at desk n)) (record_area desk.selected i) ≡ false
    → record_undeclared d desk i ≡ false
    → (record_is_rows i ≡ true → is_none (open_at desk desk.selected) ≡ false) → unknown (record_gives d desk i) ≡ 0
record_known d desk (Field a f) open' e rows = field_known d (open_at desk a) f open' e
record_known d desk (RowField f) open' e rows = field_known d (open_at desk desk.selected) f (rows refl) e
record_known d desk (Ask q) open' e rows = refl
record_known d desk Append open' e rows = refl
record_known d desk (Replace f) open' e rows = refl
record_known d desk Delete open' e rows = refl
record_known d desk Recall open' e rows = refl
record_known d desk Pack open' e rows = refl
record_known d desk Zap open' e rows = refl
record_known d desk Reindex open' e rows = refl
record_known d desk (Index l) open' e rows = refl

pub gives_known : (code : Code) (desk : Desk) (i : Instr)
    → fails_if_named (λ n. is_none (open_at desk n)) (area_of desk i) ≡ false → undeclared code desk i ≡ false
    → (is_rows i ≡ true → is_none (open_at desk desk.selected) ≡ false) → unknown (gives code.declared desk i) ≡ 0
gives_known code desk (Values i) open' e rows = value_known code.declared i e
gives_known code desk (Flow i) open' e rows = refl
gives_known code desk (Screen i) open' e rows = screen_known i
gives_known code desk (Areas i) open' e rows = refl
gives_known code desk (Moves i) open' e rows = refl
gives_known code desk (Records i) open' e rows = record_known code.declared desk i open' e rows

-- what it calls is there
pub call_known : (code : Code) (desk : Desk) (i : Instr) → undeclared code desk i ≡ false
    → fails_if_named (no_procedure code) (call_of i) ≡ false
call_known code desk (Values i) e = refl
call_known code desk (Flow i) e = e
call_known code desk (Screen i) e = refl
call_known code desk (Areas i) e = refl
call_known code desk (Moves i) e = refl
call_known code desk (Records i) e = refl
