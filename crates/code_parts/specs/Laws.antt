-- What holds of the reader of an item whose texts are known.
use Rattle.std.specs.Prelude.{◌≡◌, ◌<◌, ◌≤◌, ℕ, List, ◌++◌, ◌+◌, ◌^◌, length, slice_index, true, false, ◌&&◌, ◌==◌}
use Rattle.std.specs.Prelude.{Some, Ok}
use Rattle.std.specs.List.{AllByRecursion}
use Rattle.arrayvec.specs.ArrayVec.{ArrayVec}
use Rattle.dbf_file.specs.declared.field.Field.{Field}
use Rattle.shape.specs.declared.tables.TableShape.{TableShape}
use Rattle.shape.specs.declared.indexes.IndexShape.{IndexShape}
use Rattle.shape.specs.declared.lists.IndexList.{IndexList}
use Rattle.xvalue.specs.declared.value.Value.{Value}
use Rattle.code_items.specs.Constants.{is_constant}
use Rattle.code_items.specs.declared.declared.Version.{Version}
use Rattle.code_items.specs.declared.declared.Filter.{Filter}
use Rattle.code_items.specs.declared.desk.AreaState.{AreaState}
use Rattle.code_items.specs.declared.desk.AreaState.TheVariants.{Closed, Open, Unsure}
use Rattle.code_items.specs.declared.state.State.{State}
use Rattle.code_items.specs.declared.code.Proc.{Proc}
use Rattle.code_items.specs.declared.code.Map.{Map}
use Rattle.code_items.specs.declared.instr.Instr.{Instr}
use Rattle.code_items.specs.States.{may_be_unsure}
use Rattle.code_items.specs.Instrs.{is_instr}
use Rattle.code_parts.specs.Reading.{Reader, Judged}

abbrev pub AreBytes : List ℕ → Type 0
AreBytes bytes = (i : ℕ) → slice_index bytes i < 256

-- what is read at the front of bytes is read there too where more bytes follow
pub record IsSteady {A : Type 0} (r : Reader A) : Type 0 where
  pub stays : (bytes more rest : List ℕ) (x : A) → r bytes ≡ Some (x, rest) → r (bytes ++ more) ≡ Some (x, rest ++ more)

-- the reader reads things from their texts: those that are legal, and what is read has the second property
pub record ReadsTexts {X : Type 0} (r : Reader (Judged X)) (text : X → List ℕ)
    (IsLegal IsRead : X → Type 0) : Type 0 where
  -- what is written is read
  pub again : (x : X) (rest : List ℕ) → IsLegal x → r (text x ++ rest) ≡ Some (Ok x, rest)
  -- what is read was written
  pub takes : (bytes rest : List ℕ) (x : X) → AreBytes bytes → r bytes ≡ Some (Ok x, rest) → (bytes ≡ text x ++ rest)
      × IsRead x
  pub steady : IsSteady r

-- ---- which items have texts that are read: those that their types can hold

abbrev pub Any : {X : Type 0} → X → Type 0
Any x = Unit {0}

abbrev pub HasName : ArrayVec ℕ → Type 0
HasName name = length name.items ≤ 10

abbrev pub FieldFits : Field → Type 0
FieldFits f = HasName f.name

pub record TableFits (t : TableShape) : Type 0 where
  pub name : HasName t.name
  pub fields : AllByRecursion FieldFits t.fields

pub record IndexFits (x : IndexShape) : Type 0 where
  pub name : HasName x.name
  pub few : length x.key ≤ 8

abbrev pub ListFits : IndexList → Type 0
ListFits l = length l.indexes.items ≤ 7

abbrev pub IsLegalConstant : Value → Type 0
IsLegalConstant value = is_constant value ≡ true

pub record FilterFits (f : Filter) : Type 0 where
  pub short : f.length < 2 ^ 16
  pub few : length f.needs < 2 ^ 16

-- where nothing may be unsure, 255 is a table's number; else it is none
abbrev pub AreaFits : Version → AreaState → Type 0
AreaFits version Closed = Unit {0}
AreaFits version (Open a) = (a.table + 1 == 255 && may_be_unsure version) ≡ false
AreaFits version Unsure = may_be_unsure version ≡ true

pub record StateFits (version : Version) (slots : ℕ) (s : State) : Type 0 where
  pub ten : length s.desk.areas ≡ 10
  pub areas : AllByRecursion (AreaFits version) s.desk.areas
  pub known : length s.slots ≡ slots

pub record ProcedureFits (version : Version) (slots : ℕ) (p : Proc) : Type 0 where
  pub short : p.length < 2 ^ 16
  pub level : p.level ≤ 20
  pub entry : StateFits version slots p.entry
  pub exit : StateFits version slots p.exit

pub record MapFits (version : Version) (slots : ℕ) (m : Map) : Type 0 where
  pub place : m.place < 2 ^ 16
  pub state : StateFits version slots m.state

abbrev pub IsLegalInstr : Version → Instr → Type 0
IsLegalInstr version i = is_instr version i ≡ true
