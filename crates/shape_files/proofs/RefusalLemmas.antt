-- Why a line isn't taken, from why its parts aren't.
use Rattle.std.proofs.Common.{◌≡◌, ◌<◌, ◌≤◌, ℕ, true, false, not, List, length}
use Rattle.std.proofs.Common.{inl, inr, sym, ap, subst, arith}
use Rattle.std.specs.Prelude.{◌⊎◌, Some, Result, Ok, Err, IfErr}
use Rattle.std.specs.Str.{IsUtf8}
use Rattle.std.proofs.lemmas.Bool.{and_parts}
use Rattle.dbf_file.specs.declared.field.Field.{Field}
use Rattle.file_access.specs.Holding.{Holds}
use Rattle.shape.specs.declared.indexes.IndexShape.{IndexShape}
use Rattle.shape.specs.declared.tables.TableShape.{TableShape}
use Rattle.shape.specs.declared.whole.Shape.{Shape}
use Rattle.shape.specs.Indexes.{is_next_index}
use Rattle.shape.specs.Names.{is_file_name}
use Rattle.shape.specs.Tables.{is_next_table}
use Rattle.shape_files.specs.declared.refusal.LineFault.{LineFault}
use Rattle.shape_files.specs.declared.refusal.LineFault.TheVariants as fault
use Rattle.shape_files.specs.declared.refusal.LineRefusal.{LineRefusal}
use Rattle.shape_files.specs.declared.refusal.LineRefusal.TheVariants as line
use Rattle.shape_files.specs.Keys.{SpellsNoKey}
use Rattle.shape_files.specs.Lines.{Index, Table}
use Rattle.shape_files.specs.Refusals.{FieldsRefusalIs, HoldsNoTable, IndexRefusalIs, LacksTable, LineRefusalIs}
use Rattle.shape_files.specs.Refusals.{OtherFile}
use Rattle.shape_files.specs.Shapes.{HasFields, NamesTable, SaysIndex, file_name, is_new_index_name}
use Rattle.shape_files.specs.Shapes.{is_new_table_name, is_table_named}

pub for_err : {A E : Type 0} (result : Result A E) (P Q : E → Type 0) → ((e : E) → P e → Q e) → IfErr result P
    → IfErr result Q
for_err (Ok x) P Q f p = tt
for_err (Err e) P Q f p = f e p

-- ---- tables

pub no_fields : (holds : Holds) (name bytes : List ℕ) (a b : ℕ) (why : LineRefusal)
    → holds (file_name name) (Some bytes)
    → (why ≡ line.Memory) ⊎ ((why ≡ line.Fault fault.Table) × HoldsNoTable bytes) → FieldsRefusalIs holds name a b why
no_fields holds name bytes a b (line.Fault f) held (inl e) = absurd (cc)
no_fields holds name bytes a b (line.Fault f) held (inr e) = (cc, inr (OtherFile bytes held e.1))
no_fields holds name bytes a b (line.Disk table) held (inl e) = absurd (cc)
no_fields holds name bytes a b (line.Disk table) held (inr e) = absurd (cc)
no_fields holds name bytes a b line.Memory held e = tt

no_table : (holds : Holds) (name : List ℕ) → IsUtf8 name × (length name ≤ 8)
    → ((¬ (IsUtf8 name)) ⊎ (8 < length name)) ⊎ LacksTable (holds (file_name name))
    → LacksTable (holds (file_name name))
no_table holds name text (inl (inl none)) = absurd (none text.0)
no_table holds name text (inl (inr long)) = absurd (omega (arith, long, text.1))
no_table holds name text (inr none) = none

-- the fields of a table that a line says aren't read
pub fields_told : (holds : Holds) (s : Shape) (name : List ℕ) (a b : ℕ) (why : LineRefusal)
    → ((n : List ℕ) → is_file_name n ≡ true → IsUtf8 n × (length n ≤ 8))
    → is_new_table_name s.tables name ≡ true → length s.tables < 32 → FieldsRefusalIs holds name a b why
    → LineRefusalIs holds s (Table name) a b why
fields_told holds s name a b (line.Fault f) texts new room t =
    let said = (and_parts (is_file_name name) (not (is_table_named s.tables name)) new).0 in
    subst (λ (x : LineFault). LineRefusalIs holds s (Table name) a b (line.Fault x)) (sym t.0)
    (new, room, inl (no_table holds name (texts name said) t.1))
fields_told holds s name a b (line.Disk table) texts new room t = (ap Table (sym t.0), t.1)
fields_told holds s name a b line.Memory texts new room t = tt

-- a table that a line says can't be added
pub table_told : (holds : Holds) (s : Shape) (name : List ℕ) (t : TableShape) (a b : ℕ) (why : LineRefusal)
    → is_new_table_name s.tables name ≡ true → length s.tables < 32 → t.name.items ≡ name
    → HasFields (holds (file_name name)) t.fields
    → (why ≡ line.Memory) ⊎ ((why ≡ line.Fault fault.Table) × (is_next_table s.tables t ≡ false))
    → LineRefusalIs holds s (Table name) a b why
table_told holds s name t a b why new room named file (inl e) =
    subst (λ (w : LineRefusal). LineRefusalIs holds s (Table name) a b w) (sym e) tt
table_told holds s name t a b why new room named file (inr e) =
    subst (λ (w : LineRefusal). LineRefusalIs holds s (Table name) a b w) (sym e.0)
    (new, room, inr (record { table = t; named = named; file = file; unfit = e.1 }))

-- ---- indexes

-- the key of an index that a line says isn't read
pub key_told : (s : Shape) (name table key : List ℕ) (number : ℕ) (fields : List Field) (why : LineRefusal)
    → is_new_index_name s.indexes name ≡ true → NamesTable s.tables number table fields
    → (why ≡ line.Memory) ⊎ ((why ≡ line.Fault fault.Key) × SpellsNoKey fields key)
    → IndexRefusalIs s name table key why
key_told s name table key number fields why new owner (inl e) =
    subst (λ (w : LineRefusal). IndexRefusalIs s name table key w) (sym e) tt
key_told s name table key number fields why new owner (inr e) =
    subst (λ (w : LineRefusal). IndexRefusalIs s name table key w) (sym e.0)
    (new, inl (record { number = number; fields = fields; owner = owner; none = e.1 }))

-- an index that a line says can't be added
pub index_told : (s : Shape) (name table key : List ℕ) (x : IndexShape) (why : LineRefusal)
    → is_new_index_name s.indexes name ≡ true → SaysIndex s name table key x
    → (why ≡ line.Memory) ⊎ ((why ≡ line.Fault fault.Key) × (is_next_index s.tables s.indexes x ≡ false))
    ⊎ ((why ≡ line.Fault fault.Limit) × (64 ≤ length s.indexes) × (is_next_index s.tables s.indexes x ≡ true))
    → IndexRefusalIs s name table key why
index_told s name table key x why new says (inl e) =
    subst (λ (w : LineRefusal). IndexRefusalIs s name table key w) (sym e) tt
index_told s name table key x why new says (inr (inl e)) =
    subst (λ (w : LineRefusal). IndexRefusalIs s name table key w) (sym e.0)
    (new, inr (record { index = x; says = says; unfit = e.1 }))
index_told s name table key x why new says (inr (inr e)) =
    subst (λ (w : LineRefusal). IndexRefusalIs s name table key w) (sym e.0) (x, says, e.2, e.1)

pub index_line : (holds : Holds) (s : Shape) (name table key : List ℕ) (a b : ℕ) (why : LineRefusal)
    → IndexRefusalIs s name table key why → LineRefusalIs holds s (Index name table key) a b why
index_line holds s name table key a b (line.Fault f) t = t
index_line holds s name table key a b (line.Disk file) t = absurd t
index_line holds s name table key a b line.Memory t = tt
