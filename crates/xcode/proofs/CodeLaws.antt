-- Laws of what is declared, of procedures, maps and instructions, and of whole codes.
use Rattle.std.proofs.Common.{◌≡◌, ℕ, List, ◌++◌, length, refl, sym, ap, subst, ◌∙◌}
use Rattle.xvalue.specs.declared.value.Value.{Value}
use Rattle.shape.specs.declared.tables.TableShape.{TableShape}
use Rattle.shape.specs.declared.indexes.IndexShape.{IndexShape}
use Rattle.shape.specs.declared.lists.IndexList.{IndexList}
use Rattle.shape.specs.Tables.{is_next_table}
use Rattle.shape.specs.Indexes.{is_next_index}
use Rattle.code_items.specs.declared.declared.Version.{Version}
use Rattle.code_items.specs.declared.declared.Filter.{Filter}
use Rattle.code_items.specs.declared.declared.Declared.{Declared}
use Rattle.code_items.specs.declared.code.Proc.{Proc}
use Rattle.code_items.specs.declared.code.Map.{Map}
use Rattle.code_items.specs.declared.code.Code.{Code}
use Rattle.code_items.specs.declared.instr.Instr.{Instr}
use Rattle.code_parts.specs.Laws.{ReadsTexts, Any, TableFits, IndexFits, ListFits, IsLegalConstant, FilterFits}
use Rattle.code_parts.specs.Laws.{ProcedureFits, MapFits, IsLegalInstr}
use Rattle.code_parts.specs.Texts.{table_text, index_text, list_text, constant_text, filter_text, procedure_text}
use Rattle.code_parts.specs.Texts.{map_text}
use Rattle.code_parts.specs.Items.{table_read_at, index_at, list_at, constant_at, filter_at, procedure_read_at}
use Rattle.code_parts.specs.Items.{map_read_at}
use Rattle.code_parts.specs.Instructions.{instr_read_at, instr_text}
use Rattle.xcode.specs.declared.header.Counts.{Counts}
use Rattle.xcode.specs.declared.header.Header.{Header}
use Rattle.xcode.specs.Decoding.{always, list_follows, filter_follows, declared_from, declared_at, procedure_follows}
use Rattle.xcode.specs.Decoding.{map_follows, code_from, body_at, whole_at}
use Rattle.xcode.specs.CodeFile.{header_text, header_of, counts_of, declared_text, body_text, code_text}
use Rattle.xcode.specs.Laws.{IsSpelled}
use Rattle.xcode.proofs.PartLaws.{joint_spelled, shaped_spelled, items_spelled, AreItems}
use Rattle.xcode.proofs.WholeLaws.{NumberLaws, HeaderFits, CountsRead, header_spelled}

-- the lower crate's laws of items
pub record ItemLaws : Type 0 where
  pub numbers : NumberLaws
  pub tables : ReadsTexts table_read_at table_text TableFits Any
  pub indexes : ReadsTexts index_at index_text IndexFits Any
  pub lists : ReadsTexts list_at list_text ListFits Any
  pub constants : ReadsTexts constant_at constant_text IsLegalConstant IsLegalConstant
  pub filters : ReadsTexts filter_at filter_text FilterFits Any
  pub procedures : (version : Version) (slots : ℕ)
      → ReadsTexts (procedure_read_at version slots) procedure_text (ProcedureFits version slots) Any
  pub maps : (version : Version) (slots : ℕ)
      → ReadsTexts (map_read_at version slots) map_text (MapFits version slots) Any
  pub instructions : (version : Version)
      → ReadsTexts (instr_read_at version) instr_text (IsLegalInstr version) (IsLegalInstr version)

-- ---- what is declared

abbrev Lists : Type 0
Lists = List TableShape × (List IndexShape × (List IndexList × (List Value × List Filter)))

abbrev lists_of : Declared → Lists
lists_of d = (d.shape.tables, (d.shape.indexes, (d.lists, (d.constants, d.filters))))

abbrev pub Sections : Header → Lists → (TableShape → Type 0) → (IndexShape → Type 0) → (IndexList → Type 0)
    → (Filter → Type 0) → Type 0
Sections h (tables, (indexes, (lists, (constants, filters)))) T I L F =
    AreItems h.counts.tables is_next_table T tables
    × (AreItems h.counts.indexes (is_next_index tables) I indexes
    × (AreItems h.counts.lists (list_follows indexes) L lists
    × (AreItems h.counts.constants always IsLegalConstant constants
    × AreItems h.counts.filters (filter_follows (length tables) h.counts.slots) F filters)))

abbrev pub DeclaredFits : Header → Declared → Type 0
DeclaredFits h d = (declared_from h (lists_of d) ≡ d) × Sections h (lists_of d) TableFits IndexFits ListFits FilterFits

abbrev pub DeclaredRead : Header → Declared → Type 0
DeclaredRead h d = (declared_from h (lists_of d) ≡ d) × Sections h (lists_of d) Any Any Any Any

declared_spelled : ItemLaws → (h : Header) → IsSpelled (declared_at h) declared_text (DeclaredFits h) (DeclaredRead h)
unfolding declared_at
declared_spelled laws h = shaped_spelled (
    joint_spelled (items_spelled laws.tables is_next_table h.counts.tables) (λ tables.
    joint_spelled (items_spelled laws.indexes (is_next_index tables) h.counts.indexes) (λ indexes.
    joint_spelled (items_spelled laws.lists (list_follows indexes) h.counts.lists) (λ lists.
    joint_spelled (items_spelled laws.constants always h.counts.constants) (λ constants.
    items_spelled laws.filters (filter_follows (length tables) h.counts.slots) h.counts.filters)))))
    (declared_from h) declared_text (DeclaredFits h) (DeclaredRead h)
    (λ x e. (refl, (refl, e)))
    (λ d e. (lists_of d, e.1, e.0, refl))

-- ---- procedures, maps and instructions

abbrev Body : Type 0
Body = List Proc × (List Map × List Instr)

abbrev body_of : Code → Body
body_of code = (code.procedures, (code.maps, code.instructions))

abbrev pub BodySections : Counts → Declared → Body → (Proc → Type 0) → (Map → Type 0) → Type 0
BodySections c d (procedures, (maps, instructions)) P M =
    AreItems c.procedures (procedure_follows d) P procedures
    × (AreItems c.maps (map_follows d) M maps
    × AreItems c.instructions always (IsLegalInstr d.version) instructions)

abbrev pub BodyFits : Counts → Declared → Code → Type 0
BodyFits c d code = (code_from d (body_of code) ≡ code)
    × BodySections c d (body_of code) (ProcedureFits d.version d.slots) (MapFits d.version d.slots)

abbrev pub BodyRead : Counts → Declared → Code → Type 0
BodyRead c d code = (code_from d (body_of code) ≡ code) × BodySections c d (body_of code) Any Any

body_spelled : ItemLaws → (c : Counts) (d : Declared) → IsSpelled (body_at c d) body_text (BodyFits c d) (BodyRead c d)
unfolding body_at
body_spelled laws c d = shaped_spelled (
    joint_spelled (items_spelled (laws.procedures d.version d.slots) (procedure_follows d) c.procedures) (λ procedures.
    joint_spelled (items_spelled (laws.maps d.version d.slots) (map_follows d) c.maps) (λ maps.
    items_spelled (laws.instructions d.version) always c.instructions)))
    (code_from d) body_text (BodyFits c d) (BodyRead c d)
    (λ x e. (refl, (refl, e)))
    (λ code e. (body_of code, e.1, e.0, refl))

-- ---- whole codes

pub record WholeFits (code : Code) : Type 0 where
  pub header : HeaderFits (header_of code)
  pub declared : DeclaredFits (header_of code) code.declared
  pub body : BodyFits (counts_of code) code.declared code

pub record WholeRead (code : Code) : Type 0 where
  pub header : CountsRead (counts_of code)
  pub declared : DeclaredRead (header_of code) code.declared
  pub body : BodyRead (counts_of code) code.declared code

headers : (v v' : Version) (a a' b b' c c' d d' e e' f f' g g' h h' i i' j j' : ℕ) → v ≡ v' → a ≡ a' → b ≡ b' → c ≡ c'
    → d ≡ d' → e ≡ e' → f ≡ f' → g ≡ g' → h ≡ h' → i ≡ i' → j ≡ j'
    → (λ (v : Version) (a b c d e f g h i j : ℕ). let made : Header = record {
      version = v;
      counts = record {
        stack_bound = a;
        slots = b;
        tables = c;
        indexes = d;
        lists = e;
        constants = f;
        filters = g;
        procedures = h;
        maps = i;
        instructions = j;
      };
    } in made) v a b c d e f g h i j
    ≡ record {
      version = v';
      counts = record {
        stack_bound = a';
        slots = b';
        tables = c';
        indexes = d';
        lists = e';
        constants = f';
        filters = g';
        procedures = h';
        maps = i';
        instructions = j';
      };
    }
headers v v' a a' b b' c c' d d' e e' f f' g g' h h' i i' j j' p0 p1 p2 p3 p4 p5 p6 p7 p8 p9 p10 =
    rw (p0, p1, p2, p3, p4, p5, p6, p7, p8, p9, p10) refl

header_is : (h : Header) (code : Code) → DeclaredRead h code.declared → BodyRead h.counts code.declared code
    → header_of code ≡ h
header_is h code (declared, (tables, (indexes, (lists, (constants, filters)))))
    (body, (procedures, (maps, instructions))) =
    headers code.declared.version h.version
    code.declared.stack_bound h.counts.stack_bound
    code.declared.slots h.counts.slots
    (length code.declared.shape.tables) h.counts.tables
    (length code.declared.shape.indexes) h.counts.indexes
    (length code.declared.lists) h.counts.lists
    (length code.declared.constants) h.counts.constants
    (length code.declared.filters) h.counts.filters
    (length code.procedures) h.counts.procedures
    (length code.maps) h.counts.maps
    (length code.instructions) h.counts.instructions
    (sym (ap (λ (x : Declared). x.version) declared)) (sym (ap (λ (x : Declared). x.stack_bound) declared))
    (sym (ap (λ (x : Declared). x.slots) declared))
    tables.0 indexes.0 lists.0 constants.0 filters.0 procedures.0 maps.0 instructions.0

whole_was : (h : Header) (d : Declared) (code : Code) → CountsRead h.counts → DeclaredRead h d
    → BodyRead h.counts d code → (header_text h ++ (declared_text d ++ body_text code) ≡ code_text code)
    × WholeRead code
unfolding code_text
whole_was h d code within dr br =
    let same_d : d ≡ code.declared = ap (λ (c : Code). c.declared) br.0 in
    let dr' : DeclaredRead h code.declared = subst (λ (x : Declared). DeclaredRead h x) same_d dr in
    let br' : BodyRead h.counts code.declared code = subst (λ (x : Declared). BodyRead h.counts x code) same_d br in
    let same_h : h ≡ header_of code = sym (header_is h code dr' br') in (
      text h d code same_h same_d,
      record {
        header = subst (λ (x : Header). CountsRead x.counts) same_h within;
        declared = subst (λ (x : Header). DeclaredRead x code.declared) same_h dr';
        body = subst (λ (x : Header). BodyRead x.counts code.declared code) same_h br';
      },
    )
  where
    text : (h : Header) (d : Declared) (code : Code) → h ≡ header_of code → d ≡ code.declared
        → header_text h ++ (declared_text d ++ body_text code) ≡ code_text code
    text h d code e f = ap (λ (x : Header). header_text x ++ (declared_text d ++ body_text code)) e
        ∙ ap (λ (x : Declared). header_text (header_of code) ++ (declared_text x ++ body_text code)) f

pub whole_spelled : ItemLaws → IsSpelled whole_at code_text WholeFits WholeRead
unfolding whole_at code_text
whole_spelled laws = shaped_spelled (joint_spelled (header_spelled laws.numbers)
    (λ h. joint_spelled (declared_spelled laws h) (body_spelled laws h.counts))) _ code_text WholeFits WholeRead
    (λ (header, (declared, code)) (counts, (lists, body)). whole_was header declared code counts lists body)
    (λ code f. ((header_of code, (code.declared, code)), (f.header, (f.declared, f.body)), refl, refl))
