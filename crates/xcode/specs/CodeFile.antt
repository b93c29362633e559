-- The code file: the bytes of each code.
use Rattle.std.specs.Prelude.{◌≡◌, ℕ, List, [], ◌∷◌, ◌++◌, length, true}
use Rattle.std.specs.List.{flat_map}
use Rattle.code_items.specs.declared.declared.Version.{Version}
use Rattle.code_items.specs.declared.declared.Version.TheVariants.{One, Two}
use Rattle.code_items.specs.declared.declared.Declared.{Declared}
use Rattle.code_items.specs.declared.code.Code.{Code}
use Rattle.code_items.specs.Legal.{is_code}
use Rattle.code_parts.specs.Texts.{two, table_text, index_text, list_text, constant_text, filter_text, procedure_text}
use Rattle.code_parts.specs.Texts.{map_text}
use Rattle.code_parts.specs.Instructions.{instr_text}
use Rattle.xcode.specs.declared.header.Counts.{Counts}
use Rattle.xcode.specs.declared.header.Header.{Header}

-- `XBCF`
abbrev pub magic : List ℕ
magic = 0x58 ∷ 0x42 ∷ 0x43 ∷ 0x46 ∷ []

abbrev pub version_number : Version → ℕ
version_number One = 1
version_number Two = 2

-- how much there is of everything, two bytes each
abbrev pub counts_text : Counts → List ℕ
counts_text c = two c.stack_bound
    ++ (two c.slots ++ (two c.tables
    ++ (two c.indexes ++ (two c.lists
    ++ (two c.constants ++ (two c.filters ++ (two c.procedures ++ (two c.maps ++ two c.instructions))))))))

abbrev pub header_text : Header → List ℕ
header_text h = magic ++ (two (version_number h.version) ++ counts_text h.counts)

abbrev pub counts_of : Code → Counts
counts_of code = record {
  stack_bound = code.declared.stack_bound;
  slots = code.declared.slots;
  tables = length code.declared.shape.tables;
  indexes = length code.declared.shape.indexes;
  lists = length code.declared.lists;
  constants = length code.declared.constants;
  filters = length code.declared.filters;
  procedures = length code.procedures;
  maps = length code.maps;
  instructions = length code.instructions;
}

abbrev pub header_of : Code → Header
header_of code = record { version = code.declared.version; counts = counts_of code }

-- what is declared, in its order
abbrev pub declared_text : Declared → List ℕ
declared_text d =
    flat_map table_text d.shape.tables
    ++ (flat_map index_text d.shape.indexes
    ++ (flat_map list_text d.lists
    ++ (flat_map constant_text d.constants
    ++ flat_map filter_text d.filters)))

-- procedures, maps and instructions
abbrev pub body_text : Code → List ℕ
body_text code =
    flat_map procedure_text code.procedures ++ (flat_map map_text code.maps ++ flat_map instr_text code.instructions)

-- the whole file
unfoldable pub code_text : Code → List ℕ
code_text code = header_text (header_of code) ++ (declared_text code.declared ++ body_text code)

-- the bytes are the code's file
pub record CodeText (bytes : List ℕ) (code : Code) : Type 0 where
  pub legal : is_code code ≡ true
  pub spelled : bytes ≡ code_text code
