-- Reading a code file from the front, with the first fault. An item's bytes are all there before the item is judged.
use Rattle.std.specs.Prelude.{◌≡◌, ℕ, zero, suc, List, [], ◌∷◌, ◌++◌, length, Bool, true, ◌&&◌, ◌==◌, nat_le}
use Rattle.std.specs.Prelude.{if◌then◌else◌, Some, None, Result, Ok, Err}
use Rattle.std.specs.Int.{w16, w32}
use Rattle.xvalue.specs.declared.value.Value.{Value}
use Rattle.shape.specs.declared.tables.TableShape.{TableShape}
use Rattle.shape.specs.declared.indexes.IndexShape.{IndexShape}
use Rattle.shape.specs.declared.lists.IndexList.{IndexList}
use Rattle.shape.specs.Tables.{is_next_table}
use Rattle.shape.specs.Indexes.{is_next_index}
use Rattle.shape.specs.Lists.{is_list}
use Rattle.code_items.specs.declared.declared.Version.{Version}
use Rattle.code_items.specs.declared.declared.Version.TheVariants.{One, Two}
use Rattle.code_items.specs.declared.declared.Filter.{Filter}
use Rattle.code_items.specs.declared.declared.Declared.{Declared}
use Rattle.code_items.specs.declared.code.Proc.{Proc}
use Rattle.code_items.specs.declared.code.Map.{Map}
use Rattle.code_items.specs.declared.code.Code.{Code}
use Rattle.code_items.specs.declared.instr.Instr.{Instr}
use Rattle.code_items.specs.Declarations.{is_filter}
use Rattle.code_items.specs.States.{is_state_of_start}
use Rattle.code_items.specs.Legal.{is_procedure, is_map, places_of, blocks_of, blocks_fill, maps_rise}
use Rattle.code_parts.specs.declared.flaw.Flaw.{Flaw}
use Rattle.code_parts.specs.declared.flaw.Flaw.TheVariants.{Limit as OfLimit, Operation as OfOperation}
use Rattle.code_parts.specs.declared.flaw.Flaw.TheVariants.{Shape as OfShape}
use Rattle.code_parts.specs.Reading.{Front, Reader, Judged, number_read_at}
use Rattle.code_parts.specs.Items.{table_read_at, index_at, list_at, constant_at, filter_at, procedure_read_at}
use Rattle.code_parts.specs.Items.{map_read_at}
use Rattle.code_parts.specs.Instructions.{instr_read_at}
use Rattle.xcode.specs.declared.fault.CodeFault.{CodeFault}
use Rattle.xcode.specs.declared.fault.CodeFault.TheVariants.{Magic, Version as OtherVersion, Short, Limit, Operation}
use Rattle.xcode.specs.declared.fault.CodeFault.TheVariants.{Shape, Extra, Memory}
use Rattle.xcode.specs.declared.header.Counts.{Counts}
use Rattle.xcode.specs.declared.header.Header.{Header}

-- What a function returned, seen by view, is what reading gives, unless memory ran out.
abbrev pub FileFails : {Y : Type 0} → CodeFault → Result Y CodeFault → Type 0
FileFails Magic read = read ≡ Err Magic
FileFails OtherVersion read = read ≡ Err OtherVersion
FileFails Short read = read ≡ Err Short
FileFails Limit read = read ≡ Err Limit
FileFails Operation read = read ≡ Err Operation
FileFails Shape read = read ≡ Err Shape
FileFails Extra read = read ≡ Err Extra
FileFails Memory read = Unit {0}

abbrev pub FileGives : {X Y : Type 0} → (X → Y) → Result X CodeFault → Result Y CodeFault → Type 0
FileGives view (Ok x) read = read ≡ Ok (view x)
FileGives view (Err e) read = FileFails e read

-- the same of a function that takes no memory
abbrev pub FileFinds : {X Y : Type 0} → (X → Y) → Result X CodeFault → Result Y CodeFault → Type 0
FileFinds view (Ok x) read = read ≡ Ok (view x)
FileFinds view (Err e) read = read ≡ Err e

-- a part of the file: a value and the bytes behind it, or the fault
abbrev pub FilePart : Type 0 → Type 0
FilePart A = List ℕ → Result (A × List ℕ) CodeFault

abbrev pub bind : {A B : Type 0} → Result A CodeFault → (A → Result B CodeFault) → Result B CodeFault
bind (Ok x) f = f x
bind (Err e) f = Err e

-- this fault, unless the test holds
abbrev pub checked : {A : Type 0} → CodeFault → Bool → A → Result A CodeFault
checked fault test x = if test then Ok x else Err fault

-- this fault where bytes are missing
abbrev pub there_or : {A : Type 0} → CodeFault → Front A → Result (A × List ℕ) CodeFault
there_or fault None = Err fault
there_or fault (Some x) = Ok x

abbrev pub flaw_fault : Flaw → CodeFault
flaw_fault OfLimit = Limit
flaw_fault OfOperation = Operation
flaw_fault OfShape = Shape

-- an item, or its fault
abbrev pub item_told : {A : Type 0} → Front (Judged A) → Result (A × List ℕ) CodeFault
item_told None = Err Short
item_told (Some (Ok x, rest)) = Ok (x, rest)
item_told (Some (Err flaw, rest)) = Err (flaw_fault flaw)

-- one part and, by what it says, another behind it
abbrev pub joint : {A B : Type 0} → FilePart A → (A → FilePart B) → FilePart (A × B)
joint r s bytes = bind (r bytes) (λ x. bind (s x.0 x.1) (λ y. Ok ((x.0, y.0), y.1)))

abbrev pub shaped : {A B : Type 0} → FilePart A → (A → B) → FilePart B
shaped r make bytes = bind (r bytes) (λ x. Ok (make x.0, x.1))

-- so many items behind earlier ones; each may stand behind those before it
unfoldable pub items_at : {A : Type 0} → Reader (Judged A) → (List A → A → Bool) → ℕ → List A → FilePart (List A)
items_at one follows zero earlier bytes = Ok (earlier, bytes)
items_at one follows (suc n) earlier bytes =
    bind (item_told (one bytes)) (λ x. bind (checked Shape (follows earlier x.0) x)
    (λ y. items_at one follows n (earlier ++ y.0 ∷ []) y.1))

-- ---- the header

abbrev pub within_limits : Counts → Bool
within_limits c =
    nat_le c.stack_bound 64 && nat_le c.slots 256 && nat_le c.tables 32 && nat_le c.indexes 64 && nat_le c.lists 64
    && nat_le c.constants 4096 && nat_le c.filters 64 && nat_le 1 c.procedures && nat_le c.procedures 256
    && nat_le c.maps 4096 && nat_le 1 c.instructions

-- a number of two bytes
unfoldable pub number_at_front : FilePart ℕ
number_at_front bytes = there_or Short (number_read_at w16 bytes)

abbrev pub counts_from : ℕ × (ℕ × (ℕ × (ℕ × (ℕ × (ℕ × (ℕ × (ℕ × (ℕ × ℕ)))))))) → Counts
counts_from (stack, (slots, (tables, (indexes, (lists, (constants, (filters, (procedures, (maps, instructions)))))))))
    = record {
      stack_bound = stack;
      slots = slots;
      tables = tables;
      indexes = indexes;
      lists = lists;
      constants = constants;
      filters = filters;
      procedures = procedures;
      maps = maps;
      instructions = instructions;
    }

-- one number more in front
abbrev pub number_and : {A : Type 0} → FilePart A → FilePart (ℕ × A)
number_and part = joint number_at_front (λ _. part)

unfoldable pub counts_at : FilePart Counts
counts_at = shaped (number_and (number_and
    (number_and (number_and (number_and
    (number_and (number_and (number_and (number_and number_at_front))))))))) counts_from

abbrev pub version_from : ℕ → Result Version CodeFault
version_from n = if n == 1 then Ok One else (if n == 2 then Ok Two else Err OtherVersion)

-- `XBCF`
unfoldable pub magic_at : FilePart ℕ
magic_at bytes = bind (there_or Magic (number_read_at w32 bytes)) (λ x. checked Magic (x.0 == 0x46434258) x)

unfoldable pub version_at : FilePart Version
version_at bytes =
    bind (there_or OtherVersion (number_read_at w16 bytes))
    (λ x. bind (version_from x.0) (λ version. Ok (version, x.1)))

unfoldable pub limited_at : FilePart Counts
limited_at bytes = bind (counts_at bytes) (λ x. checked Limit (within_limits x.0) x)

-- `XBCF`, the version, and ten counts
unfoldable pub header_at : FilePart Header
header_at =
    shaped (joint magic_at (λ _. joint version_at (λ _. limited_at)))
    (λ (magic, (version, counts)). record { version = version; counts = counts })

-- ---- what is declared

abbrev pub always : {A : Type 0} → List A → A → Bool
always earlier x = true

abbrev pub list_follows : List IndexShape → List IndexList → IndexList → Bool
list_follows indexes earlier l = is_list indexes l

abbrev pub filter_follows : ℕ → ℕ → List Filter → Filter → Bool
filter_follows tables slots earlier f = is_filter tables slots f

abbrev pub declared_from : Header → List TableShape × (List IndexShape × (List IndexList × (List Value × List Filter)))
    → Declared
declared_from h (tables, (indexes, (lists, (constants, filters)))) = record {
  version = h.version;
  stack_bound = h.counts.stack_bound;
  slots = h.counts.slots;
  shape = record { tables = tables; indexes = indexes };
  lists = lists;
  constants = constants;
  filters = filters;
}

unfoldable pub declared_at : Header → FilePart Declared
declared_at h = shaped (
    joint (items_at table_read_at is_next_table h.counts.tables []) (λ tables.
    joint (items_at index_at (is_next_index tables) h.counts.indexes []) (λ indexes.
    joint (items_at list_at (list_follows indexes) h.counts.lists []) (λ lists.
    joint (items_at constant_at always h.counts.constants []) (λ constants.
    items_at filter_at (filter_follows (length tables) h.counts.slots) h.counts.filters []))))) (declared_from h)

-- ---- procedures, maps and instructions

-- the main procedure is entered with nothing known
abbrev pub procedure_follows : Declared → List Proc → Proc → Bool
procedure_follows d [] p = is_procedure d p && is_state_of_start p.entry
procedure_follows d (q ∷ qs) p = is_procedure d p

abbrev pub map_follows : Declared → List Map → Map → Bool
map_follows d earlier m = is_map d m

abbrev pub code_from : Declared → List Proc × (List Map × List Instr) → Code
code_from d (procedures, (maps, instructions)) =
    record { declared = d; procedures = procedures; maps = maps; instructions = instructions }

unfoldable pub body_at : Counts → Declared → FilePart Code
body_at c d = shaped (
    joint (items_at (procedure_read_at d.version d.slots) (procedure_follows d) c.procedures []) (λ procedures.
    joint (items_at (map_read_at d.version d.slots) (map_follows d) c.maps []) (λ maps.
    items_at (instr_read_at d.version) always c.instructions []))) (code_from d)

-- ---- the whole file

-- the blocks of at most 256 procedures and of the filters have an instruction at least and fill the code, and maps
-- stand at rising places of procedures' blocks
abbrev pub is_laid : Code → Bool
is_laid code = nat_le (length code.procedures) 256
    && blocks_fill (length code.instructions) (blocks_of code.procedures code.declared.filters)
    && maps_rise 0 (places_of code.procedures) code.maps

unfoldable pub whole_at : FilePart Code
whole_at = shaped (joint header_at (λ h. joint (declared_at h) (body_at h.counts))) (λ (header, (declared, code)). code)

-- all of the bytes
unfoldable pub code_at : List ℕ → Result Code CodeFault
code_at bytes =
    bind (whole_at bytes) (λ x. bind (checked Shape (is_laid x.0) x) (λ y. checked Extra (length y.1 == 0) y.0))
