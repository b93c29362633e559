-- What the command files of a folder say of its indexes, line by line.
use Rattle.std.specs.Prelude.{ℕ, ◌+◌, ◌-◌, ◌==◌, ◌&&◌, ◌||◌, nat_le, nat_lt, Bool, true, false, not, List, []}
use Rattle.std.specs.Prelude.{◌∷◌, ◌++◌, Option, Some, None, length, map, take, codes, option_map, if◌then◌else◌}
use Rattle.std.specs.List.{list_any}
use Rattle.std.specs.Option.{is_some}
use Rattle.std.specs.Str.{bytes_eq, str_eq_ignore_ascii_case}
use Rattle.prg_expr.specs.declared.fault.ParseFaultKind.{ParseFaultKind}
use Rattle.prg_expr.specs.declared.fault.ParseFaultKind.TheVariants as kind
use Rattle.prg_expr.specs.declared.tree.BinaryOperator.TheVariants.{Plus}
use Rattle.prg_expr.specs.Faults.{least_of}
use Rattle.prg_expr.specs.Functions.{is_cut}
use Rattle.prg_expr.specs.Lexicon.{spot_word, spot_fault}
use Rattle.prg_expr.specs.Scanning.{scan}
use Rattle.prg_expr.specs.Word.{Word}
use Rattle.prg_expr.specs.Word as word
use Rattle.prg_line.specs.Alone.{role_at}
use Rattle.prg_line.specs.declared.role.Role.{Role}
use Rattle.prg_line.specs.declared.role.Role.TheVariants as role
use Rattle.prg_parser.specs.Lines.{Joined, joined_lines}
use Rattle.folder_shapes.specs.declared.joining.ProgramLine.{ProgramLine}
use Rattle.folder_shapes.specs.declared.mention.Mention.{Mention}
use Rattle.folder_shapes.specs.declared.mention.WrittenKey.{WrittenKey}
use Rattle.folder_shapes.specs.declared.reader.InUse.{InUse}
use Rattle.folder_shapes.specs.declared.reader.Said.{Said}
use Rattle.folder_shapes.specs.declared.reader.Said.TheVariants as said

abbrev pub as_joined : ProgramLine → Joined
as_joined line = record { first = line.first; text = line.text.items }

-- ---- the words of a line

-- Words are looked at that have no fault, or none but that of macros.
abbrev pub is_readable : Option ParseFaultKind → Bool
is_readable None = true
is_readable (Some kind.Macro) = true
is_readable (Some k) = false

-- the words of a line of at most 1,024 bytes, if they are looked at
unfoldable pub line_words : List ℕ → Option (List Word)
line_words text = if nat_lt 1024 (length text) then None
    else if is_readable (least_of None (map spot_fault (scan text))) then Some (map spot_word (scan text))
    else None

-- ---- the table in use

-- the table that a line chose, and how many blocks began after it and aren't ended
pub record Used : Type 0 where
  pub table : List ℕ
  pub blocks : ℕ

abbrev pub in_use : InUse → Used
in_use u = record { table = u.table.items; blocks = u.blocks }

-- a block begins within at most 31 others
abbrev pub in_block : Used → Option Used
in_block u = if nat_le 32 u.blocks then None else Some (record { table = u.table; blocks = u.blocks + 1 })

-- another branch of the block, or its end: the table isn't known where it was chosen within the branch before
abbrev pub branched : Used → Option Used
branched u = if u.blocks == 0 then None else Some u

abbrev pub out_of_block : Used → Option Used
out_of_block u = if u.blocks == 0 then None else Some (record { table = u.table; blocks = u.blocks - 1 })

abbrev pub by_role : Role → Used → Option Used
by_role role.Nothing u = Some u
by_role role.Plain u = Some u
by_role role.Leap u = Some u
by_role role.Procedure u = None
by_role role.If u = in_block u
by_role role.DoCase u = in_block u
by_role role.DoWhile u = in_block u
by_role role.Scan u = in_block u
by_role role.Else u = branched u
by_role role.Case u = branched u
by_role role.Otherwise u = branched u
by_role role.EndIf u = out_of_block u
by_role role.EndCase u = out_of_block u
by_role role.EndDo u = out_of_block u
by_role role.EndScan u = out_of_block u

abbrev pub after_role : Role → Option Used → Option Used
after_role r None = None
after_role r (Some u) = by_role r u

abbrev pub chosen_table : List ℕ → Option Used
chosen_table name = Some (record { table = take 10 name; blocks = 0 })

-- SELECT with one letter chooses a work area, whatever table it holds.
abbrev pub selected : List ℕ → Option Used
selected name = if nat_lt (length name) 2 then None else chosen_table name

abbrev pub table_of_use : List Word → Option Used
table_of_use (word.Name table ∷ ws) = chosen_table table
table_of_use ws = None

abbrev pub selected_table : List Word → Option Used
selected_table (word.Name area ∷ ws) = selected area
selected_table ws = None

-- USE with a table and SELECT with a table's name choose it; after other forms of USE, SELECT and CLOSE none is known.
unfoldable pub used_by_first : List ℕ → List Word → Option Used → Option Used
used_by_first first ws u =
    if is_cut first (codes "USE") then table_of_use ws
    else if is_cut first (codes "SELECT") then selected_table ws
    else if is_cut first (codes "CLOSE") then None
    else u

unfoldable pub by_words : List Word → Option Used → Option Used
by_words (word.Name first ∷ ws) u = used_by_first first ws u
by_words ws u = u

abbrev pub used_by_line : List ℕ → Option (List Word) → Option Used → Option Used
used_by_line text None u = None
used_by_line text (Some ws) u = by_words ws (after_role (role_at text) u)

-- the table in use after a line; none after one whose words aren't looked at
abbrev pub used_after : List ℕ → Option Used → Option Used
used_after text u = used_by_line text (line_words text) u

-- ---- the spelling of a key, up to TO and the index

-- the index after TO, if the words begin with both
unfoldable pub at_to : List Word → Option (List ℕ)
at_to (word.Name to ∷ word.Name index ∷ ws) = if is_cut to (codes "TO") then Some (take 10 index) else None
at_to ws = None

abbrev pub or_else : Option (List ℕ) → Option (List ℕ) → Option (List ℕ)
or_else None other = other
or_else (Some index) other = Some index

unfoldable pub made_index : List Word → Option (List ℕ)
made_index [] = None
made_index (w ∷ ws) = or_else (at_to (w ∷ ws)) (made_index ws)

abbrev pub is_name_word : Word → Bool
is_name_word (word.Name s) = true
is_name_word w = false

-- a word that is no name, by a byte; those that no key of a declaration has share one
abbrev pub mark : Word → ℕ
mark word.Open = 40
mark word.Close = 41
mark word.Comma = 44
mark (word.Sign Plus) = 43
mark w = 35

-- a name after another one has a blank before it
abbrev pub spelled_word : Bool → Word → List ℕ
spelled_word after_name (word.Name s) = (if after_name then 32 ∷ [] else []) ++ take 10 s
spelled_word after_name w = mark w ∷ []

unfoldable pub spelled : Bool → List Word → List ℕ
spelled after_name [] = []
spelled after_name (w ∷ ws) = if is_some (at_to (w ∷ ws)) then []
    else spelled_word after_name w ++ spelled (is_name_word w) ws

-- ---- what a line says of indexes

pub data SaidOfIndexes : Type 0 where
  -- nothing
  Nothing : SaidOfIndexes
  -- it makes an index, with a key spelled so
  Makes : List ℕ → List ℕ → SaidOfIndexes
  -- it opens these
  Opens : List (List ℕ) → SaidOfIndexes

abbrev pub says_of : Said → SaidOfIndexes
says_of said.Nothing = Nothing
says_of (said.Makes index key) = Makes index.items key.items
says_of (said.Opens names) = Opens (map (λ name. name.items) names.items)

abbrev pub made : List ℕ → Option (List ℕ) → SaidOfIndexes
made key None = Nothing
made key (Some index) = Makes index key

-- after INDEX
unfoldable pub made_by : List Word → SaidOfIndexes
made_by (word.Name on ∷ ws) = if is_cut on (codes "ON") then made (spelled false ws) (made_index ws) else Nothing
made_by ws = Nothing

-- names with commas between them
unfoldable pub names_at : List Word → List (List ℕ)
names_at (word.Name name ∷ word.Comma ∷ ws) = take 10 name ∷ names_at ws
names_at (word.Name name ∷ ws) = take 10 name ∷ []
names_at ws = []

-- one command opens at most seven indexes
abbrev pub opened_at : List Word → List (List ℕ)
opened_at ws = take 7 (names_at ws)

-- after USE and a table: the names that follow INDEX
unfoldable pub used_by : List Word → SaidOfIndexes
used_by [] = Nothing
used_by (word.Name s ∷ ws) = if is_cut s (codes "INDEX") then Opens (opened_at ws) else used_by ws
used_by (w ∷ ws) = used_by ws

-- after SET
unfoldable pub set_by : List Word → SaidOfIndexes
set_by (word.Name index ∷ word.Name to ∷ ws) =
    if is_cut index (codes "INDEX") && is_cut to (codes "TO") then Opens (opened_at ws) else Nothing
set_by ws = Nothing

abbrev pub used_behind : List Word → SaidOfIndexes
used_behind [] = Nothing
used_behind (table ∷ ws) = used_by ws

unfoldable pub said_by_first : List ℕ → List Word → SaidOfIndexes
said_by_first first ws =
    if is_cut first (codes "INDEX") then made_by ws
    else if is_cut first (codes "SET") then set_by ws
    else if is_cut first (codes "USE") then used_behind ws
    else Nothing

unfoldable pub said_in : List Word → SaidOfIndexes
said_in (word.Name first ∷ ws) = said_by_first first ws
said_in ws = Nothing

abbrev pub said_if : Option (List Word) → SaidOfIndexes
said_if None = Nothing
said_if (Some ws) = said_in ws

abbrev pub said_by_line : List ℕ → SaidOfIndexes
said_by_line text = said_if (line_words text)

-- ---- what the lines of files mention

-- the key of an index as it is spelled, and the command that says it
pub record SpelledKey : Type 0 where
  pub spelled : List ℕ
  pub command : List ℕ

-- an index that a line of the file of that number names, and the table in use there
pub record Named : Type 0 where
  pub file : ℕ
  pub line : ℕ
  pub table : Option (List ℕ)
  pub index : List ℕ
  pub key : Option SpelledKey

abbrev pub key_written : WrittenKey → SpelledKey
key_written k = record { spelled = k.spelled.items; command = k.command.items }

abbrev pub named_in : Mention → Named
named_in m = record {
  file = m.file;
  line = m.line;
  table = option_map (λ t. t.items) m.table;
  index = m.index.items;
  key = option_map key_written m.key;
}

abbrev pub opened_names : ℕ → ℕ → Option (List ℕ) → List (List ℕ) → List Named
opened_names file line table [] = []
opened_names file line table (index ∷ more) =
    (record { file = file; line = line; table = table; index = index; key = None }) ∷ opened_names file line table more

abbrev pub named_by : ℕ → Joined → Option (List ℕ) → SaidOfIndexes → List Named
named_by file line table Nothing = []
named_by file line table (Makes index key) = (record {
  file = file;
  line = line.first;
  table = table;
  index = index;
  key = Some (record { spelled = key; command = line.text });
}) ∷ []
named_by file line table (Opens names) = opened_names file line.first table names

abbrev pub table_in : Option Used → Option (List ℕ)
table_in u = option_map (λ x. x.table) u

abbrev pub named_by_line : ℕ → Joined → Option Used → List Named
named_by_line file line u = named_by file line (table_in (used_after line.text u)) (said_by_line line.text)

-- the indexes that lines name, with a table in use before them
abbrev pub named_from : ℕ → Option Used → List Joined → List Named
named_from file u [] = []
named_from file u (line ∷ lines) = named_by_line file line u ++ named_from file (used_after line.text u) lines

-- those that the lines of a file name
abbrev pub names_of_file : ℕ → List ℕ → List Named
names_of_file file bytes = named_from file None (joined_lines bytes)

-- ---- each of them once

abbrev pub same_text : Option (List ℕ) → Option (List ℕ) → Bool
same_text None None = true
same_text (Some a) (Some b) = bytes_eq a b
same_text a b = false

-- A spelling with the byte 35 may be that of several keys, which then differ by their commands.
abbrev pub is_vague : List ℕ → Bool
is_vague spelling = list_any (λ c. c == 35) spelling

abbrev pub same_spelling : SpelledKey → SpelledKey → Bool
same_spelling a b = bytes_eq a.spelled b.spelled
    && (not (is_vague a.spelled) || str_eq_ignore_ascii_case a.command b.command)

abbrev pub same_key : Option SpelledKey → Option SpelledKey → Bool
same_key None None = true
same_key (Some a) (Some b) = same_spelling a b
same_key a b = false

-- the same index with the same key, of the same table
abbrev pub same_named : Named → Named → Bool
same_named a b = bytes_eq a.index b.index && same_text a.table b.table && same_key a.key b.key

-- they are 256, or the same is among them
abbrev pub is_left_out : Named → List Named → Bool
is_left_out m ms = nat_le 256 (length ms) || list_any (same_named m) ms

-- one more, unless it is left out
abbrev pub with_named : Named → List Named → List Named
with_named m ms = if is_left_out m ms then ms else ms ++ m ∷ []

abbrev pub with_all_named : List Named → List Named → List Named
with_all_named [] ms = ms
with_all_named (m ∷ more) ms = with_all_named more (with_named m ms)
