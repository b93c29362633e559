-- Which commands, clauses and functions of dBASE III PLUS are left out, by their words.
use Rattle.std.specs.Prelude.{ℕ, List, [], ◌∷◌, codes, Bool, ◌||◌, Option, Some, None, if◌then◌else◌}
use Rattle.prg_expr.specs.Functions.{is_cut}
use Rattle.prg_expr.specs.Word.{Word}
use Rattle.prg_expr.specs.Word as word
use Rattle.prg_expr.specs.declared.tree.BinaryOperator.TheVariants.{Times}
use Rattle.hints.specs.declared.left_out.LeftOut.{LeftOut as Thing}
use Rattle.hints.specs.declared.left_out.LeftOut.TheVariants as it

-- a word of capitals, and what is left out with it
abbrev pub NamedThing : Type 0
NamedThing = List ℕ × Thing

-- what is left out with the first word of a list that this one is; it may be cut to its first letters, four or more
abbrev pub first_named : List NamedThing → List ℕ → Option Thing
first_named [] letters = None
first_named (x ∷ xs) letters = if is_cut letters x.0 then Some x.1 else first_named xs letters

abbrev pub one : List ℕ → Thing → List NamedThing
one whole found = (whole, found) ∷ []

-- ---- lists of words

-- commands that are left out in every form
abbrev pub left_out_commands : List NamedThing
left_out_commands =
    (codes "LOCATE", it.Locate) ∷ (codes "CONTINUE", it.Locate) ∷ (codes "FIND", it.Find) ∷ (codes "COUNT", it.Sums)
    ∷ (codes "SUM", it.Sums) ∷ (codes "AVERAGE", it.Sums) ∷ (codes "LIST", it.Listings)
    ∷ (codes "DISPLAY", it.Listings) ∷ (codes "CREATE", it.Structures) ∷ (codes "MODIFY", it.Structures)
    ∷ (codes "TOTAL", it.Totals) ∷ (codes "UPDATE", it.Totals) ∷ (codes "COPY", it.Copies)
    ∷ (codes "SORT", it.Copies) ∷ (codes "JOIN", it.Copies) ∷ (codes "INSERT", it.Copies)
    ∷ (codes "BROWSE", it.ByHand) ∷ (codes "EDIT", it.ByHand) ∷ (codes "CHANGE", it.ByHand)
    ∷ (codes "REPORT", it.Reports) ∷ (codes "LABEL", it.Reports) ∷ (codes "SAVE", it.Saved)
    ∷ (codes "RESTORE", it.Saved) ∷ (codes "INPUT", it.Input) ∷ (codes "TEXT", it.Texts)
    ∷ (codes "ENDTEXT", it.Texts) ∷ (codes "EJECT", it.Printer) ∷ (codes "RUN", it.Others)
    ∷ (codes "CALL", it.Others) ∷ (codes "LOAD", it.Others) ∷ (codes "DIR", it.Others)
    ∷ (codes "DIRECTORY", it.Others) ∷ (codes "ERASE", it.Others) ∷ (codes "RENAME", it.Others)
    ∷ (codes "PUBLIC", it.Public) ∷ (codes "DECLARE", it.Arrays) ∷ (codes "DIMENSION", it.Arrays)
    ∷ (codes "ON", it.On) ∷ (codes "RETRY", it.On) ∷ (codes "SUSPEND", it.On) ∷ (codes "RESUME", it.On)
    ∷ (codes "HELP", it.Prompt) ∷ (codes "ASSIST", it.Prompt) ∷ (codes "TYPE", it.Others)
    ∷ (codes "IMPORT", it.Others) ∷ (codes "EXPORT", it.Others) ∷ (codes "UNLOCK", it.Locks)
    ∷ (codes "LOGOUT", it.Locks) ∷ []

-- commands that are there, but not in every form
abbrev pub other_forms : List NamedThing
other_forms =
    (codes "APPEND", it.ByHand) ∷ (codes "SELECT", it.SelectZero) ∷ []

-- behind SET
abbrev pub settings : List NamedThing
settings =
    (codes "RELATION", it.Relation) ∷ (codes "INDEX", it.OpenIndexes) ∷ (codes "DECIMALS", it.Decimals)
    ∷ (codes "FIXED", it.Decimals) ∷ (codes "DATE", it.DateForm) ∷ (codes "PRINT", it.Printer)
    ∷ (codes "DEVICE", it.Printer) ∷ (codes "ALTERNATE", it.Printer) ∷ (codes "FORMAT", it.Formats)
    ∷ (codes "UNIQUE", it.Unique) ∷ (codes "CARRY", it.Carry) ∷ (codes "CONSOLE", it.Printer)
    ∷ (codes "DEFAULT", it.Paths) ∷ (codes "PATH", it.Paths) ∷ (codes "FUNCTION", it.Keys)
    ∷ (codes "EXCLUSIVE", it.Locks) ∷ []

-- behind CLEAR
abbrev pub parts_to_clear : List NamedThing
parts_to_clear =
    (codes "ALL", it.ClearParts) ∷ (codes "MEMORY", it.ClearParts) ∷ (codes "GETS", it.ClearParts)
    ∷ (codes "FIELDS", it.ClearParts) ∷ (codes "TYPEAHEAD", it.ClearParts) ∷ []

-- behind CLOSE
abbrev pub parts_to_close : List NamedThing
parts_to_close =
    (codes "INDEX", it.OpenIndexes) ∷ (codes "ALTERNATE", it.Printer) ∷ (codes "FORMAT", it.Formats)
    ∷ (codes "PROCEDURE", it.Closing) ∷ []

-- behind RELEASE
abbrev pub parts_to_release : List NamedThing
parts_to_release =
    (codes "ALL", it.ReleaseAll) ∷ (codes "MODULE", it.Others) ∷ []

-- within a line
abbrev pub clauses : List NamedThing
clauses =
    (codes "ALL", it.Scopes) ∷ (codes "NEXT", it.Scopes) ∷ (codes "RECORD", it.Scopes) ∷ (codes "WHILE", it.Scopes)
    ∷ (codes "FOR", it.Scopes) ∷ (codes "ALIAS", it.Alias) ∷ (codes "PICTURE", it.Pictures)
    ∷ (codes "RANGE", it.Pictures) ∷ (codes "UNIQUE", it.Unique) ∷ (codes "EXCLUSIVE", it.Locks) ∷ []

-- functions, whatever their arguments
abbrev pub functions : List NamedThing
functions =
    (codes "TYPE", it.Type) ∷ (codes "TRANSFORM", it.Transform) ∷ (codes "TIME", it.Time) ∷ (codes "SQRT", it.Powers)
    ∷ (codes "EXP", it.Powers) ∷ (codes "LOG", it.Powers) ∷ (codes "INKEY", it.Keys) ∷ (codes "READKEY", it.Keys)
    ∷ (codes "FKLABEL", it.Keys) ∷ (codes "FKMAX", it.Keys) ∷ (codes "ROW", it.Cursor) ∷ (codes "COL", it.Cursor)
    ∷ (codes "PROW", it.Cursor) ∷ (codes "PCOL", it.Cursor) ∷ (codes "FILE", it.Machine)
    ∷ (codes "DISKSPACE", it.Machine) ∷ (codes "GETENV", it.Machine) ∷ (codes "OS", it.Machine)
    ∷ (codes "VERSION", it.Machine) ∷ (codes "ISCOLOR", it.Machine) ∷ (codes "ACCESS", it.Access)
    ∷ (codes "DBF", it.Made) ∷ (codes "NDX", it.Made) ∷ (codes "FIELD", it.Made) ∷ (codes "LUPDATE", it.Made)
    ∷ (codes "RECSIZE", it.Made) ∷ (codes "ERROR", it.On) ∷ (codes "MESSAGE", it.On) ∷ (codes "FLOCK", it.Locks)
    ∷ (codes "LOCK", it.Locks) ∷ (codes "RLOCK", it.Locks) ∷ []

-- functions that take no argument here
abbrev pub answers : List NamedThing
answers =
    (codes "EOF", it.OtherArea) ∷ (codes "BOF", it.OtherArea) ∷ (codes "FOUND", it.OtherArea)
    ∷ (codes "RECNO", it.OtherArea) ∷ (codes "RECCOUNT", it.OtherArea) ∷ (codes "DELETED", it.OtherArea) ∷ []

-- ---- lines

abbrev pub or_next : Option Thing → Option Thing → Option Thing
or_next None other = other
or_next (Some found) other = Some found

-- what is left out where a line begins with a word, in every form
unfoldable pub by_word : List ℕ → Option Thing
by_word s = first_named left_out_commands s

-- what is left out where a line begins with a word
unfoldable pub by_first : List ℕ → Option Thing
by_first s = or_next (by_word s) (first_named other_forms s)

-- what a function is left out with, whatever its arguments
unfoldable pub by_function : List ℕ → Option Thing
by_function s = first_named functions s

-- whether SET has a meaning with this word behind it
unfoldable pub is_setting : List ℕ → Bool
is_setting s = is_cut s (codes "ORDER") || is_cut s (codes "FILTER") || is_cut s (codes "EXACT")
    || is_cut s (codes "DELETED") || is_cut s (codes "CENTURY")

-- what SET asks for with this word behind it
unfoldable pub by_setting : List ℕ → Option Thing
by_setting s =
    if is_setting s then None else or_next (first_named settings s) (Some it.OtherSet)

-- what is left out where a line begins with two words, of commands that are there in other forms
unfoldable pub by_form : List ℕ → List ℕ → Option Thing
by_form first second =
    if is_cut first (codes "RETURN") then first_named (one (codes "TO") it.ToMaster) second
    else if is_cut first (codes "APPEND") then first_named (one (codes "FROM") it.Copies) second
    else if is_cut first (codes "PRIVATE") then first_named (one (codes "ALL") it.PrivateAll) second
    else if is_cut first (codes "READ") then first_named (one (codes "SAVE") it.ReadSave) second
    else if is_cut first (codes "COPY") then first_named (one (codes "FILE") it.Others) second
    else if is_cut first (codes "DELETE") then first_named (one (codes "FILE") it.Others) second
    else if is_cut first (codes "GO") || is_cut first (codes "GOTO") then
    first_named (one (codes "RECORD") it.GoRecord) second
    else None

-- what is left out where a line begins with two words
unfoldable pub by_two : List ℕ → List ℕ → Option Thing
by_two first second =
    if is_cut first (codes "SET") then by_setting second
    else if is_cut first (codes "CLEAR") then first_named parts_to_clear second
    else if is_cut first (codes "CLOSE") then first_named parts_to_close second
    else if is_cut first (codes "RELEASE") then first_named parts_to_release second
    else by_form first second

-- the first clause or alias among these words
unfoldable pub by_clause : List Word → Option Thing
by_clause [] = None
by_clause (word.Arrow ∷ ws) = Some it.OtherAlias
by_clause (word.Name s ∷ ws) = or_next (first_named clauses s) (by_clause ws)
by_clause (w ∷ ws) = by_clause ws

-- what a command that begins with this name asks for by the word behind it
unfoldable pub by_next : List ℕ → List Word → Option Thing
by_next first [] = None
by_next first (word.Name second ∷ ws) = by_two first second
by_next first (w ∷ ws) = None

-- what a command is left out with by its first words alone
unfoldable pub by_beginning : List Word → Option Thing
by_beginning (word.Name first ∷ ws) = or_next (by_next first ws) (by_word first)
by_beginning ws = None

-- what a command that begins with this word asks for
unfoldable pub from_first : Word → List Word → Option Thing
from_first (word.Name first) ws = or_next (by_next first ws) (or_next (by_first first) (by_clause ws))
from_first (word.Outside word.At) ws = or_next (by_clause ws) (Some it.AtForms)
from_first w ws = by_clause ws

-- what a command asks for that is left out: by its first words, or else by a clause behind its first word
unfoldable pub of_command : List Word → Option Thing
of_command [] = None
of_command (w ∷ ws) = from_first w ws

-- what is left out where a call begins so
unfoldable pub in_call : List ℕ → List Word → Option Thing
in_call s (word.Close ∷ ws) = by_function s
in_call s ws = or_next (by_function s) (first_named answers s)

-- what is left out where these words begin
unfoldable pub at_the_front : List Word → Option Thing
at_the_front (word.Name s ∷ word.Open ∷ ws) = in_call s ws
at_the_front (word.Sign Times ∷ word.Sign Times ∷ ws) = Some it.Powers
at_the_front ws = None

-- the first function or operator among these words that is left out
unfoldable pub of_expression : List Word → Option Thing
of_expression [] = None
of_expression (w ∷ ws) = or_next (at_the_front (w ∷ ws)) (of_expression ws)

-- what a line asks for by the two words at its beginning
unfoldable pub by_start : List Word → Option Thing
by_start (word.Name first ∷ ws) = by_next first ws
by_start ws = None

-- what a line with a faulty expression asks for: by a function or an operator, or else by the words at its beginning
unfoldable pub of_faulty : List Word → Option Thing
of_faulty ws = or_next (of_expression ws) (by_start ws)
