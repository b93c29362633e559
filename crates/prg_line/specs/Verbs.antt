-- Which command the words of a line begin.
use Rattle.std.specs.Prelude.{ℕ, List, [], ◌∷◌, ◌++◌, Bool, true, false, ◌||◌, codes, Option, Some, None, if◌then◌else◌}
use Rattle.prg_expr.specs.Functions.{is_cut}
use Rattle.prg_expr.specs.Word.{Word}
use Rattle.prg_expr.specs.Word as word
use Rattle.prg_expr.specs.declared.tree.BinaryOperator.TheVariants.{Equal, Times}
use Rattle.prg_line.specs.declared.role.Role.{Role}
use Rattle.prg_line.specs.declared.role.Role.TheVariants as role
use Rattle.prg_line.specs.declared.verb.Verb.{Verb}
use Rattle.prg_line.specs.declared.verb.Verb.TheVariants as verb

abbrev pub VerbWord : Type 0
VerbWord = List ℕ × Verb

-- the first command of a table whose word, perhaps cut, this is
abbrev pub verb_of_table : List VerbWord → List ℕ → Option Verb
verb_of_table [] letters = None
verb_of_table (x ∷ xs) letters = if is_cut letters x.0 then Some x.1 else verb_of_table xs letters

abbrev pub of_screen : List VerbWord
of_screen = (codes "READ", verb.Read) ∷ (codes "ACCEPT", verb.Accept) ∷ (codes "WAIT", verb.Wait)
    ∷ (codes "CLEAR", verb.Clear) ∷ []

abbrev pub of_variables : List VerbWord
of_variables = (codes "STORE", verb.Store) ∷ (codes "RELEASE", verb.Release) ∷ (codes "PRIVATE", verb.Private)
    ∷ (codes "PARAMETERS", verb.Parameters) ∷ []

abbrev pub of_branches : List VerbWord
of_branches =
    (codes "IF", verb.If) ∷ (codes "ELSE", verb.Else) ∷ (codes "ENDIF", verb.EndIf) ∷ (codes "CASE", verb.Case)
    ∷ (codes "OTHERWISE", verb.Otherwise) ∷ (codes "ENDCASE", verb.EndCase) ∷ []

abbrev pub of_loops : List VerbWord
of_loops = (codes "ENDDO", verb.EndDo) ∷ (codes "SCAN", verb.Scan) ∷ (codes "ENDSCAN", verb.EndScan)
    ∷ (codes "LOOP", verb.Loop) ∷ (codes "EXIT", verb.Exit) ∷ []

abbrev pub of_calls : List VerbWord
of_calls = (codes "PROCEDURE", verb.Procedure) ∷ (codes "DO", verb.Do) ∷ (codes "RETURN", verb.Return)
    ∷ (codes "QUIT", verb.Quit) ∷ (codes "CANCEL", verb.Cancel) ∷ []

abbrev pub of_areas : List VerbWord
of_areas =
    (codes "USE", verb.Use) ∷ (codes "SELECT", verb.Select) ∷ (codes "CLOSE", verb.Close) ∷ (codes "SET", verb.Set) ∷ []

abbrev pub of_moves : List VerbWord
of_moves = (codes "GO", verb.Go) ∷ (codes "GOTO", verb.Go) ∷ (codes "SKIP", verb.Skip) ∷ (codes "SEEK", verb.Seek)
    ∷ (codes "APPEND", verb.Append) ∷ []

abbrev pub of_changes : List VerbWord
of_changes =
    (codes "REPLACE", verb.Replace) ∷ (codes "DELETE", verb.Delete) ∷ (codes "RECALL", verb.Recall)
    ∷ (codes "PACK", verb.Pack)
    ∷ (codes "ZAP", verb.Zap) ∷ (codes "REINDEX", verb.Reindex) ∷ (codes "INDEX", verb.Index) ∷ []

-- all words that begin commands
abbrev pub all_commands : List VerbWord
all_commands =
    of_screen ++ (of_variables ++ (of_branches ++ (of_loops ++ (of_calls ++ (of_areas ++ (of_moves ++ of_changes))))))

abbrev pub or_verb : Option Verb → Option Verb → Option Verb
or_verb None other = other
or_verb (Some v) other = Some v

abbrev pub or_unknown : Option Verb → Verb
or_unknown None = verb.Unknown
or_unknown (Some v) = v

-- the command that a word of capitals begins
unfoldable pub verb_of_word : List ℕ → Verb
verb_of_word s =
    or_unknown (or_verb (verb_of_table of_screen s)
    (or_verb (verb_of_table of_variables s) (or_verb (verb_of_table of_branches s) (or_verb (verb_of_table of_loops s)
    (or_verb (verb_of_table of_calls s)
    (or_verb (verb_of_table of_areas s) (or_verb (verb_of_table of_moves s) (verb_of_table of_changes s))))))))

-- whether a word is one of these, perhaps cut
abbrev pub among : List (List ℕ) → List ℕ → Bool
among [] letters = false
among (x ∷ xs) letters = is_cut letters x || among xs letters

abbrev pub looks : List (List ℕ)
looks =
    codes "TALK" ∷ codes "BELL" ∷ codes "SAFETY" ∷ codes "STATUS" ∷ codes "ECHO" ∷ codes "CONFIRM" ∷ codes "COLOR"
    ∷ codes "HEADING" ∷ codes "SCOREBOARD" ∷ []

abbrev pub habits : List (List ℕ)
habits =
    codes "ESCAPE" ∷ codes "INTENSITY" ∷ codes "DELIMITERS" ∷ codes "HELP" ∷ codes "HISTORY" ∷ codes "MARGIN"
    ∷ codes "TYPEAHEAD" ∷ codes "PROCEDURE" ∷ []

-- what SET names without any meaning here
unfoldable pub is_ignored : List ℕ → Bool
is_ignored s = among looks s || among habits s

-- the command and the words behind those that say which one it is
abbrev pub FoundVerb : Type 0
FoundVerb = Verb × List Word

-- DO before a further name
unfoldable pub do_before : List ℕ → List Word → List Word → FoundVerb
do_before second rest others =
    if is_cut second (codes "CASE") then (verb.DoCase, others)
    else if is_cut second (codes "WHILE") then (verb.DoWhile, others)
    else (verb.Do, rest)

-- a command before a further name
unfoldable pub before_name : Verb → List ℕ → List Word → List Word → FoundVerb
before_name verb.Do second rest others = do_before second rest others
before_name verb.Set second rest others = if is_ignored second then (verb.Ignored, rest) else (verb.Set, rest)
before_name v second rest others = (v, rest)

-- a line that begins with a name: an equal sign behind it makes it an assignment, of which no word counts as read
unfoldable pub behind_first : List Word → List ℕ → List Word → FoundVerb
behind_first all first (word.Sign Equal ∷ others) = (verb.Assign, all)
behind_first all first (word.Name second ∷ others) =
    before_name (verb_of_word first) second (word.Name second ∷ others) others
behind_first all first rest = (verb_of_word first, rest)

-- a line that begins with NOTE is a comment, of which nothing means anything
unfoldable pub at_first : List Word → List ℕ → List Word → FoundVerb
at_first all first rest = if is_cut first (codes "NOTE") then (verb.Ignored, rest) else behind_first all first rest

-- a line that begins with an asterisk is a comment too
unfoldable pub verb_of : List Word → FoundVerb
verb_of [] = (verb.Nothing, [])
verb_of (word.Name first ∷ rest) = at_first (word.Name first ∷ rest) first rest
verb_of (word.Sign Times ∷ rest) = (verb.Ignored, rest)
verb_of (word.Outside word.Show ∷ rest) = (verb.Show, rest)
verb_of (word.Outside word.ShowOn ∷ rest) = (verb.ShowOn, rest)
verb_of (word.Outside word.At ∷ rest) = (verb.At, rest)
verb_of (word.Outside word.Macro ∷ rest) = (verb.Macro, word.Outside word.Macro ∷ rest)
verb_of ws = (verb.Unknown, ws)

-- whether the rest of the line isn't looked at
abbrev pub ignores_rest : Verb → Bool
ignores_rest verb.Ignored = true
ignores_rest verb.EndIf = true
ignores_rest verb.EndCase = true
ignores_rest verb.EndDo = true
ignores_rest verb.EndScan = true
ignores_rest _ = false

-- whether the command has expressions among its words
abbrev pub has_expressions : Verb → Bool
has_expressions verb.Show = true
has_expressions verb.ShowOn = true
has_expressions verb.At = true
has_expressions verb.Accept = true
has_expressions verb.Wait = true
has_expressions verb.Assign = true
has_expressions verb.Store = true
has_expressions verb.If = true
has_expressions verb.Case = true
has_expressions verb.DoWhile = true
has_expressions verb.Scan = true
has_expressions verb.Do = true
has_expressions verb.Set = true
has_expressions verb.Go = true
has_expressions verb.Skip = true
has_expressions verb.Seek = true
has_expressions verb.Replace = true
has_expressions verb.Index = true
has_expressions _ = false

-- what the line is to the blocks around it
abbrev pub role_of : Verb → Role
role_of verb.If = role.If
role_of verb.Else = role.Else
role_of verb.EndIf = role.EndIf
role_of verb.DoCase = role.DoCase
role_of verb.Case = role.Case
role_of verb.Otherwise = role.Otherwise
role_of verb.EndCase = role.EndCase
role_of verb.DoWhile = role.DoWhile
role_of verb.EndDo = role.EndDo
role_of verb.Scan = role.Scan
role_of verb.EndScan = role.EndScan
role_of verb.Loop = role.Leap
role_of verb.Exit = role.Leap
role_of verb.Procedure = role.Procedure
role_of verb.Nothing = role.Nothing
role_of verb.Ignored = role.Nothing
role_of _ = role.Plain
