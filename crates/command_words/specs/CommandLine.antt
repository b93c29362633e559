-- What the command line takes: the commands, in the order in which help lists them, and the words of each. Which words
-- are taken then is `takes` of `clap`'s definitions, and why others aren't is `fault_of`.
use Rattle.std.specs.Prelude.{◌∷◌, ◌++◌, ℕ, true, false, List, [], Some, codes, pos}
use Rattle.clap.specs.Lexer.{usize_max}
use Rattle.clap.specs.Simple.{App, Shape, new_rule, new_shape}
use Rattle.clap.specs.Walk.{Rule}
use Rattle.clap.specs.declared.builder.action.ArgAction.TheVariants.{SetTrue}
use Rattle.clap.specs.declared.builder.value_parser.ValueParser.TheVariants.{Signed, Unsigned}

-- ---- single words

-- a word that must be there, in its turn
abbrev pub needed_word : List ℕ → Rule
needed_word id = record (new_rule id) { required = true }

-- one such word or more
abbrev pub needed_words : List ℕ → Rule
needed_words id = record (needed_word id) { range = Some (record { start_inclusive = 1; end_inclusive = usize_max }) }

-- the word that names the file; help calls it by what that holds
abbrev pub file_word : Rule
file_word = record (needed_word (codes "FILE")) { value_names = 1 }

-- `--ID`, which is there or not
abbrev pub flag_word : List ℕ → Rule
flag_word id = record (new_rule id) { long = Some id; action = Some SetTrue }

-- `--ID`, with any word after it
abbrev pub valued_word : List ℕ → Rule
valued_word id = record (new_rule id) { long = Some id; value_names = 1 }

-- a number below 2^64
abbrev pub budget_word : Rule
budget_word = record (valued_word (codes "budget")) { parser = Some (Unsigned 0 18446744073709551615) }

-- a number below 2^32
abbrev pub limit_word : Rule
limit_word = record (valued_word (codes "limit")) { parser = Some (Signed (pos 0) (pos 4294967295)) }

-- `--journal`, with a file's name after it
abbrev pub journal_word : Rule
journal_word = record (valued_word (codes "journal")) { required = true }

-- ---- the words of each command

-- the words of all runs
abbrev pub run_words : List Rule
run_words = file_word ∷ budget_word ∷ limit_word ∷ valued_word (codes "today") ∷ []

-- the words that say what becomes of a run's tables
abbrev pub save_words : List Rule
save_words = flag_word (codes "rehearse") ∷ flag_word (codes "only-finished") ∷ valued_word (codes "backup")
    ∷ flag_word (codes "new-owner") ∷ flag_word (codes "no-lock") ∷ flag_word (codes "keep-unchanged") ∷ []

-- the words of conversations alone
abbrev pub talk_words : List Rule
talk_words = journal_word ∷ flag_word (codes "continue") ∷ valued_word (codes "from") ∷ valued_word (codes "window")
    ∷ flag_word (codes "plain") ∷ valued_word (codes "screens") ∷ []

-- a command of this name, which takes these words
abbrev pub taking : List ℕ → List Rule → Shape
taking name words = record (new_shape name) { rules = words }

abbrev pub commands : List Shape
commands = taking (codes "compile")
    (needed_word (codes "DECL") ∷ needed_word (codes "OUT") ∷ needed_words (codes "MAIN") ∷ [])
    ∷ taking (codes "faults") (needed_word (codes "DECL") ∷ needed_words (codes "MAIN") ∷ [])
    ∷ taking (codes "run") (run_words ++ save_words ++ valued_word (codes "screens") ∷ [])
    ∷ taking (codes "operate") (run_words ++ save_words ++ talk_words)
    ∷ taking (codes "check-run") (run_words ++ flag_word (codes "changes") ∷ [])
    ∷ taking (codes "verify") (file_word ∷ []) ∷ taking (codes "code") (file_word ∷ [])
    ∷ taking (codes "list") (file_word ∷ flag_word (codes "csv") ∷ valued_word (codes "from") ∷ [])
    ∷ taking (codes "index") (file_word ∷ []) ∷ taking (codes "declare") []
    ∷ taking (codes "forget") (flag_word (codes "no-lock") ∷ []) ∷ []

-- a command without others below it
abbrev pub alone : Shape → App
alone s = record { top = s; subs = [] }

-- the program before it has commands: one must be named
abbrev pub no_commands : Shape
no_commands = record (new_shape (codes "dbrun")) {
  has_version = true;
  subcommand_required = true;
  arg_required_else_help = true;
}

-- the program with its commands
abbrev pub program : App
program = record { top = record no_commands { is_leaf = false }; subs = commands }
