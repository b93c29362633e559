-- Why the words of a command line aren't taken. The other faults are found where the words are carried out.
use Rattle.std.specs.Prelude.{◌≡◌, ◌≢◌, ◌<◌, ◌⊎◌, ◌∷◌, ◌||◌, ℕ, Bool, true, false, List, [], Option, Some, None, codes}
use Rattle.std.specs.Prelude.{is_some, unwrap_or}
use Rattle.std.specs.List.{All, Any, list_any}
use Rattle.clap.specs.Simple.{Shape}
use Rattle.clap.specs.Walk.{Row}
use Rattle.run_commands.specs.Days.{NamesNoDay}
use Rattle.command_words.specs.declared.operate_words.WindowWords.{WindowWords}
use Rattle.command_words.specs.declared.words.WordsFault.{WordsFault}
use Rattle.command_words.specs.declared.words.WordsFault.TheVariants.{Today, Limit, Page, Missing, Window}
use Rattle.command_words.specs.declared.words.WordsFault.TheVariants.{Rehearsed}
use Rattle.command_words.specs.CommandLine.{commands}
use Rattle.command_words.specs.Said.{word_given, has_flag}
use Rattle.command_words.specs.Windows.{IsNumber, IsSize}

-- a word that must be there is missing
abbrev pub Lacks : List (List ℕ) → List Row → WordsFault → Type 0
Lacks ids rows told = (told ≡ Missing) × Any (λ id. word_given id rows ≡ None) ids

-- ---- words that don't say what they should

abbrev pub NoDay : Option (List ℕ) → WordsFault → Type 0
NoDay None told = ⊥
NoDay (Some word) told = (told ≡ Today) × NamesNoDay word

-- a number of records that no table may have
abbrev pub NoLimit : Option (List ℕ) → WordsFault → Type 0
NoLimit None told = ⊥
NoLimit (Some word) told = (told ≡ Limit) × ((n : ℕ) × IsNumber word n × ((n ≡ 0) ⊎ (1000000 < n)))

abbrev pub NoPage : Option (List ℕ) → WordsFault → Type 0
NoPage None told = ⊥
NoPage (Some word) told = (told ≡ Page) × (word ≢ codes "cp437") × (word ≢ codes "cp850")

abbrev pub NoWindow : Option (List ℕ) → WordsFault → Type 0
NoWindow None told = ⊥
NoWindow (Some word) told = (told ≡ Window) × ((size : WindowWords) → ¬ IsSize word size)

-- ---- words that don't go together

-- the words say how to save
abbrev pub says_how : List Row → Bool
says_how rows =
    has_flag (codes "only-finished") rows
    || (is_some (word_given (codes "backup") rows)
    || (has_flag (codes "new-owner") rows || has_flag (codes "keep-unchanged") rows))

-- a rehearsal is told how to save
abbrev pub SavesToo : List Row → WordsFault → Type 0
SavesToo rows told = (told ≡ Rehearsed) × (has_flag (codes "rehearse") rows ≡ true) × (says_how rows ≡ true)

-- ---- commands

abbrev pub JobRefused : List Row → WordsFault → Type 0
JobRefused rows told = Lacks (codes "FILE" ∷ []) rows told ⊎ (NoLimit (word_given (codes "limit") rows) told
    ⊎ NoDay (Some (unwrap_or (word_given (codes "today") rows) (codes "1985-01-01"))) told)

abbrev pub RunRefused : List Row → WordsFault → Type 0
RunRefused rows told = SavesToo rows told ⊎ JobRefused rows told

-- of a conversation that begins
abbrev pub NewTalkRefused : List Row → WordsFault → Type 0
NewTalkRefused rows told = NoLimit (word_given (codes "limit") rows) told
    ⊎ (NoDay (word_given (codes "today") rows) told
    ⊎ (SavesToo rows told ⊎ NoPage (word_given (codes "from") rows) told))

-- of options that are given again
abbrev pub RepeatedRefused : List Row → WordsFault → Type 0
RepeatedRefused rows told = NoLimit (word_given (codes "limit") rows) told
    ⊎ (NoDay (word_given (codes "today") rows) told ⊎ NoPage (word_given (codes "from") rows) told)

abbrev pub TalkRefused : List Row → WordsFault → Type 0
TalkRefused rows told = ((has_flag (codes "continue") rows ≡ true) × RepeatedRefused rows told)
    ⊎ ((has_flag (codes "continue") rows ≡ false) × NewTalkRefused rows told)

abbrev pub OperateRefused : List Row → WordsFault → Type 0
OperateRefused rows told = Lacks (codes "FILE" ∷ codes "journal" ∷ []) rows told
    ⊎ (NoWindow (word_given (codes "window") rows) told ⊎ TalkRefused rows told)

abbrev pub ListingRefused : List Row → WordsFault → Type 0
ListingRefused rows told = Lacks (codes "FILE" ∷ []) rows told ⊎ NoPage (word_given (codes "from") rows) told

abbrev pub IsReader : List ℕ → Type 0
IsReader name = Any (λ known. name ≡ known) (codes "verify" ∷ codes "code" ∷ codes "index" ∷ [])

-- why a command of this name doesn't take the words behind it
abbrev pub RefusedBehind : List ℕ → List Row → WordsFault → Type 0
RefusedBehind name rows told =
    ((name ≡ codes "compile") × Lacks (codes "DECL" ∷ codes "OUT" ∷ []) rows told)
    ⊎ (((name ≡ codes "faults") × Lacks (codes "DECL" ∷ []) rows told)
    ⊎ (((name ≡ codes "run") × RunRefused rows told)
    ⊎ (((name ≡ codes "operate") × OperateRefused rows told)
    ⊎ (((name ≡ codes "check-run") × JobRefused rows told)
    ⊎ ((IsReader name × Lacks (codes "FILE" ∷ []) rows told)
    ⊎ (((name ≡ codes "list") × ListingRefused rows told)
    ⊎ ((told ≡ Missing) × All (λ (s : Shape). name ≢ s.name) commands)))))))

-- why all words aren't: no command is named, or it doesn't take those behind its name
abbrev pub RefusesWords : Option (List ℕ × List Row) → WordsFault → Type 0
RefusesWords None told = told ≡ Missing
RefusesWords (Some said) told = RefusedBehind said.0 said.1 told
