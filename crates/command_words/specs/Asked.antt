-- What the words of a command line ask for: the command's name, and the words behind it by their ids.
use Rattle.std.specs.Prelude.{◌≡◌, ◌≢◌, ◌⊎◌, ◌↔◌, ℕ, Bool, true, false, List, [], Option, Some, None, codes, unwrap_or}
use Rattle.std.specs.Prelude.{is_none}
use Rattle.std.specs.Option.{option_map}
use Rattle.std.specs.Borrow.{Bor}
use Rattle.clap.specs.Walk.{Row}
use Rattle.code_pages.specs.declared.pages.CodePage.{CodePage}
use Rattle.code_pages.specs.declared.pages.CodePage.TheVariants.{Cp437, Cp850}
use Rattle.run_commands.specs.Days.{IsDayNamed}
use Rattle.run_commands.specs.declared.job.Job.{Job}
use Rattle.command_words.specs.declared.operate_words.OperateWords.{OperateWords}
use Rattle.command_words.specs.declared.operate_words.RepeatedWords.{RepeatedWords}
use Rattle.command_words.specs.declared.operate_words.TalkAsked.{TalkAsked}
use Rattle.command_words.specs.declared.operate_words.TalkAsked.TheVariants.{Begins, GoesOn}
use Rattle.command_words.specs.declared.operate_words.ShownWords.{ShownWords}
use Rattle.command_words.specs.declared.operate_words.TalkWords.{TalkWords}
use Rattle.command_words.specs.declared.words.Listing.{Listing}
use Rattle.command_words.specs.declared.words.Outcomes.{Outcomes}
use Rattle.command_words.specs.declared.words.Outcomes.TheVariants.{Nothing, Told, Saved}
use Rattle.command_words.specs.declared.words.RunWords.{RunWords}
use Rattle.command_words.specs.declared.words.SaveWords.{SaveWords}
use Rattle.command_words.specs.declared.words.Words.{Words}
use Rattle.command_words.specs.declared.words.Words.TheVariants.{Compile, Faults, Run, Operate, Verify, Code}
use Rattle.command_words.specs.declared.words.Words.TheVariants.{List as OfTable, Index, Declare, Forget}
use Rattle.command_words.specs.Refused.{says_how}
use Rattle.command_words.specs.Said.{word_given, has_flag}
use Rattle.command_words.specs.Windows.{IsNumber, IsSize}

-- ---- single words

-- a text that the words may name
abbrev pub lent : Option (Bor (List ℕ)) → Option (List ℕ)
lent = option_map (λ w. w.now)

-- a number below 2^64 that a word may say
abbrev pub IsNumberIf : Option (List ℕ) → Option ℕ → Type 0
IsNumberIf None n = n ≡ None
IsNumberIf (Some text) n = (m : ℕ) → (n ≡ Some m) ↔ IsNumber text m

-- such a number, or what counts where the words say none
pub record IsNumberOr (else : ℕ) (word : Option (List ℕ)) (n : ℕ) : Type 0 where
  pub said : Option ℕ
  pub number : IsNumberIf word said
  pub told : n ≡ unwrap_or said else

-- the code page of a name, none if no page has it
abbrev pub IsPageIfKnown : List ℕ → Option CodePage → Type 0
IsPageIfKnown name None = (name ≢ codes "cp437") × (name ≢ codes "cp850")
IsPageIfKnown name (Some Cp437) = name ≡ codes "cp437"
IsPageIfKnown name (Some Cp850) = name ≡ codes "cp850"

-- the code page that the words name
abbrev pub IsPageNamed : List Row → Option CodePage → Type 0
IsPageNamed rows None = word_given (codes "from") rows ≡ None
IsPageNamed rows (Some Cp437) = word_given (codes "from") rows ≡ Some (codes "cp437")
IsPageNamed rows (Some Cp850) = word_given (codes "from") rows ≡ Some (codes "cp850")

-- what a word names, where the words say it
abbrev pub IsNamedIf : {T : Type 0} → (List ℕ → T → Type 0) → Option (List ℕ) → Option T → Type 0
IsNamedIf names word None = word ≡ None
IsNamedIf names None (Some it) = ⊥
IsNamedIf names (Some word) (Some it) = names word it

-- ---- runs

-- a run, and the day 1985-01-01 where the words name none; nothing is typed yet
pub record IsJob (rows : List Row) (checked : Bool) (job : Job) : Type 0 where
  pub file : word_given (codes "FILE") rows ≡ Some job.name.now
  pub tested : job.checked ≡ checked
  pub budget : IsNumberOr 1000000 (word_given (codes "budget") rows) job.budget
  pub limit : IsNumberOr 1000000 (word_given (codes "limit") rows) job.limit
  pub day : IsDayNamed (unwrap_or (word_given (codes "today") rows) (codes "1985-01-01")) job.day
  pub untyped : job.input.now ≡ []

pub record IsSave (rows : List Row) (save : SaveWords) : Type 0 where
  pub only_finished : save.only_finished ≡ has_flag (codes "only-finished") rows
  pub backup : lent save.backup ≡ word_given (codes "backup") rows
  pub new_owner : save.new_owner ≡ has_flag (codes "new-owner") rows
  pub no_lock : save.no_lock ≡ has_flag (codes "no-lock") rows
  pub keep_unchanged : save.keep_unchanged ≡ has_flag (codes "keep-unchanged") rows

-- a run saves, unless the words ask for a rehearsal
abbrev pub AreOutcomes : List Row → Outcomes → Type 0
AreOutcomes rows Nothing = ⊥
AreOutcomes rows Told = (has_flag (codes "rehearse") rows ≡ true) × (says_how rows ≡ false)
AreOutcomes rows (Saved save) = (has_flag (codes "rehearse") rows ≡ false) × IsSave rows save

-- a run of any code saves nothing
abbrev pub AreTested : List Row → Outcomes → Type 0
AreTested rows Nothing = (has_flag (codes "changes") rows ≡ false)
AreTested rows Told = (has_flag (codes "changes") rows ≡ true)
AreTested rows (Saved save) = ⊥

pub record IsRunAsked (rows : List Row) (run : RunWords) : Type 0 where
  pub job : IsJob rows false run.job
  pub day : run.day_left_out ≡ is_none (word_given (codes "today") rows)
  pub tables : AreOutcomes rows run.tables
  pub screens : lent run.screens ≡ word_given (codes "screens") rows

pub record IsTestedRun (rows : List Row) (run : RunWords) : Type 0 where
  pub job : IsJob rows true run.job
  pub day : run.day_left_out ≡ is_none (word_given (codes "today") rows)
  pub tables : AreTested rows run.tables
  pub screens : run.screens ≡ None

-- ---- conversations

pub record IsTalk (rows : List Row) (talk : TalkWords) : Type 0 where
  pub budget : IsNumberIf (word_given (codes "budget") rows) talk.budget
  pub limit : IsNumberOr 1000000 (word_given (codes "limit") rows) talk.limit
  pub day : IsNamedIf IsDayNamed (word_given (codes "today") rows) talk.day
  pub tables : AreOutcomes rows talk.tables
  pub page : IsPageNamed rows talk.page

-- the options that are given again when a conversation goes on; one that isn't given says nothing
pub record IsRepeated (rows : List Row) (repeated : RepeatedWords) : Type 0 where
  pub budget : IsNumberIf (word_given (codes "budget") rows) repeated.budget
  pub limit : IsNumberIf (word_given (codes "limit") rows) repeated.limit
  pub day : IsNamedIf IsDayNamed (word_given (codes "today") rows) repeated.day
  pub page : IsPageNamed rows repeated.page
  pub rehearse : repeated.rehearse ≡ has_flag (codes "rehearse") rows
  pub save : IsSave rows repeated.save

-- a conversation goes on just if the words say so
abbrev pub IsTalkAsked : List Row → TalkAsked → Type 0
IsTalkAsked rows (Begins talk) = (has_flag (codes "continue") rows ≡ false) × IsTalk rows talk
IsTalkAsked rows (GoesOn repeated) = (has_flag (codes "continue") rows ≡ true) × IsRepeated rows repeated

pub record IsShown (rows : List Row) (shown : ShownWords) : Type 0 where
  pub window : IsNamedIf IsSize (word_given (codes "window") rows) shown.window
  pub plain : shown.plain ≡ has_flag (codes "plain") rows
  pub screens : lent shown.screens ≡ word_given (codes "screens") rows

pub record IsOperate (rows : List Row) (words : OperateWords) : Type 0 where
  pub code : word_given (codes "FILE") rows ≡ Some words.code.now
  pub journal : word_given (codes "journal") rows ≡ Some words.journal.now
  pub talk : IsTalkAsked rows words.talk
  pub shown : IsShown rows words.shown

-- ---- all commands

pub record IsListAsked (rows : List Row) (listing : Listing) : Type 0 where
  pub table : word_given (codes "FILE") rows ≡ Some listing.name.now
  pub csv : listing.csv ≡ has_flag (codes "csv") rows
  pub page : IsPageNamed rows listing.page

-- what a command of this name asks for
abbrev pub AsksFor : List ℕ → List Row → Words → Type 0
AsksFor name rows (Compile decl out) = (name ≡ codes "compile")
    × (word_given (codes "DECL") rows ≡ Some decl.now) × (word_given (codes "OUT") rows ≡ Some out.now)
AsksFor name rows (Faults decl) = (name ≡ codes "faults") × (word_given (codes "DECL") rows ≡ Some decl.now)
AsksFor name rows (Run run) =
    ((name ≡ codes "run") × IsRunAsked rows run) ⊎ ((name ≡ codes "check-run") × IsTestedRun rows run)
AsksFor name rows (Operate words) = (name ≡ codes "operate") × IsOperate rows words
AsksFor name rows (Verify code) = (name ≡ codes "verify") × (word_given (codes "FILE") rows ≡ Some code.now)
AsksFor name rows (Code code) = (name ≡ codes "code") × (word_given (codes "FILE") rows ≡ Some code.now)
AsksFor name rows (OfTable listing) = (name ≡ codes "list") × IsListAsked rows listing
AsksFor name rows (Index index) = (name ≡ codes "index") × (word_given (codes "FILE") rows ≡ Some index.now)
AsksFor name rows Declare = name ≡ codes "declare"
AsksFor name rows (Forget no_lock) = (name ≡ codes "forget") × (no_lock ≡ has_flag (codes "no-lock") rows)

-- what all words ask for: those behind the name of a command
abbrev pub Asks : Option (List ℕ × List Row) → Words → Type 0
Asks None words = ⊥
Asks (Some said) words = AsksFor said.0 said.1 words
