-- The words of a conversation, as the text of its beginning says them.
use Rattle.std.specs.Prelude.{◌≡◌, ℕ, List, Bool, true, false, Option, Some, None, codes}
use Rattle.std.specs.Prelude.{if◌then◌else◌, option_and_then, string_bytes, unwrap_or}
use Rattle.std.specs.Str.{bytes_eq}
use Rattle.code_pages.specs.declared.pages.CodePage.{CodePage}
use Rattle.code_pages.specs.declared.pages.CodePage.TheVariants.{Cp437, Cp850}
use Rattle.journal_papers.specs.declared.paper.JournalPaper.{JournalPaper}
use Rattle.operator_desk.specs.declared.begun.Talk.{Talk}
use Rattle.operator_desk.specs.declared.begun.TalkSave.{TalkSave}
use Rattle.operator_desk.specs.declared.repeated.RepeatedOption.{RepeatedOption}
use Rattle.toml.specs.Data.{as_str, get_member}
use Rattle.toml.specs.View.{table_view}

-- tables are saved where the file system knows no locks
abbrev pub save_without_lock : Option TalkSave → Bool
save_without_lock None = false
save_without_lock (Some save) = save.no_lock

-- the word under a key
abbrev pub word_said : JournalPaper → List ℕ → Option (List ℕ)
word_said paper key = option_and_then as_str (get_member key (table_view paper.table))

-- the value with which a session was begun: an option that the text of its beginning leaves out is a no
abbrev pub value_begun : JournalPaper → List ℕ → List ℕ
value_begun paper name = unwrap_or (word_said paper name) (codes "no")

-- the session was begun with this value of the option
abbrev pub is_as_begun : JournalPaper → RepeatedOption → Bool
is_as_begun paper option = bytes_eq (value_begun paper option.name.now) (string_bytes option.value)

-- a yes or a no
abbrev pub flag_said : Option (List ℕ) → Option Bool
flag_said None = None
flag_said (Some word) =
    if bytes_eq word (codes "yes") then Some true else (if bytes_eq word (codes "no") then Some false else None)

-- the same of a word that an earlier program didn't say: a no then
abbrev pub flag_if_said : Option (List ℕ) → Option Bool
flag_if_said None = Some false
flag_if_said (Some word) = flag_said (Some word)

-- the word of a code page, or that none is named
abbrev pub page_said : Option (List ℕ) → Option (Option CodePage)
page_said None = None
page_said (Some word) =
    if bytes_eq word (codes "cp437") then Some (Some Cp437) else
    (if bytes_eq word (codes "cp850") then Some (Some Cp850) else
    (if bytes_eq word (codes "none") then Some None else None))

-- the terms of a save are those that are said
pub record IsSaveSaid (paper : JournalPaper) (save : TalkSave) : Type 0 where
  pub only_finished : flag_said (word_said paper (codes "--only-finished")) ≡ Some save.only_finished
  pub new_owner : flag_said (word_said paper (codes "--new-owner")) ≡ Some save.new_owner
  pub no_lock : flag_said (word_said paper (codes "--no-lock")) ≡ Some save.no_lock
  pub keep_unchanged : flag_if_said (word_said paper (codes "--keep-unchanged")) ≡ Some save.keep_unchanged

-- a rehearsal saves nothing
abbrev pub IsOutcomeSaid : JournalPaper → Option TalkSave → Type 0
IsOutcomeSaid paper None = flag_said (word_said paper (codes "--rehearse")) ≡ Some true
IsOutcomeSaid paper (Some save) =
    (flag_said (word_said paper (codes "--rehearse")) ≡ Some false) × IsSaveSaid paper save

-- the words are those that are said: whether and how tables are saved, and the code page
pub record IsTalkSaid (paper : JournalPaper) (talk : Talk) : Type 0 where
  pub page : page_said (word_said paper (codes "--from")) ≡ Some talk.page
  pub outcome : IsOutcomeSaid paper talk.save
