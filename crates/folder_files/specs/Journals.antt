-- What is seen of a journal. 10 ends a line.
use Rattle.std.specs.Prelude.{◌≡◌, ◌<◌, ◌-◌, ◌==◌, not, ℕ, Bool, false, List, [], MatchOption, length, take, ⊤}
use Rattle.std.specs.List.{after_last, suffix_len}
use Rattle.folder_files.specs.declared.journal.JournalFault.{JournalFault}
use Rattle.folder_files.specs.declared.journal.JournalFault.TheVariants.{Exists, Held, Absent, TooLong, Disk, Memory}
use Rattle.folder_files.specs.declared.journal.JournalFile.{JournalFile}
use Rattle.folder_files.specs.declared.journal.Tail.{Tail}
use Rattle.folder_files.specs.declared.journal.TakenUp.{TakenUp}

-- how many bytes of it count
abbrev pub bytes_counted : JournalFile → ℕ
bytes_counted journal = journal.length

-- whether this program made its file
abbrev pub is_made_here : JournalFile → Bool
is_made_here journal = journal.made

-- how many bytes stand before a tail
abbrev pub bytes_in_front : Tail → ℕ
bytes_in_front tail = tail.length

-- the lines of a text that have their end, and what stands behind them
abbrev pub ended_lines : List ℕ → List ℕ
ended_lines bytes = take (length bytes - suffix_len (λ byte. not (byte == 10)) bytes) bytes

abbrev pub behind_lines : List ℕ → List ℕ
behind_lines bytes = after_last (λ byte. byte == 10) bytes

-- of these bytes of a file that stood already the lines count, and what stands behind them is told, if anything does
pub record HoldsLines (bytes : List ℕ) (taken : TakenUp) : Type 0 where
  pub lines : taken.lines.items ≡ ended_lines bytes
  pub counted : bytes_counted taken.journal ≡ length taken.lines.items
  pub stood : is_made_here taken.journal ≡ false
  pub tail : MatchOption taken.tail (behind_lines bytes ≡ []) (λ tail. (tail.bytes.items ≡ behind_lines bytes)
      × (0 < length tail.bytes.items) × (bytes_in_front tail ≡ length taken.lines.items))

-- why no new journal is made
abbrev pub RefusesNew : JournalFault → Type 0
RefusesNew Exists = ⊤
RefusesNew Held = ⊤
RefusesNew Absent = ⊤
RefusesNew Disk = ⊤
RefusesNew TooLong = ⊥
RefusesNew Memory = ⊥
