-- What stands of a conversation in the folder, and what its sessions make of it.
use Rattle.std.specs.Prelude.{◌≡◌, ◌⊎◌, ◌++◌, ℕ, suc, Bool, true, false, List, [], ◌∷◌, Option, Some, None, take}
use Rattle.std.specs.Prelude.{◌||◌, ◌==◌, if◌then◌else◌}
use Rattle.std.specs.Option.{option_map}
use Rattle.journal_steps.specs.declared.next.Remains.{Remains}
use Rattle.journal_steps.specs.declared.next.Next.{Next}
use Rattle.journal_steps.specs.declared.next.Next.TheVariants.{Begin, GoOn, Finish, Ended, Changed, Taken, Missing}
use Rattle.journal_steps.specs.Next.{next_of}

-- ---- lines and bytes

-- lines, each with LF behind it
abbrev pub unlines : List (List ℕ) → List ℕ
unlines [] = []
unlines (line ∷ lines) = line ++ 10 ∷ unlines lines

-- the lines that end with LF, behind a front of the first of them; what stands behind the last LF is no line
abbrev pub lines_after_front : List ℕ → List ℕ → List (List ℕ)
lines_after_front front [] = []
lines_after_front front (byte ∷ bytes) =
    if byte == 10 then front ∷ lines_after_front [] bytes else lines_after_front (front ++ byte ∷ []) bytes

abbrev pub whole_lines : List ℕ → List (List ℕ)
whole_lines bytes = lines_after_front [] bytes

-- ---- what stands

-- the tables: those of the beginning; those of the conversation's save, in part at least; or other ones
pub data Tables : Type 0 where
  Old : Tables
  New : Tables
  Other : Tables

abbrev pub are_old : Tables → Bool
are_old Old = true
are_old New = false
are_old Other = false

-- the bytes of the journal, if it stands; the texts of the beginning and of the end; whether a note tells of a save,
-- and whether its new tables still wait beside the old ones; the tables, and how often what was typed was saved in them
pub record Folder : Type 0 where
  pub journal : Option (List ℕ)
  pub begun : Bool
  pub noted : Bool
  pub waits : Bool
  pub done : Bool
  pub tables : Tables
  pub saves : ℕ

abbrev pub empty_folder : Folder
empty_folder =
    record { journal = None; begun = false; noted = false; waits = false; done = false; tables = Other; saves = 0 }

-- an empty journal without a text of its beginning or of its end counts as none: nothing was ever asked
abbrev pub counts : Option (List ℕ) → Bool → Bool → Bool
counts None begun done = false
counts (Some []) begun done = begun || done
counts (Some (byte ∷ bytes)) begun done = true

abbrev pub remains_in : Folder → Remains
remains_in f =
    record {
      journal = counts f.journal f.begun f.done;
      begun = f.begun;
      noted = f.noted;
      done = f.done;
      same = are_old f.tables;
    }

-- the folder, and the lines that the session's machine has taken, in order
pub record Moment : Type 0 where
  pub folder : Folder
  pub taken : List (List ℕ)

-- ---- deeds

pub data Deed : Type 0 where
  -- an empty journal is made
  MakeJournal : Deed
  -- the text of the beginning takes its place, with the sums of the tables that stand
  WriteBegun : Deed
  -- the journal is cut behind its last LF
  CutJournal : Deed
  -- a line and LF are put behind the journal, and brought to the device
  Keep : List ℕ → Deed
  -- the machine takes lines
  Take : List (List ℕ) → Deed
  -- the note of the save takes its place: from then on the save counts
  WriteNote : Deed
  -- the new tables that wait take their places
  Place : Deed
  -- the text of the end takes its place
  WriteDone : Deed
  -- the note goes, and the new tables that still wait go before it
  RemoveNote : Deed

abbrev pub with_journal : Folder → Option (List ℕ) → Folder
with_journal f journal = record f { journal = journal }

abbrev pub with_more_bytes : List ℕ → Folder → Folder
with_more_bytes bytes f = with_journal f (option_map (λ j. j ++ bytes) f.journal)

-- the tables of a save in their places, where they wait; a part of them counts as all
abbrev pub with_tables_placed : Bool → Folder → Folder
with_tables_placed false f = f
with_tables_placed true f = record f { waits = false; tables = New; saves = suc f.saves }

-- the folder behind a deed
abbrev pub behind_deed : Deed → Folder → Folder
behind_deed MakeJournal f = with_journal f (Some [])
behind_deed WriteBegun f = record f { begun = true; tables = Old }
behind_deed CutJournal f = with_journal f (option_map (λ j. unlines (whole_lines j)) f.journal)
behind_deed (Keep line) f = with_more_bytes (line ++ 10 ∷ []) f
behind_deed (Take lines) f = f
behind_deed WriteNote f = record f { noted = true; waits = true }
behind_deed Place f = with_tables_placed f.waits f
behind_deed WriteDone f = record f { done = true }
behind_deed RemoveNote f = record f { noted = false; waits = false }

-- the lines that the machine has taken behind a deed
abbrev pub taken_behind : Deed → List (List ℕ) → List (List ℕ)
taken_behind (Take lines) taken = taken ++ lines
taken_behind _ taken = taken

-- a stop within a deed leaves the folder as before it, or behind it; of a line that is kept any part may stand
abbrev pub MayBeLeft : Deed → Folder → Folder → Type 0
MayBeLeft (Keep line) f g = (n : ℕ) × (g ≡ with_more_bytes (take n (line ++ 10 ∷ [])) f)
MayBeLeft deed f g = (g ≡ f) ⊎ (g ≡ behind_deed deed f)

-- a session of these deeds, stopped at any moment, leaves this
abbrev pub StoppedAt : List Deed → Moment → Moment → Type 0
StoppedAt [] m n = n ≡ m
StoppedAt (deed ∷ deeds) m n =
    (MayBeLeft deed m.folder n.folder × (n.taken ≡ m.taken))
    ⊎ StoppedAt deeds (record { folder = behind_deed deed m.folder; taken = taken_behind deed m.taken }) n

-- ---- sessions

-- whether a conversation that stands is to go on, the lines that are typed, and whether its tables are saved at its end
pub record Session : Type 0 where
  pub goes_on : Bool
  pub typed : List (List ℕ)
  pub saves : Bool

-- each line is kept, and only then the machine takes it
abbrev pub talk : List (List ℕ) → List Deed
talk [] = []
talk (line ∷ lines) = Keep line ∷ Take (line ∷ []) ∷ talk lines

abbrev pub last_deeds : Bool → List Deed
last_deeds true = WriteNote ∷ Place ∷ WriteDone ∷ RemoveNote ∷ []
last_deeds false = WriteDone ∷ []

-- the lines that a journal holds
abbrev pub lines_kept : Option (List ℕ) → List (List ℕ)
lines_kept None = []
lines_kept (Some bytes) = whole_lines bytes

-- the machine of a conversation that goes on takes all lines that its journal holds
abbrev pub deeds_of : Next → Folder → Session → List Deed
deeds_of Begin f s = MakeJournal ∷ WriteBegun ∷ talk s.typed ++ last_deeds s.saves
deeds_of GoOn f s = CutJournal ∷ Take (lines_kept f.journal) ∷ talk s.typed ++ last_deeds s.saves
deeds_of Finish f s = Place ∷ WriteDone ∷ RemoveNote ∷ []
deeds_of Ended f s = []
deeds_of Changed f s = []
deeds_of Taken f s = []
deeds_of Missing f s = []

abbrev pub begins : Folder → Moment
begins f = record { folder = f; taken = [] }

-- a session of a conversation of which this stands, stopped at any moment, leaves this
abbrev pub LeftBy : Session → Folder → Moment → Type 0
LeftBy s f m = StoppedAt (deeds_of (next_of (remains_in f) s.goes_on) f s) (begins f) m

-- ---- what else befalls a folder

-- between sessions the save that a note tells of may be forgotten, which writes no text of an end; and other programs
-- may change the tables, or put back those of the beginning, in which nothing of the conversation is saved
pub data Visit : Type 0 where
  Talks : Session → Visit
  Forgets : Visit
  Changes : Visit
  PutsBack : Visit

abbrev pub changed : Folder → Folder
changed f = record f { tables = Other }

abbrev pub put_back : Folder → Folder
put_back f = record f { tables = Old; saves = 0 }
