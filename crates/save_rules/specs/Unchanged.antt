-- Which of the files that are handed in stay as they are, and which are replaced.
use Rattle.std.specs.Prelude.{◌≡◌, ◌≤◌, ◌⊎◌, ◌↔◌, ℕ, Bool, true, List, Some, codes, length, nat_lt, slice_get}
use Rattle.std.specs.Prelude.{Contains, MatchOption}
use Rattle.std.specs.Borrow.{Bor}
use Rattle.dbf_file.specs.declared.stamp.Stamp.{Stamp}
use Rattle.dbf_file.specs.Rows.{Row}
use Rattle.dbf_file.specs.Tables.{StructureState, DbfText, dbf_text}
use Rattle.key_lists.specs.KeyForm.{KeyForm}
use Rattle.key_lists.specs.Order.{IsAscending}
use Rattle.key_lists.specs.Pairs.{Pair}
use Rattle.ndx_tree.specs.IndexFile.{IsIndexFile}
use Rattle.save_rules.specs.declared.unchanged.HandedIn.{HandedIn}
use Rattle.save_rules.specs.Recorded.{IsDeclaredFile}

-- the name of a table's file, and that of an index's
abbrev pub IsTableName : List ℕ → Type 0
IsTableName name = IsDeclaredFile (codes ".DBF") name

abbrev pub IsIndexName : List ℕ → Type 0
IsIndexName name = IsDeclaredFile (codes ".NDX") name

-- ---- what files hold

-- the bytes are a table's file with any stamp, and with any bytes after its last row
abbrev pub TextOfTable : List ℕ → StructureState → List Row → Type 0
TextOfTable bytes structure rows = (stamp : Stamp) × DbfText structure rows stamp bytes

abbrev pub no_stamp : Stamp
no_stamp = record { year = 0; month = 0; day = 0 }

-- the bytes are an index file of at most 64 MiB
pub record IsShortIndex (bytes : List ℕ) (form : KeyForm) (pairs : List Pair) : Type 0 where
  pub file : IsIndexFile bytes form pairs
  pub short : length bytes ≤ 67108864

-- the text of the table that the bytes hold, with a stamp of zeros and nothing after its last row
pub record IsUnstamped (bytes text : List ℕ) : Type 0 where
  pub structure : StructureState
  pub rows : List Row
  pub held : TextOfTable bytes structure rows
  pub written : text ≡ dbf_text structure rows no_stamp
  pub again : DbfText structure rows no_stamp text

-- two files hold the same structure, and the same rows in the same order
pub record HoldOneTable (read new : List ℕ) : Type 0 where
  pub structure : StructureState
  pub rows : List Row
  pub before : TextOfTable read structure rows
  pub after : TextOfTable new structure rows

-- two files hold the same pairs, with keys of one form
pub record HoldOneIndex (read new : List ℕ) : Type 0 where
  pub form : KeyForm
  pub pairs : List Pair
  pub before : IsShortIndex read form pairs
  pub after : IsShortIndex new form pairs

-- the new bytes of the file of this name hold what it held
abbrev pub HoldTheSame : List ℕ → List ℕ → List ℕ → Type 0
HoldTheSame name read new = (IsTableName name × HoldOneTable read new) ⊎ (IsIndexName name × HoldOneIndex read new)

-- ---- which files are replaced

-- A file stays if its new bytes are those that were read. If unchanged files are kept, it also stays if it is a
-- table's or an index's and its new bytes hold what it held. A file that wasn't read is replaced.
abbrev pub Stays : Bool → HandedIn → Type 0
Stays keeps file = MatchOption file.read ⊥ (λ read. (read.now ≡ file.new.now)
    ⊎ ((keeps ≡ true) × HoldTheSame file.name.now read.now file.new.now))

-- the numbers of the files that don't stay, in their order
pub record AreReplaced (keeps : Bool) (files : List HandedIn) (numbers : List ℕ) : Type 0 where
  pub rising : IsAscending nat_lt numbers
  pub exact : (n : ℕ) → Contains numbers n
      ↔ ((file : HandedIn) × (slice_get files n ≡ Some file) × (¬ Stays keeps file))

-- The same as a function of what was loaded and what is last: a table's file is replaced just if its structure or its
-- rows changed, and an index's file just if its key or its pairs did.
pub record AreChanged (files : List HandedIn) (numbers : List ℕ) : Type 0 where
  pub tables : (n : ℕ) (file : HandedIn) (read : Bor (List ℕ)) (structure last_structure : StructureState)
      (loaded last : List Row) → slice_get files n ≡ Some file → file.read ≡ Some read → IsTableName file.name.now
      → TextOfTable read.now structure loaded → TextOfTable file.new.now last_structure last
      → Contains numbers n ↔ (¬ ((structure ≡ last_structure) × (loaded ≡ last)))
  pub indexes : (n : ℕ) (file : HandedIn) (read : Bor (List ℕ)) (form last_form : KeyForm) (loaded last : List Pair)
      → slice_get files n ≡ Some file → file.read ≡ Some read → IsIndexName file.name.now
      → IsShortIndex read.now form loaded → IsShortIndex file.new.now last_form last
      → Contains numbers n ↔ (¬ ((form ≡ last_form) × (loaded ≡ last)))
