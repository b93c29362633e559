-- Which files the record of a save may name.
use Rattle.std.specs.Prelude.{◌≡◌, ◌≢◌, ◌≤◌, ◌*◌, ◌++◌, ℕ, Bool, true, List, [], Some, codes, length, slice_get}
use Rattle.std.specs.Borrow.{Bor}
use Rattle.std.specs.List.{list_any}
use Rattle.std.specs.Str.{bytes_eq}
use Rattle.shape.specs.Names.{is_file_name}
use Rattle.save_rules.specs.declared.recorded.Recorded.{Recorded}
use Rattle.save_rules.specs.declared.recorded.Recorded.TheVariants.{Table, Index, Done, Other}

-- a name that a table or an index can have, followed by this ending
abbrev pub IsDeclaredFile : List ℕ → List ℕ → Type 0
IsDeclaredFile ending name = (declared : List ℕ) × (is_file_name declared ≡ true) × (name ≡ declared ++ ending)

-- the file that records the end of a journal's session
abbrev pub IsDone : List ℕ → List ℕ → Type 0
IsDone journal name = (journal ≢ []) × (name ≡ journal ++ codes ".done")

-- what a file of this name is
abbrev pub IsRecordedAs : List ℕ → Recorded → Type 0
IsRecordedAs name Table = IsDeclaredFile (codes ".DBF") name
IsRecordedAs name Index = IsDeclaredFile (codes ".NDX") name
IsRecordedAs name (Done journal) = IsDone journal.now name
IsRecordedAs name Other = (¬ IsDeclaredFile (codes ".DBF") name) × (¬ IsDeclaredFile (codes ".NDX") name)
    × ((journal : List ℕ) → ¬ IsDone journal name)

-- ---- the names of one record

-- whether a name is one of others
abbrev pub is_named_among : List ℕ → List (Bor (List ℕ)) → Bool
is_named_among name others = list_any (λ other. bytes_eq other.now name) others

-- no two are equal
abbrev pub AllDiffer : List (Bor (List ℕ)) → Type 0
AllDiffer names = (j k : ℕ) (a b : Bor (List ℕ)) → slice_get names j ≡ Some a → slice_get names k ≡ Some b → j ≢ k
    → a.now ≢ b.now

-- One record may have these names of files and of their new files: they belong to at most 97 files, and no two are
-- equal. So no file is named twice, no new file is, and no new file is one of the files.
pub record MayBeRecorded (names : List (Bor (List ℕ))) : Type 0 where
  pub few : length names ≤ 2 * 97
  pub apart : AllDiffer names
