-- What a plan and a note say, and the one text of each.
use Rattle.std.specs.Prelude.{◌≡◌, ℕ, ◌<◌, ◌^◌, Bool, true, false, List, [], ◌∷◌, ◌++◌, length, map, codes, Option}
use Rattle.std.specs.Prelude.{Some, None, IfSome}
use Rattle.std.specs.List.{flat_map, AllByRecursion}
use Rattle.std.specs.Int.{w32, to_be_bytes}
use Rattle.sha2.specs.Sha256.{sha256}
use Rattle.save_papers.specs.declared.paper.PaperEntry.{PaperEntry}
use Rattle.save_papers.specs.declared.paper.SavePaper.{SavePaper}

-- a file that a save replaces: its name, its new file's name, and the sums of what it held and is to hold
pub record EntrySays : Type 0 where
  pub name : List ℕ
  pub beside : List ℕ
  pub old : Option (List ℕ)
  pub new : List ℕ

-- whether it is a note, and the files in the order in which they are replaced
pub record PaperSays : Type 0 where
  pub noted : Bool
  pub entries : List EntrySays

abbrev pub entry_view : PaperEntry → EntrySays
entry_view e = record { name = e.name.items; beside = e.beside.items; old = e.old; new = e.new }

abbrev pub entry_views : List PaperEntry → List EntrySays
entry_views es = map entry_view es

abbrev pub paper_view : SavePaper → PaperSays
paper_view p = record { noted = p.noted; entries = entry_views p.entries.items }

-- ---- the text

-- the line with which it begins
unfoldable pub head : List ℕ
head = codes "Tablereef: a save that is not at its end" ++ 10 ∷ []

-- the SHA-256 sum
unfoldable pub seal_of : List ℕ → List ℕ
seal_of bytes = sha256 bytes

-- four bytes of length, and that many bytes
abbrev pub string : List ℕ → List ℕ
string bytes = to_be_bytes w32 (length bytes) ++ bytes

-- a byte that says whether there is a sum, and the sum
abbrev pub flagged_sum : Option (List ℕ) → List ℕ
flagged_sum None = 0 ∷ []
flagged_sum (Some sum) = 1 ∷ sum

abbrev pub paper_entry_text : EntrySays → List ℕ
paper_entry_text e = ((string e.name ++ string e.beside) ++ flagged_sum e.old) ++ e.new

abbrev pub noted_text : Bool → List ℕ
noted_text false = 0 ∷ []
noted_text true = 1 ∷ []

-- all but the last 32 bytes
abbrev pub sealed_text : PaperSays → List ℕ
sealed_text p =
    ((head ++ noted_text p.noted) ++ to_be_bytes w32 (length p.entries)) ++ flat_map paper_entry_text p.entries

-- the bytes are those of the plan or the note: its body, and the body's sum
pub record IsPaperText (p : PaperSays) (bytes : List ℕ) : Type 0 where
  pub seal : List ℕ
  pub whole : bytes ≡ sealed_text p ++ seal
  pub is : seal_of (sealed_text p) ≡ seal
  pub len : length seal ≡ 32

-- ---- what has a text

pub record FitsEntry (e : EntrySays) : Type 0 where
  pub name : length e.name < 2 ^ 32
  pub beside : length e.beside < 2 ^ 32
  pub old : IfSome e.old (λ sum. length sum ≡ 32)
  pub new : length e.new ≡ 32

abbrev pub IsPaper : PaperSays → Type 0
IsPaper p = (length p.entries < 2 ^ 32) × AllByRecursion FitsEntry p.entries
