-- Reading from left to right; none where the bytes are no paper's.
use Rattle.std.specs.Prelude.{◌≡◌, ℕ, zero, suc, ◌-◌, Bool, true, false, List, [], ◌∷◌, length, take, drop, Option}
use Rattle.std.specs.Prelude.{Some, None, Result, Ok, Err, nat_lt, ◌==◌, if◌then◌else◌}
use Rattle.std.specs.Int.{Width, w32, byte_len, from_be_bytes}
use Rattle.std.specs.Str.{bytes_eq}
use Rattle.save_papers.specs.declared.paper.PaperError.{PaperError}
use Rattle.save_papers.specs.declared.paper.PaperError.TheVariants.{Memory, Foreign}
use Rattle.save_papers.specs.Papers.{EntrySays, PaperSays, head, seal_of}

infixl 10 ◌>>=◌
abbrev pub ◌>>=◌ : {A B : Type 0} → Option A → (A → Option B) → Option B
(Some x) >>= f = f x
None >>= f = None

-- What a function returned, seen by view, is what reading gives, unless memory ran out.
abbrev pub PaperFails : {Y : Type 0} → PaperError → Option Y → Type 0
PaperFails Memory read = Unit {0}
PaperFails Foreign read = read ≡ None

abbrev pub PaperGives : {X Y : Type 0} → (X → Y) → Result X PaperError → Option Y → Type 0
PaperGives view (Ok x) read = read ≡ Some (view x)
PaperGives view (Err e) read = PaperFails e read

-- A field is a value and the bytes after it.
abbrev pub number_in_front : Width → List ℕ → Option (ℕ × List ℕ)
number_in_front w bytes =
    if nat_lt (length bytes) (byte_len w) then None
    else Some (from_be_bytes w (take (byte_len w) bytes), drop (byte_len w) bytes)

unfoldable pub string_at : List ℕ → Option (List ℕ × List ℕ)
string_at bytes = do
  n ← number_in_front w32 bytes
  if nat_lt (length n.1) n.0 then None else Some (take n.0 n.1, drop n.0 n.1)

abbrev pub sum_at : List ℕ → Option (List ℕ × List ℕ)
sum_at bytes = if nat_lt (length bytes) 32 then None else Some (take 32 bytes, drop 32 bytes)

unfoldable pub flagged_sum_at : List ℕ → Option (Option (List ℕ) × List ℕ)
flagged_sum_at [] = None
flagged_sum_at (zero ∷ rest) = Some (None, rest)
flagged_sum_at (suc zero ∷ rest) = do
  sum ← sum_at rest
  Some (Some sum.0, sum.1)
flagged_sum_at (suc (suc b) ∷ rest) = None

unfoldable pub paper_entry_at : List ℕ → Option (EntrySays × List ℕ)
paper_entry_at bytes = do
  name ← string_at bytes
  beside ← string_at name.1
  old ← flagged_sum_at beside.1
  new ← sum_at old.1
  Some (record { name = name.0; beside = beside.0; old = old.0; new = new.0 }, new.1)

unfoldable pub paper_entries_at : ℕ → List ℕ → Option (List EntrySays × List ℕ)
paper_entries_at zero bytes = Some ([], bytes)
paper_entries_at (suc n) bytes = do
  first ← paper_entry_at bytes
  others ← paper_entries_at n first.1
  Some (first.0 ∷ others.0, others.1)

abbrev pub noted_at : List ℕ → Option (Bool × List ℕ)
noted_at [] = None
noted_at (zero ∷ rest) = Some (false, rest)
noted_at (suc zero ∷ rest) = Some (true, rest)
noted_at (suc (suc b) ∷ rest) = None

abbrev pub after_head : List ℕ → Option (List ℕ)
after_head bytes = if bytes_eq (take (length head) bytes) head then Some (drop (length head) bytes) else None

-- all of a body
unfoldable pub body_of : List ℕ → Option PaperSays
body_of bytes = do
  rest ← after_head bytes
  kind ← noted_at rest
  n ← number_in_front w32 kind.1
  es ← paper_entries_at n.0 n.1
  if length es.1 == 0 then Some (record { noted = kind.0; entries = es.0 }) else None

-- the body, where the last 32 bytes are its sum
unfoldable pub unsealed : List ℕ → Option (List ℕ)
unsealed bytes =
    if nat_lt (length bytes) 32 then None
    else (if bytes_eq (seal_of (take (length bytes - 32) bytes)) (drop (length bytes - 32) bytes)
    then Some (take (length bytes - 32) bytes) else None)

unfoldable pub paper_of : List ℕ → Option PaperSays
paper_of bytes = do
  body ← unsealed bytes
  body_of body
