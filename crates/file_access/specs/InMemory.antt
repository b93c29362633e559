-- Files in memory.
use Rattle.std.specs.Prelude.{◌≡◌, ◌≢◌, ◌⊎◌, ℕ, List, [], ◌∷◌, Option, Some, None, string_bytes}
use Rattle.file_access.specs.declared.memory_files.MemoryEntry.{MemoryEntry}
use Rattle.file_access.specs.declared.memory_files.WrittenFile.{WrittenFile}

-- what the first file of the name holds, or none
abbrev pub HoldsFile : List MemoryEntry → List ℕ → Option (List ℕ) → Type 0
HoldsFile [] name found = found ≡ None
HoldsFile (e ∷ es) name found =
    ((e.name.now ≡ name) × (found ≡ Some e.bytes.now)) ⊎ ((e.name.now ≢ name) × HoldsFile es name found)

-- what the first file of the name that was written holds; where none was, what the entries hold
abbrev pub HoldsWritten : List WrittenFile → List MemoryEntry → List ℕ → Option (List ℕ) → Type 0
HoldsWritten [] es name found = HoldsFile es name found
HoldsWritten (w ∷ ws) es name found =
    ((string_bytes w.name ≡ name) × (found ≡ Some w.bytes.items)) ⊎
    ((string_bytes w.name ≢ name) × HoldsWritten ws es name found)
