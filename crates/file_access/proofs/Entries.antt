-- Files in memory, looked through from the first.
use Rattle.std.proofs.Common.{◌≡◌, ◌≢◌, ℕ, suc, ◌+◌, ◌<◌, ◌⊎◌, List, [], ◌∷◌, length, drop, get_or, Option, Some, refl}
use Rattle.std.proofs.Common.{subst, sym, ◌∙◌, add-one, inl, inr, drop-cons, string_bytes}
use Rattle.file_access.specs.declared.memory_files.MemoryEntry.{MemoryEntry}
use Rattle.file_access.specs.declared.memory_files.WrittenFile.{WrittenFile}
use Rattle.file_access.specs.Holding.{HoldsOneThing}
use Rattle.file_access.specs.InMemory.{HoldsFile, HoldsWritten}

pub found_at : (es : List MemoryEntry) (k : ℕ) (d : MemoryEntry) (name : List ℕ) → k < length es
    → (get_or es k d).name.now ≡ name → HoldsFile (drop k es) name (Some (get_or es k d).bytes.now)
found_at es k d name within same =
    subst (λ l. HoldsFile l name (Some (get_or es k d).bytes.now)) (sym (drop-cons es k d within)) (inl (same, refl))

pub not_at : (es : List MemoryEntry) (k : ℕ) (d : MemoryEntry) (name : List ℕ) (found : Option (List ℕ)) → k < length es
    → (get_or es k d).name.now ≢ name → HoldsFile (drop (k + 1) es) name found → HoldsFile (drop k es) name found
not_at es k d name found within other h =
    let h' : HoldsFile (drop (suc k) es) name found = rw (← add-one) h in
    subst (λ l. HoldsFile l name found) (sym (drop-cons es k d within)) (inr (other, h'))

pub written_at : (ws : List WrittenFile) (k : ℕ) (d : WrittenFile) (es : List MemoryEntry) (name : List ℕ)
    (found : Option (List ℕ)) → k < length ws → string_bytes (get_or ws k d).name ≡ name
    → found ≡ Some (get_or ws k d).bytes.items → HoldsWritten (drop k ws) es name found
written_at ws k d es name found within same what =
    subst (λ l. HoldsWritten l es name found) (sym (drop-cons ws k d within)) (inl (same, what))

pub not_written_at : (ws : List WrittenFile) (k : ℕ) (d : WrittenFile) (es : List MemoryEntry) (name : List ℕ)
    (found : Option (List ℕ)) → k < length ws → string_bytes (get_or ws k d).name ≢ name
    → HoldsWritten (drop (k + 1) ws) es name found → HoldsWritten (drop k ws) es name found
not_written_at ws k d es name found within other h =
    let h' : HoldsWritten (drop (suc k) ws) es name found = rw (← add-one) h in
    subst (λ l. HoldsWritten l es name found) (sym (drop-cons ws k d within)) (inr (other, h'))

-- two answers of which each is either of this file or of the rest are one
one_of : {name other : List ℕ} {bytes : List ℕ} {one two : Option (List ℕ)} (Rest : Option (List ℕ) → Type 0)
    → (Rest one → Rest two → one ≡ two) → ((name ≡ other) × (one ≡ Some bytes)) ⊎ ((name ≢ other) × Rest one)
    → ((name ≡ other) × (two ≡ Some bytes)) ⊎ ((name ≢ other) × Rest two) → one ≡ two
one_of Rest further (inl (_, a)) (inl (_, b)) = a ∙ sym b
one_of Rest further (inl (same, _)) (inr (not, _)) = absurd (not same)
one_of Rest further (inr (not, _)) (inl (same, _)) = absurd (not same)
one_of Rest further (inr (_, a)) (inr (_, b)) = further a b

entries_hold_one : (es : List MemoryEntry) → HoldsOneThing (HoldsFile es)
entries_hold_one [] name one two a b = a ∙ sym b
entries_hold_one (e ∷ es) name one two a b = one_of (HoldsFile es name) (entries_hold_one es name one two) a b

pub written_hold_one : (ws : List WrittenFile) (es : List MemoryEntry) → HoldsOneThing (HoldsWritten ws es)
written_hold_one [] es name one two a b = entries_hold_one es name one two a b
written_hold_one (w ∷ ws) es name one two a b =
    one_of (HoldsWritten ws es name) (written_hold_one ws es name one two) a b
