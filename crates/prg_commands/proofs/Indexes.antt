-- Declared indexes by name and by number.
use Rattle.std.proofs.Common.{◌≡◌, ℕ, List, [], ◌∷◌, ◌++◌, Some, get_or, length, map, sym, subst}
use Rattle.std.specs.Prelude.{position}
use Rattle.std.specs.List.{AllZip}
use Rattle.std.specs.Str.{bytes_eq}
use Rattle.std.proofs.lemmas.List.Quantifiers.{position-Some}
use Rattle.std.proofs.lemmas.List.{append-nil}
use Rattle.std.proofs.lemmas.Option.{slice_get-get_or}
use Rattle.arrayvec.specs.ArrayVec.{ArrayVec}
use Rattle.shape.specs.declared.indexes.IndexShape.{IndexShape}
use Rattle.prg_line.specs.Act.{Letters, letters_of}
use Rattle.prg_commands.specs.Acts.{IsIndex, IsList, IsNumbered, NamesIndex}
use Rattle.prg_commands.specs.Layout.{Laying}

-- the first index of a name has this name
pub names_index : (indexes : List IndexShape) (name : List ℕ) (i : ℕ)
    → position (λ index. bytes_eq index.name.items name) indexes ≡ Some i → NamesIndex indexes name i
names_index [] name i e = absurd (let k = e in cc)
names_index (x ∷ xs) name i e =
    let found = position-Some (λ (index : IndexShape). bytes_eq index.name.items name) (x ∷ xs) i x e in
    (get_or (x ∷ xs) i x, slice_get-get_or (x ∷ xs) i x found.0, found.1)

-- a declared list of the indexes of these names
pub is_list : (f : Laying) (names : List Letters) (indexes : List ℕ) (number : ℕ)
    → AllZip (NamesIndex f.declared.shape.indexes) names indexes → IsNumbered f indexes number → IsList f names number
is_list f [] [] number h k = k
is_list f [] (i ∷ is) number h k = absurd h
is_list f (name ∷ names) [] number h k = absurd h
is_list f (name ∷ names) (i ∷ is) number h k =
    (k.0, k.1, k.2, k.3, subst (λ (js : List ℕ). AllZip (IsIndex f) (name ∷ names) js) (sym k.4) h)

-- no name is left
pub all_listed : (P : Letters → ℕ → Type 0) (all : List Letters) (rest : List (ArrayVec ℕ)) (numbers : List ℕ)
    → length rest ≡ 0
    → ((more : List ℕ) → AllZip P (map letters_of rest) more → AllZip P all (numbers ++ more)) → AllZip P all numbers
all_listed P all [] numbers e h = subst (λ (js : List ℕ). AllZip P all js) (append-nil numbers) (h [] tt)
all_listed P all (x ∷ rest) numbers e h = absurd (let k = e in cc)
