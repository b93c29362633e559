-- The words that spell a key.
use Rattle.std.specs.Prelude.{◌≡◌, ◌<◌, ◌≤◌, ℕ, List, [], ◌∷◌, ◌++◌, Some, None, length, slice_get, map, codes}
use Rattle.std.specs.Prelude.{if◌then◌else◌}
use Rattle.std.specs.List.{AllByRecursion}
use Rattle.dbf_file.specs.declared.field.Field.{Field}
use Rattle.prg_expr.specs.declared.tree.BinaryOperator.TheVariants.{Plus}
use Rattle.prg_expr.specs.Faults.{least_of}
use Rattle.prg_expr.specs.Lexicon.{spot_fault, spot_word}
use Rattle.prg_expr.specs.Scanning.{scan}
use Rattle.prg_expr.specs.Word.{Word, Name, Sign, Open, Close}
use Rattle.shape.specs.declared.parts.KeyPart.{KeyPart}
use Rattle.shape.specs.Keys.{name_of}

-- the field's name, in UPPER( ) where its text is taken in capitals
abbrev pub part_words : List Field → KeyPart → List Word
part_words fields part =
    if part.upper then Name (codes "UPPER") ∷ Open ∷ Name (name_of (slice_get fields part.field)) ∷ Close ∷ []
    else Name (name_of (slice_get fields part.field)) ∷ []

-- the further parts, a plus sign before each
abbrev pub more_words : List Field → List KeyPart → List Word
more_words fields [] = []
more_words fields (part ∷ parts) = (Sign Plus ∷ part_words fields part) ++ more_words fields parts

-- the parts in their order, joined by plus signs
abbrev pub key_words : List Field → List KeyPart → List Word
key_words fields [] = []
key_words fields (part ∷ parts) = part_words fields part ++ more_words fields parts

-- The text spells the key: its words are the key's, in any letter case, and none of them is faulty.
pub record SpellsKey (fields : List Field) (text : List ℕ) (parts : List KeyPart) : Type 0 where
  pub words : map spot_word (scan text) ≡ key_words fields parts
  pub faultless : least_of None (map spot_fault (scan text)) ≡ None

-- the part names a field that is there, by a byte, whose name has at most ten bytes
pub record NamesField (fields : List Field) (part : KeyPart) : Type 0 where
  pub field : Field
  pub there : slice_get fields part.field ≡ Some field
  pub is_byte : part.field < 256
  pub short : length field.name.items ≤ 10

-- no field has the name
abbrev pub LacksField : List Field → List ℕ → Type 0
LacksField fields name = (part : KeyPart) → NamesField fields part → name_of (slice_get fields part.field) ≡ name → ⊥

-- no opening parenthesis stands in front
abbrev pub OpensNothing : List Word → Type 0
OpensNothing words = (rest : List Word) → words ≡ Open ∷ rest → ⊥

-- no part stands in front of other words
abbrev pub LacksPart : List Field → List Word → Type 0
LacksPart fields words = (part : KeyPart) (rest : List Word) → NamesField fields part → OpensNothing rest
    → words ≡ part_words fields part ++ rest → ⊥

-- what is said is said of no key: of no one to eight parts that each name a field
abbrev pub OfNoKey : List Field → (List KeyPart → Type 0) → Type 0
OfNoKey fields says = (parts : List KeyPart) → 1 ≤ length parts → length parts ≤ 8
    → AllByRecursion (NamesField fields) parts → says parts → ⊥

-- the words are no key's
abbrev pub LacksKey : List Field → List Word → Type 0
LacksKey fields words = OfNoKey fields (λ parts. words ≡ key_words fields parts)

-- the text spells no key
abbrev pub SpellsNoKey : List Field → List ℕ → Type 0
SpellsNoKey fields text = OfNoKey fields (SpellsKey fields text)
