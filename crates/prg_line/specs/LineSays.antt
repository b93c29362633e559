-- What the bytes of a line say.
use Rattle.std.specs.Prelude.{◌≡◌, ◌≤◌, ℕ, List, [], ◌∷◌, map, length, Bool, true, false, None}
use Rattle.prg_expr.specs.Lexicon.{Spot, spot_word, spot_fault, IsLine}
use Rattle.prg_line.specs.Commands.{Says}
use Rattle.prg_line.specs.Saying.{Saying}
use Rattle.prg_line.specs.Verbs.{FoundVerb, verb_of, ignores_rest}

-- none of the words has a fault
abbrev pub Faultless : List Spot → Type 0
Faultless [] = Unit {0}
Faultless (s ∷ others) = (spot_fault s ≡ None) × Faultless others

-- where the rest of a line isn't looked at, its words may have faults
abbrev pub Counts : Bool → List Spot → Type 0
Counts true spots = Unit {0}
Counts false spots = Faultless spots

-- the command that the words begin, and the words behind those that say so
abbrev pub verb_begun : List Spot → FoundVerb
verb_begun spots = verb_of (map spot_word spots)

-- The bytes of a line say this: they are words, at most 1,024 bytes in all, and the words behind the first ones are as
-- the form of the command is.
pub record LineSays (s : Saying) (text : List ℕ) : Type 0 where
  pub spots : List Spot
  pub are_words : IsLine spots text
  pub short : length text ≤ 1024
  pub counts : Counts (ignores_rest (verb_begun spots).0) spots
  pub says : Says (verb_begun spots).0 s (verb_begun spots).1
