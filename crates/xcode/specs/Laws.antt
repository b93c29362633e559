-- What holds of the readers of parts of a code file.
use Rattle.std.specs.Prelude.{◌≡◌, List, [], ◌∷◌, ℕ, ◌++◌, Bool, true, ◌&&◌, Ok, Err}
use Rattle.code_parts.specs.Laws.{AreBytes}
use Rattle.xcode.specs.declared.fault.CodeFault.{CodeFault}
use Rattle.xcode.specs.declared.fault.CodeFault.TheVariants.{Magic, Version, Short, Limit, Operation, Shape, Extra}
use Rattle.xcode.specs.declared.fault.CodeFault.TheVariants.{Memory}
use Rattle.xcode.specs.Decoding.{FilePart}

-- a fault that is told of bytes that are there
abbrev pub Lasts : CodeFault → Type 0
Lasts Magic = ⊥
Lasts Version = ⊥
Lasts Short = ⊥
Lasts Limit = Unit {0}
Lasts Operation = Unit {0}
Lasts Shape = Unit {0}
Lasts Extra = Unit {0}
Lasts Memory = ⊥

pub record IsSpelled {A : Type 0} (r : FilePart A) (text : A → List ℕ) (IsLegal IsRead : A → Type 0) : Type 0 where
  -- what is written is read
  pub again : (x : A) (rest : List ℕ) → IsLegal x → r (text x ++ rest) ≡ Ok (x, rest)
  -- what is read was written
  pub takes : (bytes rest : List ℕ) (x : A) → AreBytes bytes → r bytes ≡ Ok (x, rest) → (bytes ≡ text x ++ rest)
      × IsRead x
  -- what is read, and a fault of bytes that are there, stay where bytes are appended
  pub stays : (bytes more rest : List ℕ) (x : A) → r bytes ≡ Ok (x, rest) → r (bytes ++ more) ≡ Ok (x, rest ++ more)
  pub fails : (bytes more : List ℕ) (e : CodeFault) → Lasts e → r bytes ≡ Err e → r (bytes ++ more) ≡ Err e

-- each thing may stand behind the earlier ones and those before it
abbrev pub go_on : {A : Type 0} → (List A → A → Bool) → List A → List A → Bool
go_on follows earlier [] = true
go_on follows earlier (x ∷ xs) = follows earlier x && go_on follows (earlier ++ x ∷ []) xs
