-- What files hold, and failures of their device.
use Rattle.std.specs.Prelude.{◌≡◌, ◌≢◌, ◌<◌, ◌-◌, ◌^◌, ◌⊎◌, ◌↔◌, ℕ, List, Option, Some, length}

-- the count of failures rose, or was at its greatest
abbrev pub Rose : ℕ → ℕ → Type 0
Rose before after = (before < after) ⊎ (before ≡ 2 ^ 64 - 1)

-- what files may hold, by name: a file's bytes, or that there is none
abbrev pub Holds : Type 1
Holds = List ℕ → Option (List ℕ) → Type 0

-- the files hold what they held
abbrev pub SameFiles : Holds → Holds → Type 0
SameFiles before after = (name : List ℕ) (found : Option (List ℕ)) → before name found ↔ after name found

-- the file of the name holds these bytes, and every other name what it held
pub record IsReplaced (before : Holds) (name bytes : List ℕ) (after : Holds) : Type 0 where
  pub here : after name (Some bytes)
  pub others : (n : List ℕ) → n ≢ name → (found : Option (List ℕ)) → before n found ↔ after n found

-- each name holds one thing alone
abbrev pub HoldsOneThing : Holds → Type 0
HoldsOneThing holds = (name : List ℕ) (one other : Option (List ℕ)) → holds name one → holds name other → one ≡ other

-- a file of more than 64 MiB
pub record IsTooLong (holds : Option (List ℕ) → Type 0) : Type 0 where
  pub bytes : List ℕ
  pub held : holds (Some bytes)
  pub long : 67108864 < length bytes
