-- Reading at the front of bytes: what stands there and the bytes behind it, or none where bytes of it are missing.
use Rattle.std.specs.Prelude.{◌≡◌, ℕ, zero, suc, List, [], ◌∷◌, ◌++◌, length, take, drop, nat_lt, if◌then◌else◌, Option}
use Rattle.std.specs.Prelude.{Some, None, Result, Ok, Err}
use Rattle.std.specs.Global.{Vec}
use Rattle.std.specs.Int.{Width, byte_len, from_le_bytes}
use Rattle.code_parts.specs.declared.flaw.Flaw.{Flaw}
use Rattle.code_parts.specs.declared.flaw.Missing.{Missing}
use Rattle.code_parts.specs.declared.flaw.Unread.{Unread}
use Rattle.code_parts.specs.declared.flaw.Unread.TheVariants.{Short, Memory}

abbrev pub Front : Type 0 → Type 0
Front A = Option (A × List ℕ)

abbrev pub Reader : Type 0 → Type 0
Reader A = List ℕ → Front A

-- What a function returned, seen by view, is what reading gives, unless memory ran out.
abbrev pub Fails : {Y : Type 0} → Unread → Option Y → Type 0
Fails Short read = read ≡ None
Fails Memory read = Unit {0}

abbrev pub Gives : {X Y : Type 0} → (X → Y) → Result X Unread → Option Y → Type 0
Gives view (Ok x) read = read ≡ Some (view x)
Gives view (Err e) read = Fails e read

-- the same of a function that takes no memory
abbrev pub Finds : {X Y : Type 0} → (X → Y) → Result X Missing → Option Y → Type 0
Finds view (Ok x) read = read ≡ Some (view x)
Finds view (Err missing) read = read ≡ None

-- ---- one reader behind the other

abbrev pub read_behind : {A B : Type 0} → Front A → (A → Reader B) → Front B
read_behind None next = None
read_behind (Some x) next = next x.0 x.1

infixl 10 ◌>>=◌
abbrev pub ◌>>=◌ : {A B : Type 0} → Reader A → (A → Reader B) → Reader B
(r >>= next) bytes = read_behind (r bytes) next

abbrev pub give : {A : Type 0} → A → Reader A
give x bytes = Some (x, bytes)

-- ---- bytes and numbers

abbrev pub byte_at : Reader ℕ
byte_at [] = None
byte_at (byte ∷ rest) = Some (byte, rest)

-- so many bytes
abbrev pub bytes_at : ℕ → Reader (List ℕ)
bytes_at n bytes = if nat_lt (length bytes) n then None else Some (take n bytes, drop n bytes)

-- a number in the bytes of this width, the lowest first
abbrev pub number_read_at : Width → Reader ℕ
number_read_at w bytes = if nat_lt (length bytes) (byte_len w) then None
    else Some (from_le_bytes w (take (byte_len w) bytes), drop (byte_len w) bytes)

-- a byte that says how many follow, and those
abbrev pub text_read_at : Reader (List ℕ)
text_read_at = do
  count ← byte_at
  bytes_at count

-- ---- what is read may have a flaw: the first one is told

-- a thing, or its first flaw
abbrev pub Judged : Type 0 → Type 0
Judged A = Result A Flaw

abbrev pub judge : {A B : Type 0} → Judged A → (A → Judged B) → Judged B
judge (Ok x) f = f x
judge (Err flaw) f = Err flaw

abbrev pub both_judged : {A B : Type 0} → Judged A → Judged B → Judged (A × B)
both_judged (Ok x) (Ok y) = Ok (x, y)
both_judged (Ok x) (Err flaw) = Err flaw
both_judged (Err flaw) second = Err flaw

-- one more thing behind a list, or before it
abbrev pub judged_behind : {A : Type 0} → Judged (List A) → Judged A → Judged (List A)
judged_behind (Ok xs) (Ok x) = Ok (xs ++ x ∷ [])
judged_behind (Ok xs) (Err flaw) = Err flaw
judged_behind (Err flaw) one = Err flaw

abbrev pub put_before : {A : Type 0} → Judged A → Judged (List A) → Judged (List A)
put_before (Ok x) (Ok xs) = Ok (x ∷ xs)
put_before (Ok x) (Err flaw) = Err flaw
put_before (Err flaw) xs = Err flaw

-- so many, one behind the other
unfoldable pub several : {A : Type 0} → Reader (Judged A) → ℕ → Reader (Judged (List A))
several one zero = give (Ok [])
several one (suc n) = do
  first ← one
  others ← several one n
  give (put_before first others)

-- the things of a vector, if it has no flaw
abbrev pub in_list : {A : Type 0} → Result (Vec A) Flaw → Judged (List A)
in_list (Ok things) = Ok things.items
in_list (Err flaw) = Err flaw

-- ---- readers made of readers

-- a thing that has no flaw
abbrev pub sure : {A : Type 0} → Reader A → Reader (Judged A)
sure r = do
  x ← r
  give (Ok x)

-- one thing and another behind it
abbrev pub pair_read_at : {A B : Type 0} → Reader (Judged A) → Reader (Judged B) → Reader (Judged (A × B))
pair_read_at r s = do
  first ← r
  second ← s
  give (both_judged first second)

-- what is made of a thing, which may be a flaw
abbrev pub made_at : {A B : Type 0} → Reader (Judged A) → (A → Judged B) → Reader (Judged B)
made_at r make = do
  x ← r
  give (judge x make)

-- a byte that says how many follow, and those
abbrev pub counted_at : {A : Type 0} → Reader (Judged A) → Reader (Judged (List A))
counted_at one = do
  count ← byte_at
  several one count

-- a byte that says what follows, and that
abbrev pub by_byte : {A : Type 0} → (ℕ → Reader (Judged A)) → Reader (Judged A)
by_byte choose = do
  byte ← byte_at
  choose byte
