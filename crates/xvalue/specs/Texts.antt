-- Texts as lists of bytes: how they compare, and what functions make of them. The byte 32 is a blank.
use Rattle.std.specs.Prelude.{ℕ, zero, suc, ◌+◌, ◌-◌, min, Bool, true, false, ℤ, pos, negsuc, List, [], ◌∷◌, ◌++◌}
use Rattle.std.specs.Prelude.{length, take, drop, reverse, ◌==◌, nat_lt, nat_eq, if◌then◌else◌, Option, Some, None}
use Rattle.std.specs.List.{starts_with}
use Rattle.std.specs.Str.{bytes_eq}
use Rattle.fixed_num.specs.Reading.{without_blanks}

-- a text that is cut where it is longer than texts are
abbrev pub fitting : List ℕ → List ℕ
fitting cs = take 254 cs

-- a text without the blanks at its end
abbrev pub without_last_blanks : List ℕ → List ℕ
without_last_blanks cs = reverse (without_blanks (reverse cs))

-- the blanks at the end of a text
abbrev pub last_blanks : List ℕ → List ℕ
last_blanks cs = drop (length (without_last_blanks cs)) cs

-- a text begins with another
abbrev pub text_begins_with : List ℕ → List ℕ → Bool
text_begins_with cs front = starts_with nat_eq cs front

-- with EXACT on both are the same but for the blanks at their ends; with EXACT off the first begins with the second
abbrev pub equal_texts : Bool → List ℕ → List ℕ → Bool
equal_texts true cs ds = bytes_eq (without_last_blanks cs) (without_last_blanks ds)
equal_texts false cs ds = text_begins_with cs ds

-- the first byte, or a blank where there is none
abbrev pub first_or_blank : List ℕ → ℕ
first_or_blank [] = 32
first_or_blank (c ∷ cs) = c

-- the first text is before the second by bytes, the shorter one going on with blanks
abbrev pub is_text_before : List ℕ → List ℕ → Bool
is_text_before [] [] = false
is_text_before [] (d ∷ ds) = if 32 == d then is_text_before [] ds else nat_lt 32 d
is_text_before (c ∷ cs) [] = if c == 32 then is_text_before cs [] else nat_lt c 32
is_text_before (c ∷ cs) (d ∷ ds) = if c == d then is_text_before cs ds else nat_lt c d

-- the first text, the second, and then the blanks from the end of the first
abbrev pub joined_moved : List ℕ → List ℕ → List ℕ
joined_moved cs ds = without_last_blanks cs ++ ds ++ last_blanks cs

-- how many bytes a whole number asks for: none below zero
abbrev pub count_of : ℤ → ℕ
count_of (pos n) = n
count_of (negsuc n) = 0

-- so many bytes from a place on, places being counted from 1; there is no place 0
abbrev pub bytes_cut_from : ℕ → ℕ → List ℕ → List ℕ
bytes_cut_from zero count cs = []
bytes_cut_from (suc skipped) count cs = take count (drop skipped cs)

-- the last bytes
abbrev pub last_part : ℕ → List ℕ → List ℕ
last_part count cs = drop (length cs - count) cs

-- a text so many times, one behind the other
abbrev pub repeated : ℕ → List ℕ → List ℕ
repeated zero cs = []
repeated (suc n) cs = cs ++ repeated n cs

-- how many bytes stand before a place, which is brought into 1 to one past the end
abbrev pub bytes_before : ℕ → List ℕ → ℕ
bytes_before place cs = min (place - 1) (length cs)

-- the text of which so many bytes from a place on give way to others
abbrev pub stuffed : ℕ → ℕ → List ℕ → List ℕ → List ℕ
stuffed place count others cs =
    take (bytes_before place cs) cs ++ others ++ drop (bytes_before place cs + count) cs

-- a place that so many bytes more stand before
abbrev pub further : ℕ → Option ℕ → Option ℕ
further n None = None
further n (Some before) = Some (n + before)

-- how many bytes stand before the first place at which a text stands in another, if there is one
abbrev pub first_place : List ℕ → List ℕ → Option ℕ
first_place part [] = if text_begins_with [] part then Some 0 else None
first_place part (c ∷ cs) = if text_begins_with (c ∷ cs) part then Some 0 else further 1 (first_place part cs)

-- the place, counted from 1, and 0 for none
abbrev pub place_number : Option ℕ → ℕ
place_number None = 0
place_number (Some before) = before + 1

-- something holds of the first byte
abbrev pub first_is : (ℕ → Bool) → List ℕ → Bool
first_is holds [] = false
first_is holds (c ∷ cs) = holds c

-- the first byte, 0 of the empty text
abbrev pub first_byte : List ℕ → ℕ
first_byte [] = 0
first_byte (c ∷ cs) = c

-- the text of one byte, empty where the number is no byte's
abbrev pub byte_text : ℤ → List ℕ
byte_text (pos n) = if nat_lt n 256 then n ∷ [] else []
byte_text (negsuc n) = []
