-- Lemmas on joined lines.

use Rattle.std.proofs.Common.{◌≡◌, ℕ, ◌+◌, ◌<◌, List, [], ◌∷◌, ◌++◌, Option, Some, None, length, refl, sym, ◌∙◌, arith}
use Rattle.std.proofs.Common.{append_assoc, Bool, true, false, ◌==◌, ◌&&◌, suc}
use Rattle.std.proofs.lemmas.Bool.{eqb-true}
use Rattle.prg_parser.specs.Lines as spec
use Rattle.prg_parser.specs.Lines.{Joined}
use Rattle.text_lines.specs.Lines as files

abbrev HasSome : List (List ℕ) → Type 0
HasSome ls = (l : List ℕ) × (more : List (List ℕ)) × (ls ≡ l ∷ more)

in_front : (b : ℕ) (ls : List (List ℕ)) → HasSome (files.put_in_front b ls)
in_front b [] = (b ∷ [], [], refl)
in_front b (l ∷ ls) = (b ∷ l, ls, refl)

-- a byte begins a line or is a return before one's end
lines-byte : (b : ℕ) (rest : List ℕ) (ended : Bool) (returned : Bool) → (b == 10) ≡ ended
    → (b == 13 && files.begins_with_line_end rest) ≡ returned → (returned ≡ true → HasSome (files.lines rest))
    → HasSome (files.lines (b ∷ rest))
unfolding files.lines
lines-byte b rest true r e f behind = ([], files.lines rest, rw e refl)
lines-byte b rest false true e f behind = let s = behind refl in (s.0, s.1, rw (e, f) s.2)
lines-byte b rest false false e f behind = let s = in_front b (files.lines rest) in (s.0, s.1, rw (e, f) s.2)

no_return : (b : ℕ) (x : Bool) → (x && files.begins_with_line_end []) ≡ true → HasSome (files.lines [])
no_return b true h = absurd (cc)
no_return b false h = absurd (cc)

lines-some : (bytes : List ℕ) → 0 < length bytes → HasSome (files.lines bytes)
lines-some [] some = absurd (omega (arith, some))
lines-some (b ∷ []) some =
    lines-byte b [] (b == 10) (b == 13 && files.begins_with_line_end []) refl refl (no_return b (b == 13))
lines-some (b ∷ c ∷ rest) some =
    lines-byte b (c ∷ rest) (b == 10) (b == 13 && files.begins_with_line_end (c ∷ rest)) refl refl
    (λ h. lines-some (c ∷ rest) (omega arith))

lines-none : files.lines [] ≡ []
unfolding files.lines
lines-none = refl

glue-nothing : (n : ℕ) (l : List ℕ) (o : Option (List ℕ)) (others : List Joined)
    → spec.glue n [] (spec.join_to n l o others) ≡ spec.join_to n l o others
glue-nothing n l None others = refl
glue-nothing n l (Some front) [] = refl
glue-nothing n l (Some front) (next ∷ others) = refl

starts-with : (n : ℕ) (ls : List (List ℕ)) (l : List ℕ) (more : List (List ℕ)) → ls ≡ l ∷ more
    → spec.glue n [] (spec.joined n ls) ≡ spec.joined n ls
unfolding spec.joined
starts-with n ls l more e = rw (e) (glue-nothing n l (spec.continued l) (spec.joined (n + 1) more))

pub starts : (n : ℕ) (bytes : List ℕ) → 0 < length bytes
    → spec.glue n [] (spec.joined n (files.lines bytes)) ≡ spec.joined n (files.lines bytes)
starts n bytes some =
    let split = lines-some bytes some in
    starts-with n (files.lines bytes) split.0 split.1 split.2

glue-glue : (first line : ℕ) (text front : List ℕ) (others : List Joined)
    → spec.glue first text (spec.glue line front others) ≡ spec.glue first (text ++ front) others
glue-glue first line text front [] = refl
glue-glue first line text front (next ∷ others) = rw (append_assoc text front next.text) refl

-- a line that is continued
pub goes_on : (first line : ℕ) (text found front : List ℕ) (ls all : List (List ℕ)) → spec.continued found ≡ Some front
    → all ≡ found ∷ ls
    → spec.glue first text (spec.joined line all) ≡ spec.glue first (text ++ front) (spec.joined (line + 1) ls)
unfolding spec.joined
goes_on first line text found front ls all e a = rw (a, e) (glue-glue first line text front (spec.joined (line + 1) ls))

-- a line that ends a joined one
pub ends : (first line : ℕ) (text found : List ℕ) (ls all : List (List ℕ)) → spec.continued found ≡ None
    → all ≡ found ∷ ls
    → spec.glue first text (spec.joined line all)
    ≡ (record { first = first; text = text ++ found }) ∷ spec.joined (line + 1) ls
unfolding spec.joined
ends first line text found ls all e a = rw (a, e) refl

-- nothing follows the file's last line
pub stops : (first line : ℕ) (text rest : List ℕ) → rest ≡ []
    → spec.glue first text (spec.joined line (files.lines rest))
    ≡ (record { first = first; text = text }) ∷ spec.joined line (files.lines rest)
unfolding spec.joined
stops first line text rest e = rw (e, lines-none) refl

-- behind the last byte no line is left
pub none_left : (line : ℕ) (rest : List ℕ) → rest ≡ [] → spec.joined line (files.lines rest) ≡ []
unfolding spec.joined
none_left line rest e = rw (e, lines-none) refl

too_long : (n : ℕ) → suc n ≡ 0 → ⊥
too_long n e = omega arith

-- a slice that is empty
pub is_nothing : (rest : List ℕ) (b : Bool) → b ≡ true → b ≡ (length rest == 0) → rest ≡ []
is_nothing [] b n e = refl
is_nothing (x ∷ rest) b n e =
    let z : length (x ∷ rest) ≡ 0 = eqb-true (length (x ∷ rest)) 0 (sym e ∙ n) in absurd (too_long (length rest) z)
