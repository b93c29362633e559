-- Names of files are ASCII texts.
use Rattle.std.proofs.Common.{◌≡◌, ◌<◌, ◌≤◌, ℕ, Bool, true, false, not, ◌&&◌, ◌||◌, ◌==◌, nat_le, List, [], ◌∷◌, length}
use Rattle.std.proofs.Common.{refl, arith}
use Rattle.std.specs.Char.{is_ascii_uppercase, is_ascii_digit}
use Rattle.std.specs.List.{list_all}
use Rattle.std.specs.Str.{IsAscii, IsUtf8}
use Rattle.std.specs.Int.{is_in_range}
use Rattle.std.proofs.lemmas.Bool.{and_parts, eqb-true, leb-true}
use Rattle.std.proofs.lemmas.Str.Ascii.{IsAscii-cons, IsAscii-nil}
use Rattle.std.proofs.lemmas.Str.{IsUtf8-from_ascii}
use Rattle.shape.specs.Names.{begins_with_capital, is_area_letter, is_capital_byte, is_capital_name, is_file_name}

in_range : (lo hi b : ℕ) → is_in_range lo hi b ≡ true → b ≤ hi
in_range lo hi b e = leb-true b hi (and_parts (nat_le lo b) (nat_le b hi) e).1

small_by : (x y : Bool) (b : ℕ) → (x ≡ true → b < 128) → (y ≡ true → b < 128) → (x || y) ≡ true → b < 128
small_by true y b f g e = f refl
small_by false y b f g e = g e

capital_small : (b : ℕ) → is_capital_byte b ≡ true → b < 128
capital_small b e = small_by (is_ascii_uppercase b || is_ascii_digit b) (b == 95) b
    (λ both. small_by (is_ascii_uppercase b) (is_ascii_digit b) b (λ f. omega (arith, in_range 65 90 b f))
    (λ f. omega (arith, in_range 48 57 b f)) both)
    (λ f. omega (arith, eqb-true b 95 f)) e

capitals_ascii : (name : List ℕ) → list_all is_capital_byte name ≡ true → IsAscii name
capitals_ascii [] e = IsAscii-nil
capitals_ascii (b ∷ name) e =
    let p = and_parts (is_capital_byte b) (list_all is_capital_byte name) e in
    IsAscii-cons b name (capital_small b p.0) (capitals_ascii name p.1)

pub name_is_text : (name : List ℕ) → is_file_name name ≡ true → IsUtf8 name × (length name ≤ 8)
unfolding is_file_name
name_is_text name e =
    let p = and_parts (nat_le (length name) 8 && is_capital_name name) (not (is_area_letter name)) e in
    let q = and_parts (nat_le (length name) 8) (is_capital_name name) p.0 in
    let r = and_parts (begins_with_capital name) (list_all is_capital_byte name) q.1 in
    (IsUtf8-from_ascii name (capitals_ascii name r.1), leb-true (length name) 8 q.0)
