-- The line that a fault names is a line of the file.

use Rattle.std.proofs.Common.{◌≡◌, ℕ, suc, ◌+◌, ◌-◌, ◌<◌, ◌≤◌, List, [], ◌∷◌, ◌++◌, Option, Some, None, Bool, true}
use Rattle.std.proofs.Common.{false, length, get_or, map, refl, sym, ap, subst, arith}
use Rattle.std.specs.Prelude.{slice_get, option_map, if◌then◌else◌, is_none, nat_le, nat_lt}
use Rattle.std.specs.List.{All}
use Rattle.std.proofs.lemmas.Option.{slice_get_within, get_or_from_slice_get}
use Rattle.std.proofs.lemmas.List.Elements.{All-nil, All-cons, All-head, All-tail, All-weaker, All-push, All-take}
use Rattle.std.proofs.lemmas.List.Elements.{All-get_or, All-append, All-map, All-same}
use Rattle.prg_expr.specs.declared.fault.ParseFaultKind.{ParseFaultKind}
use Rattle.prg_expr.specs.declared.fault.ParseFault.{ParseFault}
use Rattle.prg_parser.specs.declared.blocks.Part.{Part}
use Rattle.prg_parser.specs.declared.blocks.Place.{Place}
use Rattle.prg_parser.specs.declared.blocks.Place.TheVariants.{InThen, InElse, BeforeCases, InCase, InOtherwise}
use Rattle.prg_parser.specs.declared.blocks.Place.TheVariants.{InWhile, InScan}
use Rattle.prg_line.specs.declared.role.Role.{Role}
use Rattle.prg_line.specs.declared.role.Role.TheVariants.{Nothing, Plain, Leap, Procedure, If, Else, EndIf, DoCase}
use Rattle.prg_line.specs.declared.role.Role.TheVariants.{Case, Otherwise, EndCase, DoWhile, EndDo, Scan, EndScan}
use Rattle.prg_parser.specs.declared.judging.LineMark.{LineMark}
use Rattle.prg_parser.specs.Lines as lines
use Rattle.text_lines.specs.Lines as text
use Rattle.prg_parser.specs.Lines.{Joined}
use Rattle.prg_parser.specs.Marks.{line_mark, marks}
use Rattle.prg_parser.specs.Verdict as spec
use Rattle.prg_parser.specs.Verdict.{IsLineOf, verdict}
use Rattle.prg_parser.specs.Blocks as blocks
use Rattle.prg_parser.specs.Listing as listing
use Rattle.prg_parser.specs.Blocks.{parts_after}

-- the numbers of joined lines

abbrev Numbered : ℕ → ℕ → Joined → Type 0
Numbered n count j = (n ≤ j.first) × (j.first < n + count)

later : (n count : ℕ) (j : Joined) → Numbered (n + 1) count j → Numbered n (suc count) j
later n count j h = (omega (arith, h.0), omega (arith, h.1))

glued-in : (n count : ℕ) (front : List ℕ) (others : List Joined) → All (Numbered n (suc count)) others
    → All (Numbered n (suc count)) (lines.glue n front others)
glued-in n count front [] h =
    All-cons (Numbered n (suc count)) (record { first = n; text = front }) [] (omega arith, omega arith)
    (All-nil (Numbered n (suc count)))
glued-in n count front (next ∷ others) h =
    All-cons (Numbered n (suc count)) (record { first = n; text = front ++ next.text }) others
    (omega arith, omega arith) (All-tail (Numbered n (suc count)) next others h)

step-in : (n count : ℕ) (line : List ℕ) (o : Option (List ℕ)) (others : List Joined)
    → All (Numbered n (suc count)) others → All (Numbered n (suc count)) (lines.join_to n line o others)
step-in n count line None others h =
    All-cons (Numbered n (suc count)) (record { first = n; text = line }) others (omega arith, omega arith) h
step-in n count line (Some front) others h = glued-in n count front others h

joined-in : (n : ℕ) (ls : List (List ℕ)) → All (Numbered n (length ls)) (lines.joined n ls)
unfolding lines.joined
joined-in n [] = All-nil (Numbered n 0)
joined-in n (line ∷ others) =
    let count : length (line ∷ others) ≡ suc (length others) = omega arith in
    subst (λ (c : ℕ). All (Numbered n c) (lines.join_to n line (lines.continued line) (lines.joined (n + 1) others)))
    (sym count)
    (step-in n (length others) line (lines.continued line) (lines.joined (n + 1) others)
    (All-weaker (Numbered (n + 1) (length others)) (Numbered n (suc (length others))) (later n (length others))
    (lines.joined (n + 1) others) (joined-in (n + 1) others)))

numbered-line : (count line : ℕ) → (1 ≤ line) × (line < 1 + count) → IsLineOf count line
numbered-line count line h = (h.0, omega (arith, h.1))

-- parts of blocks

abbrev InFile : ℕ → List Part → Type 0
InFile count parts = All (λ part. IsLineOf count part.line) parts

found-in : (count : ℕ) (parts : List Part) (k : ℕ) (part : Part) → InFile count parts → slice_get parts k ≡ Some part
    → IsLineOf count part.line
found-in count parts k part h e =
    let same : get_or parts k part ≡ part = get_or_from_slice_get parts k part part e in
    subst (λ (p : Part). IsLineOf count p.line) same
    (All-get_or (λ (p : Part). IsLineOf count p.line) parts k part (slice_get_within parts k part e) h)

divided-in : (count : ℕ) (parts : List Part) (place : Place) (o : Option Part) → InFile count parts
    → slice_get parts (length parts - 1) ≡ o → InFile count (blocks.divide_at parts o place)
divided-in count parts place None h e = h
divided-in count parts place (Some part) h e =
    All-push (λ (p : Part). IsLineOf count p.line) (blocks.outer parts) (record { place = place; line = part.line })
    (All-take (λ (p : Part). IsLineOf count p.line) (length parts - 1) parts h)
    (found-in count parts (length parts - 1) part h e)

outer-in : (count : ℕ) (parts : List Part) → InFile count parts → InFile count (blocks.outer parts)
outer-in count parts h = All-take (λ (p : Part). IsLineOf count p.line) (length parts - 1) parts h

opened-in : (count line : ℕ) (parts : List Part) (place : Place) → InFile count parts → IsLineOf count line
    → InFile count (blocks.open_in parts line (Some place))
opened-in count line parts place h l =
    All-push (λ (p : Part). IsLineOf count p.line) parts (record { place = place; line = line }) h l

after-in : (count line : ℕ) (parts : List Part) (role : Role) → InFile count parts → IsLineOf count line
    → InFile count (parts_after parts line role)
unfolding parts_after
after-in count line parts Nothing h l = h
after-in count line parts Plain h l = h
after-in count line parts Leap h l = h
after-in count line parts Procedure h l = All-nil (λ (p : Part). IsLineOf count p.line)
after-in count line parts If h l = opened-in count line parts InThen h l
after-in count line parts Else h l = divided-in count parts InElse (slice_get parts (length parts - 1)) h refl
after-in count line parts EndIf h l = outer-in count parts h
after-in count line parts DoCase h l = opened-in count line parts BeforeCases h l
after-in count line parts Case h l = divided-in count parts InCase (slice_get parts (length parts - 1)) h refl
after-in count line parts Otherwise h l = divided-in count parts InOtherwise (slice_get parts (length parts - 1)) h refl
after-in count line parts EndCase h l = outer-in count parts h
after-in count line parts DoWhile h l = opened-in count line parts InWhile h l
after-in count line parts EndDo h l = outer-in count parts h
after-in count line parts Scan h l = opened-in count line parts InScan h l
after-in count line parts EndScan h l = outer-in count parts h

abbrev LineIn : ℕ → Option ℕ → Type 0
LineIn count None = Unit {0}
LineIn count (Some line) = IsLineOf count line

abbrev FaultIn : ℕ → Option ParseFault → Type 0
FaultIn count None = Unit {0}
FaultIn count (Some fault) = IsLineOf count fault.line

opening-in : (count : ℕ) (parts : List Part) (o : Option Part) → InFile count parts → slice_get parts 0 ≡ o
    → LineIn count (option_map (λ (part : Part). part.line) o)
opening-in count parts None h e = tt
opening-in count parts (Some part) h e = found-in count parts 0 part h e

earlier-in : (count : ℕ) (a b : Option ℕ) → LineIn count a → LineIn count b → LineIn count (spec.earlier a b)
earlier-in count None b h g = g
earlier-in count (Some line) b h g = h

unended-in : (count : ℕ) (parts : List Part) (unended : Option ℕ) (x : Bool) → InFile count parts → LineIn count unended
    → LineIn count (if x then spec.earlier unended (spec.opening_line parts) else unended)
unended-in count parts unended true h u =
    earlier-in count unended (spec.opening_line parts) u (opening-in count parts (slice_get parts 0) h refl)
unended-in count parts unended false h u = u

block-in : (count : ℕ) (o : Option ℕ) → LineIn count o → FaultIn count (option_map spec.block_fault_at o)
block-in count None h = tt
block-in count (Some line) h = h

or-in : (count line : ℕ) (o : Option ParseFaultKind) (others : Option ParseFault) → IsLineOf count line
    → FaultIn count others → FaultIn count (spec.or_fault o line others)
or-in count line None others l h = h
or-in count line (Some kind) others l h = l

verdict-in : (count : ℕ) (parts : List Part) (unended : Option ℕ) (marks : List LineMark) → InFile count parts
    → LineIn count unended → All (λ mark. IsLineOf count mark.line) marks → FaultIn count (verdict parts unended marks)
unfolding verdict
verdict-in count parts unended [] h u m =
    block-in count (spec.earlier unended (spec.opening_line parts))
    (earlier-in count unended (spec.opening_line parts) u (opening-in count parts (slice_get parts 0) h refl))
verdict-in count parts unended (mark ∷ others) h u m =
    let l : IsLineOf count mark.line = All-head (λ (x : LineMark). IsLineOf count x.line) mark others m in
    or-in count mark.line (spec.wrong_in_line parts mark)
    (verdict (parts_after parts mark.line mark.role) (spec.unended_after parts unended mark) others) l
    (verdict-in count (parts_after parts mark.line mark.role) (spec.unended_after parts unended mark) others
    (after-in count mark.line parts mark.role h l)
    (unended-in count parts unended (blocks.begins_procedure mark.role) h u)
    (All-tail (λ (x : LineMark). IsLineOf count x.line) mark others m))

-- from a list of numbers to the elements that they are of
by_number : {X : Type 0} (P : ℕ → Type 0) (f : X → ℕ) (xs : List X) → All P (map f xs) → All (λ x. P (f x)) xs
by_number P f [] h = All-nil (λ x. P (f x))
by_number P f (x ∷ xs) h =
    All-cons (λ x. P (f x)) x xs (All-head P (f x) (map f xs) h) (by_number P f xs (All-tail P (f x) (map f xs) h))

pub marked-lines : (ls : List Joined)
    → map (λ (m : LineMark). m.line) (map line_mark ls) ≡ map (λ (j : Joined). j.first) ls
marked-lines [] = refl
marked-lines (j ∷ ls) = ap (λ (ns : List ℕ). j.first ∷ ns) (marked-lines ls)

-- the lines of a file's marks
pub marked : (bytes : List ℕ)
    → All (λ (x : LineMark). IsLineOf (length (text.lines (lines.before_end bytes))) x.line) (marks bytes)
marked bytes =
    let count = length (text.lines (lines.before_end bytes)) in
    let all : All (λ (x : Joined). IsLineOf count x.first) (lines.joined_lines bytes) =
    All-weaker (Numbered 1 count) (λ (x : Joined). IsLineOf count x.first) (λ x h. numbered-line count x.first h)
    (lines.joined_lines bytes) (joined-in 1 (text.lines (lines.before_end bytes))) in
    let numbers : All (IsLineOf count) (map (λ (x : Joined). x.first) (lines.joined_lines bytes)) =
    All-map (IsLineOf count) (λ (x : Joined). x.first) (lines.joined_lines bytes) all in
    by_number (IsLineOf count) (λ (x : LineMark). x.line) (marks bytes)
    (All-same (IsLineOf count) (map (λ (x : LineMark). x.line) (marks bytes))
    (map (λ (x : Joined). x.first) (lines.joined_lines bytes)) (marked-lines (lines.joined_lines bytes)) numbers)

pub names_line : (bytes : List ℕ) (fault : ParseFault) → verdict [] None (marks bytes) ≡ Some fault
    → IsLineOf (length (text.lines (lines.before_end bytes))) fault.line
names_line bytes fault v =
    let count = length (text.lines (lines.before_end bytes)) in
    subst (λ (o : Option ParseFault). FaultIn count o) v
    (verdict-in count [] None (marks bytes) (All-nil (λ (p : Part). IsLineOf count p.line)) tt (marked bytes))

-- all faults

abbrev Named : ℕ → ParseFault → Type 0
Named count fault = IsLineOf count fault.line

one-of : {A : Type 0} (P : A → Type 0) (b : Bool) (x y : A) → P x → P y → P (if b then x else y)
one-of P true x y h k = h
one-of P false x y h k = k

opened-by-in : (count line : ℕ) (parts : List Part) (o : Option Place) → InFile count parts → IsLineOf count line
    → InFile count (blocks.open_in parts line o)
opened-by-in count line parts None h l = h
opened-by-in count line parts (Some place) h l = opened-in count line parts place h l

behind-in : (count line : ℕ) (parts : List Part) (deeper : ℕ) (role : Role) → InFile count parts → IsLineOf count line
    → InFile count (listing.parts_behind parts deeper line role)
unfolding listing.parts_behind
behind-in count line parts deeper role h l =
    one-of (InFile count) (blocks.begins_procedure role) _ _ (All-nil (λ (p : Part). IsLineOf count p.line))
    (one-of (InFile count) (nat_lt 0 deeper) _ _ h
    (one-of (InFile count) (is_none (blocks.fault_of_place parts role)) _ _ (after-in count line parts role h l)
    (one-of (InFile count) (nat_le 32 (length parts)) _ _ h
    (opened-by-in count line parts (blocks.place_opened role) h l))))

listed-in : (count line : ℕ) (o : Option ParseFaultKind) → IsLineOf count line
    → All (Named count) (listing.listed_fault line o)
listed-in count line None l = All-nil (Named count)
listed-in count line (Some kind) l =
    All-cons (Named count) (record { line = line; kind = kind }) [] l (All-nil (Named count))

lines-in : (count : ℕ) (parts : List Part) (deeper : ℕ) (marks : List LineMark)
    → All (λ mark. IsLineOf count mark.line) marks → All (Named count) (listing.line_faults parts deeper marks)
unfolding listing.line_faults
lines-in count parts deeper [] m = All-nil (Named count)
lines-in count parts deeper (mark ∷ others) m =
    All-append (Named count) (listing.listed_fault mark.line (listing.wrong_at parts deeper mark))
    (listing.line_faults (listing.parts_behind parts deeper mark.line mark.role)
    (listing.deeper_behind parts deeper mark.role) others)
    (listed-in count mark.line (listing.wrong_at parts deeper mark)
    (All-head (λ (x : LineMark). IsLineOf count x.line) mark others m))
    (lines-in count (listing.parts_behind parts deeper mark.line mark.role)
    (listing.deeper_behind parts deeper mark.role) others
    (All-tail (λ (x : LineMark). IsLineOf count x.line) mark others m))

ended-in : (count : ℕ) (parts : List Part) → InFile count parts → All (Named count) (listing.unended parts)
ended-in count parts h = All-map (Named count) (λ (p : Part). spec.block_fault_at p.line) parts h

left-in : (count : ℕ) (parts : List Part) (deeper : ℕ) (marks : List LineMark) → InFile count parts
    → All (λ mark. IsLineOf count mark.line) marks → All (Named count) (listing.left_open parts deeper marks)
unfolding listing.left_open
left-in count parts deeper [] h m = ended-in count parts h
left-in count parts deeper (mark ∷ others) h m =
    let l : IsLineOf count mark.line = All-head (λ (x : LineMark). IsLineOf count x.line) mark others m in
    All-append (Named count) (listing.unended_before parts mark.role)
    (listing.left_open (listing.parts_behind parts deeper mark.line mark.role)
    (listing.deeper_behind parts deeper mark.role) others)
    (one-of (All (Named count)) (blocks.begins_procedure mark.role) (listing.unended parts) [] (ended-in count parts h)
    (All-nil (Named count)))
    (left-in count (listing.parts_behind parts deeper mark.line mark.role)
    (listing.deeper_behind parts deeper mark.role) others (behind-in count mark.line parts deeper mark.role h l)
    (All-tail (λ (x : LineMark). IsLineOf count x.line) mark others m))

pub names_lines : (bytes : List ℕ)
    → All (λ (fault : ParseFault). IsLineOf (length (text.lines (lines.before_end bytes))) fault.line)
    (listing.all_faults (marks bytes))
names_lines bytes =
    let count = length (text.lines (lines.before_end bytes)) in
    All-append (Named count) (listing.line_faults [] 0 (marks bytes)) (listing.left_open [] 0 (marks bytes))
    (lines-in count [] 0 (marks bytes) (marked bytes))
    (left-in count [] 0 (marks bytes) (All-nil (λ (p : Part). IsLineOf count p.line)) (marked bytes))
