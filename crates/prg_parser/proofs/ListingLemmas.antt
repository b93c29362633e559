-- Lemmas on the list of all faults.

use Rattle.std.proofs.Common.{◌≡◌, ℕ, ◌+◌, ◌-◌, ◌<◌, ◌≤◌, List, [], ◌∷◌, ◌++◌, Option, Some, None, Bool, true, false}
use Rattle.std.proofs.Common.{length, drop, get_or, refl, sym, ◌∙◌, ap, subst, append_assoc, arith}
use Rattle.std.specs.Prelude.{option_map, slice_get, not, nat_le, ◌&&◌, is_some, if◌then◌else◌}
use Rattle.std.proofs.lemmas.List.{append-nil}
use Rattle.prg_expr.specs.declared.fault.ParseFaultKind.{ParseFaultKind}
use Rattle.prg_expr.specs.declared.fault.ParseFaultKind.TheVariants.{Block, TooDeep}
use Rattle.prg_expr.specs.declared.fault.ParseFault.{ParseFault}
use Rattle.prg_line.specs.declared.role.Role.{Role}
use Rattle.prg_parser.specs.declared.blocks.Part.{Part}
use Rattle.prg_parser.specs.declared.judging.LineMark.{LineMark}
use Rattle.prg_parser.specs.Verdict as spec
use Rattle.prg_parser.specs.Verdict.{verdict}
use Rattle.prg_parser.specs.Blocks.{fault_of_place, ends_block, begins_procedure, place_opened, parts_after}
use Rattle.prg_parser.specs.Listing.{all_faults, deeper_behind, left_open, line_faults, listed_fault, parts_behind}
use Rattle.prg_parser.specs.Listing.{unended, unended_before, wrong_at}
use Rattle.prg_line.proofs.ReadLemmas.{no_fault}
use Rattle.prg_parser.proofs.VerdictLemmas.{split}

-- one line more

front-lines : (parts : List Part) (deeper : ℕ) (mark : LineMark) (others : List LineMark)
    → line_faults parts deeper (mark ∷ others)
    ≡ listed_fault mark.line (wrong_at parts deeper mark) ++ line_faults (parts_behind parts deeper mark.line mark.role)
    (deeper_behind parts deeper mark.role) others
unfolding line_faults
front-lines parts deeper mark others = refl

front-open : (parts : List Part) (deeper : ℕ) (mark : LineMark) (others : List LineMark)
    → left_open parts deeper (mark ∷ others)
    ≡ unended_before parts mark.role ++ left_open (parts_behind parts deeper mark.line mark.role)
    (deeper_behind parts deeper mark.role) others
unfolding left_open
front-open parts deeper mark others = refl

pub lines_step : (told after : List ParseFault) (parts next : List Part) (deeper behind : ℕ) (marks : List LineMark)
    (i : ℕ) (d : LineMark) (whole : List ParseFault)
    → i < length marks
    → next ≡ parts_behind parts deeper (get_or marks i d).line (get_or marks i d).role
    → behind ≡ deeper_behind parts deeper (get_or marks i d).role
    → after ≡ told ++ listed_fault (get_or marks i d).line (wrong_at parts deeper (get_or marks i d))
    → told ++ line_faults parts deeper (drop i marks) ≡ whole
    → after ++ line_faults next behind (drop (i + 1) marks) ≡ whole
lines_step told after parts next deeper behind marks i d whole below n b a h =
    let m = get_or marks i d in
    let rest =
    line_faults (parts_behind parts deeper m.line m.role) (deeper_behind parts deeper m.role)
    (drop (i + 1) marks) in
    ap (λ (x : List ParseFault). x ++ line_faults next behind (drop (i + 1) marks)) a
    ∙ ap (λ (p : List Part). (told ++ listed_fault m.line (wrong_at parts deeper m)) ++ line_faults p behind
    (drop (i + 1) marks)) n
    ∙ ap (λ (k : ℕ). (told ++ listed_fault m.line (wrong_at parts deeper m)) ++ line_faults
    (parts_behind parts deeper m.line m.role) k (drop (i + 1) marks)) b
    ∙ append_assoc told (listed_fault m.line (wrong_at parts deeper m)) rest
    ∙ ap (λ (x : List ParseFault). told ++ x) (sym (front-lines parts deeper m (drop (i + 1) marks)))
    ∙ ap (λ (l : List LineMark). told ++ line_faults parts deeper l) (split marks i d below)
    ∙ h

pub open_step : (told after : List ParseFault) (parts next : List Part) (deeper behind : ℕ) (marks : List LineMark)
    (i : ℕ) (d : LineMark) (whole : List ParseFault)
    → i < length marks
    → next ≡ parts_behind parts deeper (get_or marks i d).line (get_or marks i d).role
    → behind ≡ deeper_behind parts deeper (get_or marks i d).role
    → after ≡ told ++ unended_before parts (get_or marks i d).role
    → told ++ left_open parts deeper (drop i marks) ≡ whole
    → after ++ left_open next behind (drop (i + 1) marks) ≡ whole
open_step told after parts next deeper behind marks i d whole below n b a h =
    let m = get_or marks i d in
    let rest =
    left_open (parts_behind parts deeper m.line m.role) (deeper_behind parts deeper m.role) (drop (i + 1) marks) in
    ap (λ (x : List ParseFault). x ++ left_open next behind (drop (i + 1) marks)) a
    ∙ ap (λ (p : List Part). (told ++ unended_before parts m.role) ++ left_open p behind (drop (i + 1) marks)) n
    ∙ ap (λ (k : ℕ). (told ++ unended_before parts m.role) ++ left_open (parts_behind parts deeper m.line m.role) k
    (drop (i + 1) marks)) b
    ∙ append_assoc told (unended_before parts m.role) rest
    ∙ ap (λ (x : List ParseFault). told ++ x) (sym (front-open parts deeper m (drop (i + 1) marks)))
    ∙ ap (λ (l : List LineMark). told ++ left_open parts deeper l) (split marks i d below)
    ∙ h

-- behind the last line

lines-end : (parts : List Part) (deeper : ℕ) → line_faults parts deeper [] ≡ []
unfolding line_faults
lines-end parts deeper = refl

open-end : (parts : List Part) (deeper : ℕ) → left_open parts deeper [] ≡ unended parts
unfolding left_open
open-end parts deeper = refl

pub both_end : (told blocked whole others after : List ParseFault) (parts : List Part) (deeper : ℕ)
    (marks : List LineMark)
    → marks ≡ [] → told ++ line_faults parts deeper marks ≡ whole → blocked ++ left_open parts deeper marks ≡ others
    → after ≡ blocked ++ unended parts → told ++ after ≡ whole ++ others
both_end told blocked whole others after parts deeper marks e t o a =
    let lines : told ≡ whole =
    sym (append-nil told) ∙ ap (λ (x : List ParseFault). told ++ x) (sym (lines-end parts deeper))
    ∙ ap (λ (l : List LineMark). told ++ line_faults parts deeper l) (sym e) ∙ t in
    let blocks : after ≡ others =
    a ∙ ap (λ (x : List ParseFault). blocked ++ x) (sym (open-end parts deeper))
    ∙ ap (λ (l : List LineMark). blocked ++ left_open parts deeper l) (sym e) ∙ o in
    ap (λ (x : List ParseFault). x ++ after) lines ∙ ap (λ (x : List ParseFault). whole ++ x) blocks

-- where the place has no fault, the line changes what is open as it does in a file without faults

same-parts : (p : Bool) (x y : List Part) → (if p then x else (if p then x else y)) ≡ (if p then x else y)
same-parts true x y = refl
same-parts false x y = refl

plain_parts : (parts : List Part) (line : ℕ) (role : Role) → fault_of_place parts role ≡ None
    → parts_behind parts 0 line role ≡ parts_after parts line role
unfolding parts_behind parts_after
plain_parts parts line role e = rw (e) (same-parts (begins_procedure role) _ _)

not-full : (a b c : Bool)
    → (if not a then Some Block else if b then Some Block else if c then Some TooDeep else None) ≡ None → c ≡ false
not-full false b c e = cc
not-full true true c e = cc
not-full true false true e = cc
not-full true false false e = refl

has-room : (parts : List Part) (role : Role) → fault_of_place parts role ≡ None
    → (is_some (place_opened role) && nat_le 32 (length parts)) ≡ false
unfolding fault_of_place
has-room parts role e = not-full _ _ _ e

none-deeper : (p c e : Bool) → c ≡ false → (if p then 0 else if c then 0 + 1 else if e then 0 - 1 else 0) ≡ 0
none-deeper true c e h = refl
none-deeper false true e h = cc
none-deeper false false true h = refl
none-deeper false false false h = refl

plain_deeper : (parts : List Part) (role : Role) → fault_of_place parts role ≡ None → deeper_behind parts 0 role ≡ 0
unfolding deeper_behind
plain_deeper parts role e =
    none-deeper (begins_procedure role) (is_some (place_opened role) && nat_le 32 (length parts)) (ends_block role)
    (has-room parts role e)

-- a line opens one block at most

one-more : (p c e : Bool) (n i : ℕ) → n ≤ i → (if p then 0 else if c then n + 1 else if e then n - 1 else n) ≤ i + 1
one-more true c e n i h = omega arith
one-more false true e n i h = omega (arith, h)
one-more false false true n i h = omega (arith, h)
one-more false false false n i h = omega (arith, h)

pub behind_rise : (parts : List Part) (deeper behind i : ℕ) (role : Role) → behind ≡ deeper_behind parts deeper role
    → deeper ≤ i → behind ≤ i + 1
unfolding deeper_behind
behind_rise parts deeper behind i role e h =
    subst (λ (n : ℕ). n ≤ i + 1) (sym e)
    (one-more (begins_procedure role) (is_some (place_opened role) && nat_le 32 (length parts)) (ends_block role)
    deeper i h)

-- the first of the list

first_open : (parts : List Part)
    → slice_get (unended parts) 0 ≡ option_map spec.block_fault_at (spec.opening_line parts)
first_open [] = refl
first_open (p ∷ ps) = refl

first_behind : (before : List ParseFault) (u : Option ℕ) (parts : List Part)
    → slice_get before 0 ≡ option_map spec.block_fault_at u
    → slice_get (before ++ unended parts) 0 ≡ option_map spec.block_fault_at (spec.earlier u (spec.opening_line parts))
first_behind [] None parts e = first_open parts
first_behind [] (Some line) parts e = cc
first_behind (f ∷ fs) None parts e = cc
first_behind (f ∷ fs) (Some line) parts e = e

first_before : (p : Bool) (before : List ParseFault) (u : Option ℕ) (parts : List Part)
    → slice_get before 0 ≡ option_map spec.block_fault_at u
    → slice_get (before ++ (if p then unended parts else [])) 0
    ≡ option_map spec.block_fault_at (if p then spec.earlier u (spec.opening_line parts) else u)
first_before true before u parts e = first_behind before u parts e
first_before false before u parts e = ap (λ (x : List ParseFault). slice_get x 0) (append-nil before) ∙ e

verdict-front : (parts : List Part) (u : Option ℕ) (mark : LineMark) (others : List LineMark)
    (o : Option ParseFaultKind) → spec.wrong_in_line parts mark ≡ o
    → verdict parts u (mark ∷ others)
    ≡ spec.or_fault o mark.line (verdict (parts_after parts mark.line mark.role) (spec.unended_after parts u mark)
    others)
unfolding verdict
verdict-front parts u mark others o e = rw (e) refl

-- a line: with a fault it is the first of the list, and else the others tell
first_line : (parts : List Part) (before : List ParseFault) (u : Option ℕ) (mark : LineMark) (others : List LineMark)
    (o : Option ParseFaultKind) → spec.wrong_in_line parts mark ≡ o
    → slice_get before 0 ≡ option_map spec.block_fault_at u
    → ((b : List ParseFault) (v : Option ℕ) (next : List Part) → slice_get b 0 ≡ option_map spec.block_fault_at v
    → slice_get (line_faults next 0 others ++ (b ++ left_open next 0 others)) 0 ≡ verdict next v others)
    → slice_get (line_faults parts 0 (mark ∷ others) ++ (before ++ left_open parts 0 (mark ∷ others))) 0
    ≡ verdict parts u (mark ∷ others)
first_line parts before u mark others (Some kind) e h again =
    ap (λ (x : List ParseFault). slice_get (x ++ (before ++ left_open parts 0 (mark ∷ others))) 0)
    (front-lines parts 0 mark others ∙ ap
    (λ (x : Option ParseFaultKind). listed_fault mark.line x ++ line_faults
    (parts_behind parts 0 mark.line mark.role) (deeper_behind parts 0 mark.role) others) e)
    ∙ sym (verdict-front parts u mark others (Some kind) e)
first_line parts before u mark others None e h again =
    let f : fault_of_place parts mark.role ≡ None = no_fault mark.fault (fault_of_place parts mark.role) e in
    let next = parts_after parts mark.line mark.role in
    let behind : parts_behind parts 0 mark.line mark.role ≡ next = plain_parts parts mark.line mark.role f in
    let level : deeper_behind parts 0 mark.role ≡ 0 = plain_deeper parts mark.role f in
    let lines : line_faults parts 0 (mark ∷ others) ≡ line_faults next 0 others =
    front-lines parts 0 mark others
    ∙ ap (λ (x : Option ParseFaultKind). listed_fault mark.line x ++ line_faults
    (parts_behind parts 0 mark.line mark.role) (deeper_behind parts 0 mark.role) others) e
    ∙ ap (λ (p : List Part). line_faults p (deeper_behind parts 0 mark.role) others) behind
    ∙ ap (λ (k : ℕ). line_faults next k others) level in
    let blocks : left_open parts 0 (mark ∷ others) ≡ unended_before parts mark.role ++ left_open next 0 others =
    front-open parts 0 mark others
    ∙ ap (λ (p : List Part). unended_before parts mark.role ++ left_open p (deeper_behind parts 0 mark.role) others)
    behind
    ∙ ap (λ (k : ℕ). unended_before parts mark.role ++ left_open next k others) level in
    ap (λ (x : List ParseFault). slice_get (x ++ (before ++ left_open parts 0 (mark ∷ others))) 0) lines
    ∙ ap (λ (x : List ParseFault). slice_get (line_faults next 0 others ++ (before ++ x)) 0) blocks
    ∙ ap (λ (x : List ParseFault). slice_get (line_faults next 0 others ++ x) 0)
    (sym (append_assoc before (unended_before parts mark.role) (left_open next 0 others)))
    ∙ again (before ++ unended_before parts mark.role) (spec.unended_after parts u mark) next
    (first_before (begins_procedure mark.role) before u parts h)
    ∙ sym (verdict-front parts u mark others None e)

first_of : (parts : List Part) (before : List ParseFault) (u : Option ℕ) (marks : List LineMark)
    → slice_get before 0 ≡ option_map spec.block_fault_at u
    → slice_get (line_faults parts 0 marks ++ (before ++ left_open parts 0 marks)) 0 ≡ verdict parts u marks
unfolding verdict line_faults left_open
first_of parts before u [] h = first_behind before u parts h
first_of parts before u (mark ∷ others) h =
    first_line parts before u mark others (spec.wrong_in_line parts mark) refl h
    (λ b v next g. first_of next b v others g)

-- the first fault of the list is the one that is told
pub first_told : (marks : List LineMark) → slice_get (all_faults marks) 0 ≡ verdict [] None marks
first_told marks = first_of [] [] None marks refl
