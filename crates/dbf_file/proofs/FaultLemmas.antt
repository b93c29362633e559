-- The first fault.
use Rattle.std.proofs.Common.{◌≡◌, ◌==◌, ℕ, zero, suc, ◌+◌, ◌*◌, ◌-◌, ◌<◌, ◌≤◌, List, [], ◌∷◌, ◌++◌, length, get_or}
use Rattle.std.proofs.Common.{take, drop, find, Bool, true, false, not, ◌&&◌, ◌||◌, nat_lt, nat_le, cond, Option, Some}
use Rattle.std.proofs.Common.{None, Result, Ok, Err, ◌⊎◌, inl, inr, ⊎_elim, refl, sym, ap, ◌∙◌, subst, arith, eq-eqb}
use Rattle.std.specs.List.{slice_range}
use Rattle.std.proofs.lemmas.Bool.{le-ltb}
use Rattle.std.proofs.lemmas.List.{get_or-take}
use Rattle.dbf_file.specs.declared.field.Field.{Field}
use Rattle.dbf_file.specs.declared.fault.DbfFault.{DbfFault}
use Rattle.dbf_file.specs.declared.fault.DbfFault.TheVariants.{Short, Version, HeaderLength, FieldShape, NoEnd}
use Rattle.dbf_file.specs.declared.fault.DbfFault.TheVariants.{RecordLength, TooMany, Truncated, RecordMark}
use Rattle.dbf_file.specs.Fields.{is_new}
use Rattle.dbf_file.specs.Rows.{is_mark, are_marked}
use Rattle.dbf_file.specs.Descriptors.{after_step, next_told, fields_from, told_field, if_new}
use Rattle.dbf_file.specs.Faults.{told_header, told_fields, is_shape_fault, is_no_end, has_fault, first_fault}
use Rattle.dbf_file.proofs.ChoiceLemmas.{chosen}

-- ---- descriptors have two faults

if_new_fault : (earlier : List Field) (told : Option Field) (fault : DbfFault) → if_new earlier told ≡ Err fault
    → fault ≡ FieldShape
if_new_fault earlier None fault e = cc
if_new_fault earlier (Some f) fault e = ⊎_elim (λ (is_so, same). cc) (λ (is_not, same). cc)
    (chosen (is_new earlier f) (Ok (Some f)) (Err FieldShape) (Err fault) e)

fault_front : (earlier : List Field) (bytes : List ℕ) (fault : DbfFault) (front : Bool) →
    cond front (cond (length earlier == 0) (Err FieldShape) (Ok None))
    (cond (nat_le 128 (length earlier)) (Err FieldShape)
    (cond (nat_lt (length bytes) 32) (Err NoEnd) (if_new earlier (told_field (take 32 bytes))))) ≡ Err fault →
    (fault ≡ FieldShape) ⊎ (fault ≡ NoEnd)
fault_front earlier bytes fault true e =
    ⊎_elim (λ (is_so, same). let one : fault ≡ FieldShape = cc in inl one) (λ (is_not, same). cc)
    (chosen (length earlier == 0) (Err FieldShape) (Ok None) (Err fault) e)
fault_front earlier bytes fault false e =
    ⊎_elim (λ (is_so, same). let one : fault ≡ FieldShape = cc in inl one) (λ (room, next).
    ⊎_elim (λ (is_so, same). let one : fault ≡ NoEnd = cc in inr one)
    (λ (whole, last). inl (if_new_fault earlier (told_field (take 32 bytes)) fault last))
    (chosen (nat_lt (length bytes) 32) (Err NoEnd) (if_new earlier (told_field (take 32 bytes))) (Err fault) next))
    (chosen (nat_le 128 (length earlier)) (Err FieldShape)
    (cond (nat_lt (length bytes) 32) (Err NoEnd) (if_new earlier (told_field (take 32 bytes)))) (Err fault) e)

next_fault : (earlier : List Field) (bytes : List ℕ) (fault : DbfFault) → next_told earlier bytes ≡ Err fault
    → (fault ≡ FieldShape) ⊎ (fault ≡ NoEnd)
unfolding next_told
next_fault earlier [] fault e = let one : fault ≡ NoEnd = cc in inr one
next_fault earlier (byte ∷ bytes) fault e = fault_front earlier (byte ∷ bytes) fault (byte == 13) e

fault_cases : (earlier : List Field) (step : Result (Option Field) DbfFault)
    (more : List Field → Result (List Field) DbfFault) (fault : DbfFault) → after_step earlier step more ≡ Err fault →
    (step ≡ Err fault) ⊎ ((f : Field) × (more (earlier ++ f ∷ []) ≡ Err fault))
fault_cases earlier (Err other) more fault e = let same : other ≡ fault = cc in inl (ap Err same)
fault_cases earlier (Ok None) more fault e = cc
fault_cases earlier (Ok (Some f)) more fault e = inr (f, e)

fields_fault : (n : ℕ) (earlier : List Field) (bytes : List ℕ) (fault : DbfFault)
    → fields_from n earlier bytes ≡ Err fault → (fault ≡ FieldShape) ⊎ (fault ≡ NoEnd)
unfolding fields_from
fields_fault zero earlier bytes fault e = let one : fault ≡ FieldShape = cc in inl one
fields_fault (suc n) earlier bytes fault e =
    ⊎_elim (λ here. next_fault earlier bytes fault here)
    (λ (f, later). fields_fault n (earlier ++ f ∷ []) (drop 32 bytes) fault later)
    (fault_cases earlier (next_told earlier bytes) (λ fields. fields_from n fields (drop 32 bytes)) fault e)

-- ---- the first of the faults

pub find_skip : (p : DbfFault → Bool) (x : DbfFault) (xs : List DbfFault) → p x ≡ false → find p (x ∷ xs) ≡ find p xs
find_skip p x xs e = ap (λ (b : Bool). cond b (Some x) (find p xs)) e

find_here : (p : DbfFault → Bool) (x : DbfFault) (xs : List DbfFault) → p x ≡ true → find p (x ∷ xs) ≡ Some x
find_here p x xs e = ap (λ (b : Bool). cond b (Some x) (find p xs)) e

pub both_false : (a b : Bool) → a ≡ false → b ≡ false → a || b ≡ false
both_false a b e f = cc

-- the fault of the descriptors, where there is none before
pub fields_first : (limit : ℕ) (bytes : List ℕ) (fault : DbfFault) → 65 ≤ length bytes → get_or bytes 0 0 ≡ 3
    → 65 ≤ told_header bytes → told_header bytes ≤ length bytes → told_fields bytes ≡ Err fault →
    first_fault limit bytes ≡ Some fault
unfolding first_fault told_fields
fields_first limit bytes fault long version header within told =
    let p : DbfFault → Bool = has_fault limit bytes in
    let later : List DbfFault = RecordLength ∷ TooMany ∷ Truncated ∷ RecordMark ∷ [] in
    let front =
    find_skip p Short (Version ∷ HeaderLength ∷ FieldShape ∷ NoEnd ∷ later) (le-ltb (length bytes) 65 long)
    ∙ find_skip p Version (HeaderLength ∷ FieldShape ∷ NoEnd ∷ later) (ap not (eq-eqb (get_or bytes 0 0) 3 version))
    ∙ find_skip p HeaderLength (FieldShape ∷ NoEnd ∷ later)
    (both_false _ _ (le-ltb (told_header bytes) 65 header) (le-ltb (length bytes) (told_header bytes) within)) in
    ⊎_elim
    (λ shape. front ∙ find_here p FieldShape (NoEnd ∷ later) (ap is_shape_fault (told ∙ ap Err shape))
    ∙ ap Some (sym shape))
    (λ no_end. front ∙ find_skip p FieldShape (NoEnd ∷ later) (ap is_shape_fault (told ∙ ap Err no_end))
    ∙ find_here p NoEnd later (ap is_no_end (told ∙ ap Err no_end)) ∙ ap Some (sym no_end))
    (fields_fault 129 [] _ fault told)

-- ---- marks, record by record

marks_step : (size n : ℕ) (rest : List ℕ) → are_marked size (suc n) rest
    ≡ is_mark (get_or rest 0 0) && are_marked size n (drop size rest)
unfolding are_marked
marks_step size n rest = refl

marks_of_none : (size : ℕ) (rest : List ℕ) → are_marked size 0 rest ≡ true
unfolding are_marked
marks_of_none size rest = refl

pub marks_turn : (size count counter : ℕ) (rest : List ℕ) → counter < count
    → are_marked size (count - counter) rest ≡ is_mark (get_or rest 0 0) && are_marked size (count - (counter + 1))
    (drop size rest)
marks_turn size count counter rest below =
    let steps : count - counter ≡ suc (count - (counter + 1)) = omega arith in
    ap (λ n. are_marked size n rest) steps ∙ marks_step size (count - (counter + 1)) rest

pub marks_none : (size count counter : ℕ) (rest : List ℕ) → count ≤ counter
    → are_marked size (count - counter) rest ≡ true
marks_none size count counter rest above =
    let steps : count - counter ≡ 0 = omega arith in
    ap (λ n. are_marked size n rest) steps ∙ marks_of_none size rest

-- the room of the records that are left
pub room_turn : (size count counter long : ℕ) → counter < count → (count - counter) * size ≤ long
    → (count - (counter + 1)) * size ≤ long - size
room_turn size count counter long below room =
    let steps : count - counter ≡ suc (count - (counter + 1)) = omega arith in
    let more : suc (count - (counter + 1)) * size ≤ long = subst (λ n. n * size ≤ long) steps room in
    omega (arith, more)

-- the mark at the front of a record
pub mark_front : (size : ℕ) (record_bytes rest : List ℕ) → 0 < size → record_bytes ≡ take size rest
    → is_mark (get_or rest 0 0) ≡ is_mark (get_or record_bytes 0 0)
mark_front size record_bytes rest some front =
    ap is_mark (sym (get_or-take size rest 0 0 some) ∙ ap (λ (xs : List ℕ). get_or xs 0 0) (sym front))

-- the fields, by the header's length
pub told_from : (bytes : List ℕ) (header : ℕ) (told : Result (List Field) DbfFault) → header ≡ told_header bytes
    → fields_from 129 [] (slice_range bytes 32 header) ≡ told → told_fields bytes ≡ told
unfolding told_fields
told_from bytes header told same e = ap (λ h. fields_from 129 [] (slice_range bytes 32 h)) (sym same) ∙ e
