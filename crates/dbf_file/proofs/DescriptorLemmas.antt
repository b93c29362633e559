-- Descriptors, told and described.
use Rattle.std.proofs.Common.{◌≡◌, ◌==◌, ℕ, suc, ◌+◌, ◌-◌, ◌<◌, ◌≤◌, List, [], ◌∷◌, ◌++◌, length, get_or, take, drop}
use Rattle.std.proofs.Common.{Bool, true, false, nat_lt, nat_le, cond, Option, Some, None, Ok, Err, position, ⊎_elim}
use Rattle.std.proofs.Common.{refl, sym, ap, ◌∙◌, subst, arith, length-append, eqb-true, eq-eqb, if◌then◌else◌}
use Rattle.dbf_file.specs.declared.field.Letter.{Letter}
use Rattle.dbf_file.specs.declared.field.Letter.TheVariants.{C, N, D, L}
use Rattle.dbf_file.specs.declared.field.Field.{Field}
use Rattle.dbf_file.specs.declared.fault.DbfFault.{DbfFault}
use Rattle.dbf_file.specs.declared.fault.DbfFault.TheVariants.{FieldShape, NoEnd}
use Rattle.std.proofs.lemmas.Bool.{leb-false, ltb-false, and_parts}
use Rattle.std.proofs.lemmas.List.{take-take, take_at, length-take-le}
use Rattle.std.proofs.lemmas.List.Quantifiers.{position-Some}
use Rattle.dbf_file.specs.Fields.{code_of, letter_of, is_field, is_new}
use Rattle.dbf_file.specs.Names.{is_name}
use Rattle.dbf_file.specs.Descriptors.{field_with, if_field, with_letter, with_end, IsDescriptor, after_step, next_told}
use Rattle.dbf_file.specs.Descriptors.{fields_from, told_field, if_new}
use Rattle.dbf_file.proofs.ChoiceLemmas.{chosen}
use Rattle.dbf_file.proofs.TextLemmas.{ended_at, zero_behind}
use Rattle.dbf_file.proofs.NameLemmas.{no_zero}

-- ---- steps

pub step_more : (n : ℕ) (earlier : List Field) (bytes : List ℕ) (f : Field) → next_told earlier bytes ≡ Ok (Some f)
    → fields_from (suc n) earlier bytes ≡ fields_from n (earlier ++ f ∷ []) (drop 32 bytes)
unfolding fields_from
step_more n earlier bytes f told =
    ap (λ step. after_step earlier step (λ fields. fields_from n fields (drop 32 bytes))) told

pub step_end : (n : ℕ) (earlier : List Field) (bytes : List ℕ) → next_told earlier bytes ≡ Ok None
    → fields_from (suc n) earlier bytes ≡ Ok earlier
unfolding fields_from
step_end n earlier bytes told =
    ap (λ step. after_step earlier step (λ fields. fields_from n fields (drop 32 bytes))) told

pub step_fault : (n : ℕ) (earlier : List Field) (bytes : List ℕ) (fault : DbfFault)
    → next_told earlier bytes ≡ Err fault → fields_from (suc n) earlier bytes ≡ Err fault
unfolding fields_from
step_fault n earlier bytes fault told =
    ap (λ step. after_step earlier step (λ fields. fields_from n fields (drop 32 bytes))) told

pub no_step : (earlier : List Field) (bytes : List ℕ) → fields_from 0 earlier bytes ≡ Err FieldShape
unfolding fields_from
no_step earlier bytes = refl

-- the same for the counter of a loop
pub turn_more : (counter : ℕ) (earlier : List Field) (bytes : List ℕ) (f : Field) → counter < 129
    → next_told earlier bytes ≡ Ok (Some f) → fields_from (129 - (counter + 1)) (earlier ++ f ∷ []) (drop 32 bytes)
    ≡ fields_from (129 - counter) earlier bytes
turn_more counter earlier bytes f below told =
    let steps : 129 - counter ≡ suc (129 - (counter + 1)) = omega arith in
    sym (ap (λ n. fields_from n earlier bytes) steps ∙ step_more (129 - (counter + 1)) earlier bytes f told)

pub turn_end : (counter : ℕ) (earlier : List Field) (bytes : List ℕ) → counter < 129 → next_told earlier bytes ≡ Ok None
    → fields_from (129 - counter) earlier bytes ≡ Ok earlier
turn_end counter earlier bytes below told =
    let steps : 129 - counter ≡ suc (129 - (counter + 1)) = omega arith in
    ap (λ n. fields_from n earlier bytes) steps ∙ step_end (129 - (counter + 1)) earlier bytes told

pub turn_fault : (counter : ℕ) (earlier : List Field) (bytes : List ℕ) (fault : DbfFault) → counter < 129
    → next_told earlier bytes ≡ Err fault → fields_from (129 - counter) earlier bytes ≡ Err fault
turn_fault counter earlier bytes fault below told =
    let steps : 129 - counter ≡ suc (129 - (counter + 1)) = omega arith in
    ap (λ n. fields_from n earlier bytes) steps ∙ step_fault (129 - (counter + 1)) earlier bytes fault told

pub turn_none : (counter : ℕ) (earlier : List Field) (bytes : List ℕ) → 129 ≤ counter
    → fields_from (129 - counter) earlier bytes ≡ Err FieldShape
turn_none counter earlier bytes above =
    let steps : 129 - counter ≡ 0 = omega arith in
    ap (λ n. fields_from n earlier bytes) steps ∙ no_step earlier bytes

-- ---- one step

pub record OneMore (earlier : List Field) (bytes : List ℕ) (f : Field) : Type 0 where
  pub room : length earlier < 128
  pub whole : 32 ≤ length bytes
  pub told : told_field (take 32 bytes) ≡ Some f
  pub new : is_new earlier f ≡ true

if_new_some : (earlier : List Field) (told : Option Field) (f : Field) → if_new earlier told ≡ Ok (Some f)
    → (told ≡ Some f) × (is_new earlier f ≡ true)
if_new_some earlier None f e = cc
if_new_some earlier (Some g) f e = ⊎_elim
    (λ (is_so, same). let one : g ≡ f = cc in (ap Some one, ap (is_new earlier) (sym one) ∙ is_so))
    (λ (is_not, same). cc) (chosen (is_new earlier g) (Ok (Some g)) (Err FieldShape) (Ok (Some f)) e)

if_new_not_end : (earlier : List Field) (told : Option Field) → if_new earlier told ≡ Ok None → ⊥
if_new_not_end earlier None e = cc
if_new_not_end earlier (Some g) e = ⊎_elim (λ (is_so, same). cc) (λ (is_not, same). cc)
    (chosen (is_new earlier g) (Ok (Some g)) (Err FieldShape) (Ok None) e)

one_at_front : (earlier : List Field) (bytes : List ℕ) (f : Field) (front : Bool) →
    cond front (cond (length earlier == 0) (Err FieldShape) (Ok None))
    (cond (nat_le 128 (length earlier)) (Err FieldShape)
    (cond (nat_lt (length bytes) 32) (Err NoEnd) (if_new earlier (told_field (take 32 bytes))))) ≡ Ok (Some f) →
    OneMore earlier bytes f
one_at_front earlier bytes f true e = ⊎_elim (λ (is_so, same). cc) (λ (is_not, same). cc)
    (chosen (length earlier == 0) (Err FieldShape) (Ok None) (Ok (Some f)) e)
one_at_front earlier bytes f false e =
    ⊎_elim (λ (is_so, same). cc) (λ (room, next).
    ⊎_elim (λ (is_so, same). cc) (λ (whole, last).
    let found = if_new_some earlier (told_field (take 32 bytes)) f last in
    record { room = leb-false 128 _ room; whole = ltb-false _ 32 whole; told = found.0; new = found.1 })
    (chosen (nat_lt (length bytes) 32) (Err NoEnd) (if_new earlier (told_field (take 32 bytes))) (Ok (Some f)) next))
    (chosen (nat_le 128 (length earlier)) (Err FieldShape)
    (cond (nat_lt (length bytes) 32) (Err NoEnd) (if_new earlier (told_field (take 32 bytes)))) (Ok (Some f)) e)

pub one_more : (earlier : List Field) (bytes : List ℕ) (f : Field) → next_told earlier bytes ≡ Ok (Some f)
    → OneMore earlier bytes f
unfolding next_told
one_more earlier [] f e = cc
one_more earlier (byte ∷ bytes) f e = one_at_front earlier (byte ∷ bytes) f (byte == 13) e

at_end_front : (earlier : List Field) (bytes : List ℕ) (front : Bool) →
    cond front (cond (length earlier == 0) (Err FieldShape) (Ok None))
    (cond (nat_le 128 (length earlier)) (Err FieldShape)
    (cond (nat_lt (length bytes) 32) (Err NoEnd) (if_new earlier (told_field (take 32 bytes))))) ≡ Ok None →
    (front ≡ true) × (length earlier == 0 ≡ false)
at_end_front earlier bytes true e = ⊎_elim (λ (is_so, same). cc) (λ (is_not, same). (refl, is_not))
    (chosen (length earlier == 0) (Err FieldShape) (Ok None) (Ok None) e)
at_end_front earlier bytes false e =
    ⊎_elim (λ (is_so, same). cc) (λ (room, next).
    ⊎_elim (λ (is_so, same). cc) (λ (whole, last). absurd (if_new_not_end earlier (told_field (take 32 bytes)) last))
    (chosen (nat_lt (length bytes) 32) (Err NoEnd) (if_new earlier (told_field (take 32 bytes))) (Ok None) next))
    (chosen (nat_le 128 (length earlier)) (Err FieldShape)
    (cond (nat_lt (length bytes) 32) (Err NoEnd) (if_new earlier (told_field (take 32 bytes)))) (Ok None) e)

-- at the end a byte 13 stands, and there is a field
pub at_end : (earlier : List Field) (bytes : List ℕ) → next_told earlier bytes ≡ Ok None
    → ((behind : List ℕ) × (bytes ≡ 13 ∷ behind)) × (0 < length earlier)
unfolding next_told
at_end earlier [] e = cc
at_end earlier (byte ∷ bytes) e =
    let facts = at_end_front earlier (byte ∷ bytes) (byte == 13) e in
    let some : length earlier ≡ 0 → ⊥ =
    λ none. let clash : true ≡ false = sym (eq-eqb (length earlier) 0 none) ∙ facts.1 in cc in
    ((bytes, ap (λ (b : ℕ). b ∷ bytes) (eqb-true byte 13 facts.0)), omega arith)

-- ---- a descriptor is told as it describes

pub letter_again : (l : Letter) → letter_of (code_of l) ≡ Some l
letter_again C = refl
letter_again N = refl
letter_again D = refl
letter_again L = refl

pub letter_told : (code : ℕ) (l : Letter) → letter_of code ≡ Some l → code ≡ code_of l
letter_told code l e =
    ⊎_elim (λ (is_so, same). let one : C ≡ l = cc in eqb-true code 67 is_so ∙ ap code_of one) (λ (is_not, next).
    ⊎_elim (λ (is_so, same). let one : N ≡ l = cc in eqb-true code 78 is_so ∙ ap code_of one) (λ (is_not, next).
    ⊎_elim (λ (is_so, same). let one : D ≡ l = cc in eqb-true code 68 is_so ∙ ap code_of one) (λ (is_not, next).
    ⊎_elim (λ (is_so, same). let one : L ≡ l = cc in eqb-true code 76 is_so ∙ ap code_of one) (λ (is_not, next). cc)
    (chosen (code == 76) (Some L) None (Some l) next))
    (chosen (code == 68) (Some D) (if code == 76 then Some L else None) (Some l) next))
    (chosen (code == 78) (Some N) (if code == 68 then Some D else if code == 76 then Some L else None) (Some l) next))
    (chosen (code == 67) (Some C) (if code == 78 then Some N else if code == 68 then Some D else if code == 76 then Some
    L else None) (Some l) e)

record ToldBy (bytes : List ℕ) (end : Option ℕ) (f : Field) : Type 0 where
  pub at : ℕ
  pub ends : end ≡ Some at
  pub letter : Letter
  pub lettered : letter_of (get_or bytes 11 0) ≡ Some letter
  pub made : field_with bytes at letter ≡ f
  pub good : is_field f ≡ true

told_letter : (bytes : List ℕ) (i : ℕ) (letter : Option Letter) (f : Field) → with_letter bytes i letter ≡ Some f
    → (l : Letter) × (letter ≡ Some l) × (field_with bytes i l ≡ f) × (is_field f ≡ true)
told_letter bytes i None f e = cc
told_letter bytes i (Some l) f e =
    ⊎_elim (λ (is_so, same). let one : field_with bytes i l ≡ f = cc in (l, refl, one, ap is_field (sym one) ∙ is_so))
    (λ (is_not, same). cc)
    (chosen (is_field (field_with bytes i l)) (Some (field_with bytes i l)) None (Some f) e)

told_by : (bytes : List ℕ) (end : Option ℕ) (f : Field) → with_end bytes end ≡ Some f → ToldBy bytes end f
told_by bytes None f e = cc
told_by bytes (Some i) f e =
    let facts = told_letter bytes i (letter_of (get_or bytes 11 0)) f e in
    record { at = i; ends = refl; letter = facts.0; lettered = facts.1; made = facts.2; good = facts.3 }

pub told_is : (bytes : List ℕ) (f : Field) → length bytes ≡ 32 → told_field bytes ≡ Some f
    → IsDescriptor bytes f × (is_field f ≡ true)
unfolding told_field
told_is bytes f whole told =
    let facts = told_by bytes (position (λ byte. byte == 0) (take 11 bytes)) f told in
    let at = facts.at in
    let within = position-Some (λ byte. byte == 0) (take 11 bytes) at 0 facts.ends in
    let front : length (take 11 bytes) ≡ 11 = length-take-le 11 bytes (omega arith) in
    let below : at ≤ 11 = omega (arith, within.0) in
    let same : take at (take 11 bytes) ≡ take at bytes = take-take at 11 bytes below in
    let there : IsDescriptor bytes (field_with bytes at facts.letter) = record {
      whole = whole;
      name = (
        drop (at + 1) (take 11 bytes),
        ended_at (take 11 bytes) at facts.ends
            ∙ ap (λ (text : List ℕ). text ++ 0 ∷ drop (at + 1) (take 11 bytes)) same,
      );
      letter = letter_told _ facts.letter facts.lettered;
      width = refl;
      decimals = refl;
    } in
    (subst (IsDescriptor bytes) facts.made there, facts.good)

same_field : (name : List ℕ) (letter : Letter) (width decimals : ℕ) (f : Field) → name ≡ f.name.items
    → letter ≡ f.letter → width ≡ f.width → decimals ≡ f.decimals →
    record { name = record { items = name }; letter = letter; width = width; decimals = decimals } ≡ f
same_field name letter width decimals f a b c d =
    let made : List ℕ → Letter → ℕ → ℕ → Field =
    λ n l w x. record { name = record { items = n }; letter = l; width = w; decimals = x } in
    ap (λ (n : List ℕ). made n letter width decimals) a ∙ ap (λ (l : Letter). made f.name.items l width decimals) b
    ∙ ap (λ (w : ℕ). made f.name.items f.letter w decimals) c ∙ ap (λ (x : ℕ). made f.name.items f.letter f.width x) d

pub name_of_field : (f : Field) → is_field f ≡ true → is_name f.name.items ≡ true
unfolding is_field
name_of_field f good = (and_parts _ _ good).0

pub told_again : (bytes : List ℕ) (f : Field) → IsDescriptor bytes f → is_field f ≡ true → told_field bytes ≡ Some f
unfolding told_field
told_again bytes f d good =
    let name = f.name.items in
    let n = length name in
    let longer = length-append name (0 ∷ d.name.0) in
    let front : length (take 11 bytes) ≡ 11 = length-take-le 11 bytes (omega (arith, d.whole)) in
    let short : n ≤ 11 = omega (arith, ap length d.name.1) in
    let ends : position (λ byte. byte == 0) (take 11 bytes) ≡ Some n =
    ap (position (λ byte. byte == 0)) d.name.1 ∙ zero_behind name d.name.0 (no_zero name (name_of_field f good)) in
    let lettered : letter_of (get_or bytes 11 0) ≡ Some f.letter = ap letter_of d.letter ∙ letter_again f.letter in
    let same : take n bytes ≡ name =
    sym (take-take n 11 bytes short) ∙ ap (take n) d.name.1 ∙ take_at name (0 ∷ d.name.0) n refl in
    let made : field_with bytes n f.letter ≡ f = same_field _ f.letter _ _ f same refl d.width (sym d.decimals) in
    ap (with_end bytes) ends ∙ ap (with_letter bytes n) lettered ∙ ap if_field made
    ∙ ap (λ (b : Bool). cond b (Some f) None) good
