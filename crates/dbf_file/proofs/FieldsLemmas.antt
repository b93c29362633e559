-- The fields that are told are those that are described.
use Rattle.std.proofs.Common.{◌≡◌, ◌==◌, ℕ, zero, suc, ◌+◌, ◌*◌, ◌<◌, ◌≤◌, List, [], ◌∷◌, ◌++◌, length, get_or, take}
use Rattle.std.proofs.Common.{drop, Bool, true, false, nat_lt, nat_le, cond, Option, Some, None, Result, Ok, Err, ◌⊎◌}
use Rattle.std.proofs.Common.{inl, inr, ⊎_elim, refl, sym, ap, ◌∙◌, subst, arith, length-append, length-drop}
use Rattle.std.proofs.Common.{append_assoc, eq-eqb}
use Rattle.std.proofs.lemmas.Bool.{lt-leb, le-ltb, ne_eqb, and_parts, and_from}
use Rattle.std.proofs.lemmas.List.{length-take, get_or_append_left, append-nil}
use Rattle.dbf_file.specs.declared.field.Field.{Field}
use Rattle.dbf_file.specs.declared.fault.DbfFault.{DbfFault}
use Rattle.dbf_file.specs.declared.fault.DbfFault.TheVariants.{FieldShape, NoEnd}
use Rattle.dbf_file.specs.Fields.{is_field, is_new, fields_go_on}
use Rattle.dbf_file.specs.Descriptors.{IsDescriptor, Describes, after_step, next_told, fields_from, told_field, if_new}
use Rattle.dbf_file.proofs.NameLemmas.{first_of_name}
use Rattle.dbf_file.proofs.DescriptorLemmas.{step_more, step_end, one_more, at_end, told_is, told_again, name_of_field}

-- ---- what is told is described

after_cases : (earlier : List Field) (step : Result (Option Field) DbfFault)
    (more : List Field → Result (List Field) DbfFault) (all : List Field) → after_step earlier step more ≡ Ok all →
    ((step ≡ Ok None) × (earlier ≡ all)) ⊎ ((f : Field) × (step ≡ Ok (Some f)) × (more (earlier ++ f ∷ []) ≡ Ok all))
after_cases earlier (Err fault) more all e = cc
after_cases earlier (Ok None) more all e = let same : earlier ≡ all = cc in inl (refl, same)
after_cases earlier (Ok (Some f)) more all e = inr (f, refl, e)

-- fields behind earlier ones
pub record Told (earlier : List Field) (bytes : List ℕ) (all : List Field) : Type 0 where
  pub more : List Field
  pub together : all ≡ earlier ++ more
  pub described : Describes bytes more
  pub good : fields_go_on earlier more ≡ true
  pub some : 0 < length all
  pub most : length all ≤ 128

pub fields_told : (n : ℕ) (earlier : List Field) (bytes : List ℕ) (all : List Field) → length earlier ≤ 128
    → fields_from n earlier bytes ≡ Ok all → Told earlier bytes all
unfolding fields_from
fields_told zero earlier bytes all few e = cc
fields_told (suc n) earlier bytes all few e =
    ⊎_elim
    (λ (ends, same).
    let facts = at_end earlier bytes ends in
    record {
      more = [];
      together = sym same ∙ sym (append-nil earlier);
      described = facts.0;
      good = refl;
      some = subst
          (λ xs. 0 < length xs) same facts.1;
      most = subst (λ xs. length xs ≤ 128) same few;
    })
    (λ (f, told, rest).
    let one = one_more earlier bytes f told in
    let longer = length-append earlier (f ∷ []) in
    let whole : length (take 32 bytes) ≡ 32 = omega (arith, length-take 32 bytes, one.whole) in
    let is = told_is (take 32 bytes) f whole one.told in
    let next = fields_told n (earlier ++ f ∷ []) (drop 32 bytes) all (omega (arith, one.room)) rest in
    record {
      more = f ∷ next.more;
      together = next.together ∙ append_assoc earlier (f ∷ []) next.more;
      described = (is.0, next.described);
      good = and_from _ _ (and_from _ _ is.1 one.new) next.good;
      some = next.some;
      most = next.most;
    })
    (after_cases earlier (next_told earlier bytes) (λ fields. fields_from n fields (drop 32 bytes)) all e)

-- ---- what is described is told

next_is_end : (earlier : List Field) (bytes behind : List ℕ) → 0 < length earlier → bytes ≡ 13 ∷ behind
    → next_told earlier bytes ≡ Ok None
unfolding next_told
next_is_end earlier [] behind some there = cc
next_is_end earlier (byte ∷ bytes) behind some there =
    let first : byte ≡ 13 = cc in
    let is_end : byte == 13 ≡ true = eq-eqb byte 13 first in
    let not_none : length earlier == 0 ≡ false = ne_eqb (length earlier) 0 (λ none. omega arith) in
    let other : Result (Option Field) DbfFault = cond (nat_le 128 (length earlier)) (Err FieldShape)
    (cond (nat_lt (length (byte ∷ bytes)) 32) (Err NoEnd) (if_new earlier (told_field (take 32 (byte ∷ bytes))))) in
    ap (λ (b : Bool). cond b (cond (length earlier == 0) (Err FieldShape) (Ok None)) other) is_end
    ∙ ap (λ (b : Bool). cond b (Err FieldShape) (Ok None)) not_none

first_byte : (byte : ℕ) (bytes : List ℕ) (f : Field) → IsDescriptor (take 32 (byte ∷ bytes)) f → is_field f ≡ true
    → byte == 13 ≡ false
first_byte byte bytes f d good =
    let facts = first_of_name f.name.items (name_of_field f good) in
    let same : byte ≡ get_or f.name.items 0 0 =
    ap (λ (xs : List ℕ). get_or xs 0 0) d.name.1 ∙ get_or_append_left f.name.items (0 ∷ d.name.0) 0 0 facts.0 in
    ap (λ (b : ℕ). b == 13) same ∙ facts.1

next_is_field : (earlier : List Field) (bytes : List ℕ) (f : Field) → length earlier < 128
    → IsDescriptor (take 32 bytes) f → is_field f ≡ true → is_new earlier f ≡ true
    → next_told earlier bytes ≡ Ok (Some f)
unfolding next_told
next_is_field earlier [] f room d good new = absurd (omega (arith, d.whole))
next_is_field earlier (byte ∷ bytes) f room d good new =
    let whole : 32 ≤ length (byte ∷ bytes) = omega (arith, d.whole, length-take 32 (byte ∷ bytes)) in
    let last : Result (Option Field) DbfFault = if_new earlier (told_field (take 32 (byte ∷ bytes))) in
    ap (λ (b : Bool). cond b (cond (length earlier == 0) (Err FieldShape) (Ok None))
    (cond (nat_le 128 (length earlier)) (Err FieldShape)
    (cond (nat_lt (length (byte ∷ bytes)) 32) (Err NoEnd) last))) (first_byte byte bytes f d good)
    ∙ ap (λ (b : Bool). cond b (Err FieldShape) (cond (nat_lt (length (byte ∷ bytes)) 32) (Err NoEnd) last))
    (lt-leb 128 (length earlier) room)
    ∙ ap (λ (b : Bool). cond b (Err NoEnd) last) (le-ltb (length (byte ∷ bytes)) 32 whole)
    ∙ ap (if_new earlier) (told_again (take 32 (byte ∷ bytes)) f d good)
    ∙ ap (λ (b : Bool). cond b (Ok (Some f)) (Err FieldShape)) new

pub fields_again : (fs : List Field) (n : ℕ) (earlier : List Field) (bytes : List ℕ) → Describes bytes fs
    → fields_go_on earlier fs ≡ true → length fs < n → 0 < length earlier + length fs → length earlier + length fs ≤ 128
    → fields_from n earlier bytes ≡ Ok (earlier ++ fs)
fields_again fs zero earlier bytes described good steps some most = absurd (omega arith)
fields_again [] (suc n) earlier bytes (behind, there) good steps some most =
    step_end n earlier bytes (next_is_end earlier bytes behind (omega arith) there) ∙ ap Ok (sym (append-nil earlier))
fields_again (f ∷ fs) (suc n) earlier bytes (d, described) good steps some most =
    let parts = and_parts _ _ good in
    let here = and_parts _ _ parts.0 in
    let longer = length-append earlier (f ∷ []) in
    step_more n earlier bytes f (next_is_field earlier bytes f (omega arith) d here.0 here.1)
    ∙ fields_again fs n (earlier ++ f ∷ []) (drop 32 bytes) described parts.1 (omega arith) (omega arith) (omega arith)
    ∙ ap Ok (append_assoc earlier (f ∷ []) fs)

-- descriptors take 32 bytes each, and one more stands behind them
pub length_described : (bytes : List ℕ) (fs : List Field) → Describes bytes fs → length fs * 32 + 1 ≤ length bytes
length_described bytes [] (behind, there) = omega (arith, ap length there)
length_described bytes (f ∷ fs) (d, described) =
    let rest = length_described (drop 32 bytes) fs described in
    omega (arith, d.whole, length-take 32 bytes, length-drop 32 bytes)
