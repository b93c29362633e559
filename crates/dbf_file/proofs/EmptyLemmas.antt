-- A structure of fields that no file gave.
use Rattle.std.proofs.Common.{◌≡◌, ℕ, suc, ◌+◌, ◌*◌, ◌-◌, ◌≤◌, List, [], ◌∷◌, ◌++◌, length, get_or, take, drop, true}
use Rattle.std.proofs.Common.{refl, sym, ap, ◌∙◌, subst, arith, length-append, append_assoc, replicate, eqb-true}
use Rattle.std.proofs.lemmas.List.{drop_at, take_at, length-replicate, get_or-append_right}
use Rattle.std.proofs.lemmas.List.Concat.{flat_map-cons}
use Rattle.std.proofs.lemmas.Bool.{and_parts}
use Rattle.dbf_file.specs.declared.field.Letter.{Letter}
use Rattle.dbf_file.specs.declared.field.Letter.TheVariants.{C, N, D, L}
use Rattle.dbf_file.specs.declared.field.Field.{Field}
use Rattle.dbf_file.specs.Fields.{code_of, has_shape, is_field, fields_go_on, are_fields, widths_of, size_of}
use Rattle.dbf_file.specs.Descriptors.{IsDescriptor, Describes, decimals_of, descriptor_text, descriptors_text}
use Rattle.dbf_file.specs.Descriptors.{field_head_text}
use Rattle.dbf_file.specs.Tables.{StructureState, IsStructure, structure_of}
use Rattle.dbf_file.specs.Kept.{IsKept}
use Rattle.dbf_file.proofs.NameLemmas.{short_name}
use Rattle.dbf_file.proofs.DescriptorLemmas.{name_of_field}
use Rattle.dbf_file.proofs.FileLemmas.{good_fields}
use Rattle.dbf_file.proofs.ValueLemmas.{shape_of}

-- the name and the zeros behind it, and the rest
behind_name : Field → List ℕ
behind_name f = code_of f.letter ∷ (replicate 4 0 ++ (f.width ∷ f.decimals ∷ replicate 14 0))

abbrev name_part : Field → List ℕ
name_part f = f.name.items ++ replicate (11 - length f.name.items) 0

descriptor_parts : (name behind_it code four pair last : List ℕ) → ((((name ++ behind_it) ++ code) ++ four) ++ pair)
    ++ last ≡ (name ++ behind_it) ++ (code ++ (four ++ (pair ++ last)))
descriptor_parts name behind_it code four pair last = simp append_assoc

descriptor_is : (f : Field) → descriptor_text f ≡ name_part f ++ behind_name f
unfolding descriptor_text behind_name
descriptor_is f = descriptor_parts f.name.items (replicate (11 - length f.name.items) 0) (code_of f.letter ∷ [])
    (replicate 4 0) (f.width ∷ f.decimals ∷ []) (replicate 14 0)

length_name_part : (f : Field) → length f.name.items ≤ 10 → length (name_part f) ≡ 11
length_name_part f short =
    let zeros : List ℕ = replicate (11 - length f.name.items) 0 in
    let many : length zeros ≡ 11 - length f.name.items = length-replicate (11 - length f.name.items) 0 in
    let both = length-append f.name.items zeros in
    omega (arith, both, many)

same_decimals : (letter : Letter) (width decimals : ℕ) → has_shape letter width decimals ≡ true
    → decimals ≡ decimals_of letter decimals
same_decimals C width decimals good = eqb-true decimals 0 (and_parts _ _ good).1
same_decimals N width decimals good = refl
same_decimals D width decimals good = eqb-true decimals 0 (and_parts _ _ good).1
same_decimals L width decimals good = eqb-true decimals 0 (and_parts _ _ good).1

length_behind : (f : Field) → length (behind_name f) ≡ 21
unfolding behind_name
length_behind f = refl

cell_behind : (f : Field) (i j : ℕ) → length f.name.items ≤ 10 → i ≡ 11 + j
    → get_or (descriptor_text f) i 0 ≡ get_or (behind_name f) j 0
cell_behind f i j short at =
    let back : i - 11 ≡ j = omega arith in
    ap (λ (xs : List ℕ). get_or xs i 0) (descriptor_is f) ∙ get_or-append_right (name_part f) (behind_name f) 11 i 0
    (length_name_part f short) (omega arith) ∙ ap (λ k. get_or (behind_name f) k 0) back

cells : (f : Field) → (get_or (behind_name f) 0 0 ≡ code_of f.letter) × (get_or (behind_name f) 5 0 ≡ f.width)
    × (get_or (behind_name f) 6 0 ≡ f.decimals)
unfolding behind_name
cells f = (refl, refl, refl)

pub length_descriptor : (f : Field) → length f.name.items ≤ 10 → length (descriptor_text f) ≡ 32
length_descriptor f short =
    let a = length_name_part f short in
    let b = length_behind f in
    ap length (descriptor_is f) ∙ length-append (name_part f) (behind_name f) ∙ ap (λ k. k + length (behind_name f)) a
    ∙ ap (λ k. 11 + k) b

pub descriptor_reads : (f : Field) → is_field f ≡ true → IsDescriptor (descriptor_text f) f
descriptor_reads f good =
    let short = short_name f.name.items (name_of_field f good) in
    let zeros : 11 - length f.name.items ≡ suc (10 - length f.name.items) = omega arith in
    record {
      whole = length_descriptor f short;
      name = (
        replicate (10 - length f.name.items) 0,
        ap (take 11) (descriptor_is f)
            ∙ take_at (name_part f) (behind_name f) 11 (length_name_part f short)
            ∙ ap (λ k. f.name.items ++ replicate k 0) zeros,
      );
      letter = cell_behind f 11 0 short refl ∙ (cells f).0;
      width = cell_behind f 16 5 short refl ∙ (cells f).1;
      decimals = same_decimals f.letter f.width f.decimals (shape_of f good)
          ∙ ap (decimals_of f.letter) (sym (cell_behind f 17 6 short refl ∙ (cells f).2));
    }

pub descriptors_read : (fs earlier : List Field) → fields_go_on earlier fs ≡ true
    → Describes (descriptors_text fs ++ 13 ∷ []) fs
descriptors_read [] earlier good = ([], refl)
descriptors_read (f ∷ fs) earlier good =
    let parts = and_parts _ _ good in
    let here = (and_parts _ _ parts.0).0 in
    let long = length_descriptor f (short_name f.name.items (name_of_field f here)) in
    let rest : List ℕ = descriptors_text fs ++ 13 ∷ [] in
    let split : descriptors_text (f ∷ fs) ++ 13 ∷ [] ≡ descriptor_text f ++ rest =
    ap (λ (xs : List ℕ). xs ++ 13 ∷ []) (flat_map-cons descriptor_text f fs)
    ∙ append_assoc (descriptor_text f) (descriptors_text fs) (13 ∷ []) in (
      subst (λ (xs : List ℕ). IsDescriptor xs f) (sym (ap (take 32) split ∙ take_at (descriptor_text f) rest 32 long))
          (descriptor_reads f here),
      subst (λ (xs : List ℕ). Describes xs fs) (sym (ap (drop 32) split ∙ drop_at (descriptor_text f) rest 32 long))
          (descriptors_read fs (earlier ++ f ∷ []) parts.1),
    )

length_descriptors : (fs earlier : List Field) → fields_go_on earlier fs ≡ true
    → length (descriptors_text fs) ≡ 32 * length fs
length_descriptors [] earlier good = refl
length_descriptors (f ∷ fs) earlier good =
    let parts = and_parts _ _ good in
    let here = (and_parts _ _ parts.0).0 in
    let long = length_descriptor f (short_name f.name.items (name_of_field f here)) in
    let more = length_descriptors fs (earlier ++ f ∷ []) parts.1 in
    let both = length-append (descriptor_text f) (descriptors_text fs) in
    ap length (flat_map-cons descriptor_text f fs) ∙ omega (arith, both, long, more)

pub structure_good : (fields : List Field) → are_fields fields ≡ true → IsStructure (structure_of fields)
unfolding field_head_text
structure_good fields are =
    let good = good_fields fields are in
    let zeros : List ℕ = replicate 20 0 in
    let texts : List ℕ = descriptors_text fields in
    let split : (zeros ++ texts) ++ 13 ∷ [] ≡ zeros ++ (texts ++ 13 ∷ []) = append_assoc zeros texts (13 ∷ []) in
    let body : drop 20 ((zeros ++ texts) ++ 13 ∷ []) ≡ texts ++ 13 ∷ [] =
    ap (drop 20) split ∙ drop_at zeros (texts ++ 13 ∷ []) 20 refl in
    let long = length_descriptors fields [] good.good in
    let last : List ℕ = 13 ∷ [] in
    let a = length-append (zeros ++ texts) last in
    let b = length-append zeros texts in
    let c : length zeros ≡ 20 = refl in
    let d : length last ≡ 1 = refl in
    record {
      fields = are;
      described = subst (λ (xs : List ℕ). Describes xs fields) (sym body) (descriptors_read fields [] good.good);
      short = omega (arith, a, b, c, d, long, good.most);
    }

pub kept_empty : (s : StructureState) (fields : List Field) (size : ℕ) (xs : List ℕ) → are_fields fields ≡ true
    → s ≡ structure_of fields → size ≡ size_of (widths_of fields) → xs ≡ [] → IsKept s size 0 xs
kept_empty s fields size xs are same right none =
    subst (λ (z : StructureState). IsKept z size 0 xs) (sym same)
    (record {
      good = structure_good fields are;
      right_size = right;
      whole = ap length none
          ∙ omega arith;
      few = omega arith;
    })
