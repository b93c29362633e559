-- Laws of the readers of kinds, tables, indexes and lists.
use Rattle.std.proofs.Common.{inl, inr, ◌≡◌, ℕ, Bool, eqb, leb, [], ◌∷◌, ◌++◌, length, Option, Some, None, Ok, refl, ap}
use Rattle.std.proofs.Common.{◌∙◌}
use Rattle.std.proofs.lemmas.Bool.{eqb-true, le-leb}
use Rattle.arrayvec.specs.ArrayVec.{ArrayVec}
use Rattle.xvalue.specs.declared.kind.Kind.{Kind}
use Rattle.xvalue.specs.declared.kind.Kind.TheVariants.{Number as OfNumber, Text as OfText, Date as OfDate}
use Rattle.xvalue.specs.declared.kind.Kind.TheVariants.{Logical as OfLogical}
use Rattle.dbf_file.specs.declared.field.Letter.{Letter}
use Rattle.dbf_file.specs.declared.field.Field.{Field}
use Rattle.dbf_file.specs.Fields.{code_of, letter_of}
use Rattle.shape.specs.declared.parts.KeyPart.{KeyPart}
use Rattle.shape.specs.declared.lists.IndexList.{IndexList}
use Rattle.code_parts.specs.declared.flaw.Flaw.TheVariants.{Shape}
use Rattle.code_parts.specs.Laws.{ReadsTexts, Any, HasName, FieldFits, TableFits, IndexFits, ListFits}
use Rattle.code_parts.specs.Texts.{kind_number, slot_number, truth_number, kind_text, slot_text, name_text, field_text}
use Rattle.code_parts.specs.Texts.{table_text, key_part_text, index_text, list_text}
use Rattle.code_parts.specs.Items.{there, kind_of_byte, kind_from, slot_from, truth_of_byte, kind_at, slot_at}
use Rattle.code_parts.specs.Items.{name_from, name_read_at, field_from, field_at, table_read_at, part_from, part_at}
use Rattle.code_parts.specs.Items.{index_from, index_at, list_from, list_at}
use Rattle.code_parts.proofs.Combine.{done, ok_is, pair_spells, made_spells, byte_spells}
use Rattle.code_parts.proofs.Numbers.{text_spells, counted_spells}
use Rattle.code_parts.proofs.Choices.{all_any, wanted_ok, there_ok, kind_was, kind_is, truth_was, truth_is}
use Rattle.dbf_file.proofs.ChoiceLemmas.{chosen}
use Rattle.dbf_file.proofs.DescriptorLemmas.{letter_told, letter_again}

pub kind_spells : ReadsTexts kind_at kind_text Any Any
unfolding kind_at
kind_spells = made_spells byte_spells kind_from kind_text Any Any
    (λ b kind fit e.
    let k = there_ok Shape (kind_of_byte b) (λ k. Ok k) kind e in
    let same : k.0 ≡ kind = ok_is k.0 kind k.2 in
    (ap (λ (n : ℕ). n ∷ []) (kind_was b k.0 k.1 ∙ ap kind_number same), tt))
    (λ kind h. (kind_number kind, tt, rw (kind_is kind) refl, refl))

slot_was : (b : ℕ) (slot : Option Kind) → slot_from b ≡ Ok slot → b ≡ slot_number slot
slot_was b slot e =
    elim (chosen (eqb b 0) (done None) (there Shape (kind_of_byte b) (λ k. Ok (Some k))) (Ok slot) e) [
      | inl h ↦ eqb-true b 0 h.0 ∙ ap slot_number (ok_is None slot h.1)
      | inr h ↦
          let k = there_ok Shape (kind_of_byte b) (λ k. Ok (Some k)) slot h.1 in
          kind_was b k.0 k.1 ∙ ap slot_number (ok_is (Some k.0) slot k.2)
    ]

slot_is : (slot : Option Kind) → slot_from (slot_number slot) ≡ Ok slot
slot_is None = refl
slot_is (Some OfNumber) = refl
slot_is (Some OfText) = refl
slot_is (Some OfDate) = refl
slot_is (Some OfLogical) = refl

pub slot_spells : ReadsTexts slot_at slot_text Any Any
unfolding slot_at
slot_spells = made_spells byte_spells slot_from slot_text Any Any
    (λ b slot fit e. (ap (λ (n : ℕ). n ∷ []) (slot_was b slot e), tt))
    (λ slot h. (slot_number slot, tt, slot_is slot, refl))

name_spells : ReadsTexts name_read_at name_text HasName Any
unfolding name_read_at
name_spells = made_spells text_spells name_from name_text HasName Any
    (λ bytes name fit e.
    let made : ArrayVec ℕ = record { items = bytes } in
    (ap name_text (wanted_ok Shape (leb (length bytes) 10) made name e).1, tt))
    (λ name h. (name.items, tt, rw (le-leb (length name.items) 10 h) refl, refl))

pub field_spells : ReadsTexts field_at field_text FieldFits Any
unfolding field_at
field_spells = made_spells (pair_spells name_spells (pair_spells byte_spells (pair_spells byte_spells byte_spells)))
    field_from field_text FieldFits Any
    (λ (name, (code, (width, decimals))) f fit e.
    let make = λ (l : Letter). let made : Field =
    record { name = name; letter = l; width = width; decimals = decimals } in made in
    let l = there_ok Shape (letter_of code) (λ (l : Letter). done (make l)) f e in (
      ap (λ (n : ℕ). name_text name ++ (n ∷ width ∷ decimals ∷ [])) (letter_told code l.0 l.1)
          ∙ ap field_text (ok_is (make l.0) f l.2),
      tt,
    ))
    (λ f h. (
      (f.name, (code_of f.letter, (f.width, f.decimals))),
      (h, (tt, (tt, tt))),
      rw (letter_again f.letter) refl,
      refl,
    ))

pub table_spells : ReadsTexts table_read_at table_text TableFits Any
unfolding table_read_at
table_spells = made_spells (pair_spells name_spells (counted_spells field_spells)) _ table_text TableFits Any
    (λ p t fit e. (ap table_text (ok_is _ t e), tt))
    (λ t h. ((t.name, t.fields), (h.name, h.fields), refl, refl))

part_spells : ReadsTexts part_at key_part_text Any Any
unfolding part_at
part_spells = made_spells (pair_spells byte_spells byte_spells) part_from key_part_text Any Any
    (λ (field, number) part fit e.
    let make = λ (upper : Bool). let made : KeyPart = record { field = field; upper = upper } in made in
    let u = there_ok Shape (truth_of_byte number) (λ (upper : Bool). done (make upper)) part e in
    (ap (λ (n : ℕ). field ∷ n ∷ []) (truth_was number u.0 u.1) ∙ ap key_part_text (ok_is (make u.0) part u.2), tt))
    (λ part h. ((part.field, truth_number part.upper), (tt, tt), rw (truth_is part.upper) refl, refl))

pub index_spells : ReadsTexts index_at index_text IndexFits Any
unfolding index_at
index_spells = made_spells (pair_spells name_spells (pair_spells byte_spells (counted_spells part_spells))) index_from
    index_text IndexFits Any
    (λ (name, (table, parts)) x fit e. (ap index_text (wanted_ok Shape (leb (length parts) 8) _ x e).1, tt))
    (λ x h. ((x.name, (x.table, x.key)), (h.name, (tt, all_any x.key)), rw (le-leb (length x.key) 8 h.few) refl, refl))

pub list_spells : ReadsTexts list_at list_text ListFits Any
unfolding list_at
list_spells = made_spells text_spells list_from list_text ListFits Any
    (λ bytes l fit e.
    let made : IndexList = record { indexes = record { items = bytes } } in
    (ap list_text (wanted_ok Shape (leb (length bytes) 7) made l e).1, tt))
    (λ l h. (l.indexes.items, tt, rw (le-leb (length l.indexes.items) 7 h) refl, refl))
