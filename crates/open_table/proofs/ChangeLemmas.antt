-- Changes of a table's rows, followed by its declared indexes.
use Rattle.std.proofs.Common.{◌≡◌, ℕ, ◌<◌, not, ◌||◌, List, [], ◌∷◌, ◌++◌, length, get_or, set, map, sym, ap, ◌∙◌}
use Rattle.std.proofs.Common.{subst}
use Rattle.std.specs.List.{All, Contains}
use Rattle.std.specs.Prelude.{IfSome, is_none, Option, Some, None, true}
use Rattle.std.proofs.lemmas.List.{set-set, set-get_or, get_or-set_same}
use Rattle.dbf_file.specs.Rows.{Row, row_at, no_row, text_at, with_text}
use Rattle.dbf_file.specs.Tables.{StructureState}
use Rattle.key_lists.specs.SortedList.{SortedList}
use Rattle.shape.specs.declared.parts.KeyPart.{KeyPart}
use Rattle.row_keys.specs.Lists.{IsExact, IsAsBefore, HasAdded, HasFollowed, row_pair, index_list}
use Rattle.row_keys.proofs.IndexLemmas.{ListLaw, exact_same, exact-absent, exact-added}
use Rattle.open_table.specs.Marks.{left_stale, is_among, with_stale}
use Rattle.open_table.specs.Slots.{SlotState, mark_of, IsListed, IsSlot, GoesBy, Along, left_if_open}
use Rattle.open_table.proofs.SlotLemmas.{carry, slot_goes, left_slot, listed_some, goes_mark, same_along, map_along}
use Rattle.open_table.proofs.SlotLemmas.{left_mark, some_weaker}

-- rooms are asked for, and then closed indexes are left
pub left_exact : (s : StructureState) (rows : List Row) (numbers : List ℕ) (old mid left : List SlotState)
    → All (IsSlot s rows) old → Along (GoesBy (λ parts. IsAsBefore)) old mid → Along (λ a b. b ≡ left_if_open numbers a) mid left
    → All (IsSlot s rows) left
left_exact s rows numbers old mid left exact reserved gone =
    let kept : All (IsSlot s rows) mid = carry (IsSlot s rows) (IsSlot s rows)
    (GoesBy (λ parts. IsAsBefore))
    (slot_goes s (IsExact s rows) (IsExact s rows) (λ parts. IsAsBefore) (exact_same s rows) (λ parts a b r. r.form)) old mid
    reserved exact in
    carry (IsSlot s rows) (IsSlot s rows) (λ a b. b ≡ left_if_open numbers a)
    (λ a b h e. subst (IsSlot s rows) (sym e) (left_slot s (IsExact s rows) numbers a h)) mid left gone kept

pub marks_left : (numbers : List ℕ) (old mid left : List SlotState) → Along (GoesBy (λ parts. IsAsBefore)) old mid
    → Along (λ a b. b ≡ left_if_open numbers a) mid left → map mark_of left ≡ left_stale numbers (map mark_of old)
marks_left numbers old mid left reserved gone =
    map_along mark_of (λ m. with_stale m (m.stale || not (is_among numbers m.number)))
    (λ a b. b ≡ left_if_open numbers a) (λ a b e. sym (left_mark numbers a b e)) mid left gone
    ∙ ap (left_stale numbers) (same_along mark_of (GoesBy (λ parts. IsAsBefore)) (goes_mark (λ parts. IsAsBefore)) old mid reserved)

module _ (law : ListLaw) (s : StructureState) (rows : List Row) (row : Row) where
  abbrev longer : List Row
  longer = rows ++ row ∷ []

  pub append_absent : (slots : List SlotState) → All (IsSlot s rows) slots
      → All (λ slot. IfSome slot.index (λ x. Contains x.pairs (row_pair slot.parts longer (length rows)) → ⊥)) slots
  append_absent slots exact i d lt =
      let slot = get_or slots i d in
      listed_some (IsExact s rows slot.parts) (λ x. Contains x.pairs (row_pair slot.parts longer (length rows)) → ⊥)
      slot.text (exact-absent law s rows row slot.parts) slot.index (exact i d lt).listed

  pub append_exact : (left new : List SlotState) → All (IsSlot s rows) left
      → Along (GoesBy (HasAdded longer (length rows))) left new → All (IsSlot s longer) new
  append_exact left new exact added =
      carry (IsSlot s rows) (IsSlot s longer) (GoesBy (HasAdded longer (length rows)))
      (slot_goes s (IsExact s rows) (IsExact s longer) (HasAdded longer (length rows)) (exact-added law s rows row)
      (λ parts a b r. r.form)) left new added exact

-- the text that a field had, put back
pub put_back_text : (rows : List Row) (r f : ℕ) (text : List ℕ) → r < length rows
    → with_text (with_text rows r f text) r f (text_at rows r f) ≡ rows
put_back_text rows r f text lt =
    let texts = (row_at rows r).texts in
    let marked = (row_at rows r).marked in
    let changed : Row = record { marked = marked; texts = set texts f text } in
    let there : row_at (set rows r changed) r ≡ changed = get_or-set_same rows r changed no_row lt in
    ap (λ (row : Row). set (set rows r changed) r
    (record { marked = row.marked; texts = set row.texts f (text_at rows r f) })) there
    ∙ set-set rows r changed (record { marked = marked; texts = set (set texts f text) f (text_at rows r f) })
    ∙ ap (λ ts. set rows r (record { marked = marked; texts = ts }))
    (set-set texts f text (text_at rows r f) ∙ set-get_or texts f [])
    ∙ set-get_or rows r no_row

unlisted : (index : Option SortedList) (P : SortedList → Type 0) → is_none index ≡ true → IfSome index P
unlisted None P e = tt
unlisted (Some x) P e = absurd cc

-- where none has a list, the rows don't matter
pub stale_exact : (s : StructureState) (rows others : List Row) (slots : List SlotState) → All (IsSlot s rows) slots
    → All (λ (slot : SlotState). is_none slot.index ≡ true) slots → All (IsSlot s others) slots
stale_exact s rows others slots sound stale = λ i d lt.
    let slot = get_or slots i d in
    record {
      key = (sound i d lt).key;
      text = (sound i d lt).text;
      listed = unlisted slot.index (IsListed (IsExact s others slot.parts) slot.text) (stale i d lt);
      idle = (sound i d lt).idle;
    }

pub follows_exact : (s : StructureState) (rows others : List Row) (left new : List SlotState) → All (IsSlot s rows) left
    → Along (GoesBy (HasFollowed s others)) left new → All (IsSlot s others) new
follows_exact s rows others left new exact followed =
    carry (IsSlot s rows) (IsSlot s others) (GoesBy (HasFollowed s others))
    (slot_goes s (IsExact s rows) (IsExact s others) (HasFollowed s others) (λ parts a b e r. r.exact)
    (λ parts a b r. r.form)) left
    new followed exact

-- rows whose lists are those of other rows
pub same_lists : (s : StructureState) (rows others : List Row)
    → ((parts : List KeyPart) → index_list parts others ≡ index_list parts rows) → (a : SlotState) → IsSlot s rows a
    → IsSlot s others a
same_lists s rows others e a h = record {
  key = h.key;
  text = h.text;
  listed = some_weaker (IsListed (IsExact s rows a.parts) a.text) (IsListed (IsExact s others a.parts) a.text)
      (λ x l. record {
        exact = record { sound = l.exact.sound; pairs = l.exact.pairs ∙ sym (e a.parts) };
        text = l.text;
      }) a.index h.listed;
  idle = h.idle;
}
