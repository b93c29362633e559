use Rattle.std.proofs.Common.{◌≡◌, ℕ, Some, None, List, refl, sym, ap, subst}
use Rattle.dbf_file.specs.Rows.{Row}
use Rattle.dbf_file.specs.Tables.{StructureState, row_widths}
use Rattle.key_lists.specs.KeyForm.{KeyForm, IsKeyText}
use Rattle.key_lists.specs.SortedList.{SortedList}
use Rattle.shape.specs.declared.parts.KeyPart.{KeyPart}
use Rattle.shape.specs.Keys.{IsKey, key_length}
use Rattle.row_keys.specs.Lists.{index_list, list_by}
use Rattle.open_table.specs.Slots.{SlotState, IsSlot}
use Rattle.open_table.proofs.slot.slot_with.Goals as goal

listed_slot : (s : StructureState) (rows : List Row) (number : ℕ) (key : List KeyPart) (text : List ℕ)
    (list : SortedList) (slot : SlotState) → IsKey s key → IsKeyText text → list.pairs ≡ index_list key rows
    → list.form ≡ record { key_length = key_length key (row_widths s); key_text = text }
    → slot ≡ record { number = number; parts = key; text = text; index = Some list; fresh = None } → IsSlot s rows slot
listed_slot s rows number key text list slot is_key is_text pairs form e =
    subst (IsSlot s rows) (sym e) (record {
      key = is_key;
      text = is_text;
      listed = record {
        exact = record {
          sound = record {
            key = is_key;
            length = ap (λ (f : KeyForm). f.key_length) form;
            text = subst (λ (f : KeyForm). IsKeyText f.key_text) (sym form) is_text;
          };
          pairs = pairs;
        };
        text = ap (λ (f : KeyForm). f.key_text) form;
      };
      idle = refl;
    })

pub returns-in-Some-clause-sound : goal.returns-in-Some-clause-sound
returns-in-Some-clause-sound g c =
    let s = c.args.table.now.structure in
    let list : SortedList = list_by g.K.KeyList.pairs g.K.KeyList.spare g.K.KeyList.form c.in-Some.keys in
    let form : KeyForm = record { key_length = key_length c.args.key (row_widths s); key_text = c.args.text.items } in
    listed_slot s c.args.table.now.rows c.args.number c.args.key c.args.text.items list c.new.result
    c.requires.key c.requires.key_text c.in-Some.ensures.pairs (c.in-Some.ensures.form form c.requires.form)
    c.new.ensures
