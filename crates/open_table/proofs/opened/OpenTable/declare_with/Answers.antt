use Rattle.std.proofs.Common.{◌≡◌, false, ◌∷◌, [], ◌++◌, List, is_none, map, ◌↔◌, true, sym, ap, ◌∙◌, subst}
use Rattle.std.proofs.Common.{arith}
use Rattle.std.specs.List.{All}
use Rattle.std.proofs.lemmas.List.{map-append}
use Rattle.std.proofs.lemmas.List.Elements.{All-push}
use Rattle.std.specs.Prelude.{IsSomeAnd}
use Rattle.dbf_file.specs.Rows.{Row}
use Rattle.row_keys.specs.Lists.{index_list}
use Rattle.open_table.specs.Marks.{IndexMark, mark_at, is_fresh}
use Rattle.open_table.specs.Slots.{SlotState, IsSlot, mark_of}
use Rattle.open_table.specs.Open.{OpenState}
use Rattle.open_table.proofs.opened.OpenTable.declare_with.Goals as goal

pub invariant_of-self-2 : goal.invariant_of-self-2
invariant_of-self-2 g c =
    let t = c.self.inside.table in
    let slots = c.self.inside.slots.items in
    let marks = map mark_of c.push.new.self.items in
    let none : c.self.inside.list.items ≡ [] =
    ap (λ (s : OpenState). s.list) c.self.view_is ∙ c.requires.unused in
    record {
      lists = record {
        few = c.self.invariant.lists.few;
        exact = subst (All (IsSlot t.structure t.rows)) (sym c.in_ok-push.ensures.items)
            (All-push (IsSlot t.structure t.rows) slots c.slot_with-slot.result c.self.invariant.lists.exact
            c.slot_with-slot.ensures.sound);
      };
      is_open = record {
        few = c.self.invariant.is_open.few;
        fresh = subst (All (λ n. is_fresh (mark_at marks n) ≡ true)) (sym none) (λ k d lt. absurd (omega arith));
        order_within = c.self.invariant.is_open.order_within;
      };
    }

pub returns-clause-ok : goal.returns-clause-ok
returns-clause-ok g c =
    let t = c.self.inside.table in
    let slots = c.self.inside.slots.items in
    let slot : SlotState = c.slot_with-slot.result in
    let mark : IndexMark = record {
      number = c.args.number;
      parts = c.args.key;
      text = c.args.text.items;
      stale = is_none slot.index;
    } in
    let made : mark_of slot ≡ mark = λ i.
    record {
      number = c.slot_with-slot.ensures.number i;
      parts = c.slot_with-slot.ensures.parts i;
      text = c.slot_with-slot.ensures.text i;
      stale = is_none slot.index;
    } in
    let marks : map mark_of c.push.new.self.items ≡ map mark_of slots ++ mark ∷ [] =
    ap (map mark_of) c.in_ok-push.ensures.items ∙ map-append mark_of slots (slot ∷ [])
    ∙ ap (λ m. map mark_of slots ++ m ∷ []) made in
    record {
      stale = is_none slot.index;
      added = ap (λ ms. record { structure = t.structure; rows = t.rows; marks = ms }) marks
          ∙ ap (λ (x : OpenState). record {
            structure = x.table.structure;
            rows = x.table.rows;
            marks = x.table.marks ++ mark ∷ [];
          }) c.self.view_is;
      told = subst (λ (rows : List Row). (is_none slot.index ≡ false) ↔ IsSomeAnd c.args.list
          (λ k. g.K.KeyList.pairs k ≡ index_list c.args.key rows))
          (ap (λ (x : OpenState). x.table.rows) c.self.view_is) c.slot_with-slot.ensures.exact;
    }
