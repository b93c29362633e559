use Rattle.std.proofs.Common.{◌≡◌, ℕ, ◌≤◌, List, [], ◌∷◌, ◌++◌, length, sym, ap, ◌∙◌, subst, arith}
use Rattle.std.proofs.lemmas.List.{length-append}
use Rattle.std.specs.List.{All, Contains}
use Rattle.std.specs.Prelude.{IfSome}
use Rattle.dbf_file.specs.Rows.{Row, blank_row}
use Rattle.dbf_file.specs.Tables.{row_widths}
use Rattle.row_keys.specs.Lists.{HasAdded, IsAsBefore, row_pair}
use Rattle.open_table.specs.Slots.{SlotState, mark_of, IsSlot, GoesBy, Along}
use Rattle.open_table.proofs.SlotLemmas.{on_err, same_along, goes_mark}
use Rattle.open_table.proofs.ChangeLemmas.{left_exact, marks_left, append_absent, append_exact}
use Rattle.open_table.proofs.MakingLemmas.{same_table}
use Rattle.open_table.proofs.changes.append.Goals as goal

pub returns-in_err-reserve_all-clause-err : goal.returns-in_err-reserve_all-clause-err
returns-in_err-reserve_all-clause-err g c =
    let marks = same_along mark_of (GoesBy (λ parts. IsAsBefore)) (goes_mark (λ parts. IsAsBefore))
    c.args.slots.now.items c.reserve_all.new.slots.items c.in_err-reserve_all.ensures.same in
    on_err _ _ (same_table _ _ c.in_ok-reserve_row.ensures.structure c.in_ok-reserve_row.ensures.rows marks)

pub add_all-requires-clause-absent : goal.add_all-requires-clause-absent
add_all-requires-clause-absent g c = λ k d lt.
    let s = c.args.table.now.structure in
    let rows = c.args.table.now.rows in
    let row = blank_row (row_widths s) in
    let new_rows : c.push_blank.new.self.rows ≡ rows ++ row ∷ [] =
    c.push_blank.ensures.rows ∙ ap (λ rs. rs ++ blank_row (row_widths c.reserve_row.new.self.structure) ∷ [])
    c.in_ok-reserve_row.ensures.rows ∙ ap (λ st. rows ++ blank_row (row_widths st) ∷ [])
    c.in_ok-reserve_row.ensures.structure in
    let number : c.rows-r.result ≡ length rows = c.rows-r.ensures.count ∙ ap length c.in_ok-reserve_row.ensures.rows in
    let left = left_exact s rows c.args.list.now c.args.slots.now.items c.reserve_all.new.slots.items
    c.leave_all.new.slots.items c.requires.lists.exact c.in_ok-reserve_all.ensures.same c.leave_all.ensures in
    let absent = λ (rs : List Row) (n : ℕ). All
    (λ (slot : SlotState). IfSome slot.index (λ x. Contains x.pairs (row_pair slot.parts rs n) → ⊥))
    c.leave_all.new.slots.items in
    subst (λ n. absent c.push_blank.new.self.rows n) (sym number)
    (subst (λ rs. absent rs (length rows)) (sym new_rows)
    (append_absent c.index_lists.ensures s rows row c.leave_all.new.slots.items left)) k d lt

pub returns-clause-ok : goal.returns-clause-ok
returns-clause-ok g c =
    let rows = c.args.table.now.rows in
    let row = blank_row (row_widths c.args.table.now.structure) in
    let new_rows : c.push_blank.new.self.rows ≡ rows ++ row ∷ [] =
    c.push_blank.ensures.rows ∙ ap (λ rs. rs ++ blank_row (row_widths c.reserve_row.new.self.structure) ∷ [])
    c.in_ok-reserve_row.ensures.rows ∙ ap (λ st. rows ++ blank_row (row_widths st) ∷ [])
    c.in_ok-reserve_row.ensures.structure in
    let marks = same_along mark_of (GoesBy (HasAdded c.push_blank.new.self.rows c.rows-r.result))
    (goes_mark (HasAdded c.push_blank.new.self.rows c.rows-r.result)) c.leave_all.new.slots.items
    c.add_all.new.slots.items c.add_all.ensures
    ∙ marks_left c.args.list.now c.args.slots.now.items c.reserve_all.new.slots.items c.leave_all.new.slots.items
    c.in_ok-reserve_all.ensures.same c.leave_all.ensures in
    same_table _ _ (c.push_blank.ensures.structure ∙ c.in_ok-reserve_row.ensures.structure) new_rows marks

pub returns-clause-lists : goal.returns-clause-lists
returns-clause-lists g c =
    let s = c.args.table.now.structure in
    let rows = c.args.table.now.rows in
    let row = blank_row (row_widths s) in
    let new = c.add_all.new.slots.items in
    let mid = c.leave_all.new.slots.items in
    let new_rows : c.push_blank.new.self.rows ≡ rows ++ row ∷ [] =
    c.push_blank.ensures.rows ∙ ap (λ rs. rs ++ blank_row (row_widths c.reserve_row.new.self.structure) ∷ [])
    c.in_ok-reserve_row.ensures.rows ∙ ap (λ st. rows ++ blank_row (row_widths st) ∷ [])
    c.in_ok-reserve_row.ensures.structure in
    let number : c.rows-r.result ≡ length rows = c.rows-r.ensures.count ∙ ap length c.in_ok-reserve_row.ensures.rows in
    let structure : c.push_blank.new.self.structure ≡ s =
    c.push_blank.ensures.structure ∙ c.in_ok-reserve_row.ensures.structure in
    let left = left_exact s rows c.args.list.now c.args.slots.now.items c.reserve_all.new.slots.items mid
    c.requires.lists.exact c.in_ok-reserve_all.ensures.same c.leave_all.ensures in
    let added : Along (GoesBy (HasAdded (rows ++ row ∷ []) (length rows))) mid new =
    subst (λ rs. Along (GoesBy (HasAdded rs (length rows))) mid new) new_rows
    (subst (λ n. Along (GoesBy (HasAdded c.push_blank.new.self.rows n)) mid new) number c.add_all.ensures) in
    record {
      few = subst (λ (rs : List Row). length rs ≤ 1000000) (sym new_rows)
          (omega (arith, c.requires.few, length-append rows (row ∷ [])));
      exact = subst (λ st. All (IsSlot st c.push_blank.new.self.rows) new) (sym structure)
          (subst (λ rs. All (IsSlot s rs) new) (sym new_rows)
          (append_exact c.index_lists.ensures s rows row mid new left added));
    }
