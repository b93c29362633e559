use Rattle.std.proofs.Common.{◌≡◌, ◌≤◌, length, take, refl, sym, ap, ◌∙◌, subst}
use Rattle.std.proofs.lemmas.List.{length-set}
use Rattle.std.specs.List.{All}
use Rattle.std.specs.Prelude.{IfSome, slice_index}
use Rattle.dbf_file.specs.Rows.{with_text}
use Rattle.dbf_file.specs.Tables.{StructureState, TableState, row_widths, decimals_at}
use Rattle.dbf_file.specs.Values.{text_by}
use Rattle.row_keys.specs.Lists.{HasFollowed, IsAsBefore, IsExact}
use Rattle.open_table.specs.Slots.{SlotState, mark_of, IsSlot, GoesBy, Along}
use Rattle.open_table.proofs.SlotLemmas.{on_err, same_along, goes_mark, listed_some}
use Rattle.open_table.proofs.ChangeLemmas.{left_exact, marks_left, put_back_text, follows_exact, stale_exact}
use Rattle.open_table.proofs.MakingLemmas.{same_table}
use Rattle.open_table.proofs.changes.replace.Goals as goal

pub returns-in_err-reserve_all-clause-err : goal.returns-in_err-reserve_all-clause-err
returns-in_err-reserve_all-clause-err g c = on_err _ _ (same_table _ _ refl refl
    (same_along mark_of (GoesBy (λ parts. IsAsBefore)) (goes_mark (λ parts. IsAsBefore)) c.args.slots.now.items
    c.reserve_all.new.slots.items c.in_err-reserve_all.ensures.same))

pub returns-then-are_stale-clause-ok : goal.returns-then-are_stale-clause-ok
returns-then-are_stale-clause-ok g c =
    let s = c.args.table.now.structure in
    let text = text_by (slice_index (row_widths s) c.args.f) (decimals_at s c.args.f) c.args.from.now in
    let new = record c.args.table.now { rows = with_text c.args.table.now.rows c.args.r c.args.f text } in
    same_table _ _ (ap (λ (t : TableState). t.structure) {y = new} c.put_at.ensures)
    (ap (λ (t : TableState). t.rows) {y = new} c.put_at.ensures)
    (marks_left c.args.list.now c.args.slots.now.items
    c.reserve_all.new.slots.items c.leave_all.new.slots.items c.in_ok-reserve_all.ensures.same c.leave_all.ensures)

pub returns-then-are_stale-clause-lists : goal.returns-then-are_stale-clause-lists
returns-then-are_stale-clause-lists g c =
    let s = c.args.table.now.structure in
    let rows = c.args.table.now.rows in
    let text = text_by (slice_index (row_widths s) c.args.f) (decimals_at s c.args.f) c.args.from.now in
    let mid = c.leave_all.new.slots.items in
    let left = left_exact s rows c.args.list.now c.args.slots.now.items c.reserve_all.new.slots.items mid
    c.requires.lists.exact c.in_ok-reserve_all.ensures.same c.leave_all.ensures in
    let structure : c.put_at.new.self.structure ≡ s = ap (λ (t : TableState). t.structure)
    {y = record c.args.table.now { rows = with_text rows c.args.r c.args.f text }} c.put_at.ensures in
    record {
      few = subst (λ (t : TableState). length t.rows ≤ 1000000)
          (sym c.put_at.ensures) (subst (λ n. n ≤ 1000000) (sym (length-set rows c.args.r _)) c.requires.lists.few);
      exact = subst (λ (st : StructureState). All (IsSlot st c.put_at.new.self.rows) mid) (sym structure)
          (stale_exact s rows c.put_at.new.self.rows mid left (c.are_stale.ensures c.if-are_stale.true));
    }

pub follow_all-requires-clause-exact : goal.follow_all-requires-clause-exact
follow_all-requires-clause-exact g c = λ k d lt.
    let s = c.args.table.now.structure in
    let rows = c.args.table.now.rows in
    let r = c.args.r in
    let f = c.args.f in
    let text = text_by (slice_index (row_widths s) f) (decimals_at s f) c.args.from.now in
    let mid = c.leave_all.new.slots.items in
    let left = left_exact s rows c.args.list.now c.args.slots.now.items c.reserve_all.new.slots.items mid
    c.requires.lists.exact c.in_ok-reserve_all.ensures.same c.leave_all.ensures in
    let new = record c.args.table.now { rows = with_text rows r f text } in
    let before = take c.text_of-before.result c.text_of-before.new.room in
    let back : with_text c.put_at-2.new.self.rows r f before ≡ rows =
    ap (λ (t : TableState). with_text t.rows r f before) {y = new} c.put_at-2.ensures
    ∙ ap (with_text (with_text rows r f text) r f) c.text_of-before.ensures.text
    ∙ put_back_text rows r f text c.requires.row in
    let structure : c.put_at-2.new.self.structure ≡ s = ap (λ (t : TableState). t.structure) {y = new} c.put_at-2.ensures in
    subst (λ (st : StructureState). All
    (λ (slot : SlotState). IfSome slot.index (IsExact st (with_text c.put_at-2.new.self.rows r f before) slot.parts)) mid)
    (sym structure)
    (subst (λ rs. All (λ (slot : SlotState). IfSome slot.index (IsExact s rs slot.parts)) mid) (sym back)
    (λ i e less. listed_some (IsExact s rows _) (IsExact s rows _) _ (λ x h. h) _ (left i e less).listed)) k d lt

pub returns-clause-ok : goal.returns-clause-ok
returns-clause-ok g c =
    let s = c.args.table.now.structure in
    let text = text_by (slice_index (row_widths s) c.args.f) (decimals_at s c.args.f) c.args.from.now in
    let new = record c.args.table.now { rows = with_text c.args.table.now.rows c.args.r c.args.f text } in
    let followed = HasFollowed c.put_at-2.new.self.structure c.put_at-2.new.self.rows in
    same_table _ _ (ap (λ (t : TableState). t.structure) {y = new} c.put_at-2.ensures)
    (ap (λ (t : TableState). t.rows) {y = new} c.put_at-2.ensures)
    (same_along mark_of (GoesBy followed) (goes_mark followed) c.leave_all.new.slots.items
    c.follow_all.new.slots.items c.follow_all.ensures
    ∙ marks_left c.args.list.now c.args.slots.now.items c.reserve_all.new.slots.items c.leave_all.new.slots.items
    c.in_ok-reserve_all.ensures.same c.leave_all.ensures)

pub returns-clause-lists : goal.returns-clause-lists
returns-clause-lists g c =
    let s = c.args.table.now.structure in
    let rows = c.args.table.now.rows in
    let r = c.args.r in
    let f = c.args.f in
    let text = text_by (slice_index (row_widths s) f) (decimals_at s f) c.args.from.now in
    let mid = c.leave_all.new.slots.items in
    let new = c.follow_all.new.slots.items in
    let others = c.put_at-2.new.self.rows in
    let left = left_exact s rows c.args.list.now c.args.slots.now.items c.reserve_all.new.slots.items mid
    c.requires.lists.exact c.in_ok-reserve_all.ensures.same c.leave_all.ensures in
    let structure : c.put_at-2.new.self.structure ≡ s = ap (λ (t : TableState). t.structure)
    {y = record c.args.table.now { rows = with_text rows r f text }} c.put_at-2.ensures in
    let followed : Along (GoesBy (HasFollowed s others)) mid new = subst
    (λ (st : StructureState). Along (GoesBy (HasFollowed st others)) mid new) structure c.follow_all.ensures in
    record {
      few = subst (λ (t : TableState). length t.rows ≤ 1000000)
          (sym c.put_at-2.ensures) (subst (λ n. n ≤ 1000000) (sym (length-set rows r _)) c.requires.lists.few);
      exact = subst (λ (st : StructureState). All (IsSlot st others) new) (sym structure)
          (follows_exact s rows others mid new left followed);
    }
