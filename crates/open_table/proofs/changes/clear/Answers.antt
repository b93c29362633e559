use Rattle.std.proofs.Common.{◌≡◌, ◌≤◌, not, true, false, List, length, sym, ◌∙◌, subst, arith}
use Rattle.std.specs.List.{All}
use Rattle.dbf_file.specs.Rows.{Row}
use Rattle.row_keys.specs.declared.building.Kept.TheVariants.{Nothing}
use Rattle.row_keys.specs.Lists.{kept_rows}
use Rattle.open_table.specs.Marks.{IndexMark, is_among, with_stale}
use Rattle.open_table.specs.Slots.{IsSlot}
use Rattle.open_table.proofs.MakingLemmas.{made_exact, made_marks, packed_mark, same_table}
use Rattle.row_keys.proofs.ListLemmas.{nothing_kept}
use Rattle.open_table.proofs.changes.clear.Goals as goal

pub returns-clause-ok : goal.returns-clause-ok
returns-clause-ok g c = same_table _ _ c.clear.ensures.structure c.clear.ensures.rows
    (made_marks c.args.table.now.structure (kept_rows Nothing c.args.table.now.rows)
    (kept_rows Nothing c.args.table.now.rows) c.args.list.now false true
    (λ (m : IndexMark). with_stale m (not (is_among c.args.list.now m.number))) (packed_mark c.args.list.now)
    c.args.slots.now.items c.make_all.new.slots.items c.commit_all.new.slots.items c.in_ok-make_all.ensures.ok
    c.commit_all.ensures)

pub returns-clause-lists : goal.returns-clause-lists
returns-clause-lists g c =
    let rows = c.args.table.now.rows in
    let s = c.args.table.now.structure in
    let new = c.commit_all.new.slots.items in
    let never : true ≡ false → kept_rows Nothing rows ≡ rows = λ e. cc in
    record {
      few = subst (λ (rs : List Row). length rs ≤ 1000000) (sym c.clear.ensures.rows) (omega arith);
      exact = subst (λ st. All (IsSlot st c.clear.new.self.rows) new) (sym c.clear.ensures.structure)
          (subst (λ rs. All (IsSlot s rs) new) (nothing_kept rows ∙ sym c.clear.ensures.rows)
          (made_exact s rows (kept_rows Nothing rows) c.args.list.now false true never
          c.args.slots.now.items c.make_all.new.slots.items new c.requires.lists.exact c.in_ok-make_all.ensures.ok
          c.commit_all.ensures));
    }
