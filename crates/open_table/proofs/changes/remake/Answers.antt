use Rattle.std.proofs.Common.{not, ◌&&◌, false, refl, subst}
use Rattle.std.specs.List.{All}
use Rattle.row_keys.specs.declared.building.Kept.TheVariants.{Every}
use Rattle.row_keys.specs.Lists.{kept_rows}
use Rattle.open_table.specs.Marks.{IndexMark, is_among, with_stale}
use Rattle.open_table.specs.Slots.{IsSlot}
use Rattle.open_table.proofs.MakingLemmas.{made_exact, made_marks, every_kept, remade_mark, same_table}
use Rattle.open_table.proofs.changes.remake.Goals as goal

pub returns-clause-ok : goal.returns-clause-ok
returns-clause-ok g c = same_table _ _ refl refl
    (made_marks c.args.table.now.structure (kept_rows Every c.args.table.now.rows)
    (kept_rows Every c.args.table.now.rows) c.args.list.now c.args.only_stale false
    (λ (m : IndexMark). with_stale m (m.stale && not (is_among c.args.list.now m.number)))
    (remade_mark c.args.list.now c.args.only_stale)
    c.args.slots.now.items c.make_all.new.slots.items c.commit_all.new.slots.items c.in_ok-make_all.ensures.ok
    c.commit_all.ensures)

pub returns-clause-lists : goal.returns-clause-lists
returns-clause-lists g c =
    let rows = c.args.table.now.rows in
    let s = c.args.table.now.structure in
    record {
      few = c.requires.lists.few;
      exact = subst (λ rs. All (IsSlot s rs) c.commit_all.new.slots.items) (every_kept rows)
          (made_exact s rows (kept_rows Every rows) c.args.list.now c.args.only_stale false (λ e. every_kept rows)
          c.args.slots.now.items c.make_all.new.slots.items c.commit_all.new.slots.items c.requires.lists.exact
          c.in_ok-make_all.ensures.ok c.commit_all.ensures);
    }
