use Rattle.std.proofs.Common.{List, None, replicate, sym, ap, subst, ◌∙◌}
use Rattle.open_table.specs.Open.{OpenState}
use Rattle.work_area.specs.Areas.{AreWithin, closed_all}
use Rattle.work_area.proofs.LimitLemmas.{all_closed, none_open}
use Rattle.work_area.proofs.store.Store.close_all.Goals as goal

pub returns : goal.returns
returns g c = ap
    (λ (ts : List OpenState). record {
      tables = ts;
      areas = replicate 10 None;
      selected = 1;
      limit = c.self.inside.limit;
    }) c.close_tables.ensures ∙ ap closed_all c.self.view_is

pub invariant_of-self : goal.invariant_of-self
invariant_of-self g c =
    let tables = c.self.inside.tables.items in
    none_open c.close_tables.new.tables.items c.self.inside.limit c.self.invariant.few
    (subst (AreWithin c.self.inside.limit) (sym c.close_tables.ensures)
    (all_closed tables c.self.inside.areas c.self.inside.selected c.self.inside.limit c.self.invariant))
