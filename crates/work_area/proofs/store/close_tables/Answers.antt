use Rattle.std.proofs.Common.{◌≡◌, ◌+◌, ◌<◌, List, suc, length, add-one, sym, ap, ◌∙◌, subst, arith}
use Rattle.std.specs.Prelude.{slice_set, slice_index_or}
use Rattle.open_table.specs.Open.{OpenState}
use Rattle.work_area.proofs.AreaLemmas.{closed_front, front_none, front_length, front_more, front_all}
use Rattle.work_area.proofs.store.close_tables.Goals as goal

pub loop-t-init : goal.loop-t-init
loop-t-init g c = sym (front_none c.args.tables.now.items)

pub loop-t-preserved : goal.loop-t-preserved
loop-t-preserved g c =
    let all = c.args.tables.now.items in
    let n = c.loop-t.t in
    let o : OpenState = c.index_mut.result.now in
    let lt : n < length all = omega (
      arith,
      front_length n all,
      ap (λ (ts : List OpenState). length ts)
          c.loop-t.invariant,
      c.len-t-end.ensures,
    ) in
    let found : o ≡ slice_index_or (closed_front n all) n o =
    subst (λ (ts : List OpenState). o ≡ slice_index_or ts n o) c.loop-t.invariant c.index_mut.ensures.value in
    let e : n + 1 ≡ suc n = add-one n in
    ap (λ (ts : List OpenState). slice_set ts n c.close.new.self) c.loop-t.invariant
    ∙ ap (λ x. slice_set (closed_front n all) n x) c.close.ensures
    ∙ front_more n all o lt found
    ∙ ap (λ k. closed_front k all) (sym e)

pub returns : goal.returns
returns g c = c.loop-t.invariant ∙ front_all c.loop-t.t c.args.tables.now.items (omega (arith, c.len-t-end.ensures))
