use Rattle.std.proofs.Common.{◌≡◌, ◌∷◌, ◌++◌, [], ◌∙◌, rules}
use Rattle.table_changes.proofs.Each.{fresh_more}
use Rattle.table_changes.proofs.stores.fresh_of.Goals as goal

pub loop-n-preserved : goal.loop-n-preserved
loop-n-preserved g c =
    let e : c.push.new.self.items ≡ c.loop-n.fresh.items ++ c.is_fresh.result ∷ [] = search rules in
    e ∙ fresh_more c.args.store.now c.loop-n.n c.loop-n.fresh.items c.is_fresh.result c.loop-n.invariant
    c.is_fresh.ensures
