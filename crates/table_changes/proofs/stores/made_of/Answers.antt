use Rattle.std.proofs.Common.{◌≡◌, ◌∷◌, ◌++◌, ◌+◌, ◌&&◌, ◌∙◌, ℕ, Bool, false, not, [], List, get_or, length, ap, sym}
use Rattle.std.proofs.Common.{subst, rules}
use Rattle.std.proofs.lemmas.List.{length_push}
use Rattle.table_changes.specs.Rows.{is_fresh_in}
use Rattle.table_changes.specs.Stores.{EachMade}
use Rattle.table_changes.proofs.Each.{each_more}
use Rattle.work_area.specs.Areas.{StoreState}
use Rattle.table_changes.proofs.stores.made_of.Goals as goal

made_more : (fresh made : List Bool) (s : StoreState) (n : ℕ) (b : Bool) → length made ≡ n → EachMade fresh s made
    → b ≡ (not (get_or fresh n false) && is_fresh_in s n) → EachMade fresh s (made ++ b ∷ [])
made_more fresh made s n b e h p = each_more (λ k x. x ≡ (not (get_or fresh k false) && is_fresh_in s k)) made b h
    (subst (λ k. b ≡ (not (get_or fresh k false) && is_fresh_in s k)) (sym e) p)

pub loop-n-preserved : goal.loop-n-preserved
loop-n-preserved g c =
    let e : c.push.new.self.items ≡ c.loop-n.made.items ++ c.is_made.result ∷ [] = search rules in (
      ap (λ (l : List Bool). length l) e ∙ length_push c.loop-n.made.items c.is_made.result
          ∙ ap (λ n. n + 1) c.loop-n.invariant.0,
      subst (λ l. EachMade c.args.fresh.now c.args.store.now l) (sym e)
          (made_more c.args.fresh.now c.loop-n.made.items c.args.store.now c.loop-n.n c.is_made.result
          c.loop-n.invariant.0 c.loop-n.invariant.1 (search rules)),
    )
