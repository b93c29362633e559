use Rattle.std.proofs.Common.{◌≡◌, ◌-◌, suc, Some, take, sym, ap, ◌∙◌, arith}
use Rattle.key_lists.specs.Pairs.{Pair}
use Rattle.key_lists.specs.Rising.{last_of}
use Rattle.key_lists.proofs.Rises.{last_of_take}
use Rattle.key_rows.proofs.entries.Entries.before.Goals as goal

pub returns : goal.returns
returns c =
    let e : suc (c.args.at - 1) ≡ c.args.at = omega arith in
    sym (ap (λ n. last_of (take n c.args.self.now.items)) (sym e) ∙ last_of_take (c.args.at - 1) c.args.self.now.items
    c.get.result (omega arith) ∙ ap (λ (v : Pair). Some v) (sym (c.get.ensures c.get.result)))
