use Rattle.std.proofs.Common.{◌≡◌, ◌∙◌, ◌-◌, ◌++◌, List, length, take, drop, ap, arith}
use Rattle.std.proofs.lemmas.List.{take_all, length-drop}
use Rattle.key_lists.specs.Pairs.{Pair}
use Rattle.key_rows.proofs.entries.Entries.copy_tail.Goals as goal

pub returns-clause-items : goal.returns-clause-items
returns-clause-items c =
    let l = c.args.self.now.items in
    let n : c.len.result ≡ length l = c.len.ensures in
    let all : take (c.len.result - c.args.at) (drop c.args.at l) ≡ drop c.args.at l =
    take_all (c.len.result - c.args.at) (drop c.args.at l) (omega (arith, length-drop c.args.at l, n)) in
    c.copy_part.ensures.items ∙ ap (λ (m : List Pair). c.args.to.now.items ++ m) all
