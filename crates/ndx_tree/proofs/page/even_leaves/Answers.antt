use Rattle.std.proofs.Common.{◌≡◌, ◌+◌, ◌-◌, ◌*◌, ◌≤◌, [], ◌∷◌, length, sym, subst, arith, List, length-append, ap, ◌∙◌}
use Rattle.key_lists.specs.Pairs.{Pair}
use Rattle.key_rows.specs.Flat.{HaveKeys}
use Rattle.ndx_tree.proofs.Moved.{last_pushed, last_read, last_size}
use Rattle.ndx_tree.proofs.page.even_leaves.Goals as goal

pub returns-then-len-clause-last : goal.returns-then-len-clause-last
returns-then-len-clause-last c =
    last_pushed c.args.low.now.items c.push.new.self.items c.take_first-first.result c.push.ensures.items

pub put-requires-clause-alike : goal.put-requires-clause-alike
put-requires-clause-alike c =
    let k = c.requires.keyed.0 in
    let size : length c.take_last-last.result.0 ≡ k = last_size k c.args.low.now.items c.take_last-last.new.self.items
    c.take_last-last.result c.requires.keyed.1 c.take_last-last.ensures.items in
    subst (λ j. HaveKeys j c.args.high.now.items) (sym size) c.requires.keyed.2

pub put-requires-clause-room : goal.put-requires-clause-room
put-requires-clause-room c =
    let k = c.requires.keyed.0 in
    let size : length c.take_last-last.result.0 ≡ k = last_size k c.args.low.now.items c.take_last-last.new.self.items
    c.take_last-last.result c.requires.keyed.1 c.take_last-last.ensures.items in
    subst (λ j. (length c.args.high.now.items + 1) * (j + 4) ≤ c.args.high.now.room) (sym size) c.requires.keyed.4

pub returns-clause-last : goal.returns-clause-last
returns-clause-last c =
    let all : length c.args.low.now.items ≡ length c.take_last-last.new.self.items + 1 = ap
    (λ (m : List Pair). length m) c.take_last-last.ensures.items ∙ length-append c.take_last-last.new.self.items
    (c.take_last-last.result ∷ []) in
    last_read c.take_last-last.new.self.items c.get.result (c.len-3.result - 1)
    (omega (arith, all, c.len-3.ensures, c.requires.some, c.len.ensures, c.len-2.ensures, c.if-len.false))
    (c.get.ensures c.get.result)
