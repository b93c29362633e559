use Rattle.std.proofs.Common.{◌≡◌, ◌∙◌, List, [], take, ap, arith}
use Rattle.std.proofs.lemmas.List.{take_all}
use Rattle.std.proofs.lemmas.Result.{IfOk-weaker}
use Rattle.key_lists.specs.Pairs.{Pair}
use Rattle.ndx_tree.specs.Pages.{view_of}
use Rattle.ndx_tree.proofs.Building.{leaf_root}
use Rattle.ndx_tree.proofs.build.root_of.Goals as goal

pub returns-then-len-most-clause-root : goal.returns-then-len-most-clause-root
returns-then-len-most-clause-root c =
    let l = c.args.entries.now.items in
    let all : take c.len-then-len-most.result l ≡ l =
    take_all c.len-then-len-most.result l (omega (arith, c.len-then-len-most.ensures)) in
    IfOk-weaker c.leaf_with.result _ _
    (λ page e. leaf_root c.args.most l page (e ∙ ap (λ (m : List Pair). view_of c.args.most m []) all)
    c.requires.rising) c.leaf_with.ensures

pub returns-then-len-most-clause-pairs : goal.returns-then-len-most-clause-pairs
returns-then-len-most-clause-pairs c =
    let l = c.args.entries.now.items in
    let all : take c.len-then-len-most.result l ≡ l =
    take_all c.len-then-len-most.result l (omega (arith, c.len-then-len-most.ensures)) in
    IfOk-weaker c.leaf_with.result _ _ (λ page e. ap (λ v. v.pairs) e ∙ all) c.leaf_with.ensures
