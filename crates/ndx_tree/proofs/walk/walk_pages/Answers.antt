use Rattle.std.proofs.Common.{◌≡◌, ◌∙◌, List, length, sym, ap, subst, arith}
use Rattle.std.proofs.lemmas.Result.{err_from_is_err_and}
use Rattle.std.proofs.Math.Nat.{mul-div-le}
use Rattle.key_lists.specs.Pairs.{Pair}
use Rattle.key_rows.specs.Flat.{HaveKeys}
use Rattle.ndx_tree.specs.IndexFile.{page_count}
use Rattle.ndx_tree.specs.Reads.{unset}
use Rattle.ndx_tree.specs.Walk.{unseen, walk_file}
use Rattle.ndx_tree.proofs.Reading.{shows_none, unset_none}
use Rattle.ndx_tree.proofs.walk.walk_pages.Goals as goal

pub returns-in_err-read_below-clause-fault : goal.returns-in_err-read_below-clause-fault
unfolding walk_file
returns-in_err-read_below-clause-fault c =
    let p = err_from_is_err_and c.from_residual-in_err-read_below.result c.from_residual-in_err-read_below.ensures.1 in
    let e = c.in_ok-found.ensures in
    rw (p.1, p.2)
    (c.in_err-read_below.ensures.walked unseen
    (shows_none c.args.head.now.length (page_count c.args.bytes.now) c.in_ok-found.found e.bits e.level e.entries
    e.separators))

pub returns-clause-met : goal.returns-clause-met
unfolding walk_file
returns-clause-met c =
    let e = c.in_ok-found.ensures in
    c.in_ok-read_below.ensures.walked unseen
    (shows_none c.args.head.now.length (page_count c.args.bytes.now) c.in_ok-found.found e.bits e.level e.entries
    e.separators)

pub returns-clause-few : goal.returns-clause-few
returns-clause-few c =
    let e = c.in_ok-found.ensures in
    let bits : unset c.in_ok-found.found.reached.items ≡ page_count c.args.bytes.now =
    ap unset e.bits ∙ unset_none (page_count c.args.bytes.now) in
    let whole = mul-div-le (length c.args.bytes.now) 512 in
    let none : length c.in_ok-found.found.entries.items ≡ 0 = ap (λ (m : List Pair). length m) e.entries in
    omega (arith, c.in_ok-read_below.ensures.few, bits, whole, none)

pub read_below-requires-clause-alike : goal.read_below-requires-clause-alike
read_below-requires-clause-alike c =
    subst (λ (m : List Pair). HaveKeys c.args.head.now.length m) (sym c.in_ok-found.ensures.entries) tt
